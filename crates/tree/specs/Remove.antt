-- A model: what the code computes. No door's promise cites it, and it need not be believed.
-- `_remove` and `_post_remove` on record bytes and a tree. A record with two children: its neighbour is taken out first and then put in its
-- place, which leaves the links that the Rust's swap leaves. Assumes nothing.
use Rattle.std.specs.Prelude.{◌≡◌, refl, ℕ, zero, suc, ◌-◌, cond, List, ◌==◌}
use Rattle.avl.specs.Tree.{Dir, left, right, flip, to_balance}
use Rattle.tree.specs.Node.{right_if, child, parent, balance, get_n, put_n, side_n, detach_n}
use Rattle.tree.specs.Walk.{bottom_n}
use Rattle.tree.specs.Rotate.{Store, point_n, hang_n, rotate_n}
use Rattle.tree.specs.declared.node.AvlTree.{AvlTree}

-- the loop of `_post_remove`: side d of x has become one lower
unfoldable pub shrink_n : ℕ → List ℕ → AvlTree → ℕ → Dir → Store
shrink_n zero m t x d = (m, t)
shrink_n (suc k) m t x d =
    let b = get_n m x balance in
    let p = get_n m x parent in
    let o = rotate_n m t x (flip d) p (side_n m p x) in
    let on = shrink_n k o.0 o.1.tree p (side_n m p x) in
    let n = put_n m x balance 0 in
    let up = shrink_n k n t p (side_n n p x) in
    let turned = cond o.1.level (o.0, o.1.tree) on in
    let level = cond (p == 0) (n, t) up in
    cond (b == to_balance (flip d)) turned (cond (b == 0) (put_n m x balance (to_balance (flip d)), t) level)

-- in no turn it changes nothing
pub shrink_still : (m : List ℕ) (t : AvlTree) (x : ℕ) (d : Dir) → shrink_n 0 m t x d ≡ (m, t)
unfolding shrink_n
shrink_still m t x d = refl

-- x, below p on side e, has at most the child w
unfoldable pub remove1_n : ℕ → List ℕ → AvlTree → ℕ → ℕ → Dir → ℕ → Store
remove1_n k m t x p e w =
    let o = hang_n m t w p e in
    let n = detach_n o.0 x in
    let up = shrink_n k n o.1 p e in
    cond (p == 0) (n, o.1) up

-- n takes the place and the balance b of x
unfoldable pub replace_n : List ℕ → AvlTree → ℕ → ℕ → Dir → ℕ → Dir → ℕ → Store
replace_n m t n x d p e b =
    let c = get_n m x (child d) in
    let o = get_n m x (child (flip d)) in
    let m₁ = put_n (put_n m n (child d) c) n (child (flip d)) o in
    let m₂ = put_n (put_n m₁ n parent p) n balance b in
    point_n (put_n (put_n m₂ c parent n) o parent n) t n p e

-- x has two children: its neighbour n on the heavier side, else on the left, hangs below i
unfoldable pub remove2_n : ℕ → List ℕ → AvlTree → ℕ → ℕ → Dir → Store
remove2_n k m t x p e =
    let b = get_n m x balance in
    let d = right_if (b == 1) in
    let n = bottom_n k m (get_n m x (child d)) (flip d) in
    let i = get_n m n parent in
    let ie = side_n m i n in
    let o = hang_n m t (get_n m n (child d)) i ie in
    let r = replace_n o.0 o.1 n x d p e b in
    shrink_n k (detach_n r.0 x) r.1 (cond (i == x) n i) ie

unfoldable pub unlink_n : ℕ → List ℕ → AvlTree → ℕ → Store
unlink_n k m t x =
    let l = get_n m x (child left) in
    let r = get_n m x (child right) in
    let p = get_n m x parent in
    let e = side_n m p x in
    let only_right = remove1_n k m t x p e r in
    let only_left = remove1_n k m t x p e l in
    let both = remove2_n k m t x p e in
    cond (l == 0) only_right (cond (r == 0) only_left both)

unfoldable pub less_n : ℕ → ℕ
less_n c = cond (c == 0) c (c - 1)

unfoldable pub remove_n : ℕ → List ℕ → AvlTree → ℕ → Store
remove_n k m t x = let o = unlink_n k m t x in (o.0, record { root = o.1.root; count = less_n o.1.count })
