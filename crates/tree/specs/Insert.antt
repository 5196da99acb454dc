-- A model: what the code computes. No door's promise cites it, and it need not be believed.
-- `_insert` and `_insert_here` on record bytes and a tree. Assumes nothing.
use Rattle.std.specs.Prelude.{◌≡◌, refl, ℕ, zero, suc, ◌+◌, cond, List, ◌==◌}
use Rattle.avl.specs.Tree.{Dir, flip, to_balance}
use Rattle.tree.specs.Node.{child, parent, balance, get_n, put_n, put_both, side_n}
use Rattle.tree.specs.Walk.{bottom_n}
use Rattle.tree.specs.Rotate.{Store, rooted, rotate_n}
use Rattle.tree.specs.declared.node.AvlTree.{AvlTree}

-- the loop of `_insert`: side d of x has become one higher
unfoldable pub grow_n : ℕ → List ℕ → AvlTree → ℕ → Dir → Store
grow_n zero m t x d = (m, t)
grow_n (suc k) m t x d =
    let b = get_n m x balance in
    let p = get_n m x parent in
    let n = put_n m x balance (to_balance d) in
    let up = grow_n k n t p (side_n n p x) in
    let o = rotate_n m t x d p (side_n m p x) in
    cond (b == 0) (cond (p == 0) (n, t) up) (cond (b == to_balance d) (o.0, o.1.tree) (put_n m x balance 0, t))

-- in no turn it changes nothing
pub grow_still : (m : List ℕ) (t : AvlTree) (x : ℕ) (d : Dir) → grow_n 0 m t x d ≡ (m, t)
unfolding grow_n
grow_still m t x d = refl

-- counts stay within two bytes
unfoldable pub more_n : ℕ → ℕ
more_n c = cond (c == 65_535) c (c + 1)

unfoldable pub counted : Store → Store
counted o = (o.0, record { root = o.1.root; count = more_n o.1.count })

-- the record x hung below p on side d, or made the root where p is 0, and the climb
unfoldable pub link_n : ℕ → List ℕ → AvlTree → ℕ → ℕ → Dir → Store
link_n k m t x p d =
    let up = grow_n k (put_both m p d x) t p d in
    cond (p == 0) (m, rooted t x) up

unfoldable pub insert_n : ℕ → List ℕ → AvlTree → ℕ → ℕ → Dir → Store
insert_n k m t x p d = counted (link_n k m t x p d)

-- the empty place beside a record on side d: the record that it hangs below, and its side
unfoldable pub beside_n : ℕ → List ℕ → ℕ → Dir → ℕ × Dir
beside_n k m here d =
    let c = get_n m here (child d) in
    let far = bottom_n k m c (flip d) in
    cond (c == 0) (here, d) (far, flip d)

unfoldable pub insert_here_n : ℕ → List ℕ → AvlTree → ℕ → ℕ → Dir → Store
insert_here_n k m t x here d = let o = beside_n k m here d in insert_n k m t x o.0 o.1
