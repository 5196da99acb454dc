-- The Rust's `_remove` on record bytes: a model of the Rust's code, function by function, its stores in its order, to be read beside avl/src/lib.rs.
-- A record with two children changes places with its neighbour first, in one way where that is its own child and in another where it stands deeper,
-- and goes from there. What `tree` has of the Rust as it stands is taken from `tree`: set_child2 is put_both, parent_direction side_n, detach detach_n,
-- bottom_child bottom_n, _post_remove shrink_n. A null pointer is slot 0, which takes no store. The side of a record is worked out from the record
-- above, as the Rust does where a pointer has no spare bits. Assumes nothing.
use Rattle.std.specs.Prelude.{cond, not, ◌||◌, List, ℕ, eqb}
use Rattle.avl.specs.Tree.{Dir, left, right, flip}
use Rattle.tree.specs.Node.{right_if, child, parent, balance, get_n, put_n, put_both, side_n, detach_n}
use Rattle.tree.specs.Walk.{bottom_n}
use Rattle.tree.specs.Rotate.{Store, point_n, hang_n}
use Rattle.tree.specs.Remove.{shrink_n, less_n}
use Rattle.tree.specs.Held.{write}
use Rattle.tree.specs.declared.node.AvlTree.{AvlTree}

-- AvlNode::swap: the links and balances of two records, exchanged
unfoldable pub swap_n : List ℕ → ℕ → ℕ → List ℕ
swap_n m n x =
    let m₁ = write m n left (get_n m x (child left)) (get_n m x (child right)) (get_n m x parent) (get_n m x balance) in
    write m₁ x left (get_n m n (child left)) (get_n m n (child right)) (get_n m n parent) (get_n m n balance)

-- `_remove` where child != child_temp. The neighbour n stands deeper, below i on side ie: swap; set_parent of del_left l and of del_right r, which
-- hang below n now; and set_child2 of i, below which hangs what x has after the swap
unfoldable pub deep_n : List ℕ → ℕ → ℕ → Dir → ℕ → ℕ → ℕ → Dir → List ℕ
deep_n m n x d l r i ie =
    let m₁ = swap_n m n x in
    let m₂ = put_n (put_n m₁ l parent n) r parent n in
    put_both m₂ i ie (get_n m₂ x (child d))

-- `_remove` where child == child_temp. The neighbour n is the child of x on side d: set_parent with the parent p of x; set_balance with the balance
-- of x; and set_child2_not_null with the other child of x
unfoldable pub direct_n : List ℕ → ℕ → ℕ → Dir → ℕ → List ℕ
direct_n m n x d p =
    let m₁ = put_n m n parent p in
    let m₂ = put_n m₁ n balance (get_n m₁ x balance) in
    put_both m₂ n (flip d) (get_n m₂ x (child (flip d)))

-- self.count -= 1
unfoldable pub fewer : AvlTree → AvlTree
fewer t = record { root = t.root; count = less_n t.count }

-- the end of `_remove`, from self.count -= 1 on: detach of x, and _post_remove from imm_parent i if there is such a record
unfoldable pub leave_n : ℕ → List ℕ → AvlTree → ℕ → ℕ → Dir → Store
leave_n k m t x i e =
    let u = fewer t in
    let n = detach_n m x in
    let up = shrink_n k n u i e in
    cond (eqb i 0) (n, u) up

-- `_remove` of x, which has two children and hangs below p on side e, from dir_child on. The neighbour is the bottom child on the right side if that
-- is the higher one, else on the left; the place of x points at it before anything else is stored
unfoldable pub rust_remove2 : ℕ → List ℕ → AvlTree → ℕ → ℕ → Dir → Store
rust_remove2 k m t x p e =
    let l = get_n m x (child left) in
    let r = get_n m x (child right) in
    let d = right_if (eqb (get_n m x balance) 1) in
    let c = get_n m x (child d) in
    let n = bottom_n k m c (flip d) in
    let o = point_n m t n p e in
    let i = get_n o.0 n parent in
    let ie = side_n o.0 i n in
    let deep = leave_n k (deep_n o.0 n x d l r i ie) o.1 x i ie in
    let direct = leave_n k (direct_n o.0 n x d p) o.1 x n d in
    cond (not (eqb n c)) deep direct

-- `_remove` of x, with the parent and the side that its callers pass: a child that stands alone, or none, takes the place of x. Loops take at most k
-- turns, where the Rust's take as many as they need
unfoldable pub rust_remove : ℕ → List ℕ → AvlTree → ℕ → Store
rust_remove k m t x =
    let l = get_n m x (child left) in
    let r = get_n m x (child right) in
    let p = get_n m x parent in
    let e = side_n m p x in
    let o = hang_n m t (get_n m x (child (right_if (not (eqb r 0))))) p e in
    let few = leave_n k o.0 o.1 x p e in
    let both = rust_remove2 k m t x p e in
    cond (eqb l 0 || eqb r 0) few both
