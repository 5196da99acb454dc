-- A model: what the code computes. No door's promise cites it, and it need not be believed.
-- `rotate` on record bytes and a tree's root, its stores in the Rust's order. Assumes nothing.
use Rattle.std.specs.Prelude.{ℕ, Bool, cond, not, ◌||◌, List, ◌==◌, bit_xor}
use Rattle.avl.specs.Tree.{Dir, flip, to_balance}
use Rattle.tree.specs.Node.{child, parent, balance, get_n, put_n, put_both}
use Rattle.tree.specs.declared.node.AvlTree.{AvlTree}

-- the record bytes, and the tree that is worked on
abbrev pub Store : Type 0
Store = List ℕ × AvlTree

unfoldable pub rooted : AvlTree → ℕ → AvlTree
rooted t x = record { root = x; count = t.count }

-- the field that points at a place: the child of p on side e, or the root where p is 0
unfoldable pub point_n : List ℕ → AvlTree → ℕ → ℕ → Dir → Store
point_n m t x p e = cond (p == 0) (m, rooted t x) (put_n m p (child e) x, t)

-- x hung where the part was
unfoldable pub hang_n : List ℕ → AvlTree → ℕ → ℕ → Dir → Store
hang_n m t x p e = point_n (put_n m x parent p) t x p e

unfoldable pub xor : ℕ → ℕ → ℕ
xor a b = bit_xor a b

-- the record x, higher on side d by two, hangs below p on side e; its child there is c, of balance b
unfoldable pub single_n : List ℕ → AvlTree → ℕ → Dir → ℕ → Dir → ℕ → ℕ → Store
single_n m t x d p e c b =
    let w = get_n m c (child (flip d)) in
    let m₁ = put_n m x balance (xor b (to_balance d)) in
    let m₂ = put_n m₁ c balance (cond (not (b == to_balance d)) (to_balance (flip d)) 0) in
    let m₃ = put_both m₂ c (flip d) x in
    hang_n (put_both m₃ x d w) t c p e

-- g is the child's child on the other side
unfoldable pub double_n : List ℕ → AvlTree → ℕ → Dir → ℕ → Dir → ℕ → ℕ → Store
double_n m t x d p e c g =
    let u = get_n m g (child d) in
    let v = get_n m g (child (flip d)) in
    let b = get_n m g balance in
    let m₁ = put_n (put_both m x d v) x balance (cond (b == to_balance d) (to_balance (flip d)) 0) in
    let m₂ = put_n (put_both m₁ c (flip d) u) c balance (cond (b == to_balance (flip d)) (to_balance d) 0) in
    let m₃ = put_both (put_n m₂ g balance 0) g d c in
    hang_n (put_both m₃ g (flip d) x) t g p e

-- what a rotation gives: the tree, and whether a climb stops here
pub record Rotated : Type 0 where
  pub tree : AvlTree
  pub level : Bool

unfoldable pub rotated_to : Store → Bool → List ℕ × Rotated
rotated_to o level = (o.0, record { tree = o.1; level = level })

-- with whether the climb may stop: the height is as it was, or this was the root
unfoldable pub rotate_n : List ℕ → AvlTree → ℕ → Dir → ℕ → Dir → List ℕ × Rotated
rotate_n m t x d p e =
    let c = get_n m x (child d) in
    let b = get_n m c balance in
    let two = rotated_to (double_n m t x d p e c (get_n m c (child (flip d)))) (p == 0) in
    let one = rotated_to (single_n m t x d p e c b) (not (b == to_balance d) || p == 0) in
    cond (b == to_balance (flip d)) two one
