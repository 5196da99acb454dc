-- Two small removals in the Rust's way, computed: the neighbour is a direct child in the one and stands deeper in the other. Assumes nothing.
use Rattle.std.proofs.Common.{◌≡◌, ℕ, List, replicate, refl}
use Rattle.fields.specs.Part.{part, splice}
use Rattle.fields.specs.Number.{value, digits, get_le, put_le}
use Rattle.avl.specs.Tree.{left, right, even, heavy, Tree, leaf, node, single}
use Rattle.tree.specs.Node.{get_n, put_n, put_both, side_of, side_n, detach_n}
use Rattle.tree.specs.Walk.{bottom_n}
use Rattle.tree.specs.Rotate.{rooted, point_n, hang_n}
use Rattle.tree.specs.Remove.{shrink_n, less_n}
use Rattle.tree.specs.Held.{write, over, tree_of, held}
use Rattle.swap.specs.Rust.{swap_n, deep_n, direct_n, fewer, leave_n, rust_remove2, rust_remove}

-- to unfold this is to unfold all that a removal computes with
opened : Unit {0}
unfolding part splice value digits get_le put_le get_n put_n put_both side_of side_n detach_n bottom_n rooted point_n hang_n shrink_n less_n write over tree_of held
    swap_n deep_n direct_n fewer leave_n rust_remove2 rust_remove
opened = tt

-- five records of which every byte is 0
abbrev blank : List ℕ
blank = replicate 160 0

-- the tree t of n records, without the record x, is the tree u
abbrev Leaves : Tree → ℕ → ℕ → Tree → Type 0
Leaves t n x u = rust_remove 3 (over t 0 blank) (tree_of t n) x ≡ held u (less_n n) blank

-- 2 above 1 and 3, without 2: its own child 1 takes its place, and is lower on the left
pub direct_child : Leaves (node (single 1) 2 even (single 3)) 3 2 (node leaf 1 (heavy right) (single 3))
unfolding opened
direct_child = refl

-- 4 above 2 and 5, 2 above 1 and 3, without 4: 3 takes its place from below 2, which is lower on the right
pub deeper : Leaves (node (node (single 1) 2 even (single 3)) 4 (heavy left) (single 5)) 5 4 (node (node (single 1) 2 (heavy left) leaf) 3 (heavy left) (single 5))
unfolding opened
deeper = refl
