-- A model: what the code computes. No door's promise cites it, and it need not be believed.
-- A record's links in the record bytes: slot s, counted from 1, is the 32 bytes from 32 (s - 1) on. What lies outside, and slot 0, reads 0 and
-- takes no store. Assumes nothing.
use Rattle.std.specs.Prelude.{ℕ, ◌+◌, ◌-◌, ◌*◌, Bool, true, false, cond, List, ◌==◌}
use Rattle.fields.specs.Number.{get_le, put_le}
use Rattle.avl.specs.Tree.{Dir, left, right, pick}
use Rattle.tree.specs.declared.dir.Dir.{Dir as CodeDir}
use Rattle.tree.specs.declared.dir.Dir.TheVariants.{Left, Right}
use Rattle.tree.specs.declared.node.Node.{Node}

-- the side that the code's `Dir` stands for
abbrev pub way : CodeDir → Dir
way Left = left
way Right = right

-- the side by a test: right where it holds
abbrev pub right_if : Bool → Dir
right_if true = right
right_if false = left

-- the fields that hold a tree together
pub data Field : Type 0 where
  child : Dir → Field
  parent balance : Field

-- where a field stands in its record, and how many bytes it has
abbrev pub offset : Field → ℕ
offset (child d) = pick d 8 10
offset parent = 12
offset balance = 14

abbrev pub width : Field → ℕ
width (child d) = 2
width parent = 2
width balance = 1

unfoldable pub get_n : List ℕ → ℕ → Field → ℕ
get_n m s f = cond (s == 0) 0 (get_le (width f) m (32 * (s - 1) + offset f))

unfoldable pub put_n : List ℕ → ℕ → Field → ℕ → List ℕ
put_n m s f v = cond (s == 0) m (put_le (width f) m (32 * (s - 1) + offset f) v)

unfoldable pub key_n : List ℕ → ℕ → ℕ
key_n m s = cond (s == 0) 0 (get_le 8 m (32 * (s - 1)))

-- what a search reads of a record
unfoldable pub node_n : List ℕ → ℕ → Node
node_n m s = record { key = key_n m s; left = get_n m s (child left); right = get_n m s (child right) }

-- set_child2: the child's parent, then the child
unfoldable pub put_both : List ℕ → ℕ → Dir → ℕ → List ℕ
put_both m s d c = put_n (put_n m c parent s) s (child d) c

-- parent_direction: the side on which x hangs below p, whose right child is r; left below none
unfoldable pub side_of : ℕ → ℕ → ℕ → Dir
side_of p x r = cond (p == 0) left (right_if (x == r))

unfoldable pub side_n : List ℕ → ℕ → ℕ → Dir
side_n m p x = side_of p x (get_n m p (child right))

-- a record that is in no tree
unfoldable pub detach_n : List ℕ → ℕ → List ℕ
detach_n m x = put_n (put_n (put_n (put_n m x (child left) 0) x (child right) 0) x parent 0) x balance 0
