-- A model: what the code computes. No door's promise cites it, and it need not be believed.
-- The lines of a listing, read off the body and the head of a pool. Assumes nothing.
use Rattle.std.specs.Prelude.{List, [], ◌∷◌, ◌++◌, ℕ, zero, suc, ◌+◌, ◌*◌}
use Rattle.fields.specs.Part.{part}
use Rattle.avl.specs.Tree.{left, right}
use Rattle.tree.specs.Node.{parent, balance, get_n}
use Rattle.tree.specs.Walk.{bottom_n, walk_n}
use Rattle.tree.specs.declared.node.AvlTree.{AvlTree}
use Rattle.meaning.specs.Listing.{hex}
use Rattle.slots.specs.Record.{record_n}
use Rattle.slots.specs.Head.{tree_n}
use Rattle.slots.specs.declared.record.Record.{Record}
use Rattle.slots.specs.declared.head.Head.{Head}
use Rattle.lines.specs.Text.{field, fields}

-- N, T, live records, text used, next stamp
unfoldable pub first_n : Head → List ℕ
first_n h = let n = h.numbers in (112 ∷ 111 ∷ 111 ∷ 108 ∷ 32 ∷ []) ++ (fields (n.slots ∷ n.trees ∷ n.live ∷ n.used ∷ []) ++ field n.next 10)

-- "refused " and a number
unfoldable pub refused_n : ℕ → List ℕ
refused_n number = (114 ∷ 101 ∷ 102 ∷ 117 ∷ 115 ∷ 101 ∷ 100 ∷ 32 ∷ []) ++ field number 10

-- the line of slot x, whose fields are v, in tree t of a pool of N slots
unfoldable pub line_of_n : List ℕ → ℕ → ℕ → ℕ → Record → List ℕ
line_of_n m N t x v =
    fields (t ∷ v.key ∷ x ∷ v.stamp ∷ get_n m x parent ∷ get_n m x balance ∷ []) ++ (hex (part m (32 * N + v.start) v.len) ++ (10 ∷ []))

abbrev pub line_n : List ℕ → ℕ → ℕ → ℕ → List ℕ
line_n m N t x = line_of_n m N t x (record_n m x)

-- so many lines, from slot x on to the right
unfoldable pub lines_n : ℕ → List ℕ → ℕ → ℕ → ℕ → List ℕ
lines_n zero m N t x = []
lines_n (suc k) m N t x = line_n m N t x ++ lines_n k m N t (walk_n 14 m x right)

-- the lines of a tree by value, which is tree t
unfoldable pub tree_lines_n : List ℕ → ℕ → ℕ → AvlTree → List ℕ
tree_lines_n m N t v = lines_n v.count m N t (bottom_n 14 m v.root left)

-- the lines of so many trees, from tree t on
unfoldable pub trees_n : ℕ → List ℕ → Head → ℕ → List ℕ
trees_n zero m h t = []
trees_n (suc k) m h t = tree_lines_n m h.numbers.slots t (tree_n h.table t) ++ trees_n k m h (t + 1)
