-- A model: what the code computes. No door's promise cites it, and it need not be believed.
-- The lines of a pool that is read, in the models of Line.antt. Assumes nothing.
use Rattle.std.specs.Prelude.{List, ℕ}
use Rattle.slots.specs.Head.{tree_n}
use Rattle.lines.specs.Line.{line_n, tree_lines_n, trees_n}
use Rattle.lines.specs.declared.line.Opened.{Opened}

-- the line of slot x, in tree t
abbrev pub line_text : Opened → ℕ → ℕ → List ℕ
line_text p t x = line_n p.body.now p.head.numbers.slots t x

-- the lines of tree t
abbrev pub tree_text : Opened → ℕ → List ℕ
tree_text p t = tree_lines_n p.body.now p.head.numbers.slots t (tree_n p.head.table t)

-- those of all trees
abbrev pub trees_text : Opened → List ℕ
trees_text p = trees_n 8 p.body.now p.head 1
