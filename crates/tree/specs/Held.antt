-- A model: the form in which the code holds what `meaning` and `avl` speak of. No door's promise cites it, and it need not be believed.
-- A tree of `avl` held by records: its links written over record bytes. What the bytes hold besides is left as it is. Assumes nothing.
use Rattle.std.specs.Prelude.{ℕ, ◌+◌, ◌*◌, ◌≤◌, Bool, true, false, ◌&&◌, List, length, ◌==◌, nat_le}
use Rattle.avl.specs.Tree.{Dir, left, flip, code, Tree, leaf, node, top}
use Rattle.tree.specs.Node.{child, parent, balance, put_n}
use Rattle.tree.specs.declared.node.AvlTree.{AvlTree}

-- the links of slot s: the child on side d, the child on the other side, the parent, the balance
unfoldable pub write : List ℕ → ℕ → Dir → ℕ → ℕ → ℕ → ℕ → List ℕ
write m s d a z u b = put_n (put_n (put_n (put_n m s (child d) a) s (child (flip d)) z) s parent u) s balance b

-- the links of a tree that hangs below the record u, 0 for none
unfoldable pub over : Tree → ℕ → List ℕ → List ℕ
over leaf u m = m
over (node l s b r) u m = write (over l s (over r s m)) s left (top l) (top r) u (code b)

-- 1 if it is so, else 0
abbrev pub one : Bool → ℕ
one true = 1
one false = 0

-- how often a tree has the slot s
unfoldable pub times : ℕ → Tree → ℕ
times s leaf = 0
times s (node l x b r) = times s l + one (s == x) + times s r

-- 1 for the slots 1 to N, else 0
unfoldable pub room : ℕ → ℕ → ℕ
room N s = one (nat_le 1 s && nat_le s N)

-- bytes that have room for N records
pub record Roomy (N : ℕ) (m : List ℕ) : Type 0 where
  pub slots_high : N ≤ 1024
  pub long : 32 * N ≤ length m

-- a tree of slots from 1 to N, each once
pub record Fits (N : ℕ) (t : Tree) : Type 0 where
  pub once : (s : ℕ) → times s t ≤ room N s

-- the tree by value
unfoldable pub tree_of : Tree → ℕ → AvlTree
tree_of t n = record { root = top t; count = n }

-- the record bytes and the tree by value that hold t
unfoldable pub held : Tree → ℕ → List ℕ → List ℕ × AvlTree
held t n m = (over t 0 m, tree_of t n)
