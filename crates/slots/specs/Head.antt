-- A model: what the code computes. No door's promise cites it, and it need not be believed.
-- The header's numbers and the tree table by value: read from a pool, stored into it, a tree of the table. Assumes nothing.
use Rattle.std.specs.Prelude.{cond, List, [], ◌∷◌, ℕ, ◌+◌, ◌*◌, ◌-◌, eqb, leb, ltb, get_or, set}
use Rattle.fields.specs.Number.{get_le, put_le}
use Rattle.tree.specs.declared.node.AvlTree.{AvlTree}
use Rattle.slots.specs.declared.head.Head.{Head}
use Rattle.slots.specs.declared.head.Numbers.{Numbers}

abbrev pub no_tree : AvlTree
no_tree = record { root = 0; count = 0 }

-- the entry of tree i + 1, empty beyond T
unfoldable pub entry_n : List ℕ → ℕ → ℕ → AvlTree
entry_n b T i = cond (leb T i) no_tree (record { root = get_le 2 b (32 + 8 * i); count = get_le 2 b (32 + 8 * i + 2) })

unfoldable pub table_n : List ℕ → ℕ → List AvlTree
table_n b T = entry_n b T 0 ∷ entry_n b T 1 ∷ entry_n b T 2 ∷ entry_n b T 3 ∷ entry_n b T 4 ∷ entry_n b T 5 ∷ entry_n b T 6 ∷ entry_n b T 7 ∷ []

unfoldable pub load_n : List ℕ → ℕ → ℕ → Head
load_n b live free =
    let T = get_le 2 b 4 in
    record {
      numbers = record { slots = get_le 2 b 2; trees = T; live = live; free = free; size = get_le 4 b 20; used = get_le 4 b 24; next = get_le 4 b 28 };
      table = table_n b T;
    }

-- the numbers with those that a change may set; the sizes stay
abbrev pub with_numbers : Numbers → ℕ → ℕ → ℕ → ℕ → Numbers
with_numbers n live free used next =
    record { slots = n.slots; trees = n.trees; live = live; free = free; size = n.size; used = used; next = next }

unfoldable pub put_entry_n : List ℕ → ℕ → ℕ → AvlTree → List ℕ
put_entry_n b T i v = cond (leb T i) b (put_le 2 (put_le 2 b (32 + 8 * i) v.root) (32 + 8 * i + 2) v.count)

-- the entries of the trees from i + 1 on
unfoldable pub put_table_n : List ℕ → ℕ → ℕ → List AvlTree → List ℕ
put_table_n b T i [] = b
put_table_n b T i (v ∷ vs) = put_table_n (put_entry_n b T i v) T (i + 1) vs

abbrev eight : List AvlTree → List AvlTree
eight ts = get_or ts 0 no_tree ∷ get_or ts 1 no_tree ∷ get_or ts 2 no_tree ∷ get_or ts 3 no_tree ∷ get_or ts 4 no_tree ∷ get_or ts 5 no_tree ∷ get_or ts 6 no_tree ∷ get_or ts 7 no_tree ∷ []

unfoldable pub store_n : List ℕ → Head → List ℕ
store_n b h = put_table_n (put_le 4 (put_le 4 (put_le 2 b 6 h.numbers.live) 24 h.numbers.used) 28 h.numbers.next) h.numbers.trees 0 (eight h.table)

-- tree t, an empty one for a number that is no tree's
unfoldable pub tree_n : List AvlTree → ℕ → AvlTree
tree_n ts t = cond (eqb t 0) no_tree (cond (ltb 8 t) no_tree (get_or ts (t - 1) no_tree))

unfoldable pub set_tree_n : List AvlTree → ℕ → AvlTree → List AvlTree
set_tree_n ts t v = cond (eqb t 0) ts (cond (ltb 8 t) ts (set ts (t - 1) v))
