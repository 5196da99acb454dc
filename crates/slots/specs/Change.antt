-- A model: what the code computes. No door's promise cites it, and it need not be believed.
-- What changes a pool under way, on its body and its head. Assumes nothing.
use Rattle.std.specs.Prelude.{cond, List, ℕ, ◌+◌, ◌*◌, ◌-◌, eqb, leb, ltb, length, replicate}
use Rattle.fields.specs.Part.{part, splice}
use Rattle.avl.specs.Tree.{Dir}
use Rattle.tree.specs.Rotate.{Store}
use Rattle.tree.specs.Insert.{more_n, insert_n}
use Rattle.tree.specs.Remove.{less_n, remove_n}
use Rattle.tree.specs.declared.node.AvlTree.{AvlTree}
use Rattle.slots.specs.Record.{fill_n, clear_n, lowest_n}
use Rattle.slots.specs.Head.{no_tree, tree_n, set_tree_n, with_numbers}
use Rattle.slots.specs.declared.record.Record.{Record}
use Rattle.slots.specs.declared.head.Head.{Head}

-- the body and the head
abbrev pub Image : Type 0
Image = List ℕ × Head

-- ---- a record in

-- the lowest free slot once slot x is taken
unfoldable pub free_after_n : List ℕ → ℕ → ℕ → ℕ → ℕ
free_after_n m N free x = cond (eqb x free) (lowest_n (N - x) m x) free

unfoldable pub hung_n : List ℕ → AvlTree → ℕ → Record → ℕ → Dir → Store
hung_n m t x v p d = insert_n 14 (fill_n m x v) t x p d

unfoldable pub put_rec_n : List ℕ → Head → ℕ → Record → ℕ → Dir → Image
put_rec_n m h x v p d =
    let n = h.numbers in
    let o = hung_n m (tree_n h.table v.tree) x v p d in (
      o.0,
      record {
        numbers = with_numbers n (more_n n.live) (free_after_n o.0 n.slots n.free x) n.used n.next;
        table = set_tree_n h.table v.tree o.1;
      },
    )

-- ---- a record out

-- the lowest free slot once slot x is free too
unfoldable pub freed_n : ℕ → ℕ → ℕ
freed_n free x = cond (eqb free 0) x (cond (ltb x free) x free)

unfoldable pub taken_n : List ℕ → AvlTree → ℕ → Store
taken_n m t x = let o = remove_n 14 m t x in (clear_n o.0 x, o.1)

unfoldable pub drop_rec_n : List ℕ → Head → ℕ → ℕ → Image
drop_rec_n m h x t =
    let n = h.numbers in
    let o = taken_n m (tree_n h.table t) x in (
      o.0,
      record { numbers = with_numbers n (less_n n.live) (freed_n n.free x) n.used n.next; table = set_tree_n h.table t o.1 },
    )

-- ---- a new record with its name

unfoldable pub plus_n : ℕ → ℕ → ℕ
plus_n used len = cond (leb 4_294_901_760 used) used (used + len)

unfoldable pub rise_n : ℕ → ℕ
rise_n next = cond (eqb next 4_294_967_295) next (next + 1)

unfoldable pub grown_n : Head → ℕ → Head
grown_n h len =
    let n = h.numbers in
    record { numbers = with_numbers n n.live n.free (plus_n n.used len) (rise_n n.next); table = h.table }

-- the record v with its name, the part of the names from `from` on, at the end of the text
unfoldable pub add_rec_n : List ℕ → Head → Record → List ℕ → ℕ → ℕ → Dir → Image
add_rec_n m h v names from p d =
    let named = splice m (32 * h.numbers.slots + h.numbers.used) (part names from v.len) in
    put_rec_n named (grown_n h v.len) h.numbers.free v p d

-- ---- the whole

abbrev pub empty_table : List AvlTree
empty_table = replicate 8 no_tree

unfoldable pub emptied_n : List ℕ → Head → Image
emptied_n m h = (
  splice m 0 (replicate (length m) 0),
  record { numbers = with_numbers h.numbers 0 1 0 h.numbers.next; table = empty_table },
)

unfoldable pub cut_n : List ℕ → Head → ℕ → Image
cut_n m h used =
    let n = h.numbers in
    let shorter : Image = (
      splice m (32 * n.slots + used) (replicate (n.used - used) 0),
      record { numbers = with_numbers n n.live n.free used n.next; table = h.table },
    ) in
    cond (ltb n.used used) (m, h) shorter
