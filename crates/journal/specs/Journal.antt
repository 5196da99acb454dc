-- A model: what the code computes. No door's promise cites it, and it need not be believed.
-- The entries of a journal: what they stand for in `meaning`, and how they are undone on the body and the head. Assumes nothing.
use Rattle.std.specs.Prelude.{true, false, cond, List, [], ◌∷◌, ℕ, zero, suc, get_or}
use Rattle.avl.specs.Tree.{right}
use Rattle.tree.specs.Search.{seek_n}
use Rattle.meaning.specs.Pool.{Rec}
use Rattle.meaning.specs.Change.{Change, added, removed}
use Rattle.slots.specs.Record.{no_record, record_n}
use Rattle.slots.specs.Head.{tree_n}
use Rattle.slots.specs.Change.{Image, put_rec_n, drop_rec_n, cut_n}
use Rattle.slots.specs.declared.head.Head.{Head}
use Rattle.slots.specs.declared.record.Record.{Record}
use Rattle.journal.specs.declared.Entry.{Entry}
use Rattle.journal.specs.declared.Noted.{Noted}
use Rattle.journal.specs.declared.Noted.TheVariants.{Added, Removed}
use Rattle.journal.specs.declared.Row.{Row}

-- what stands where a journal has no entry yet: a removal with all fields 0, from slot 0
abbrev pub no_entry : Entry
no_entry = record { slot = 0; change = Removed no_record }

-- what a contract sees of a journal: its changes in their order
pub record Changes : Type 0 where
  pub items : List Entry

-- ---- an entry as the array holds it

-- what is noted of slot x; of an added record nothing but that
abbrev pub packed_at : ℕ → Noted → Row
packed_at x Added = record { key = 0; stamp = 0; start = 0; len = 0; slot = x; tree = 0; added = true; spare = 0 }
packed_at x (Removed v) = record { key = v.key; stamp = v.stamp; start = v.start; len = v.len; slot = x; tree = v.tree; added = false; spare = 0 }

abbrev pub packed : Entry → Row
packed e = packed_at e.slot e.change

-- the record whose removal it holds
abbrev pub removed_in : Row → Record
removed_in r = record { key = r.key; stamp = r.stamp; start = r.start; len = r.len; tree = r.tree }

-- and back
abbrev pub unpacked : Row → Entry
unpacked r = record { slot = r.slot; change = cond r.added Added (Removed (removed_in r)) }

-- ---- what entries stand for

-- a record, from its value
unfoldable pub rec_of : Record → Rec
rec_of v = record { tree = v.tree; key = v.key; stamp = v.stamp; start = v.start; len = v.len }

-- what is noted of slot x
unfoldable pub change_at : ℕ → Noted → Change
change_at x Added = added x
change_at x (Removed v) = removed x (rec_of v)

-- what an entry of the journal says
abbrev pub change_of : Entry → Change
change_of e = change_at e.slot e.change

-- the first n entries, the last first
unfoldable pub changes_in : ℕ → List Entry → List Change
changes_in zero es = []
changes_in (suc n) es = change_of (get_or es n no_entry) ∷ changes_in n es

-- ---- entries undone

-- an added record is removed; a removed one goes back into its slot and its tree
unfoldable pub undo_at_n : List ℕ → Head → ℕ → Noted → Image
undo_at_n m h x Added = drop_rec_n m h x (record_n m x).tree
undo_at_n m h x (Removed v) =
    let s = seek_n 14 m v.key (tree_n h.table v.tree).root 0 right 0 in put_rec_n m h x v s.above s.side

abbrev pub undo_one_n : List ℕ → Head → Entry → Image
undo_one_n m h e = undo_at_n m h e.slot e.change

-- the first n changes, last first
unfoldable pub undo_n : ℕ → List ℕ → Head → List Entry → Image
undo_n zero m h es = (m, h)
undo_n (suc n) m h es = let o = undo_one_n m h (get_or es n no_entry) in undo_n n o.0 o.1 es

-- and the text back to what was used at the mark
unfoldable pub roll_back_n : ℕ → List ℕ → Head → ℕ → List Entry → Image
roll_back_n n m h used es = let o = undo_n n m h es in cut_n o.0 o.1 used
