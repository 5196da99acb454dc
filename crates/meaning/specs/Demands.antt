-- The words in which demand 2 is stated: what is stored, a command in its turn, what a look shows, what an addition and a removal leave, and the tests
-- of commands over the lists of entries. Assumes nothing.
use Rattle.std.specs.Prelude.{Bool, true, not, ◌&&◌, cond, List, [], ◌∷◌, ◌++◌, ◌≡◌, ℕ, suc, ◌*◌, length, drop}
use Rattle.std.proofs.Math.Option.{Option, none, some}
use Rattle.fields.specs.Part.{part, zeros}
use Rattle.avl.specs.Tree.{Dir, flip, pick}
use Rattle.avl.specs.Links.{Links}
use Rattle.avl.specs.Search.{add, remove_by_key}
use Rattle.meaning.specs.Pool.{Rec, Pool, rec_at, tree_at, read, key_in, left_in, right_in, parent_in, balance_in, tree_in, stamp_in, start_in, len_in}
use Rattle.meaning.specs.Change.{by_key_in, added, removed, noted}
use Rattle.meaning.specs.Cursor.{Command, occupied, vacant, State, kind, cursor_tree}
use Rattle.meaning.specs.Command.{op_of, no_slot, no_text, no_stamp, among, Performed, perform}
use Rattle.meaning.specs.Doors.{commands, run, begun, batch}
use Rattle.meaning.specs.Meant.{Entry, entries_of, lookup, in_slot, front, facing, first_past, slot_of, on_side, insert_by_key, without, shown, of_cursor, beside_cursor}
use Rattle.meaning.specs.States.{GoodState, Parsed}

-- ---- the pool and the batch

-- the row stores the record r with the links k
pub record RowSays (row : List ℕ) (r : Rec) (k : Links) : Type 0 where
  pub key_is : key_in row ≡ r.key
  pub left_is : left_in row ≡ k.left
  pub right_is : right_in row ≡ k.right
  pub parent_is : parent_in row ≡ k.parent
  pub balance_is : balance_in row ≡ k.balance
  pub tree_is : tree_in row ≡ r.tree
  pub stamp_is : stamp_in row ≡ r.stamp
  pub start_is : start_in row ≡ r.start
  pub len_is : len_in row ≡ r.len
  pub rest_is : zeros (drop 26 row) ≡ true

-- q has as many slots and trees as p, and as much room for text
pub record SameSizes (p q : Pool) : Type 0 where
  pub slots : length q.slots ≡ length p.slots
  pub trees : length q.trees ≡ length p.trees
  pub size : q.size ≡ p.size

-- a command of a batch, with those before it and those behind it: the state in which it begins is good, so that the laws of single commands hold of it;
-- its answer is that of the command performed in that state and stands at its place; and the rest of the batch goes on from the state that it leaves
pub record InTurn (pool request answers : List ℕ) (before : List Command) (c : Command) (behind : List Command) : Type 0 where
  pub mark : Option Pool
  pub good : GoodState mark (run (begun (read pool)) before).state
  pub parsed : Parsed c
  pub answer : part (batch pool request answers).answers (24 * length before) 24 ≡ (perform (run (begun (read pool)) before).state c).answer
  pub goes_on : (run (begun (read pool)) (commands request)).state ≡ (run (perform (run (begun (read pool)) before).state c).state behind).state

-- ---- looks

-- the ops that only look
abbrev pub looking : ℕ → Bool
looking n = among ((2, 2) ∷ (5, 8) ∷ (10, 15) ∷ []) n

-- the command has changed nothing but the cursor, and its answer shows this entry
pub record Looked (s : State) (c : Command) (e : Option Entry) : Type 0 where
  pub pool : (perform s c).state.pool ≡ s.pool
  pub mark : (perform s c).state.mark ≡ s.mark
  pub cursor : (perform s c).state.cursor ≡ (op_of c).then s c (slot_of e)
  pub answer : (perform s c).answer ≡ shown 0 (kind (perform s c).state.cursor) e

-- What op 9 answers for the key k in the tree t with the list l: if an entry has the key, that entry, and the cursor is at it; if none has, the entry
-- just before the place of the key or the one just behind it. Which of the two is not a matter of the list: it is the one that the key would hang on.
-- The cursor's side says which: hung to the right, the entry shown is the previous one, hung to the left the next.
pub data Entered (l : List Entry) (t k : ℕ) (d : Performed) : Type 0 where
  found : (e : Entry) → lookup k l ≡ some e → d.state.cursor ≡ occupied t e.slot → d.answer ≡ shown 0 1 (some e) → Entered l t k d
  missed : (hung : Dir) (e : Option Entry) → lookup k l ≡ none → e ≡ first_past (flip hung) k (facing (flip hung) l)
      → d.state.cursor ≡ vacant t (slot_of e) hung k → d.answer ≡ shown 0 2 e → Entered l t k d

-- the list has an entry with this slot and stamp
pub record HasHandle (l : List Entry) (x stamp : ℕ) : Type 0 where
  pub entry : Entry
  pub is : in_slot x l ≡ some entry
  pub stamp_is : entry.stamp ≡ stamp

-- ---- changes

-- the command has added the entry e to tree t: the tree's list has it at the place of its key and the other lists are as they were; the name stands
-- behind the text that there was, the next stamp is one more, and the answer shows the entry. The tree's shape is that of the Rust's `add`
pub record Added (s : State) (c : Command) (t : ℕ) (e : Entry) : Type 0 where
  pub list : entries_of (perform s c).state.pool t ≡ insert_by_key e (entries_of s.pool t)
  pub others : (u : ℕ) → (u ≡ t → ⊥) → entries_of (perform s c).state.pool u ≡ entries_of s.pool u
  pub text : (perform s c).state.pool.text ≡ s.pool.text ++ e.name
  pub next : (perform s c).state.pool.next ≡ suc s.pool.next
  pub mark : (perform s c).state.mark ≡ noted (added e.slot) s.mark
  pub cursor : (perform s c).state.cursor ≡ (op_of c).then s c e.slot
  pub answer : (perform s c).answer ≡ shown 0 (kind (perform s c).state.cursor) (some e)
  pub shape : tree_at (perform s c).state.pool t ≡ add (by_key_in s.pool e.key) e.slot (tree_at s.pool t)
  pub other_shapes : (u : ℕ) → (u ≡ t → ⊥) → tree_at (perform s c).state.pool u ≡ tree_at s.pool u

-- the command has removed the entry e from tree t: the tree's list is without its slot and the other lists are as they were, as are the text and the
-- next stamp, and the answer shows the entry as it was. The tree's shape is that of the Rust's `remove`
pub record Removed (s : State) (c : Command) (t : ℕ) (e : Entry) : Type 0 where
  pub list : entries_of (perform s c).state.pool t ≡ without e.slot (entries_of s.pool t)
  pub others : (u : ℕ) → (u ≡ t → ⊥) → entries_of (perform s c).state.pool u ≡ entries_of s.pool u
  pub text : (perform s c).state.pool.text ≡ s.pool.text
  pub next : (perform s c).state.pool.next ≡ s.pool.next
  pub rec : Rec
  pub was : rec_at s.pool e.slot ≡ some rec
  pub mark : (perform s c).state.mark ≡ noted (removed e.slot rec) s.mark
  pub cursor : (perform s c).state.cursor ≡ (op_of c).then s c e.slot
  pub answer : (perform s c).answer ≡ shown 0 (kind (perform s c).state.cursor) (some e)
  pub shape : tree_at (perform s c).state.pool t ≡ remove_by_key (by_key_in s.pool e.key) (tree_at s.pool t)
  pub other_shapes : (u : ℕ) → (u ≡ t → ⊥) → tree_at (perform s c).state.pool u ≡ tree_at s.pool u

-- the ops that put a record in on side d of the cursor's record: before it 16, 18 and 25, behind it 17, 19 and 24
abbrev pub beside_ops : Dir → List (ℕ × ℕ)
beside_ops d = pick d ((16, 16) ∷ (18, 18) ∷ (25, 25) ∷ []) ((17, 17) ∷ (19, 19) ∷ (24, 24) ∷ [])

-- ---- the tests over the lists

-- the ops that see a record, but for op 4, whose slot may be anything
abbrev pub seeing : ℕ → Bool
seeing n = among ((2, 3) ∷ (5, 8) ∷ (10, 15) ∷ (21, 23) ∷ []) n

-- the last three tests of every op that adds: no free slot, no room for the name, no stamp left
abbrev pub room : State → Command → ℕ
room s c = cond (no_slot s c) 20 (cond (no_text s c) 21 (cond (no_stamp s c) 22 0))

-- the key is not strictly between the entry that the cursor is at and the one on side d of it
abbrev pub out_of_order : State → Command → Dir → Bool
out_of_order s c d =
    not (on_side d c.key (of_cursor (entries_of s.pool) s.cursor c) && on_side (flip d) c.key (beside_cursor d (entries_of s.pool) s.cursor c))

-- the key is not strictly past the end on side e of the cursor's tree: not above the last entry, not below the first
abbrev pub not_past_end : State → Command → Dir → Bool
not_past_end s c e = not (on_side e c.key (front (facing (flip e) (entries_of s.pool (cursor_tree s.cursor)))))
