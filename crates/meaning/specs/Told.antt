-- What a caller is told: the words of demand 3 once more, over the bytes of the answers that a batch leaves. Assumes nothing.
use Rattle.std.specs.Prelude.{true, cond, List, [], ◌∷◌, ◌++◌, ◌≡◌, ℕ, ◌*◌, ◌<◌, length, get_or, replicate}
use Rattle.fields.specs.Part.{part}
use Rattle.meaning.specs.Layout.{within}
use Rattle.meaning.specs.Pool.{n_slots, n_trees, next_stamp}
use Rattle.meaning.specs.Cursor.{Command}
use Rattle.meaning.specs.Command.{adding}
use Rattle.meaning.specs.Doors.{commands, batch, name}
use Rattle.meaning.specs.Meant.{removing}
use Rattle.meaning.specs.Calls.{Calls, Point, Inside, ByHandle, shown_slot, shown_stamp}

-- the answer of the command at place k, counted from 0: 24 bytes
unfoldable pub answer_at : List ℕ → ℕ → List ℕ
answer_at answers k = part answers (24 * k) 24

-- its first byte: 0 for done, else the number by which the command is refused
unfoldable pub code_at : List ℕ → ℕ → ℕ
code_at answers k = get_or answers (24 * k) 0

-- ---- a handle that has gone

-- the number by which a command that names it is refused: 15, unless its tree (11) or its slot (14) is none of those that the pool's header counts
unfoldable pub gone_number : List ℕ → Command → ℕ
gone_number pool c = cond (within 1 (n_trees pool) c.tree) (cond (within 1 (n_slots pool) c.slot) 15 14) 11

-- the answer: the number, the cursor kind 0, and 22 zeros
unfoldable pub gone_answer : List ℕ → Command → List ℕ
gone_answer pool c = gone_number pool c ∷ 0 ∷ replicate 22 0

-- so does every batch on the pool answer every command that names it; and name hands back nothing for it, in each tree
pub record ToldGoneOn (pool : List ℕ) (slot stamp : ℕ) : Type 0 where
  pub by_batch : (request answers : List ℕ) (before : List Command) (c : Command) (rest : List Command) → Point pool request answers before (c ∷ rest)
      → ByHandle c slot stamp → answer_at (batch pool request answers).answers (length before) ≡ gone_answer pool c
  pub by_name : (tree : ℕ) → name pool tree slot stamp ≡ []

-- so it is from the point after the commands `before` of a batch on: in the answers of this batch, and on the pool that it leaves after any door calls
pub record ToldGoneFrom (pool request answers : List ℕ) (before : List Command) (slot stamp : ℕ) : Type 0 where
  pub in_this_batch : (more : List Command) (c : Command) (rest : List Command) → commands request ≡ before ++ (more ++ (c ∷ rest))
      → ByHandle c slot stamp → answer_at (batch pool request answers).answers (length (before ++ more)) ≡ gone_answer pool c
  pub ever_after : (later : List ℕ) → Calls (batch pool request answers).pool later → ToldGoneOn later slot stamp

-- ---- what was answered before that

-- `mark` is a mark at the point after the commands `before` of a batch, and the code of its answer is 0; the commands `between` do not close it, and
-- `rest` follows
pub record ToldMark (pool request answers : List ℕ) (before : List Command) (mark : Command) (between rest : List Command) : Type 0 where
  pub point : Point pool request answers before (mark ∷ (between ++ rest))
  pub is_mark : mark.op ≡ 26
  pub done : code_at (batch pool request answers).answers (length before) ≡ 0
  pub inside : Inside between

-- a command among those in between adds a record, the code of its answer is 0, and its answer shows this slot and stamp
pub record ToldAdded (pool request answers : List ℕ) (before : List Command) (mark : Command) (between : List Command) (slot stamp : ℕ) : Type 0 where
  pub first : List Command
  pub command : Command
  pub others : List Command
  pub split : between ≡ first ++ (command ∷ others)
  pub adds : adding command.op ≡ true
  pub done : code_at (batch pool request answers).answers (length (before ++ (mark ∷ first))) ≡ 0
  pub slot_shown : shown_slot (answer_at (batch pool request answers).answers (length (before ++ (mark ∷ first)))) ≡ slot
  pub stamp_shown : shown_stamp (answer_at (batch pool request answers).answers (length (before ++ (mark ∷ first)))) ≡ stamp

-- the command at the point after the commands `before` removes a record, the code of its answer is 0, and its answer shows this slot and stamp
pub record ToldRemoved (pool request answers : List ℕ) (before : List Command) (command : Command) (slot stamp : ℕ) : Type 0 where
  pub removes : removing command.op ≡ true
  pub done : code_at (batch pool request answers).answers (length before) ≡ 0
  pub slot_shown : shown_slot (answer_at (batch pool request answers).answers (length before)) ≡ slot
  pub stamp_shown : shown_stamp (answer_at (batch pool request answers).answers (length before)) ≡ stamp

-- no command among these is a mark
pub data NoMark : List Command → Type 0 where
  none_else : NoMark []
  one_else : {c : Command} {cs : List Command} → (c.op ≡ 26 → ⊥) → NoMark cs → NoMark (c ∷ cs)

-- no mark is open at the point after the commands `before`: there was none since the batch began, or none since a rollback or a commit whose answer has
-- the code 0
pub data ToldShut (pool request answers : List ℕ) (before : List Command) : Type 0 where
  since_start : NoMark before → ToldShut pool request answers before
  since_close : (earlier : List Command) (close : Command) (since : List Command) → before ≡ earlier ++ (close ∷ since)
      → within 27 28 close.op ≡ true → code_at (batch pool request answers).answers (length earlier) ≡ 0 → NoMark since
      → ToldShut pool request answers before

-- the stamp was handed out before the point after the commands `before`: it is below the next stamp of the pool's header, or an answer before that point,
-- with the code 0 and a slot that is not 0, shows it
pub data ToldOut (pool request answers : List ℕ) (before : List Command) (stamp : ℕ) : Type 0 where
  in_header : stamp < next_stamp pool → ToldOut pool request answers before stamp
  in_answer : (earlier : List Command) (c : Command) (since : List Command) → before ≡ earlier ++ (c ∷ since)
      → code_at (batch pool request answers).answers (length earlier) ≡ 0
      → (shown_slot (answer_at (batch pool request answers).answers (length earlier)) ≡ 0 → ⊥)
      → shown_stamp (answer_at (batch pool request answers).answers (length earlier)) ≡ stamp → ToldOut pool request answers before stamp

-- ---- a handle that lives

-- the code with which a command by handle is accepted: 0, or for next and previous 19 where there is no record on that side
pub data AcceptedWith (c : Command) (code : ℕ) : Type 0 where
  with_done : code ≡ 0 → AcceptedWith c code
  with_none : within 5 6 c.op ≡ true → code ≡ 19 → AcceptedWith c code

-- to unfold this is to unfold all of this file: for claims that compute
unfoldable pub opened : Unit {0}
unfolding answer_at code_at gone_number gone_answer
opened = tt
