-- The words in which demand 3 and the reach of a kept handle are stated: door calls on one pool, a point of a batch, what a rollback gives back,
-- and what is true of a handle from a point on. Assumes nothing.
use Rattle.std.specs.Prelude.{true, cond, List, [], ◌∷◌, ◌++◌, ◌⊎◌, ◌≡◌, ℕ, ◌≤◌, length}
use Rattle.std.proofs.Math.Option.{some}
use Rattle.fields.specs.Number.{get_le, Bytes}
use Rattle.fields.specs.Part.{part}
use Rattle.meaning.specs.Layout.{within}
use Rattle.meaning.specs.Pool.{Rec, Pool, rec_at, read}
use Rattle.meaning.specs.Cursor.{Command, State}
use Rattle.meaning.specs.Command.{bad_tree, bad_slot, adding, refusal, perform}
use Rattle.meaning.specs.Doors.{create, commands, run, begun, batch, name}
use Rattle.meaning.specs.Meant.{entries_of}

-- ---- door calls on one pool

-- `later` is what the bytes of a pool are after door calls, as many as one likes and in any order. This is the proviso: only the doors write the pool,
-- and each is lent it whole, as a pool and never as answers or as a list. A create that is done makes the pool anew, and is not among the calls; one
-- that is refused is
pub data Calls (pool : List ℕ) : List ℕ → Type 0 where
  no_call : Calls pool pool
  then_batch : {later : List ℕ} → Calls pool later → (request answers : List ℕ) → Bytes request → Calls pool (batch later request answers).pool
  then_name : {later : List ℕ} → Calls pool later → (tree slot stamp : ℕ) → Calls pool later
  then_check : {later : List ℕ} → Calls pool later → Calls pool later
  then_refused_create : {later : List ℕ} → Calls pool later → (N T X : ℕ) → ((create N T X later).code ≡ 0 → ⊥) → Calls pool (create N T X later).buffer

-- ---- a point of a batch

-- the batch `request` is carried out on the pool, and this is the point of it between its commands `before` and `rest`
pub record Point (pool request answers : List ℕ) (before rest : List Command) : Type 0 where
  pub pool_bytes : Bytes pool
  pub batch_bytes : Bytes request
  pub done : (batch pool request answers).code ≡ 0
  pub split : commands request ≡ before ++ rest

-- the state there
unfoldable pub state_after : List ℕ → List Command → State
state_after pool before = (run (begun (read pool)) before).state

-- ---- between a mark and the rollback that closes it

-- commands that do not close a mark: while one is open neither a mark nor a reset is done
pub data Inside : List Command → Type 0 where
  none_more : Inside []
  one_more : {c : Command} {cs : List Command} → (c.op ≡ 27 → ⊥) → (c.op ≡ 28 → ⊥) → Inside cs → Inside (c ∷ cs)

-- `mark` is a mark, answered as done, at the point after the commands `before` of a batch; the commands `between` do not close it, and `rest` follows
pub record Marked (pool request answers : List ℕ) (before : List Command) (mark : Command) (between rest : List Command) : Type 0 where
  pub point : Point pool request answers before (mark ∷ (between ++ rest))
  pub is_mark : mark.op ≡ 26
  pub done : refusal (state_after pool before) mark ≡ 0
  pub inside : Inside between

-- q has the contents of p: every tree lists the same records (slot, stamp, key, name's place and bytes), every slot holds the same record or is free
-- as it was, the text is the same; there are as many slots and trees, and as much room for text. The trees' shapes may differ, and the next stamp may
-- have risen
pub record SameContents (p q : Pool) : Type 0 where
  pub lists : (t : ℕ) → entries_of q t ≡ entries_of p t
  pub slots : q.slots ≡ p.slots
  pub text : q.text ≡ p.text
  pub trees : length q.trees ≡ length p.trees
  pub size : q.size ≡ p.size
  pub next : p.next ≤ q.next

-- the handle that a command's answer shows
unfoldable pub shown_slot : List ℕ → ℕ
shown_slot answer = get_le 2 answer 2

unfoldable pub shown_stamp : List ℕ → ℕ
shown_stamp answer = get_le 4 answer 4

-- a command among those in between added a record, was done, and answered with this handle
pub record AddedBetween (pool : List ℕ) (before : List Command) (mark : Command) (between : List Command) (slot stamp : ℕ) : Type 0 where
  pub first : List Command
  pub command : Command
  pub others : List Command
  pub split : between ≡ first ++ (command ∷ others)
  pub adds : adding command.op ≡ true
  pub done : refusal (state_after pool (before ++ (mark ∷ first))) command ≡ 0
  pub slot_shown : shown_slot (perform (state_after pool (before ++ (mark ∷ first))) command).answer ≡ slot
  pub stamp_shown : shown_stamp (perform (state_after pool (before ++ (mark ∷ first))) command).answer ≡ stamp

-- ---- a handle that is refused

-- the command names its record by this handle: it is a removal by handle, or asks for the next or previous of a handle
pub record ByHandle (c : Command) (slot stamp : ℕ) : Type 0 where
  pub op : within 4 6 c.op ≡ true
  pub slot_is : c.slot ≡ slot
  pub stamp_is : c.stamp ≡ stamp

-- the number by which it is refused as stale: 15, unless its tree (11) or its slot (14) is none of the pool's
unfoldable pub stale_number : State → Command → ℕ
stale_number s c = cond (bad_tree s c) 11 (cond (bad_slot s c) 14 15)

-- every door on the pool refuses the handle: a batch at each of its points, and name in each tree
pub record RefusedOn (pool : List ℕ) (slot stamp : ℕ) : Type 0 where
  pub by_batch : (request answers : List ℕ) (before : List Command) (c : Command) (rest : List Command) → Point pool request answers before (c ∷ rest) → ByHandle c slot stamp
      → refusal (state_after pool before) c ≡ stale_number (state_after pool before) c
  pub by_name : (tree : ℕ) → name pool tree slot stamp ≡ []

-- from the point after the commands `before` of a batch on the handle is refused: by the rest of this batch, and on the pool that it leaves by every
-- door after any door calls
pub record RefusedFrom (pool request answers : List ℕ) (before : List Command) (slot stamp : ℕ) : Type 0 where
  pub in_this_batch : (more : List Command) (c : Command) (rest : List Command) → commands request ≡ before ++ (more ++ (c ∷ rest)) → ByHandle c slot stamp
      → refusal (state_after pool (before ++ more)) c ≡ stale_number (state_after pool (before ++ more)) c
  pub ever_after : (later : List ℕ) → Calls (batch pool request answers).pool later → RefusedOn later slot stamp

-- ---- a handle that reaches one record only

-- the slot holds the record r, whose name has the bytes `named`
pub record Holds (p : Pool) (slot : ℕ) (r : Rec) (named : List ℕ) : Type 0 where
  pub rec : rec_at p slot ≡ some r
  pub name : part p.text r.start r.len ≡ named

-- where a door on the pool accepts the handle of the slot and the stamp of r, it is for r, in r's tree and with r's name
pub record ReachesOn (pool : List ℕ) (slot : ℕ) (r : Rec) (named : List ℕ) : Type 0 where
  pub by_batch : (request answers : List ℕ) (before : List Command) (c : Command) (rest : List Command) → Point pool request answers before (c ∷ rest)
      → ByHandle c slot r.stamp → refusal (state_after pool before) c ≡ 0 → Holds (state_after pool before).pool slot r named × (c.tree ≡ r.tree)
  pub by_name : (tree : ℕ) → (name pool tree slot r.stamp ≡ [] → ⊥) → Holds (read pool) slot r named × (tree ≡ r.tree) × (name pool tree slot r.stamp ≡ named)

-- so from the point after the commands `before` of a batch on
pub record ReachesFrom (pool request answers : List ℕ) (before : List Command) (slot : ℕ) (r : Rec) (named : List ℕ) : Type 0 where
  pub in_this_batch : (more : List Command) (c : Command) (rest : List Command) → commands request ≡ before ++ (more ++ (c ∷ rest))
      → ByHandle c slot r.stamp → refusal (state_after pool (before ++ more)) c ≡ 0
      → Holds (state_after pool (before ++ more)).pool slot r named × (c.tree ≡ r.tree)
  pub ever_after : (later : List ℕ) → Calls (batch pool request answers).pool later → ReachesOn later slot r named

-- the answer of the command c, at the point after the commands `before` of a batch, gives a handle: it is that of this record with this name, which
-- its slot holds before the command or after it, and after the command it reaches no other
pub record GivenFor (pool request answers : List ℕ) (before : List Command) (c : Command) : Type 0 where
  pub rec : Rec
  pub name : List ℕ
  pub stamp : rec.stamp ≡ shown_stamp (perform (state_after pool before) c).answer
  pub held : Holds (state_after pool before).pool (shown_slot (perform (state_after pool before) c).answer) rec name
      ⊎ Holds (state_after pool (before ++ (c ∷ []))).pool (shown_slot (perform (state_after pool before) c).answer) rec name
  pub reaches : ReachesFrom pool request answers (before ++ (c ∷ [])) (shown_slot (perform (state_after pool before) c).answer) rec name
