-- A model: what the code computes. No door's promise cites it, and it need not be believed.
-- What a command's function gives, in one form for what is done and what is refused: with its code, 0 for done. The views take a result of the
-- code to that form. Assumes nothing.
use Rattle.std.specs.Prelude.{Bool, true, false, cond, ℕ, eqb, Option, Some, Result, Ok, Err}
use Rattle.std.specs.declared.option.Option.TheVariants.{None}
use Rattle.format.specs.Refusal.{number}
use Rattle.format.specs.declared.refusal.Refusal.{Refusal}
use Rattle.tree.specs.declared.node.AvlTree.{AvlTree}
use Rattle.slots.specs.Head.{no_tree}
use Rattle.cursor.specs.declared.cursor.Next.{Next}
use Rattle.cursor.specs.declared.cursor.Next.TheVariants.{Gone, Kept}
use Rattle.cursor.specs.declared.result.Change.{Change}
use Rattle.cursor.specs.declared.result.Change.TheVariants.{Added, Removed}
use Rattle.cursor.specs.declared.result.Refused.{Refused}
use Rattle.cursor.specs.declared.result.Sight.{Sight as CodeSight}
use Rattle.cursor.specs.declared.result.Step.{Step as CodeStep}

-- the number of the first test that is met, that of a refusal or else of what follows
abbrev pub tested : {T : Type 0} → Result T Refusal → ℕ → ℕ
tested (Ok passed) rest = rest
tested (Err why) rest = number why

-- what a test refuses, refused so that the cursor is kept, unless it is for this reason
abbrev pub kept_unless_in : {T : Type 0} → Result T Refusal → Refusal → Result T Refused
kept_unless_in (Ok passed) losing = Ok passed
kept_unless_in (Err why) losing = Err (record { why = why; then = cond (eqb (number why) (number losing)) Gone Kept })

-- whether a mark is open, and text used when it was opened, 0 where none is
pub record Mark : Type 0 where
  pub used : ℕ
  pub is_open : Bool

abbrev pub mark_in : Option ℕ → Mark
mark_in None = record { used = 0; is_open = false }
mark_in (Some used) = record { used = used; is_open = true }

-- a command that shows a record: its slot, the code, and what comes of the cursor
pub record Sight : Type 0 where
  pub slot : ℕ
  pub code : ℕ
  pub then : Next

abbrev pub sight_in : Result CodeSight Refused → Sight
sight_in (Ok s) = record { slot = s.slot; code = 0; then = s.then }
sight_in (Err r) = record { slot = 0; code = number r.why; then = r.then }

-- an addition or a removal: its answer, the tree and the lowest free slot after it, what is to be journalled, and what comes of the cursor
pub record Step : Type 0 where
  pub key : ℕ
  pub stamp : ℕ
  pub start : ℕ
  pub tree : AvlTree
  pub slot : ℕ
  pub free : ℕ
  pub len : ℕ
  pub code : ℕ
  pub change : ℕ
  pub then : Next

abbrev pub change_number : Change → ℕ
change_number Added = 1
change_number Removed = 2

abbrev pub step_in : Result CodeStep Refused → Step
step_in (Ok s) =
    record {
      key = s.key;
      stamp = s.stamp;
      start = s.start;
      tree = s.tree;
      slot = s.slot;
      free = s.free;
      len = s.len;
      code = 0;
      change = change_number s.change;
      then = s.then;
    }
step_in (Err r) =
    record {
      key = 0;
      stamp = 0;
      start = 0;
      tree = no_tree;
      slot = 0;
      free = 0;
      len = 0;
      code = number r.why;
      change = 0;
      then = r.then;
    }
