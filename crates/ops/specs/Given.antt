-- A model: what the code computes. No door's promise cites it, and it need not be believed.
-- What a test for a record gives, and what a command that settles a mark has done, in one form for what is done and what is refused, with its code. Assumes nothing.
use Rattle.std.specs.Prelude.{cond, ℕ, eqb, Result, Ok, Err}
use Rattle.format.specs.Refusal.{number}
use Rattle.format.specs.declared.refusal.Refusal.{Refusal}
use Rattle.slots.specs.declared.head.Head.{Head}
use Rattle.cursor.specs.Given.{Mark, mark_in}
use Rattle.ops.specs.declared.mark.Ask.{Ask}
use Rattle.ops.specs.declared.mark.Ask.TheVariants.{Nothing, Begin, Undo}
use Rattle.ops.specs.declared.mark.Settled.{Settled as CodeSettled}

-- the record x, if it is one
abbrev pub record_or : ℕ → Refusal → Result ℕ Refusal
record_or x why = cond (eqb x 0) (Err why) (Ok x)

-- the head and the mark after it, its code, and what is to be journalled
pub record Settled : Type 0 where
  pub head : Head
  pub mark : Mark
  pub code : ℕ
  pub change : ℕ

abbrev pub ask_number : Ask → ℕ
ask_number Nothing = 0
ask_number Begin = 3
ask_number Undo = 4

-- refused, it leaves the head h and the mark k
abbrev pub settled_in : Head → Mark → Result CodeSettled Refusal → Settled
settled_in h k (Ok s) = record { head = s.head; mark = mark_in s.mark; code = 0; change = ask_number s.ask }
settled_in h k (Err why) = record { head = h; mark = k; code = number why; change = 0 }
