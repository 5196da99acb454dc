-- The numbers of refusals, and of what is done or refused: 0 is done.
use Rattle.std.specs.Prelude.{ℕ, Result, Ok, Err}
use Rattle.format.specs.declared.refusal.Refusal.{Refusal}
use Rattle.format.specs.declared.refusal.Refusal.TheVariants.{Damaged, BadBatch, BadOut, BadSize, BadOp, BadTree, BadCursor, BadName, BadSlot, Stale, OtherTree, Present, Order, None, NoSlot, NoText, NoStamp, NoMark, MarkOpen}

abbrev pub number : Refusal → ℕ
number Damaged = 1
number BadBatch = 2
number BadOut = 3
number BadSize = 4
number BadOp = 10
number BadTree = 11
number BadCursor = 12
number BadName = 13
number BadSlot = 14
number Stale = 15
number OtherTree = 16
number Present = 17
number Order = 18
number None = 19
number NoSlot = 20
number NoText = 21
number NoStamp = 22
number NoMark = 23
number MarkOpen = 24

abbrev pub code : {T : Type 0} → Result T Refusal → ℕ
code (Ok done) = 0
code (Err why) = number why
