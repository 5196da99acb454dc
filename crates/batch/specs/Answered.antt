-- How many commands a batch answered: none where it is refused. Assumes nothing.
use Rattle.std.specs.Prelude.{ℕ, Result, Ok, Err}
use Rattle.format.specs.declared.refusal.Refusal.{Refusal}

abbrev pub answered : Result ℕ Refusal → ℕ
answered (Ok count) = count
answered (Err why) = 0
