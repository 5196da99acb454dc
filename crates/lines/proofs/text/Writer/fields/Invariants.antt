-- `fields`: the loop keeps what is left to be written.
use Rattle.std.proofs.Common.{drop}
use Rattle.lines.specs.Text.{fields}
use Rattle.lines.proofs.Writing.{Writing}
use Rattle.lines.proofs.text.Writer.fields.Given as goal

abbrev pub invariant-loop-n : goal.invariant-loop-n
invariant-loop-n l = Writing l.initial.self (fields l.ns) l.self (fields (drop l.n-index l.ns))
