-- `hex`: the loop keeps what is left to be written.
use Rattle.std.proofs.Common.{drop}
use Rattle.meaning.specs.Listing.{hex}
use Rattle.lines.proofs.Writing.{Writing}
use Rattle.lines.proofs.text.Writer.hex.Given as goal

abbrev pub invariant-loop-b : goal.invariant-loop-b
invariant-loop-b l = Writing l.initial.self (hex l.bytes) l.self (hex (drop l.b-index l.bytes))
