-- `copy_in`: the loop stores the source byte by byte.
use Rattle.std.proofs.Common.{length}
use Rattle.fields.proofs.Loops.{Filling}
use Rattle.fields.proofs.part.copy_in.Given as goal

abbrev pub invariant-loop-i : goal.invariant-loop-i
invariant-loop-i l = Filling l.initial.b l.at (length l.src) l.src l.b l.i
