-- `run`: what is left of the commands gives what all of them give.
use Rattle.batch.specs.Run.{ran_n}
use Rattle.batch.proofs.RunSteps.{Carried}
use Rattle.batch.proofs.run.run.Given as goal

abbrev pub invariant-loop-k : goal.invariant-loop-k
invariant-loop-k l = Carried l.initial.body l.w l.names l.initial.out l.count (ran_n l.count l.initial.body l.w l.names l.initial.out l.fn.h) l.body l.out l.session l.k
