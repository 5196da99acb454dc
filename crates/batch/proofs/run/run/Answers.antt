-- `run`: what is left of the commands gives what all of them give.
use Rattle.batch.proofs.RunSteps.{carried_first, carried_on, carried_end}
use Rattle.batch.proofs.run.run.Goals as goal

pub loop-k-init : goal.loop-k-init
loop-k-init c = carried_first _ _ _ (c.requires.0, (c.requires.1, c.requires.2)) (record { batch = c.begun.result; table = c.args.h.table; journal = c.new.result }) c.begun.ensures c.new.ensures

pub loop-k-preserved : goal.loop-k-preserved
loop-k-preserved c = carried_on c.loop-k.session c.loop-k.invariant c.loop-k-test.true c.read_command-c.ensures c.turn.new.self c.turn.ensures c.turn.auto.body c.turn.auto.row

pub returns : goal.returns
returns c = carried_end c.loop-k.session c.loop-k.invariant c.loop-k-test.false c.end.ensures
