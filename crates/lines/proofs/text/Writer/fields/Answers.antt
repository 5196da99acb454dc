-- `fields`: the loop writes a number a turn.
use Rattle.lines.proofs.TextSteps.{field_turn}
use Rattle.lines.proofs.text.Writer.fields.Goals as goal

pub loop-n-preserved : goal.loop-n-preserved
loop-n-preserved c = field_turn _ _ c.loop-n-test.true c.loop-n.invariant c.field.ensures
