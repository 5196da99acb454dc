-- `lowest`: what the search from here on gives is what it gives from the start.
use Rattle.std.proofs.Common.{◌∙◌}
use Rattle.slots.proofs.RecordSteps.{lowest_end, lowest_stop, lowest_on}
use Rattle.slots.proofs.record.lowest.Goals as goal

pub returns-then-get-eq0 : goal.returns-then-get-eq0
returns-then-get-eq0 c = lowest_stop _ _ _ c.loop-at-test.true c.get.ensures c.if-get-eq0.true ∙ c.loop-at.invariant

pub loop-at-preserved : goal.loop-at-preserved
loop-at-preserved c = lowest_on _ _ _ c.loop-at-test.true c.get.ensures c.if-get-eq0.false ∙ c.loop-at.invariant

pub returns : goal.returns
returns c = lowest_end _ _ _ c.loop-at-test.false ∙ c.loop-at.invariant
