-- `fill`: nothing at slot 0; else the row of the body, or the slot's own part of it.
use Rattle.std.proofs.Common.{eq-eqb, ne_eqb}
use Rattle.slots.specs.Record.{fill_n}
use Rattle.slots.proofs.RecordSteps.{slot_stored}
use Rattle.slots.proofs.record.fill.Goals as goal

pub returns-then-x-eq0 : goal.returns-then-x-eq0
unfolding fill_n
returns-then-x-eq0 c = simp (eq-eqb _ _ c.if-x-eq0.true)

pub returns-then-body-end : goal.returns-then-body-end
unfolding fill_n
returns-then-body-end c = simp (ne_eqb _ _ c.if-x-eq0.false) c.write.ensures

pub returns : goal.returns
returns c = slot_stored _ _ _ c.if-x-eq0.false c.if-body-end.false c.write-2.ensures
