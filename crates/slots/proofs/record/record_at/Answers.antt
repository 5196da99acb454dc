-- `record_at`: no record at slot 0; else the row of the body, or the slot's own part of it.
use Rattle.std.proofs.Common.{eq-eqb, ne_eqb}
use Rattle.slots.specs.Record.{record_n}
use Rattle.slots.proofs.RecordSteps.{no_record_is, slot_read}
use Rattle.slots.proofs.record.record_at.Goals as goal

pub returns-then-x-eq0 : goal.returns-then-x-eq0
unfolding record_n
returns-then-x-eq0 c = simp (eq-eqb _ _ c.if-x-eq0.true) (no_record_is c.default.ensures)

pub returns-then-body-end : goal.returns-then-body-end
unfolding record_n
returns-then-body-end c = simp (ne_eqb _ _ c.if-x-eq0.false) c.part_at.ensures

pub returns : goal.returns
returns c = slot_read _ _ c.if-x-eq0.false c.if-body-end.false c.read.ensures
