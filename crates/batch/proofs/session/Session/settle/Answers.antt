-- `settle`: the state begins anew, also where the op is refused.
use Rattle.std.proofs.Common.{sym, refl, ap, ◌∙◌}
use Rattle.slots.specs.declared.head.Head.{Head}
use Rattle.slots.proofs.RecordSteps.{no_record_is}
use Rattle.cursor.specs.Work.{work_of}
use Rattle.batch.proofs.SessionSteps.{settle_steps}
use Rattle.batch.proofs.session.Session.settle.Goals as goal

pub returns-in-Ok : goal.returns-in-Ok
returns-in-Ok c = settle_steps c.args.self.now _ _ _ c.head-h.ensures c.in-Ok.ensures.settled c.begun-self.result c.begun-self.ensures refl
    (no_record_is c.default.ensures) c.put_answer.ensures c.in-Ok.ensures.noted

pub returns-in-Err : goal.returns-in-Err
returns-in-Err c = settle_steps c.args.self.now _ _ _ c.head-h.ensures c.in-Err.ensures.settled c.begun-self-in-Err.result
    (sym (ap (λ (h : Head). work_of c.begun-self-in-Err.result h.table) c.head-h.ensures) ∙ c.begun-self-in-Err.ensures) c.from.ensures
    (no_record_is c.default-in-Err.ensures) c.put_answer-in-Err.ensures c.in-Err.ensures.noted
