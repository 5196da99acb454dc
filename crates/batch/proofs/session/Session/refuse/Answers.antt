-- `refuse`: the cursor as the refusal says, and the answer without a record.
use Rattle.slots.proofs.RecordSteps.{no_record_is}
use Rattle.batch.proofs.SessionSteps.{refuse_steps}
use Rattle.batch.proofs.session.Session.refuse.Goals as goal

pub returns : goal.returns
returns c = refuse_steps c.args.self.now _ c.args.c c.args.r c.refused-self.result c.refused-self.ensures c.kind-kind.ensures c.from.ensures (no_record_is c.default.ensures) c.put_answer.ensures
