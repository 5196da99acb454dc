-- `show`: the record shown, or a refusal.
use Rattle.batch.proofs.SessionSteps.{show_steps, show_refused}
use Rattle.batch.proofs.session.Session.show.Goals as goal

pub returns-in-Ok : goal.returns-in-Ok
returns-in-Ok c = show_steps c.args.self.now _ c.args.c _ _ c.task.ensures c.in-Ok.s c.in-Ok.ensures c.seen-self.result c.seen-self.ensures c.kind-kind.ensures c.record_at.ensures c.put_answer.ensures

pub returns-in-Err : goal.returns-in-Err
returns-in-Err c = show_refused c.args.self.now _ c.args.c _ _ c.task.ensures c.in-Err.r c.in-Err.ensures c.refuse.ensures
