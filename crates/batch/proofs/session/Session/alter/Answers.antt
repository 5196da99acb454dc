-- `alter`: the record added or removed, its tree and its entry, or a refusal.
use Rattle.batch.proofs.SessionSteps.{alter_steps, alter_refused}
use Rattle.batch.proofs.session.Session.alter.Goals as goal

pub returns-in-Ok : goal.returns-in-Ok
returns-in-Ok c = alter_steps c.args.self.now _ c.args.c _ _ _ c.task.ensures c.in-Ok.s c.in-Ok.ensures c.changed-self.result c.changed-self.ensures c.set_tree.ensures c.entry.ensures c.push.ensures.items
    c.kind-kind.ensures c.moved.ensures c.put_answer.ensures

pub returns-in-Err : goal.returns-in-Err
returns-in-Err c = alter_refused c.args.self.now _ c.args.c _ _ _ c.task.ensures c.in-Err.r c.in-Err.ensures c.refuse.ensures
