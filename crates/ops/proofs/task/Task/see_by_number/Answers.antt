-- `see_by_number`: what is no op that shows is refused.
use Rattle.std.proofs.lemmas.Result.{err_from_is_err_and}
use Rattle.ops.specs.declared.op.Op.TheVariants as kind
use Rattle.ops.proofs.OpNumbers.{NotShown, alter_not_shown, settle_not_shown, no_show, of_others}
use Rattle.ops.proofs.task.Task.see_by_number.Goals as goal

pub returns-in_err-op : goal.returns-in_err-op
returns-in_err-op c =
    let p = err_from_is_err_and c.from_residual.result c.from_residual.ensures.1 in
    rw (p.1, p.2, c.in_err-op.ensures.0) (no_show _ c.in_err-op.ensures.1 _ _ _ _ _)

pub returns-in-Alter : goal.returns-in-Alter
returns-in-Alter c =
    rw c.from.ensures (of_others (NotShown _ _ _ _ _) kind.Alter kind.Settle c.in_ok-op.op c.in_ok-op.ensures (alter_not_shown _ _ _ _ _) (settle_not_shown _ _ _ _ _) c.in-Alter.is)
