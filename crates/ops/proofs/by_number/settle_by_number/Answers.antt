-- `settle_by_number`: what is no op that settles is refused.
use Rattle.std.proofs.lemmas.Result.{err_from_is_err_and}
use Rattle.ops.specs.declared.op.Op.TheVariants as kind
use Rattle.ops.proofs.OpNumbers.{NotSettled, show_not_settled, alter_not_settled, not_settled, of_others}
use Rattle.ops.proofs.by_number.settle_by_number.Goals as goal

pub returns-in_err-op : goal.returns-in_err-op
returns-in_err-op c =
    let p = err_from_is_err_and c.from_residual.result c.from_residual.ensures.1 in
    rw (p.1, p.2, c.in_err-op.ensures.0) (not_settled _ _ _ _ c.in_err-op.ensures.1)

pub returns-in-Show : goal.returns-in-Show
returns-in-Show c =
    of_others (NotSettled _ _ _) kind.Show kind.Alter c.in_ok-op.op c.in_ok-op.ensures (show_not_settled _ _ _) (alter_not_settled _ _ _) c.in-Show.is
