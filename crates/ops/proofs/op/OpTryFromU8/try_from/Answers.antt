-- `try_from`: a number that is none of the ops'.
use Rattle.std.proofs.Common.{rules, refl}
use Rattle.ops.proofs.OpNumbers.{none_of_all}
use Rattle.ops.proofs.op.OpTryFromU8.try_from.Goals as goal

pub returns-in_default : goal.returns-in_default
returns-in_default c = (refl, none_of_all c.args.n (search rules))
