-- Two loads of half the width, by the law of halves.
use Rattle.std.proofs.Common.{arith}
use Rattle.fields.proofs.Numbers.{load_joined}
use Rattle.fields.proofs.number.U16Number.load.Goals as goal

pub returns : goal.returns
returns c = load_joined 1 _ _ c.load.ensures c.load-2.ensures (omega arith)
