-- Two stores of half the width, by the law of halves.
use Rattle.std.proofs.Common.{arith}
use Rattle.fields.proofs.Numbers.{store_joined}
use Rattle.fields.proofs.number.U32Number.store.Goals as goal

pub returns : goal.returns
returns c = store_joined 2 _ _ _ c.store.ensures c.store-2.ensures (omega arith)
