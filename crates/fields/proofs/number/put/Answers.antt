-- Outside, a store of any width changes nothing.
use Rattle.std.proofs.Common.{sym, arith}
use Rattle.fields.proofs.Numbers.{put_out}
use Rattle.fields.proofs.Parts.{outside}
use Rattle.fields.proofs.number.put.Goals as goal

pub returns-else-within : goal.returns-else-within
returns-else-within g c = sym (put_out _ _ _ _ (omega (arith, c.WIDTH.ensures, outside _ _ c.within.ensures c.if-within.false)))
