-- The byte itself.
use Rattle.std.proofs.Common.{sym, arith}
use Rattle.fields.proofs.Numbers.{get_byte}
use Rattle.fields.proofs.number.U8Number.load.Goals as goal

pub returns : goal.returns
returns c = sym (get_byte _ _ (omega arith))
