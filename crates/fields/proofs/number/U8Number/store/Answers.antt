-- The one store.
use Rattle.std.proofs.Common.{sym, arith}
use Rattle.fields.proofs.Numbers.{put_one}
use Rattle.fields.proofs.number.U8Number.store.Goals as goal

pub returns : goal.returns
returns c = sym (put_one _ _ (omega arith) c.ranges.self.fits)
