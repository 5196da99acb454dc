-- `byte`: the one store.
use Rattle.std.proofs.Common.{refl}
use Rattle.lines.proofs.Writing.{byte_there}
use Rattle.lines.proofs.text.Writer.byte.Goals as goal

pub returns : goal.returns
returns c = record { buffer = refl; is = byte_there _ _ _ c.requires }
