-- `text`: a copy.
use Rattle.std.proofs.Common.{refl}
use Rattle.lines.proofs.Writing.{text_there}
use Rattle.lines.proofs.text.Writer.text.Goals as goal

pub returns : goal.returns
returns c = record { buffer = refl; is = text_there _ _ _ c.copy_in.ensures }
