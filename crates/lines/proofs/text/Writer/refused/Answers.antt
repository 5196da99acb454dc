-- `refused`: a word and a number.
use Rattle.std.proofs.Common.{arith}
use Rattle.lines.specs.Line.{refused_n}
use Rattle.lines.proofs.Writing.{second_fits, both_wrote}
use Rattle.lines.proofs.text.Writer.refused.Goals as goal

pub text-requires : goal.text-requires
unfolding refused_n
text-requires c = omega (arith, c.requires)

pub field-requires : goal.field-requires
unfolding refused_n
field-requires c = rw c.from.ensures (second_fits _ _ c.requires c.text.ensures)

pub returns : goal.returns
unfolding refused_n
returns c = both_wrote _ _ c.requires c.text.ensures (rw c.from.ensures at c.field.ensures)
