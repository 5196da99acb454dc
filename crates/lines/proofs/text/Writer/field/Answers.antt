-- `field`: a number, then a byte.
use Rattle.lines.specs.Text.{field}
use Rattle.lines.proofs.Writing.{first_fits, second_fits, both_wrote}
use Rattle.lines.proofs.text.Writer.field.Goals as goal

pub decimal-requires : goal.decimal-requires
unfolding field
decimal-requires c = first_fits c.args.self.now _ _ c.requires

pub byte-requires : goal.byte-requires
unfolding field
byte-requires c = second_fits _ _ c.requires c.decimal.ensures

pub returns : goal.returns
unfolding field
returns c = both_wrote _ _ c.requires c.decimal.ensures c.byte.ensures
