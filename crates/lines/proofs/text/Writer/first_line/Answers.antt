-- `first_line`: a word, four numbers with a space behind each, and one with a newline.
use Rattle.lines.specs.Line.{first_n}
use Rattle.lines.proofs.Writing.{two_fits, three_fits, three_wrote}
use Rattle.lines.proofs.LineSteps.{word_fits}
use Rattle.lines.proofs.text.Writer.first_line.Goals as goal

pub text-requires : goal.text-requires
text-requires c = word_fits c.args.self.now _ c.requires

pub fields-requires : goal.fields-requires
unfolding first_n
fields-requires c = two_fits _ _ _ c.requires c.text.ensures

pub field-requires : goal.field-requires
unfolding first_n
field-requires c = three_fits _ _ _ c.requires c.text.ensures c.fields.ensures

pub returns : goal.returns
unfolding first_n
returns c = three_wrote _ _ _ c.requires c.text.ensures c.fields.ensures c.field.ensures
