-- `line`: six numbers with a space behind each, the name, a newline.
use Rattle.lines.proofs.Writing.{first_fits, two_fits, three_fits, three_wrote}
use Rattle.lines.proofs.LineSteps.{line_is}
use Rattle.lines.proofs.text.Writer.line.Goals as goal

pub fields-requires : goal.fields-requires
fields-requires c = first_fits c.args.self.now _ _ (rw (line_is _ _ _ _ c.record_at-v.ensures c.get_parent.ensures c.get_balance.ensures) at c.requires)

pub name-requires : goal.name-requires
name-requires c = two_fits _ _ _ (rw (line_is _ _ _ _ c.record_at-v.ensures c.get_parent.ensures c.get_balance.ensures) at c.requires) c.fields.ensures

pub byte-requires : goal.byte-requires
byte-requires c =
    three_fits _ _ _ (rw (line_is _ _ _ _ c.record_at-v.ensures c.get_parent.ensures c.get_balance.ensures) at c.requires) c.fields.ensures c.name.ensures

pub returns : goal.returns
returns c =
    rw (line_is _ _ _ _ c.record_at-v.ensures c.get_parent.ensures c.get_balance.ensures)
    (three_wrote _ _ _ (rw (line_is _ _ _ _ c.record_at-v.ensures c.get_parent.ensures c.get_balance.ensures) at c.requires) c.fields.ensures c.name.ensures c.byte.ensures)
