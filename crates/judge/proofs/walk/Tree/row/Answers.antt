-- `row`: the row of a slot is where the models read it.
use Rattle.judge.proofs.Flat.{row_is}
use Rattle.judge.proofs.walk.Tree.row.Goals as goal

pub returns : goal.returns
returns c = row_is _ c.args.self.records.wide _ c.requires.0 c.requires.1
