-- `is_match`: a row of tests.
use Rattle.name.proofs.NameSteps.{match_row}
use Rattle.name.proofs.name.is_match.Goals as goal

pub returns : goal.returns
returns c = match_row _ _ _ c.get-tree.ensures c.get.ensures
