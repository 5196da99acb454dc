-- `has_word`: a row of tests.
use Rattle.judge.proofs.WalkSteps.{word_row}
use Rattle.judge.proofs.walk.Part.has_word.Goals as goal

pub returns : goal.returns
returns c = word_row _ _ _ _ _ c.row.ensures c.get.ensures c.rises.ensures c.rises-2.ensures
