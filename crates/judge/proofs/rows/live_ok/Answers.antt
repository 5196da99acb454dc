-- `live_ok`: a row of tests.
use Rattle.std.proofs.Common.{arith}
use Rattle.judge.proofs.ClauseSteps.{live_row}
use Rattle.judge.proofs.rows.live_ok.Goals as goal

pub returns : goal.returns
returns c =
    live_row _ _ _ (omega arith) c.get-stamp.ensures c.get-wide.ensures c.get.ensures c.get-2.ensures
