-- `record_ok`: its two answers, each by the test of the tree.
use Rattle.std.proofs.Common.{arith}
use Rattle.judge.proofs.ClauseSteps.{record_free, record_live}
use Rattle.judge.proofs.rows.record_ok.Goals as goal

pub returns-then-get-eq0 : goal.returns-then-get-eq0
returns-then-get-eq0 c = record_free _ _ _ c.get.ensures c.if-get-eq0.true (omega arith) c.all_zero.ensures

pub returns-else-get-eq0 : goal.returns-else-get-eq0
returns-else-get-eq0 c = record_live _ _ _ c.get.ensures c.if-get-eq0.false c.live_ok.ensures
