-- `trees_ok`: the check of the trees that are left is the check of all.
use Rattle.meaning.specs.Layout.{concat}
use Rattle.std.proofs.Common.{length}
use Rattle.judge.proofs.CheckSteps.{Passed}
use Rattle.judge.proofs.verdict.trees_ok.Given as goal

abbrev pub invariant-loop-i : goal.invariant-loop-i
invariant-loop-i l = Passed (concat l.records.rows.now) (length l.records.rows.now) l.live l.entries l.i l.total
