-- `height`: the way from here on is the way from the root.
use Rattle.meaning.specs.Layout.{concat}
use Rattle.std.proofs.Common.{length}
use Rattle.judge.proofs.WalkSteps.{Climbing}
use Rattle.judge.proofs.walk.Tree.height.Given as goal

abbrev pub invariant-loop-height : goal.invariant-loop-height
invariant-loop-height l = Climbing (concat l.self.records.rows.now) (length l.self.records.rows.now) l.root l.height l.x
