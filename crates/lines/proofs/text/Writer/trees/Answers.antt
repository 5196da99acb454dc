-- `trees`: the loop writes a tree a turn.
use Rattle.std.proofs.Common.{arith}
use Rattle.lines.proofs.LineSteps.{tree_turn}
use Rattle.lines.proofs.text.Writer.trees.Goals as goal

pub loop-t-preserved : goal.loop-t-preserved
loop-t-preserved c = tree_turn _ _ _ c.loop-t.invariant (omega arith) c.tree.ensures
