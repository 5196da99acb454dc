-- `trees_ok`: the check of the trees that are left is the check of all.
use Rattle.std.proofs.Common.{sym, ◌∙◌, arith}
use Rattle.judge.proofs.CheckSteps.{pass_end, pass_other, pass_on}
use Rattle.judge.proofs.verdict.trees_ok.Goals as goal

pub returns-then-ne : goal.returns-then-ne
returns-then-ne c =
    pass_other c.loop-i.invariant (omega arith) c.get-root.ensures c.get-count.ensures _ c.check_tree.ensures (sym c.ne.ensures ∙ c.if-ne.true)

pub loop-i-preserved : goal.loop-i-preserved
loop-i-preserved c =
    pass_on c.loop-i.invariant (omega arith) c.get-root.ensures c.get-count.ensures _ c.check_tree.ensures (sym c.ne.ensures ∙ c.if-ne.false)
    (omega arith)

pub returns : goal.returns
returns c = pass_end c.loop-i.invariant c.loop-i-test.false
