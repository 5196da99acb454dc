-- `climb`: what is left of the climb gives the same.
use Rattle.std.proofs.Common.{sym, ◌∙◌}
use Rattle.tree.proofs.Loops.{one_more, none_left}
use Rattle.tree.proofs.climb.climb.Goals as goal

pub returns-in-Done : goal.returns-in-Done
returns-in-Done g c = sym (c.in-Done.ensures _) ∙ rw (one_more c.loop-turn._turn c.loop-turn-test.true) at c.loop-turn.invariant

pub loop-turn-preserved : goal.loop-turn-preserved
loop-turn-preserved g c = sym (c.in-On.ensures _) ∙ rw (one_more c.loop-turn._turn c.loop-turn-test.true) at c.loop-turn.invariant

pub returns : goal.returns
returns g c =
    sym (g.met.T.Turn.still _ _ _ _) ∙ rw (none_left c.loop-turn._turn c.loop-turn-test.false) at c.loop-turn.invariant
