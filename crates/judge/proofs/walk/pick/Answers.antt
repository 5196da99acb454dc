-- `pick`: its two answers, by the link.
use Rattle.judge.specs.Check.{pick_n}
use Rattle.std.proofs.Common.{eq-eqb, ne_eqb}
use Rattle.judge.proofs.walk.pick.Goals as goal

pub returns-then-x-eq0 : goal.returns-then-x-eq0
unfolding pick_n
returns-then-x-eq0 c = simp (eq-eqb _ _ c.if-x-eq0.true)

pub returns-else-x-eq0 : goal.returns-else-x-eq0
unfolding pick_n
returns-else-x-eq0 c = simp (ne_eqb _ _ c.if-x-eq0.false)
