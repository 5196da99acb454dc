-- `climb`: what is left of the climb gives the same.
use Rattle.std.proofs.Common.{◌≡◌, ◌-◌}
use Rattle.tree.specs.Node.{way}
use Rattle.tree.specs.Walk.{levels}
use Rattle.tree.proofs.climb.climb.Given as goal

abbrev pub invariant-loop-turn : goal.invariant-loop-turn
invariant-loop-turn g l =
    g.T.Turn.climbed (levels - l._turn) l.nodes l.tree l.at.parent (way l.at.side)
    ≡ g.T.Turn.climbed levels l.initial.nodes l.initial.tree l.initial.at.parent (way l.initial.at.side)
