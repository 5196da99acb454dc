-- `bottom_child`: what is left of the walk leads to the same record.
use Rattle.std.proofs.Common.{◌≡◌, ◌-◌}
use Rattle.tree.specs.Node.{way}
use Rattle.tree.specs.Walk.{levels, bottom_n}
use Rattle.tree.proofs.walk.bottom_child.Given as goal

abbrev pub invariant-loop-level : goal.invariant-loop-level
invariant-loop-level l = bottom_n (levels - l._level) l.nodes l.at (way l.d) ≡ bottom_n levels l.nodes l.s (way l.d)
