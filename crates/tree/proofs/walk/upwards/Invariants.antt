-- `upwards`: what is left of the walk leads to the same record.
use Rattle.std.proofs.Common.{◌≡◌, ◌-◌}
use Rattle.tree.specs.Node.{way}
use Rattle.tree.specs.Walk.{levels, up_n}
use Rattle.tree.proofs.walk.upwards.Given as goal

abbrev pub invariant-loop-level : goal.invariant-loop-level
invariant-loop-level l =
    up_n (levels - l._level) l.nodes l.at.parent (way l.at.side) (way l.d) ≡ up_n levels l.nodes l.initial.at.parent (way l.initial.at.side) (way l.d)
