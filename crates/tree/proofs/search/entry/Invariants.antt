-- `entry`: what is left of the search ends at the same place.
use Rattle.std.proofs.Common.{◌≡◌, ◌-◌}
use Rattle.avl.specs.Tree.{right}
use Rattle.tree.specs.Node.{way}
use Rattle.tree.specs.Walk.{levels}
use Rattle.tree.specs.Search.{seek_n}
use Rattle.tree.proofs.search.entry.Given as goal

abbrev pub invariant-loop-compared : goal.invariant-loop-compared
invariant-loop-compared l =
    seek_n (levels - l.compared) l.nodes l.key l.at l.spot.parent (way l.spot.side) l.compared ≡ seek_n levels l.nodes l.key l.initial.at 0 right 0
