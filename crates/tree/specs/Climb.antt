-- A model: what the code computes. No door's promise cites it, and it need not be believed.
-- What one turn of a climb leaves, on record bytes and a tree. Assumes nothing.
use Rattle.std.specs.Prelude.{ℕ, cond, List, Option, None, Some, ◌==◌}
use Rattle.avl.specs.Tree.{Dir}
use Rattle.tree.specs.Node.{way, side_n}
use Rattle.tree.specs.Rotate.{Store, Rotated}
use Rattle.tree.specs.declared.node.AvlTree.{AvlTree}
use Rattle.tree.specs.declared.spot.Spot.{Spot}
use Rattle.tree.specs.declared.climb.Step.{Step}
use Rattle.tree.specs.declared.climb.Step.TheVariants.{Done, On}

abbrev pub tree_in : Step → AvlTree
tree_in (Done t) = t
tree_in (On t at) = t

-- where the climb goes on
abbrev pub place_in : Step → Option (ℕ × Dir)
place_in (Done t) = None
place_in (On t at) = Some (at.parent, way at.side)

abbrev pub told : Step → AvlTree × Option (ℕ × Dir)
told s = (tree_in s, place_in s)

-- what the rest of a climb, `on`, leaves after a turn
abbrev pub rest : (List ℕ → AvlTree → ℕ → Dir → Store) → List ℕ → AvlTree → Option (ℕ × Dir) → Store
rest on m t None = (m, t)
rest on m t (Some at) = on m t at.0 at.1

abbrev pub left_by : (List ℕ → AvlTree → ℕ → Dir → Store) → List ℕ → Step → Store
left_by on m s = rest on m (tree_in s) (place_in s)

-- on to a place, unless it is below no record
abbrev pub to_n : AvlTree → Spot → Step
to_n t at = cond (at.parent == 0) (Done t) (On t at)

-- from x to its parent p, unless x is the root
abbrev pub up_n : List ℕ → AvlTree → ℕ → ℕ → AvlTree × Option (ℕ × Dir)
up_n m t x p = (t, cond (p == 0) None (Some (p, side_n m p x)))

-- a rotation's outcome, where the part hangs at a place, as a turn of the climb there
abbrev pub turned : List ℕ × Rotated → Spot → List ℕ × Step
turned o at = (o.0, cond o.1.level (Done o.1.tree) (On o.1.tree at))
