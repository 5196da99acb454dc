-- Determinism where a promise speaks of a side by the view `way`: two results that such a promise allows are equal. Assumes nothing.
use Rattle.std.proofs.Common.{◌≡◌, ℕ, Option, None, Some, sym, refl, ap, ◌∙◌}
use Rattle.avl.specs.Tree.{Dir, left, right}
use Rattle.tree.specs.Node.{way}
use Rattle.tree.specs.Search.{Ending}
use Rattle.tree.specs.Climb.{told}
use Rattle.tree.specs.declared.dir.Dir.{Dir as CodeDir}
use Rattle.tree.specs.declared.dir.Dir.TheVariants.{Left, Right}
use Rattle.tree.specs.declared.node.AvlTree.{AvlTree}
use Rattle.tree.specs.declared.climb.Step.{Step}
use Rattle.tree.specs.declared.climb.Step.TheVariants.{Done, On}
use Rattle.tree.specs.declared.spot.Spot.{Spot}
use Rattle.tree.specs.declared.search.Place.{Place}

-- from a side back to the code's
pub side : Dir → CodeDir
side left = Left
side right = Right

pub side_of_lem : (d : CodeDir) → side (way d) ≡ d
unfolding side
side_of_lem Left = refl
side_of_lem Right = refl

-- `reverse`, `parent_direction`: a side.
pub side_determined : (s : Dir) (d e : CodeDir) → way d ≡ s → way e ≡ s → d ≡ e
side_determined s d e first second = sym (side_of_lem d) ∙ ap side (first ∙ sym second) ∙ side_of_lem e

-- `beside`: an empty place, by the record that it is below and the side there.
pub spot_determined : (z : ℕ × Dir) (r q : Spot) → (r.parent, way r.side) ≡ z → (q.parent, way q.side) ≡ z → r ≡ q
spot_determined z r q first second =
    let same = first ∙ sym second in
    let sides = side_determined (way q.side) r.side q.side (ap (λ (y : ℕ × Dir). y.1) same) refl in
    ap (λ (p : ℕ). record { parent = p; side = r.side }) (ap (λ (y : ℕ × Dir). y.0) same) ∙ ap (λ (s : CodeDir). record { parent = q.parent; side = s }) sides

-- `entry`: where a search ends.
abbrev ending : Place → Ending
ending r = record { slot = r.slot; above = r.spot.parent; side = way r.spot.side; compared = r.compared }

abbrev back : Ending → Spot → Place
back z s = record { slot = z.slot; spot = s; compared = z.compared }

pub place_determined : (z : Ending) (r q : Place) → ending r ≡ z → ending q ≡ z → r ≡ q
place_determined z r q first second =
    let same = first ∙ sym second in
    let spots = spot_determined (q.spot.parent, way q.spot.side) r.spot q.spot (ap (λ (y : Ending). (y.above, y.side)) same) refl in
    ap (λ (y : Ending). back y r.spot) same ∙ ap (back (ending q)) spots

-- `Step::up`: what a turn of a climb leaves.
abbrev resumed : AvlTree → Option (ℕ × Dir) → Step
resumed t None = Done t
resumed t (Some at) = On t (record { parent = at.0; side = side at.1 })

told_back : (s : Step) → resumed (told s).0 (told s).1 ≡ s
told_back (Done t) = refl
told_back (On t at) = ap (λ (d : CodeDir). On t (record { parent = at.parent; side = d })) (side_of_lem at.side)

pub step_determined : (z : AvlTree × Option (ℕ × Dir)) (r q : Step) → told r ≡ z → told q ≡ z → r ≡ q
step_determined z r q first second =
    sym (told_back r) ∙ ap (λ (y : AvlTree × Option (ℕ × Dir)). resumed y.0 y.1) (first ∙ sym second) ∙ told_back q
