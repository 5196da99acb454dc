-- Determinism where a promise speaks of a place by the view `place` and of whether there is one: two results that it allows are equal. Assumes nothing.
use Rattle.std.specs.Prelude.{Bool, true, false, Option, Some, None, is_some}
use Rattle.std.proofs.Common.{◌≡◌, sym, refl, ◌∙◌, ap₂}
use Rattle.meaning.specs.Doors.{Place}
use Rattle.name.specs.Name.{place}
use Rattle.name.specs.declared.name.Place.{Place as CodePlace}

-- from the view, and whether there is a place, back to the code's
back : Place → Bool → Option CodePlace
back p false = None
back p true = Some (record { at = p.at; len = p.len })

back_of : (r : Option CodePlace) → back (place r) (is_some r) ≡ r
unfolding back
back_of None = refl
back_of (Some p) = refl

-- `place_of`: two results of one view, both found or both not, are equal.
pub place_determined : (r q : Option CodePlace) → place r ≡ place q → is_some r ≡ is_some q → r ≡ q
place_determined r q places found = sym (back_of r) ∙ ap₂ back places found ∙ back_of q
