-- A model: what the code computes. No door's promise cites it, and it need not be believed; but for `place`, `handle_ok` and `matches`, which that of `place_of` rests on.
-- When a handle is good, by the fields of its record. Assumes nothing.
use Rattle.std.specs.Prelude.{Bool, not, ◌&&◌, List, [], ℕ, eqb, Option, Some, None}
use Rattle.meaning.specs.Layout.{within, at}
use Rattle.meaning.specs.Doors.{Place, no_place}
use Rattle.meaning.specs.Pool.{records, n_slots, n_trees, tree_in, stamp_in}
use Rattle.name.specs.declared.name.Place.{Place as CodePlace}

-- the record of the slot is live in tree t and has the stamp g
unfoldable pub matches : ℕ → ℕ → List ℕ → Bool
matches t g r = not (eqb (tree_in r) 0) && (eqb (stamp_in r) g && eqb (tree_in r) t)

unfoldable pub handle_ok : List ℕ → ℕ → ℕ → ℕ → Bool
handle_ok b t x g = within 1 (n_trees b) t && (within 1 (n_slots b) x && matches t g (at [] (records b) x))

-- a place as the door says it, 0 and 0 for none
abbrev pub place : Option CodePlace → Place
place None = no_place
place (Some p) = record { at = p.at; len = p.len }
