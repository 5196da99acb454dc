-- A model: what the code computes. No door's promise cites it, and it need not be believed.
-- What a pass over the records of a pool tells, and what the judgement of the pool does. Assumes nothing.
use Rattle.std.specs.Prelude.{Bool, cond, List, [], ◌∷◌, ℕ, suc, ◌+◌, eqb, leb, ltb, drop, Option, Some, None, Result, Ok, Err}
use Rattle.fields.specs.Part.{zeros}
use Rattle.meaning.specs.Layout.{within, all}
use Rattle.meaning.specs.Pool.{tree_in, stamp_in, start_in, len_in, live_count, read}
use Rattle.meaning.specs.Change.{free_slot}
use Rattle.meaning.specs.Sound.{sound}
use Rattle.format.specs.declared.refusal.Refusal.{Refusal}
use Rattle.format.specs.declared.refusal.Refusal.TheVariants.{Damaged}
use Rattle.judge.specs.declared.verdict.Census.{Census}

-- a record is free and zero, or live, and then good but for its balance and its tree: that the walks meet every live record says the rest
unfoldable pub live_in : ℕ → ℕ → List ℕ → Bool
live_in used next r =
    all (leb 1 (stamp_in r) ∷ ltb (stamp_in r) next ∷ within 1 255 (len_in r) ∷ leb (start_in r + len_in r) used ∷ zeros (drop 26 r) ∷ [])

unfoldable pub record_in : ℕ → ℕ → List ℕ → Bool
record_in used next r = cond (eqb (tree_in r) 0) (zeros r) (live_in used next r)

-- whether all are good, how many are live, and the lowest free slot, 0 for none: of the rows from slot x on, after `live` and `free`
unfoldable pub counted : ℕ → ℕ → ℕ → ℕ → ℕ → List (List ℕ) → Option Census
counted used next x live free [] = Some (record { live = live; free = free })
counted used next x live free (r ∷ rs) =
    let taken = counted used next (suc x) (live + 1) free rs in
    let vacant = counted used next (suc x) live (cond (eqb free 0) x free) rs in
    cond (record_in used next r) (cond (eqb (tree_in r) 0) vacant taken) None

-- what is known of a pool once it is judged: whether it is sound, and then how many records are live and the lowest free slot
unfoldable pub judged : List ℕ → Result Census Refusal
judged b = cond (sound b) (Ok (record { live = live_count (read b); free = free_slot (read b) })) (Err Damaged)
