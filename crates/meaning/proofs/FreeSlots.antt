-- The free slot that an add takes, over the slots: it is the lowest free one, and there is none exactly if all are live. Assumes nothing.
use Rattle.std.proofs.Common.{◌≡◌, ℕ, zero, suc, ◌+◌, ◌<◌, ◌≤◌, List, [], ◌∷◌, length, get_or, refl, arith}
use Rattle.std.proofs.Math.Option.{Option, none, some}
use Rattle.meaning.specs.Layout.{count, at}
use Rattle.meaning.specs.Pool.{Rec, Pool, rec_at, is_live, live_count}
use Rattle.meaning.specs.Change.{free_from, free_slot}
use Rattle.meaning.specs.Refused.{◌exactly_if◌}
use Rattle.meaning.proofs.Packed.{count_high}

lower_live : (i : ℕ) (xs : List (Option Rec)) (j : ℕ) → i + j < free_from i xs → (r : Rec) × (get_or xs j none ≡ some r)
unfolding free_from
lower_live i [] j h = absurd (omega arith)
lower_live i (none ∷ xs) j h = absurd (omega arith)
lower_live i (some r ∷ xs) zero h = (r, refl)
lower_live i (some r ∷ xs) (suc j) h = lower_live (suc i) xs j (omega arith)

-- Every slot below the free one that is found is live.
pub below_free : (p : Pool) (y : ℕ) → 1 ≤ y → y < free_slot p → (r : Rec) × (rec_at p y ≡ some r)
unfolding free_slot rec_at at
below_free p zero l h = absurd (omega arith)
below_free p (suc j) l h = lower_live 1 p.slots j (omega arith)

all_full : (i : ℕ) (xs : List (Option Rec)) → 1 ≤ i → (free_from i xs ≡ 0) exactly_if (count is_live xs ≡ length xs)
unfolding free_from count is_live
all_full i [] h = (λ _. refl, λ _. refl)
all_full i (none ∷ xs) h = (λ e. absurd (omega arith), λ e. absurd (omega (arith, count_high is_live xs)))
all_full i (some r ∷ xs) h =
    let k = all_full (suc i) xs (omega arith) in
    (λ e. omega (arith, k.0 e), λ e. k.1 (omega arith))

-- None is found exactly if as many are live as there are.
pub none_free : (p : Pool) → (free_slot p ≡ 0) exactly_if (live_count p ≡ length p.slots)
unfolding free_slot live_count
none_free p = all_full 1 p.slots (omega arith)
