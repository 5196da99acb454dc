-- Ops within bounds: what holds at every number within them holds at any op that is. Assumes nothing.
use Rattle.std.proofs.Common.{◌≡◌, ℕ, zero, suc, ◌+◌, ◌-◌, ◌<◌, ◌≤◌, Bool, true, false, ◌||◌, eqb, List, [], ◌∷◌, ◌++◌, refl, subst, arith, eqb-true}
use Rattle.std.proofs.lemmas.Bool.{eqb-false}
use Rattle.avl.specs.Order.{All, more}
use Rattle.avl.proofs.Sorting.{all_front, all_back}
use Rattle.meaning.specs.Layout.{within, span}
use Rattle.meaning.specs.Command.{among}
use Rattle.meaning.proofs.Facts.{test}
use Rattle.meaning.proofs.Clauses.{within_is}
use Rattle.meaning.proofs.Tables.{never}

-- the numbers within bounds
abbrev pub numbers : List (ℕ × ℕ) → List ℕ
numbers [] = []
numbers (r ∷ rs) = span r.0 (suc r.1 - r.0) ++ numbers rs

-- What holds at all of n numbers from i on holds at any of them.
pub all_span : (P : ℕ → Type 0) (i n x : ℕ) → i ≤ x → x < i + n → All P (span i n) → P x
unfolding span
all_span P i zero x l h a = absurd (omega arith)
all_span P i (suc n) x l h (more p a) =
    test (eqb i x) (λ e. subst P (eqb-true i x e) p) (λ e. all_span P (suc i) n x (omega (arith, eqb-false i x e)) (omega arith) a)

-- What holds at all of them holds at any that is within.
pub among_all : (P : ℕ → Type 0) (rs : List (ℕ × ℕ)) (n : ℕ) → among rs n ≡ true → All P (numbers rs) → P n
unfolding among
among_all P [] n h a = never h refl
among_all P (r ∷ rs) n h a = go (within r.0 r.1 n) refl (among_all P rs n) h
  where
    go : (b : Bool) → within r.0 r.1 n ≡ b → (among rs n ≡ true → All P (numbers rs) → P n) → (b || among rs n) ≡ true → P n
    go true e f i =
        let k = within_is r.0 r.1 n e in
        all_span P r.0 (suc r.1 - r.0) n k.0 (omega arith) (all_front (span r.0 (suc r.1 - r.0)) (numbers rs) a)
    go false e f i = f i (all_back (span r.0 (suc r.1 - r.0)) (numbers rs) a)
