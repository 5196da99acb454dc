-- The table of refusals read off in two ways: the number given is that of the first row that applies; and for each op the tests made at it, in
-- their order. Assumes nothing.
use Rattle.std.proofs.Common.{◌≡◌, ℕ, zero, suc, ◌<◌, ◌≤◌, Bool, true, false, cond, not, ◌&&◌, eqb, leb, List, [], ◌∷◌, length, take, sym, refl, ap, ◌∙◌, arith, eq-eqb, eqb-true, le-leb}
use Rattle.std.proofs.Math.Bool.{beq}
use Rattle.std.proofs.lemmas.Bool.{not-true}
use Rattle.avl.specs.Order.{All, nil, more}
use Rattle.meaning.specs.Layout.{within, every, span}
use Rattle.meaning.specs.Cursor.{Command, State}
use Rattle.meaning.specs.Command.{always, among, unknown, adding, Refusal, refuse◌at◌if◌, refusals, first_of, refusal}
use Rattle.meaning.specs.Refused.{◌exactly_if◌, applies, none_of, none_before, RefusedBy, first_met, tests_of, tests_in}
use Rattle.meaning.proofs.Clauses.{within_is}
use Rattle.meaning.proofs.Facts.{both, both_true, every_span}
use Rattle.meaning.proofs.Tables.{never, row_in, every_op}

-- ---- the first row that applies

-- row i applies and none before it does
abbrev FirstAt : List Refusal → ℕ → ℕ → State → Command → Type 0
FirstAt rs i o s c = ((row_in rs i).ops o ≡ true) × ((row_in rs i).given s c ≡ true) × (none_of (take i rs) o s c ≡ true)

module _ (o : ℕ) (s : State) (c : Command) where
  first_number : (rs : List Refusal) (i : ℕ) → i < length rs → FirstAt rs i o s c → first_of rs o s c ≡ (row_in rs i).number
  unfolding first_of row_in none_of applies every
  first_number [] i l h = absurd (omega arith)
  first_number (r ∷ rs) zero l h =
      ap (λ (b : Bool). cond b r.number (first_of rs o s c)) (both_true (r.ops o) (r.given s c) h.0 h.1)
  first_number (r ∷ rs) (suc i) l h =
      let k = both (not (r.ops o && r.given s c)) (none_of (take i rs) o s c) h.2 in
      ap (λ (b : Bool). cond b r.number (first_of rs o s c)) (not-true (r.ops o && r.given s c) k.0)
      ∙ first_number rs i (omega arith) (h.0, h.1, k.1)

  number_first : (rs : List Refusal) → (first_of rs o s c ≡ 0 → ⊥) → (i : ℕ) × (i < length rs) × ((row_in rs i).number ≡ first_of rs o s c) × FirstAt rs i o s c
  unfolding first_of row_in none_of applies every
  number_first [] n = absurd (n refl)
  number_first (r ∷ rs) n = go (r.ops o && r.given s c) refl (number_first rs) n
    where
      go : (b : Bool) → (r.ops o && r.given s c) ≡ b
          → ((first_of rs o s c ≡ 0 → ⊥) → (i : ℕ) × (i < length rs) × ((row_in rs i).number ≡ first_of rs o s c) × FirstAt rs i o s c)
          → (cond b r.number (first_of rs o s c) ≡ 0 → ⊥)
          → (i : ℕ) × (i < suc (length rs)) × ((row_in (r ∷ rs) i).number ≡ cond b r.number (first_of rs o s c)) × FirstAt (r ∷ rs) i o s c
      go true e f n = let k = both (r.ops o) (r.given s c) e in (0, omega arith, refl, (k.0, k.1, refl))
      go false e f n =
          let k = f n in
          let g = both_true (not (r.ops o && r.given s c)) (none_of (take k.0 rs) o s c) (ap not e) k.3.2 in
          (suc k.0, omega (arith, k.1), k.2, (k.3.0, k.3.1, g))

-- row i of the table applies to the command, and none before it does
abbrev pub Refuses : ℕ → State → Command → Type 0
Refuses i s c = RefusedBy (row_in refusals i).ops (row_in refusals i).given i s c

-- one of the rows from lo to hi does
pub record RefusesOneOf (lo hi : ℕ) (s : State) (c : Command) : Type 0 where
  pub row : ℕ
  pub low : lo ≤ row
  pub high : row ≤ hi
  pub refuses : Refuses row s c

-- the rows that have the number n are those from lo to hi
abbrev pub HaveNumber : ℕ → ℕ → ℕ → Type 0
HaveNumber lo hi n = every (λ i. beq (eqb (row_in refusals i).number n) (within lo hi i)) (span 0 (length refusals)) ≡ true

beq_true : (a b : Bool) → beq a b ≡ true → a ≡ b
beq_true true true h = refl
beq_true true false h = never h refl
beq_true false true h = never h refl
beq_true false false h = refl

-- A number is given exactly if a row that has it applies, and none before that row does.
pub number_rows : (n lo hi : ℕ) → 1 ≤ n → hi < length refusals → HaveNumber lo hi n → (s : State) (c : Command) → (refusal s c ≡ n) exactly_if RefusesOneOf lo hi s c
unfolding refusal refusals none_before within
number_rows n lo hi l b h s c = (there, back)
  where
    same : (i : ℕ) → i < length refusals → eqb (row_in refusals i).number n ≡ within lo hi i
    same i k =
        beq_true (eqb (row_in refusals i).number n) (within lo hi i)
        (every_span (λ i. beq (eqb (row_in refusals i).number n) (within lo hi i)) 0 (length refusals) i (omega arith) (omega arith) h)

    there : first_of refusals c.op s c ≡ n → RefusesOneOf lo hi s c
    there e =
        let k = number_first c.op s c refusals (λ z. omega (arith, e, z)) in
        let w = within_is lo hi k.0 (sym (same k.0 k.1) ∙ eq-eqb (row_in refusals k.0).number n (k.2 ∙ e)) in
        record { row = k.0; low = w.0; high = w.1; refuses = record { asked = k.3.0; holds = k.3.1; first = k.3.2 } }

    back : RefusesOneOf lo hi s c → first_of refusals c.op s c ≡ n
    back r =
        let i = r.row in
        let k = r.refuses in
        let g : i < length refusals = omega (arith, r.high) in
        first_number c.op s c refusals i g (k.asked, k.holds, k.first)
        ∙ eqb-true (row_in refusals i).number n (same i g ∙ both_true (leb lo i) (leb i hi) (le-leb lo i r.low) (le-leb i hi r.high))

-- The number given is that of a row, so it lies within whatever bounds all rows' numbers do.
pub row_numbers : (lo hi : ℕ) → every (λ i. within lo hi (row_in refusals i).number) (span 0 (length refusals)) ≡ true → (s : State) (c : Command)
    → (refusal s c ≡ 0 → ⊥) → (lo ≤ refusal s c) × (refusal s c ≤ hi)
unfolding refusal refusals
row_numbers lo hi h s c n =
    let k = number_first c.op s c refusals n in
    let w = within_is lo hi (row_in refusals k.0).number
    (every_span (λ i. within lo hi (row_in refusals i).number) 0 (length refusals) k.0 (omega arith) (omega (arith, k.1)) h) in
    (omega (arith, w.0, k.2), omega (arith, w.1, k.2))

-- ---- the tests made at each op

-- At each op the table of refusals is the row of its tests.
pub tests_at : (s : State) (c : Command) → All (λ n. first_of refusals n s c ≡ first_met (tests_in tests_of n) s c) every_op
unfolding span first_of refusals refuse◌at◌if◌ within unknown adding among always first_met tests_in tests_of
tests_at s c =
    more refl (more refl (more refl (more refl (more refl (more refl (more refl (more refl (more refl (more refl (more refl (more refl (more refl
    (more refl (more refl (more refl (more refl (more refl (more refl (more refl (more refl (more refl (more refl (more refl (more refl (more refl
    (more refl (more refl (more refl nil))))))))))))))))))))))))))))
