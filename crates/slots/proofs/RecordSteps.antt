-- The default record, a slot and an answer by their own rows, and the search for a free slot turn by turn. Assumes nothing.
use Rattle.std.proofs.Common.{◌≡◌, ℕ, suc, ◌+◌, ◌-◌, ◌*◌, ◌<◌, ◌≤◌, cond, eqb, List, ◌++◌, length, take, drop, sym, refl, ap, ◌∙◌, add-zero, arith, eq-eqb, ne_eqb}
use Rattle.fields.specs.Number.{get_le}
use Rattle.fields.proofs.Spans.{get_part, span_lent, span_first, span_put}
use Rattle.slots.specs.Record.{no_record, fields_at, record_n, fields_put, fill_n, lowest_n}
use Rattle.slots.specs.Answer.{put_answer_n}
use Rattle.slots.specs.declared.record.Record.{Record}

-- What a default record is.
pub no_record_is : {v : Record} → (v.key ≡ 0) × ((v.stamp ≡ 0) × ((v.start ≡ 0) × ((v.len ≡ 0) × (v.tree ≡ 0)))) → v ≡ no_record
no_record_is {v} e = zeros e.0 e.1.0 e.1.1.0 e.1.1.1.0 e.1.1.1.1 where
  zeros : {a b c d t : ℕ} → a ≡ 0 → b ≡ 0 → c ≡ 0 → d ≡ 0 → t ≡ 0 → record { key = a; stamp = b; start = c; len = d; tree = t } ≡ no_record
  zeros e1 e2 e3 e4 e5 = (cc)

-- What `record_at` reads of the slot's own part of the body.
pub slot_read : (m : List ℕ) (x : ℕ) {v : Record} → (x ≡ 0 → ⊥) → 32 * x ≤ length m
    → v ≡ fields_at (take (32 * x - (32 * x - 32)) (drop (32 * x - 32) m)) 0 → v ≡ record_n m x
unfolding record_n fields_at
slot_read m x s h e =
    let field : (w f : ℕ) → f + w ≤ 32 → get_le w (take (32 * x - (32 * x - 32)) (drop (32 * x - 32) m)) f ≡ get_le w m (32 * (x - 1) + f) =
    λ w f b.
    let i : 32 * x - 32 + f ≡ 32 * (x - 1) + f = omega arith in
    get_part m (32 * x - 32) (32 * x - (32 * x - 32)) f w (omega arith) (omega arith) ∙ ap (get_le w m) i in
    let at : 32 * (x - 1) + 0 ≡ 32 * (x - 1) = add-zero (32 * (x - 1)) in
    simp (ne_eqb x 0 s)
    (cc (field 8 0 (omega arith), field 4 16 (omega arith), field 4 20 (omega arith), field 2 24 (omega arith), field 1 15 (omega arith)))

-- The slot's own part as `fill` stores it, in its place in the body.
pub slot_stored : (m : List ℕ) (x : ℕ) (v : Record) {r : List ℕ} → (x ≡ 0 → ⊥) → 32 * x ≤ length m
    → r ≡ fields_put (take (32 * x - (32 * x - 32)) (drop (32 * x - 32) m)) 0 v
    → take (32 * x - 32) m ++ (r ++ drop (32 * x - (32 * x - 32)) (drop (32 * x - 32) m)) ≡ fill_n m x v
unfolding fill_n fields_put
slot_stored m x v s h e =
    let s0 = span_lent m (32 * x - 32) (32 * x - (32 * x - 32)) (omega arith) in
    let s1 = span_first 8 v.key s0 (omega arith) refl in
    let s2 = span_put 1 15 v.tree s1 (omega arith) refl in
    let s3 = span_put 4 16 v.stamp s2 (omega arith) refl in
    let s4 = span_put 4 20 v.start s3 (omega arith) refl in
    let s5 = span_put 2 24 v.len s4 (omega arith) e in
    let here : 32 * x - 32 ≡ 32 * (x - 1) = omega arith in
    simp (ne_eqb x 0 s) (s5.is ∙ ap (λ (at : ℕ). fields_put m at v) here)

-- An answer stored in its own part of the answers, in its place in them.
pub answer_stored : (o : List ℕ) (k code kind x : ℕ) (v : Record) {r : List ℕ} → 24 * (k + 1) ≤ length o
    → r ≡ put_answer_n (take (24 * k + 24 - 24 * k) (drop (24 * k) o)) 0 code kind x v
    → take (24 * k) o ++ (r ++ drop (24 * k + 24 - 24 * k) (drop (24 * k) o)) ≡ put_answer_n o k code kind x v
unfolding put_answer_n
answer_stored o k code kind x v h e =
    let s0 = span_lent o (24 * k) (24 * k + 24 - 24 * k) (omega arith) in
    let s1 = span_first 1 code s0 (omega arith) refl in
    let s2 = span_put 1 1 kind s1 (omega arith) refl in
    let s3 = span_put 2 2 x s2 (omega arith) refl in
    let s4 = span_put 4 4 v.stamp s3 (omega arith) refl in
    let s5 = span_put 8 8 v.key s4 (omega arith) refl in
    let s6 = span_put 4 16 v.start s5 (omega arith) refl in
    let s7 = span_put 2 20 v.len s6 (omega arith) refl in
    (span_put 2 22 0 s7 (omega arith) e).is

-- ---- the search over the slots above `at` up to n

module _ (m : List ℕ) (n at : ℕ) where
  -- No slot is left.
  pub lowest_end : n ≤ at → 0 ≡ lowest_n (n - at) m at
  unfolding lowest_n
  lowest_end h = let none : n - at ≡ 0 = omega arith in sym (ap (λ (k : ℕ). lowest_n k m at) none)

  turn : at < n → lowest_n (n - at) m at ≡ cond (eqb (get_le 1 m (32 * at + 15)) 0) (at + 1) (lowest_n (n - (at + 1)) m (at + 1))
  unfolding lowest_n
  turn h = let one : n - at ≡ suc (n - (at + 1)) = omega arith in ap (λ (k : ℕ). lowest_n k m at) one

  -- The next slot is free.
  pub lowest_stop : at < n → {t : ℕ} → t ≡ get_le 1 m (32 * at + 15) → t ≡ 0 → at + 1 ≡ lowest_n (n - at) m at
  lowest_stop h e z = simp (turn h, ← e, eq-eqb _ 0 z)

  -- The next slot is taken.
  pub lowest_on : at < n → {t : ℕ} → t ≡ get_le 1 m (32 * at + 15) → (t ≡ 0 → ⊥) → lowest_n (n - (at + 1)) m (at + 1) ≡ lowest_n (n - at) m at
  lowest_on h e z = simp (turn h, ← e, ne_eqb _ 0 z)
