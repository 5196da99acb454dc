-- The clauses of a header, an entry and a record, each a row of tests in the order of the code. Assumes nothing.
use Rattle.std.proofs.Common.{◌≡◌, ℕ, ◌+◌, ◌*◌, Bool, ◌&&◌, eqb, ltb, leb, List, length, drop, sym, refl, ap, ◌∙◌, arith, length-drop, take_all, eq-eqb, ne_eqb, eqb-true, le-leb, leb-true}
use Rattle.std.proofs.Math.Bool.{beq, and-true, and_assoc, and_comm}
use Rattle.fields.specs.Number.{get_le}
use Rattle.fields.specs.Part.{part, zeros}
use Rattle.fields.proofs.Numbers.{get_join, zeros_value}
use Rattle.fields.proofs.Parts.{part_in}
use Rattle.meaning.specs.Layout.{within, all}
use Rattle.meaning.specs.Pool as pool
use Rattle.meaning.specs.Sound.{entry_ok}
use Rattle.meaning.proofs.Facts.{both, both_true}
use Rattle.judge.specs.Rows.{live_in, record_in}
use Rattle.judge.proofs.Passing.{same_truth}

-- the test for zeros up to the end of a list
zeros_rest : (b : List ℕ) (at count : ℕ) {z : Bool} → length b ≡ at + count → z ≡ zeros (part b at count) → z ≡ zeros (drop at b)
zeros_rest b at count l e = e ∙ ap zeros (part_in b at count (omega arith) ∙ take_all count (drop at b) (simp length-drop (omega arith)))

-- ---- a tree entry

pub entry_row : (e : List ℕ) → length e ≡ 8 → {root count : ℕ} → root ≡ get_le 2 e 0 → count ≡ get_le 2 e 2
    → {zero : Bool} → zero ≡ zeros (part e 4 4) → (beq (eqb root 0) (eqb count 0) && zero) ≡ entry_ok e
unfolding entry_ok all pool.opened
entry_row e l r c z = simp (r, c, zeros_rest e 4 4 l z, and-true) refl

-- ---- a record

module _ (r : List ℕ) (used next : ℕ) {b : ℕ} (e : b ≡ get_le 1 r 15) where
  pub record_free : b ≡ 0 → length r ≡ 32 → {z : Bool} → z ≡ zeros (part r 0 32) → z ≡ record_in used next r
  unfolding record_in pool.opened
  record_free h l z = simp (← e, eq-eqb b 0 h) (zeros_rest r 0 32 l z)

  pub record_live : (b ≡ 0 → ⊥) → {z : Bool} → z ≡ live_in used next r → z ≡ record_in used next r
  unfolding record_in pool.opened
  record_live h z = simp (← e, ne_eqb b 0 h) z

-- ---- a live record

-- the six bytes behind the name's length are zero exactly if all eight are the length
rest_zero : (r : List ℕ) → length r ≡ 32 → zeros (drop 26 r) ≡ eqb (get_le 6 r 26) 0
unfolding get_le
rest_zero r l = sym (zeros_rest r 26 6 l refl) ∙ zeros_value (part r 26 6)

wide : (r : List ℕ) → length r ≡ 32 → let n = get_le 8 r 24 in let a = get_le 2 r 24 in
    (leb 1 n && leb n 255) ≡ ((leb 1 a && leb a 255) && zeros (drop 26 r))
wide r l =
    let n = get_le 8 r 24 in
    let a = get_le 2 r 24 in
    let c = get_le 6 r 26 in
    let e : n ≡ a + 65536 * c = get_join 2 6 r 24 (omega arith) in
    rw (rest_zero r l)
    (same_truth (leb 1 n && leb n 255) ((leb 1 a && leb a 255) && eqb c 0)
    (λ h.
    let g = both (leb 1 n) (leb n 255) h in
    let low = leb-true 1 n g.0 in
    let high = leb-true n 255 g.1 in
    both_true (leb 1 a && leb a 255) (eqb c 0) (both_true (leb 1 a) (leb a 255) (le-leb 1 a (omega arith)) (le-leb a 255 (omega arith)))
    (eq-eqb c 0 (omega arith)))
    (λ h.
    let g = both (leb 1 a && leb a 255) (eqb c 0) h in
    let f = both (leb 1 a) (leb a 255) g.0 in
    let z = eqb-true c 0 g.1 in
    both_true (leb 1 n) (leb n 255) (le-leb 1 n (omega (arith, leb-true 1 a f.0))) (le-leb n 255 (omega (arith, leb-true a 255 f.1)))))

pub live_row : (r : List ℕ) (used next : ℕ) → length r ≡ 32 → {s v a n : ℕ} → s ≡ get_le 4 r 16 → v ≡ get_le 8 r 24 → a ≡ get_le 4 r 20 → n ≡ get_le 2 r 24
    → ((leb 1 s && ltb s next) && ((leb 1 v && leb v 255) && leb (a + n) used)) ≡ live_in used next r
unfolding live_in within all pool.opened
live_row r used next l s v a n =
    simp (s, v, a, n, wide r l, and_comm (zeros (drop 26 r)) (leb (get_le 4 r 20 + get_le 2 r 24) used), and_assoc, and-true) refl
