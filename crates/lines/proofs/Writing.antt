-- A text that is written piece by piece: what is still to be written, from here on, leaves what the whole text left from the start. Assumes nothing.
use Rattle.std.proofs.Common.{◌≡◌, ℕ, ◌+◌, ◌≤◌, List, [], ◌∷◌, ◌++◌, length, refl, sym, ap, ap₂, ◌∙◌, subst, arith, add-one, length-append}
use Rattle.std.proofs.lemmas.List.{set_split}
use Rattle.std.proofs.Math.ListN.{set}
use Rattle.fields.specs.Part.{splice}
use Rattle.fields.proofs.Parts.{splice_in, splice_none, splice_join, length_splice}
use Rattle.lines.specs.Text.{wrote}
use Rattle.lines.specs.Writer.{HasRoom, Wrote}
use Rattle.lines.specs.declared.text.Writer.{Writer}

-- the whole text was to be written by w₀; the rest of it is to be written by w
pub data Writing (w₀ : Writer) (text : List ℕ) (w : Writer) (rest : List ℕ) : Type 0 where
  writing : w.out.ghost_name ≡ w₀.out.ghost_name → HasRoom w rest → wrote w.out.now w.at rest ≡ wrote w₀.out.now w₀.at text → Writing w₀ text w rest

-- ---- the buffer

-- nothing is written by no text
none_there : (o : List ℕ) (at : ℕ) → (o, at) ≡ wrote o at []
unfolding wrote
none_there o at = let e : at ≡ at + 0 = omega arith in ap₂ (λ (l : List ℕ) (n : ℕ). (l, n)) (sym (splice_none o at)) e

-- One byte is a store.
pub byte_there : (o : List ℕ) (at b : ℕ) → at + 1 ≤ length o → (set o at b, at + 1) ≡ wrote o at (b ∷ [])
unfolding wrote
byte_there o at b h =
    let s : splice o at (b ∷ []) ≡ set o at b = splice_in o at (b ∷ []) h ∙ simp add-one (sym (set_split o at b (omega arith))) in
    ap (λ (l : List ℕ). (l, at + 1)) (sym s)

-- A copied text.
pub text_there : (o : List ℕ) (at : ℕ) (text : List ℕ) {o₁ : List ℕ} → o₁ ≡ splice o at text → (o₁, at + length text) ≡ wrote o at text
unfolding wrote
text_there o at text e = ap (λ (l : List ℕ). (l, at + length text)) e

-- two texts one behind the other are their row
row_there : (o : List ℕ) (at : ℕ) (a b : List ℕ) → at + length (a ++ b) ≤ length o → wrote (splice o at a) (at + length a) b ≡ wrote o at (a ++ b)
unfolding wrote
row_there o at a b h =
    let n = length-append a b in
    let e : at + length a + length b ≡ at + length (a ++ b) = omega arith in
    ap₂ (λ (l : List ℕ) (k : ℕ). (l, k)) (splice_join o at a b (omega arith)) e

-- what a written text left
left_by : (o : List ℕ) (at : ℕ) (a : List ℕ) {q : List ℕ × ℕ} → q ≡ wrote o at a → q ≡ (splice o at a, at + length a)
unfolding wrote
left_by o at a e = e

-- ---- the writer

-- Nothing is written by no text.
pub wrote_none : (w : Writer) → Wrote w [] w
wrote_none w = record { buffer = refl; is = none_there w.out.now w.at }

-- The whole is still to be written.
pub start : (w : Writer) (text : List ℕ) → HasRoom w text → Writing w text w text
start w text h = writing refl h refl

module _ {w₀ : Writer} {text : List ℕ} {w : Writer} where
  -- The rest in other words.
  pub other_words : {rest : List ℕ} (other : List ℕ) → rest ≡ other → Writing w₀ text w rest → Writing w₀ text w other
  other_words other e v = subst (λ (l : List ℕ). Writing w₀ text w l) e v

  -- The next piece fits.
  pub fits : (a rest : List ℕ) → Writing w₀ text w (a ++ rest) → HasRoom w a
  fits a rest (writing buffer room is) = omega (arith, room, length-append a rest)

  -- The next piece has been written.
  pub step : (a rest : List ℕ) → Writing w₀ text w (a ++ rest) → {w₁ : Writer} → Wrote w a w₁ → Writing w₀ text w₁ rest
  step a rest (writing buffer room is) {w₁} e =
      let s : splice w.out.now w.at a ≡ w₁.out.now = sym (ap (λ (q : List ℕ × ℕ). q.0) (left_by w.out.now w.at a e.is)) in
      let n : w.at + length a ≡ w₁.at = sym (ap (λ (q : List ℕ × ℕ). q.1) (left_by w.out.now w.at a e.is)) in
      writing (e.buffer ∙ buffer)
      (omega (arith, room, length-append a rest, ap length s, length_splice w.out.now w.at a))
      (ap₂ (λ (l : List ℕ) (k : ℕ). wrote l k rest) (sym s) (sym n) ∙ row_there w.out.now w.at a rest room ∙ is)

  -- What is left fits.
  pub rest_fits : (rest : List ℕ) → Writing w₀ text w rest → HasRoom w rest
  rest_fits rest (writing buffer room is) = room

  -- The last piece has been written.
  pub last : (rest : List ℕ) → Writing w₀ text w rest → {w₁ : Writer} → Wrote w rest w₁ → Wrote w₀ text w₁
  last rest (writing buffer room is) e = record { buffer = e.buffer ∙ buffer; is = e.is ∙ is }

  -- Nothing is left to be written.
  pub end : Writing w₀ text w [] → Wrote w₀ text w
  end v = last [] v (wrote_none w)

-- ---- a text of two pieces

-- The first one fits.
pub first_fits : (w : Writer) (a b : List ℕ) → HasRoom w (a ++ b) → HasRoom w a
first_fits w a b h = omega (arith, length-append a b)

module _ {w w₁ : Writer} (a b : List ℕ) (h : HasRoom w (a ++ b)) (f : Wrote w a w₁) where
  -- The second one fits.
  pub second_fits : HasRoom w₁ b
  second_fits = rest_fits b (step a b (start w (a ++ b) h) f)

  -- Both are written.
  pub both_wrote : {w₂ : Writer} → Wrote w₁ b w₂ → Wrote w (a ++ b) w₂
  both_wrote g = last b (step a b (start w (a ++ b) h) f) g

-- ---- a text of three pieces

module _ {w : Writer} (a b c : List ℕ) (h : HasRoom w (a ++ (b ++ c))) where
  module _ {w₁ : Writer} (f : Wrote w a w₁) where
    -- The second one fits.
    pub two_fits : HasRoom w₁ b
    two_fits = first_fits w₁ b c (second_fits a (b ++ c) h f)

    module _ {w₂ : Writer} (g : Wrote w₁ b w₂) where
      -- The third one fits.
      pub three_fits : HasRoom w₂ c
      three_fits = second_fits b c (second_fits a (b ++ c) h f) g

      -- All are written.
      pub three_wrote : {w₃ : Writer} → Wrote w₂ c w₃ → Wrote w (a ++ (b ++ c)) w₃
      three_wrote k = both_wrote a (b ++ c) h f (both_wrote b c (second_fits a (b ++ c) h f) g k)
