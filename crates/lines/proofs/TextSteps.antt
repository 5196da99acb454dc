-- Numbers and bytes as text, turn by turn. Assumes nothing.
use Rattle.std.proofs.Common.{◌≡◌, ℕ, zero, suc, ◌+◌, ◌-◌, ◌/◌, ◌%◌, ◌≤◌, ◌<◌, Bool, true, false, List, [], ◌∷◌, ◌++◌, length, get_or, take, drop, leb, refl, sym, ap, ◌∙◌, arith, add-one, drop-cons, lt-ltb, le-ltb}
use Rattle.std.proofs.Math.ListN.{drop_of_length-le}
use Rattle.fields.specs.Part.{part}
use Rattle.fields.proofs.Parts.{inside, outside, part_in, part_out}
use Rattle.meaning.specs.Listing.{decimal, hex}
use Rattle.lines.specs.Text.{field, fields, hex_digit}
use Rattle.lines.specs.Writer.{HasRoom, Wrote}
use Rattle.lines.specs.declared.text.Writer.{Writer}
use Rattle.lines.proofs.Writing.{Writing, wrote_none, other_words, fits, step, end}

-- ---- a number

-- No digit.
pub no_digit : (f n : ℕ) → f ≡ 0 → (w : Writer) → Wrote w (decimal f n) w
unfolding decimal
no_digit f n e w = rw e (wrote_none w)

-- One digit.
pub one_digit : (f n : ℕ) → (f ≡ 0 → ⊥) → n < 10 → decimal f n ≡ (48 + n) ∷ []
unfolding decimal
one_digit zero n h k = absurd (h refl)
one_digit (suc f) n h k = simp (lt-ltb n 10 k)

-- The digits before the last one, and the last one.
pub more_digits : (f n : ℕ) → (f ≡ 0 → ⊥) → 10 ≤ n → decimal f n ≡ decimal (f - 1) (n / 10) ++ ((48 + n % 10) ∷ [])
unfolding decimal
more_digits zero n h k = absurd (h refl)
more_digits (suc f) n h k = let e : suc f - 1 ≡ f = omega arith in simp (le-ltb n 10 k, e)

-- ---- numbers

module _ {w₀ : Writer} {text : List ℕ} {w : Writer} (ns : List ℕ) (i : ℕ) (h : i < length ns) (v : Writing w₀ text w (fields (drop i ns))) where
  next : Writing w₀ text w (field (get_or ns i 0) 32 ++ fields (drop (i + 1) ns))
  unfolding fields
  next = other_words _ (ap fields (drop-cons ns i 0 h) ∙ simp add-one) v

  -- The next number fits.
  pub field_fits : HasRoom w (field (get_or ns i 0) 32)
  field_fits = fits _ _ next

  -- It is written.
  pub field_turn : {w₁ : Writer} → Wrote w (field (get_or ns i 0) 32) w₁ → Writing w₀ text w₁ (fields (drop (i + 1) ns))
  field_turn f = step _ _ next f

-- No number is left.
pub fields_end : {w₀ : Writer} {text : List ℕ} {w : Writer} (ns : List ℕ) (i : ℕ) → length ns ≤ i → Writing w₀ text w (fields (drop i ns)) → Wrote w₀ text w
unfolding fields
fields_end ns i h v = end (other_words [] (ap fields (drop_of_length-le ns h)) v)

-- ---- bytes

-- the two digits of a byte
hex_first : (b : ℕ) (bs : List ℕ) → hex (b ∷ bs) ≡ hex_digit (b / 16) ∷ hex_digit (b % 16) ∷ hex bs
unfolding hex hex_digit
hex_first b bs = refl

module _ {w₀ : Writer} {text : List ℕ} {w : Writer} (bs : List ℕ) (i : ℕ) (h : i < length bs) (v : Writing w₀ text w (hex (drop i bs))) where
  next_byte : Writing w₀ text w ((hex_digit (get_or bs i 0 / 16) ∷ []) ++ ((hex_digit (get_or bs i 0 % 16) ∷ []) ++ hex (drop (i + 1) bs)))
  next_byte = other_words _ (ap hex (drop-cons bs i 0 h) ∙ hex_first _ _ ∙ simp add-one) v

  -- The first digit of the next byte fits.
  pub digit_fits : w.at + 1 ≤ length w.out.now
  digit_fits = fits (hex_digit (get_or bs i 0 / 16) ∷ []) _ next_byte

  module _ {w₁ : Writer} (f : Wrote w (hex_digit (get_or bs i 0 / 16) ∷ []) w₁) where
    next_digit : Writing w₀ text w₁ ((hex_digit (get_or bs i 0 % 16) ∷ []) ++ hex (drop (i + 1) bs))
    next_digit = step _ _ next_byte f

    -- The second one fits.
    pub digit_fits_too : w₁.at + 1 ≤ length w₁.out.now
    digit_fits_too = fits (hex_digit (get_or bs i 0 % 16) ∷ []) _ next_digit

    -- Both are written.
    pub byte_turn : {w₂ : Writer} → Wrote w₁ (hex_digit (get_or bs i 0 % 16) ∷ []) w₂ → Writing w₀ text w₂ (hex (drop (i + 1) bs))
    byte_turn g = step _ _ next_digit g

-- No byte is left.
pub hex_end : {w₀ : Writer} {text : List ℕ} {w : Writer} (bs : List ℕ) (i : ℕ) → length bs ≤ i → Writing w₀ text w (hex (drop i bs)) → Wrote w₀ text w
unfolding hex
hex_end bs i h v = end (other_words [] (ap hex (drop_of_length-le bs h)) v)

-- ---- a name

module _ (bs : List ℕ) (from len : ℕ) {t : Bool} (e : t ≡ leb (from + len) (length bs)) where
  -- It is the bytes of the slice.
  pub name_slice : t ≡ true → take (from + len - from) (drop from bs) ≡ part bs from len
  name_slice h =
      let n : from + len - from ≡ len = omega arith in
      ap (λ (k : ℕ). take k (drop from bs)) n ∙ sym (part_in bs from len (inside (from + len) (length bs) e h))

  -- There is none.
  pub name_none : t ≡ false → (w : Writer) → Wrote w (hex (part bs from len)) w
  unfolding hex
  name_none h w = rw (part_out bs from len (outside (from + len) (length bs) e h)) (wrote_none w)

-- ---- what `fields` and `hex` rest on

pub ruleset number_turns = (field_fits, fields_end)

pub ruleset byte_turns = (digit_fits, digit_fits_too, hex_end)
