-- The laws of little-endian numbers, each once for every width: what a number reads as after a store, its bytes, its bound, and a number as two
-- halves. Assumes nothing.
use Rattle.std.proofs.Common.{◌≡◌, ℕ, zero, suc, ◌+◌, ◌*◌, ◌/◌, ◌%◌, ◌^◌, ◌<◌, ◌≤◌, Bool, true, false, ◌&&◌, eqb, List, [], ◌∷◌, ◌++◌, length, get_or, take, drop, set, sym, refl, ap, ◌∙◌, ap₂, mul-le-mul_right, mul_assoc, suc-mul, mul_comm, add_comm, suc-add, pow-suc, add-one, arith, length-drop, take-append-drop, length-take, drop-cons, take-add, pow-add, eq-eqb, ne_eqb, eqb-true}
use Rattle.std.proofs.Math.Bool.{and-true, and_assoc}
use Rattle.std.proofs.Math.Nat.{pow-succ', div-div-eq-div-mul, mod-add-div, div-mul-le_self}
use Rattle.std.proofs.Math.Seq.{take-length}
use Rattle.std.proofs.lemmas.Bool.{eqb-false}
use Rattle.std.proofs.lemmas.List.{set_split}
use Rattle.std.specs.Int.Bits.{bit_or}
use Rattle.std.specs.List.{fold, list_all}
use Rattle.std.specs.Simd.{first_chunks}
use Rattle.fields.specs.Part.{part, splice, zeros}
use Rattle.fields.specs.Number.{value, digits, get_le, put_le, Bytes, Loaded}
use Rattle.fields.proofs.Parts.{Apart, part_in, part_out, splice_in, splice_out, length_part, length_splice, part_splice_same, part_splice_other, part_join, splice_join, splice_again, splice_apart, none_set, zeros_append}

-- ---- numbers and their bytes

pub length_digits : (width v : ℕ) → length (digits width v) ≡ width
unfolding digits
length_digits zero v = refl
length_digits (suc width) v = ap suc (length_digits width (v / 256))

-- what does not fit is cut off
digits_more : (width v k : ℕ) → digits width (v + 256 ^ width * k) ≡ digits width v
unfolding digits
digits_more zero v k = refl
digits_more (suc width) v k =
    let q = 256 ^ width * k in
    let more : 256 ^ suc width * k ≡ 256 * q = ap (λ (n : ℕ). n * k) (pow-succ' 256 width) ∙ mul_assoc 256 (256 ^ width) k in
    let low : (v + 256 ^ suc width * k) % 256 ≡ v % 256 = omega (arith, more) in
    let high : (v + 256 ^ suc width * k) / 256 ≡ v / 256 + q = omega (arith, more) in
    ap₂ ◌∷◌ low (ap (digits width) high ∙ digits_more width (v / 256) k)

pub digits_low : (width v : ℕ) → digits width (v % 256 ^ width) ≡ digits width v
digits_low width v =
    let p = 256 ^ width in
    sym (digits_more width (v % p) (v / p)) ∙ ap (digits width) (mod-add-div v p)

pub value_digits : (width v : ℕ) → v < 256 ^ width → value (digits width v) ≡ v
unfolding digits value
value_digits zero v h = omega arith
value_digits (suc width) v h =
    ap (λ (n : ℕ). v % 256 + 256 * n) (value_digits width (v / 256) (omega (arith, pow-suc 256 width))) ∙ omega arith

byte_tail : (b : ℕ) (bs : List ℕ) → Bytes (b ∷ bs) → Bytes bs
byte_tail b bs all = record { below = λ i. all.below (suc i) }

pub digits_value : (bs : List ℕ) → Bytes bs → digits (length bs) (value bs) ≡ bs
unfolding digits value
digits_value [] all = refl
digits_value (b ∷ bs) all =
    let small : b < 256 = all.below 0 in
    let low : (b + 256 * value bs) % 256 ≡ b = omega arith in
    let high : (b + 256 * value bs) / 256 ≡ value bs = omega arith in
    ap₂ ◌∷◌ low (ap (digits (length bs)) high ∙ digits_value bs (byte_tail b bs all))

pub value_bound : (bs : List ℕ) → Bytes bs → value bs < 256 ^ length bs
unfolding value
value_bound [] all = omega arith
value_bound (b ∷ bs) all = let small : b < 256 = all.below 0 in omega (arith, pow-suc 256 (length bs), value_bound bs (byte_tail b bs all))

-- ---- a store, and what is read after it

pub length_put : (width : ℕ) (bs : List ℕ) (at v : ℕ) → length (put_le width bs at v) ≡ length bs
unfolding put_le
length_put width bs at v = length_splice bs at (digits width v)

pub get_put_same : (width : ℕ) (bs : List ℕ) (at v : ℕ) → at + width ≤ length bs → v < 256 ^ width → get_le width (put_le width bs at v) at ≡ v
unfolding get_le put_le
get_put_same width bs at v inside fits =
    let n = length_digits width v in
    ap (λ (k : ℕ). value (part (splice bs at (digits width v)) at k)) (sym n)
    ∙ ap value (part_splice_same bs at (digits width v) (simp n inside))
    ∙ value_digits width v fits

pub get_put_other : (width : ℕ) (bs : List ℕ) (at v width' at' : ℕ) → Apart at width at' width'
    → get_le width' (put_le width bs at v) at' ≡ get_le width' bs at'
unfolding get_le put_le
get_put_other width bs at v width' at' apart = ap value (part_splice_other bs at (digits width v) at' width' (simp (length_digits width v) apart))

pub get_out : (width : ℕ) (bs : List ℕ) (at : ℕ) → length bs < at + width → get_le width bs at ≡ 0
unfolding get_le value
get_out width bs at h = ap value (part_out bs at width h)

pub put_out : (width : ℕ) (bs : List ℕ) (at v : ℕ) → length bs < at + width → put_le width bs at v ≡ bs
unfolding put_le
put_out width bs at v h = splice_out bs at (digits width v) (simp length_digits h)

pub put_low : (width : ℕ) (bs : List ℕ) (at v : ℕ) → put_le width bs at (v % 256 ^ width) ≡ put_le width bs at v
unfolding put_le
put_low width bs at v = ap (splice bs at) (digits_low width v)

-- the last of two stores to one place stands
pub put_put_same : (width : ℕ) (bs : List ℕ) (at v w : ℕ) → put_le width (put_le width bs at v) at w ≡ put_le width bs at w
unfolding put_le
put_put_same width bs at v w = splice_again bs at (digits width v) (digits width w) (length_digits width v ∙ sym (length_digits width w))

-- stores to places that lie apart change places
pub put_put_other : (width : ℕ) (bs : List ℕ) (at v width' at' w : ℕ) → Apart at width at' width'
    → put_le width' (put_le width bs at v) at' w ≡ put_le width (put_le width' bs at' w) at v
unfolding put_le
put_put_other width bs at v width' at' w apart = splice_apart bs at (digits width v) at' (digits width' w) (simp length_digits apart)

-- ---- a number in two pieces, m bytes and then n

pub value_append : (a b : List ℕ) → value (a ++ b) ≡ value a + 256 ^ length a * value b
unfolding value
value_append [] b = omega arith
value_append (x ∷ a) b =
    let scaled : 256 ^ suc (length a) * value b ≡ 256 * (256 ^ length a * value b) =
    ap (λ (n : ℕ). n * value b) (pow-succ' 256 (length a)) ∙ mul_assoc 256 (256 ^ length a) (value b) in
    ap (λ (n : ℕ). x + 256 * n) (value_append a b) ∙ omega arith

pub digits_join : (m n v : ℕ) → digits (m + n) v ≡ digits m v ++ digits n (v / 256 ^ m)
unfolding digits
digits_join zero n v =
    let none : 0 + n ≡ n = omega arith in
    let whole : v ≡ v / 1 = omega arith in
    ap₂ digits none whole
digits_join (suc m) n v =
    let shifted : v / 256 / 256 ^ m ≡ v / 256 ^ suc m = div-div-eq-div-mul v 256 (256 ^ m) ∙ ap (λ (k : ℕ). v / k) (sym (pow-succ' 256 m)) in
    rw suc-add (ap (λ (l : List ℕ). v % 256 ∷ l) (digits_join m n (v / 256) ∙ ap (λ (k : ℕ). digits m (v / 256) ++ digits n k) shifted))

pub get_join : (m n : ℕ) (bs : List ℕ) (at : ℕ) → at + (m + n) ≤ length bs → get_le (m + n) bs at ≡ get_le m bs at + 256 ^ m * get_le n bs (at + m)
unfolding get_le
get_join m n bs at h =
    ap value (part_join bs at m n h)
    ∙ value_append (part bs at m) (part bs (at + m) n)
    ∙ simp (length_part bs at m (omega arith))

pub put_join : (m n : ℕ) (bs : List ℕ) (at v : ℕ) → at + (m + n) ≤ length bs
    → put_le n (put_le m bs at v) (at + m) (v / 256 ^ m) ≡ put_le (m + n) bs at v
unfolding put_le
put_join m n bs at v h =
    let a = digits m v in
    let b = digits n (v / 256 ^ m) in
    ap (λ (k : ℕ). splice (splice bs at a) (at + k) b) (sym (length_digits m v))
    ∙ splice_join bs at a b (simp length_digits h)
    ∙ ap (splice bs at) (sym (digits_join m n v))

-- ---- one byte

pub get_byte : (bs : List ℕ) (at : ℕ) → at < length bs → get_le 1 bs at ≡ get_or bs at 0
unfolding get_le value
get_byte bs at h = ap value (part_in bs at 1 (omega arith)) ∙ ap (λ (l : List ℕ). value (take 1 l)) (drop-cons bs at 0 h) ∙ omega arith

pub put_byte : (bs : List ℕ) (at v : ℕ) → at < length bs → put_le 1 bs at v ≡ set bs at (v % 256)
unfolding put_le digits
put_byte bs at v h = splice_in bs at (v % 256 ∷ []) (omega arith) ∙ simp add-one (sym (set_split bs at (v % 256) h))

pub put_one : (bs : List ℕ) (at : ℕ) {v : ℕ} → at < length bs → v < 256 → put_le 1 bs at v ≡ set bs at v
put_one bs at {v} h small = let low : v % 256 ≡ v = omega arith in put_byte bs at v h ∙ ap (set bs at) low

-- ---- bytes that are all zero

pub zeros_value : (bs : List ℕ) → zeros bs ≡ eqb (value bs) 0
unfolding zeros value
zeros_value [] = refl
zeros_value (b ∷ bs) = ap (λ (t : Bool). eqb b 0 && t) (zeros_value bs) ∙ go (eqb b 0) (eqb (value bs) 0) refl refl
  where
    go : (s t : Bool) → eqb b 0 ≡ s → eqb (value bs) 0 ≡ t → (s && t) ≡ eqb (b + 256 * value bs) 0
    go true true e f = sym (eq-eqb (b + 256 * value bs) 0 (omega (arith, eqb-true b 0 e, eqb-true (value bs) 0 f)))
    go true false e f = sym (ne_eqb (b + 256 * value bs) 0 (λ z. eqb-false (value bs) 0 f (omega arith)))
    go false t e f = sym (ne_eqb (b + 256 * value bs) 0 (λ z. eqb-false b 0 e (omega arith)))

-- the same of a number read from as many bytes
zeros_word : (bs : List ℕ) → length bs ≡ 8 → eqb (get_le 8 bs 0) 0 ≡ zeros bs
unfolding get_le
zeros_word bs h =
    ap (λ (l : List ℕ). eqb (value l) 0) (part_in bs 0 8 (omega (arith, h)) ∙ ap (λ (n : ℕ). take n bs) (sym h) ∙ take-length bs) ∙ sym (zeros_value bs)

-- what numbers of 8 bytes have set among them, and `seen`, is nothing exactly if all their bytes are 0
zeros_words : (k seen : ℕ) (bs : List ℕ) → k * 8 ≤ length bs
    → eqb (fold (λ set word. bit_or set (get_le 8 word 0)) seen (first_chunks 8 k bs)) 0 ≡ (eqb seen 0 && zeros (take (k * 8) bs))
unfolding zeros
zeros_words zero seen bs h = sym (and-true (eqb seen 0))
zeros_words (suc k) seen bs h =
    let first = take 8 bs in
    let later = take (k * 8) (drop 8 bs) in
    let next = get_le 8 first 0 in
    let more : 8 + k * 8 ≡ suc k * 8 = omega arith in
    zeros_words k (bit_or seen next) (drop 8 bs) (simp length-drop (omega arith))
    ∙ ap (λ (t : Bool). t && zeros later) (none_set seen next ∙ ap (λ (t : Bool). eqb seen 0 && t) (zeros_word first (simp length-take (omega arith))))
    ∙ and_assoc (eqb seen 0) (zeros first) (zeros later)
    ∙ ap (λ (t : Bool). eqb seen 0 && t) (sym (zeros_append first later) ∙ ap zeros (sym (take-add 8 (k * 8) bs) ∙ ap (λ (n : ℕ). take n bs) more))

-- bytes are all 0 exactly if the numbers of 8 bytes are and the rest is
pub zeros_split : (bs : List ℕ)
    → zeros bs
    ≡ (eqb (fold (λ set word. bit_or set (get_le 8 word 0)) 0 (first_chunks 8 (length bs / 8) bs)) 0 && zeros (drop (length bs / 8 * 8) bs))
zeros_split bs =
    let n = length bs / 8 * 8 in
    ap zeros (sym (take-append-drop n bs))
    ∙ zeros_append (take n bs) (drop n bs)
    ∙ ap (λ (t : Bool). t && zeros (drop n bs)) (sym (zeros_words (length bs / 8) 0 bs (omega arith)))

-- the first k blocks of n bytes are all 0, one by one, exactly if their bytes are
zeros_blocks : (n k : ℕ) (bs : List ℕ) → k * n ≤ length bs → list_all zeros (first_chunks n k bs) ≡ zeros (take (k * n) bs)
unfolding zeros
zeros_blocks n zero bs h = let none : 0 * n ≡ 0 = omega arith in sym (ap (λ (m : ℕ). zeros (take m bs)) none)
zeros_blocks n (suc k) bs h =
    let first = take n bs in
    let later = take (k * n) (drop n bs) in
    let more : suc k * n ≡ n + k * n = suc-mul k n ∙ add_comm (k * n) n in
    ap (λ (t : Bool). zeros first && t) (zeros_blocks n k (drop n bs) (simp length-drop (omega (arith, h, more))))
    ∙ sym (zeros_append first later)
    ∙ ap zeros (sym (take-add n (k * n) bs) ∙ ap (λ (m : ℕ). take m bs) (sym more))

-- bytes are all 0 exactly if those of each block are and the rest is
pub zeros_by_blocks : (n : ℕ) (bs : List ℕ) → zeros bs ≡ (list_all zeros (first_chunks n (length bs / n) bs) && zeros (drop (length bs / n * n) bs))
zeros_by_blocks n bs =
    let m = length bs / n * n in
    ap zeros (sym (take-append-drop m bs))
    ∙ zeros_append (take m bs) (drop m bs)
    ∙ ap (λ (t : Bool). t && zeros (drop m bs)) (sym (zeros_blocks n (length bs / n) bs (div-mul-le_self (length bs) n)))

pub power_pos : (w : ℕ) → 0 < 256 ^ w
power_pos zero = omega arith
power_pos (suc w) = omega (arith, pow-suc 256 w, power_pos w)

-- ---- what the loads and stores are made of: two halves of w bytes each

pub load_joined : (w : ℕ) (bs : List ℕ) (at : ℕ) {lo hi : ℕ} → lo ≡ get_le w bs at → hi ≡ get_le w bs (at + w) → at + (w + w) ≤ length bs
    → lo + hi * 256 ^ w ≡ get_le (w + w) bs at
load_joined w bs at {lo} {hi} low high h =
    ap₂ (λ (x y : ℕ). x + y * 256 ^ w) low high
    ∙ ap (λ (n : ℕ). get_le w bs at + n) (mul_comm (get_le w bs (at + w)) (256 ^ w))
    ∙ sym (get_join w w bs at h)

-- the lists before, between and after two stores, of the low and of the high half of v
pub store_joined : (w : ℕ) (bs : List ℕ) (at v : ℕ) {mid last : List ℕ} → mid ≡ put_le w bs at (v % 256 ^ w)
    → last ≡ put_le w mid (at + w) (v / 256 ^ w) → at + (w + w) ≤ length bs → last ≡ put_le (w + w) bs at v
store_joined w bs at v first second h =
    second
    ∙ ap (λ (l : List ℕ). put_le w l (at + w) (v / 256 ^ w)) (first ∙ put_low w bs at v)
    ∙ put_join w w bs at v h

-- ---- the same of a number that fits, and of a value that is cut to its half

pub load_halves : (w : ℕ) {bs : List ℕ} {at lo hi : ℕ} → Loaded w bs at lo → Loaded w bs (at + w) hi → at + (w + w) ≤ length bs
    → Loaded (w + w) bs at (lo + hi * 256 ^ w)
load_halves w {bs} {at} {lo} {hi} a b h =
    record {
      is = load_joined w bs at a.is b.is h;
      fits = simp pow-add (omega (arith, mul-le-mul_right (256 ^ w) b.fits, suc-mul hi (256 ^ w)));
    }

pub store_halves : (w : ℕ) (bs : List ℕ) (at v : ℕ) {mid last : List ℕ} → mid ≡ put_le w bs at v → last ≡ put_le w mid (at + w) (v / 256 ^ w)
    → at + (w + w) ≤ length bs → last ≡ put_le (w + w) bs at v
store_halves w bs at v first second h = store_joined w bs at v (first ∙ sym (put_low w bs at v)) second h
