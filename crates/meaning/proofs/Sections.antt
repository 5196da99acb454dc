-- The sections of a pool: its rows, each of its length and of bytes, and the fields of a row, read in place. Assumes nothing.
use Rattle.std.proofs.Common.{◌≡◌, ℕ, zero, suc, ◌+◌, ◌*◌, ◌^◌, ◌<◌, ◌≤◌, true, eqb, List, [], ◌∷◌, length, get_or, take, drop, sym, refl, ap, ◌∙◌, subst, mul-le-mul_left, mul-suc, arith, length-drop, length-take-le, take_all, drop-drop, eqb-true}
use Rattle.fields.specs.Number.{value, get_le, Bytes}
use Rattle.fields.specs.Part.{zeros}
use Rattle.fields.proofs.Numbers.{value_bound, get_out, power_pos}
use Rattle.fields.proofs.Parts.{within?, part_in, part_out}
use Rattle.fields.proofs.Spans.{get_part}
use Rattle.meaning.specs.Layout.{pack, rows}
use Rattle.meaning.specs.Pool.{n_slots, n_trees, tree_in, entries, records}
use Rattle.meaning.proofs.Facts.{both, rows_at, bytes_take, bytes_drop, unpack, widths, pack_unpack}

-- ---- numbers read from bytes

-- A number read from bytes fits its width.
pub get_bound : (w : ℕ) (b : List ℕ) (i : ℕ) → Bytes b → get_le w b i < 256 ^ w
unfolding get_le
get_bound w b i a = within? (i + w) (length b) (λ h.
    let q = take w (drop i b) in
    let n : length q ≡ w = length-take-le w (drop i b) (rw length-drop (omega arith)) in
    rw (part_in b i w h) (subst (λ (k : ℕ). value q < 256 ^ k) n (value_bound q (bytes_take w (drop i b) (bytes_drop i b a)))))
    (λ h. subst (λ (n : ℕ). n < 256 ^ w) (sym (get_out w b i h)) (power_pos w))

zeros_value : (w : ℕ) (bs : List ℕ) → zeros bs ≡ true → value (take w bs) ≡ 0
unfolding zeros value
zeros_value zero bs h = refl
zeros_value (suc w) [] h = refl
zeros_value (suc w) (b ∷ bs) h = let k = both (eqb b 0) (zeros bs) h in omega (arith, eqb-true b 0 k.0, zeros_value w bs k.1)

-- A number read where all is zero is 0.
pub get_zeros : (w : ℕ) (b : List ℕ) (i : ℕ) → zeros (drop i b) ≡ true → get_le w b i ≡ 0
unfolding get_le value
get_zeros w b i h =
    within? (i + w) (length b) (λ k. ap value (part_in b i w k) ∙ zeros_value w (drop i b) h) (λ k. ap value (part_out b i w k))

-- The empty row, which stands for none, has tree 0.
pub tree_none : tree_in [] ≡ 0
unfolding tree_in zeros
tree_none = get_zeros 1 [] 15 refl

-- ---- rows

-- a row ends before the rows do
row_end : (width n i : ℕ) → i < n → width * i + width ≤ width * n
row_end width n i h = omega (arith, mul-suc width i, mul-le-mul_left width h)

-- row i of the rows at `start` stands at width * i from there
row_at : (b : List ℕ) (start n width i : ℕ) → i < n → get_or (rows n width (drop start b)) i [] ≡ take width (drop (start + width * i) b)
row_at b start n width i h = rows_at n width (drop start b) i h ∙ ap (take width) (drop-drop (width * i) start b)

-- Every row of bytes is bytes, and so is the empty one that stands for none.
pub row_bytes : (n width : ℕ) (bs : List ℕ) → Bytes bs → (i : ℕ) → Bytes (get_or (rows n width bs) i [])
unfolding rows
row_bytes zero width bs a i = record { below = λ k. omega arith }
row_bytes (suc n) width bs a zero = bytes_take width bs a
row_bytes (suc n) width bs a (suc i) = row_bytes n width (drop width bs) (bytes_drop width bs a) i

-- bytes, so many
pub record Row (w : ℕ) (r : List ℕ) : Type 0 where
  pub length_is : length r ≡ w
  pub bytes : Bytes r

-- The rows of a section that lies within the bytes are whole.
pub row_whole : (b : List ℕ) (start n width i : ℕ) → Bytes b → i < n → start + width * n ≤ length b → Row width (get_or (rows n width (drop start b)) i [])
row_whole b start n width i a h fits =
    let e = row_end width n i h in
    let j = start + width * i in
    record {
      length_is = ap length (row_at b start n width i h) ∙ length-take-le width (drop j b) (rw length-drop (omega arith));
      bytes = row_bytes n width (drop start b) (bytes_drop start b a) i;
    }

-- A field of a row is the number read in place.
pub row_field : (b : List ℕ) (start n width i k w : ℕ) → i < n → k + w ≤ width → start + width * n ≤ length b
    → get_le w (get_or (rows n width (drop start b)) i []) k ≡ get_le w b (start + width * i + k)
row_field b start n width i k w h inside fits =
    let e = row_end width n i h in
    ap (λ (r : List ℕ). get_le w r k) (row_at b start n width i h) ∙ get_part b (start + width * i) width k w inside (omega arith)

-- A field of a record is the number read in place.
pub record_field : (b : List ℕ) (i k w : ℕ) → i < n_slots b → k + w ≤ 32 → 32 + 8 * n_trees b + 32 * n_slots b ≤ length b
    → get_le w (get_or (records b) i []) k ≡ get_le w b (32 + 8 * n_trees b + 32 * i + k)
unfolding records
record_field b i k w h inside fits = row_field b (32 + 8 * n_trees b) (n_slots b) 32 i k w h inside fits

-- A field of an entry is the number read in place.
pub entry_field : (b : List ℕ) (i k w : ℕ) → i < n_trees b → k + w ≤ 8 → 32 + 8 * n_trees b ≤ length b
    → get_le w (get_or (entries b) i []) k ≡ get_le w b (32 + 8 * i + k)
unfolding entries
entry_field b i k w h inside fits = row_field b 32 (n_trees b) 8 i k w h inside fits

-- Fields of a whole row, read and packed again, are the row.
pub row_packed : (ws : List ℕ) (r : List ℕ) → Row (widths ws) r → pack (unpack 0 ws r) ≡ r
row_packed ws r k = pack_unpack ws 0 r k.bytes (omega (arith, k.length_is)) ∙ take_all (widths ws) r (omega (arith, k.length_is))
