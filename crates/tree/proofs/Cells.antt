-- The laws of a record's fields in record bytes: all that the laws above need to know of bytes. Assumes nothing.
use Rattle.std.proofs.Common.{◌≡◌, ℕ, zero, suc, ◌+◌, ◌-◌, ◌*◌, ◌%◌, ◌^◌, ◌<◌, ◌≤◌, cond, eqb, List, length, sym, refl, ap, ◌∙◌, arith}
use Rattle.std.proofs.Math.Dec.{eqb-suc-zero}
use Rattle.fields.proofs.Parts.{Apart, before, after, within?}
use Rattle.fields.proofs.Numbers.{get_put_same, get_put_other, put_put_same, put_put_other}
use Rattle.avl.specs.Tree.{left, right}
use Rattle.tree.specs.Node.{Field, child, parent, balance, offset, width, get_n, put_n, key_n}

-- ---- where fields lie

-- where field f of slot s begins
abbrev place : ℕ → Field → ℕ
place s f = 32 * (s - 1) + offset f

-- fields lie behind the key, within the record, at even places, and none longer than two bytes
record Spot (f : Field) : Type 0 where
  past_key : 8 ≤ offset f
  inside : offset f + width f ≤ 32
  paired : offset f % 2 ≡ 0
  short : width f ≤ 2

spot : (f : Field) → Spot f
spot (child left) = record { past_key = omega arith; inside = omega arith; paired = refl; short = omega arith }
spot (child right) = record { past_key = omega arith; inside = omega arith; paired = refl; short = omega arith }
spot parent = record { past_key = omega arith; inside = omega arith; paired = refl; short = omega arith }
spot balance = record { past_key = omega arith; inside = omega arith; paired = refl; short = omega arith }

-- no two fields at one place: the place tells the field
field_at : ℕ → Field
field_at n = cond (eqb n 8) (child left) (cond (eqb n 10) (child right) (cond (eqb n 12) parent balance))

field_at_lem : (f : Field) → field_at (offset f) ≡ f
unfolding field_at
field_at_lem (child left) = refl
field_at_lem (child right) = refl
field_at_lem parent = refl
field_at_lem balance = refl

offset_one : (f g : Field) → offset f ≡ offset g → f ≡ g
offset_one f g e = sym (field_at_lem f) ∙ ap field_at e ∙ field_at_lem g

-- different fields of one record, fields of different records, and a field and a key lie apart
fields_apart : (s : ℕ) (f g : Field) → (f ≡ g → ⊥) → Apart (place s f) (width f) (place s g) (width g)
fields_apart s f g n =
    let p = spot f in
    let q = spot g in
    let d : offset f ≡ offset g → ⊥ = λ e. n (offset_one f g e) in
    within? (offset f + width f) (offset g) (λ h. before (omega arith)) (λ h. after (omega arith))

slots_apart : (s x : ℕ) (f g : Field) → (suc s ≡ suc x → ⊥) → Apart (place (suc s) f) (width f) (place (suc x) g) (width g)
slots_apart s x f g n =
    let p = spot f in
    let q = spot g in
    within? (suc s) x (λ h. before (omega arith)) (λ h. after (omega arith))

key_apart : (s x : ℕ) (f : Field) → Apart (place (suc s) f) (width f) (32 * (suc x - 1)) 8
key_apart s x f = let p = spot f in within? (suc s) x (λ h. before (omega arith)) (λ h. after (omega arith))

-- ---- stores

-- a store keeps the length
pub length_put : (m : List ℕ) (s : ℕ) (f : Field) (v : ℕ) → length (put_n m s f v) ≡ length m
unfolding put_n
length_put m zero f v = refl
length_put m (suc s) f v = simp eqb-suc-zero (Rattle.fields.proofs.Numbers.length_put (width f) m (place (suc s) f) v)

-- slot 0 takes no store
pub put_none : (m : List ℕ) (f : Field) (v : ℕ) → put_n m 0 f v ≡ m
unfolding put_n
put_none m f v = refl

-- slot 0 reads 0
pub get_none : (m : List ℕ) (f : Field) → get_n m 0 f ≡ 0
unfolding get_n
get_none m f = refl

-- the last of two stores to a field stands
pub put_same : (m : List ℕ) (s : ℕ) (f : Field) (v w : ℕ) → put_n (put_n m s f v) s f w ≡ put_n m s f w
unfolding put_n
put_same m zero f v w = refl
put_same m (suc s) f v w = simp eqb-suc-zero (put_put_same (width f) m (place (suc s) f) v w)

-- stores to different fields change places
pub put_fields : (m : List ℕ) (s : ℕ) (f g : Field) (v w : ℕ) → (f ≡ g → ⊥) → put_n (put_n m s f v) s g w ≡ put_n (put_n m s g w) s f v
unfolding put_n
put_fields m zero f g v w n = refl
put_fields m (suc s) f g v w n =
    simp eqb-suc-zero (put_put_other (width f) m (place (suc s) f) v (width g) (place (suc s) g) w (fields_apart (suc s) f g n))

-- stores to different slots change places
pub put_slots : (m : List ℕ) (s x : ℕ) (f g : Field) (v w : ℕ) → (s ≡ x → ⊥) → put_n (put_n m s f v) x g w ≡ put_n (put_n m x g w) s f v
unfolding put_n
put_slots m zero x f g v w n = refl
put_slots m (suc s) zero f g v w n = refl
put_slots m (suc s) (suc x) f g v w n =
    simp eqb-suc-zero (put_put_other (width f) m (place (suc s) f) v (width g) (place (suc x) g) w (slots_apart s x f g n))

-- ---- what is read after a store

-- a field reads as stored, if it lies within the bytes and the number fits
pub get_same : (m : List ℕ) (s : ℕ) (f : Field) (v : ℕ) → 1 ≤ s → 32 * s ≤ length m → v < 256 ^ width f → get_n (put_n m s f v) s f ≡ v
unfolding get_n put_n
get_same m zero f v low high small = omega arith
get_same m (suc s) f v low high small =
    let p = spot f in
    simp eqb-suc-zero (get_put_same (width f) m (place (suc s) f) v (omega arith) small)

-- other fields read as before
pub get_fields : (m : List ℕ) (s : ℕ) (f g : Field) (v : ℕ) → (f ≡ g → ⊥) → get_n (put_n m s f v) s g ≡ get_n m s g
unfolding get_n put_n
get_fields m zero f g v n = refl
get_fields m (suc s) f g v n =
    simp eqb-suc-zero (get_put_other (width f) m (place (suc s) f) v (width g) (place (suc s) g) (fields_apart (suc s) f g n))

-- other slots read as before
pub get_slots : (m : List ℕ) (s x : ℕ) (f g : Field) (v : ℕ) → (s ≡ x → ⊥) → get_n (put_n m s f v) x g ≡ get_n m x g
unfolding get_n put_n
get_slots m zero x f g v n = refl
get_slots m (suc s) zero f g v n = refl
get_slots m (suc s) (suc x) f g v n =
    simp eqb-suc-zero (get_put_other (width f) m (place (suc s) f) v (width g) (place (suc x) g) (slots_apart s x f g n))

-- keys stand
pub key_put : (m : List ℕ) (s x : ℕ) (f : Field) (v : ℕ) → key_n (put_n m s f v) x ≡ key_n m x
unfolding key_n put_n
key_put m zero x f v = refl
key_put m (suc s) zero f v = refl
key_put m (suc s) (suc x) f v = simp eqb-suc-zero (get_put_other (width f) m (place (suc s) f) v 8 (32 * (suc x - 1)) (key_apart s x f))
