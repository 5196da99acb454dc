-- The laws of parts: what a part reads after a store, and parts of two lists in a row. Each is stated for every place and count. Assumes nothing.
use Rattle.std.proofs.Common.{◌≡◌, ℕ, zero, suc, ◌+◌, ◌-◌, ◌<◌, ◌≤◌, Bool, true, false, ◌&&◌, eqb, leb, List, [], ◌∷◌, ◌++◌, length, take, drop, replicate, sym, refl, ap, ◌∙◌, ap₂, append_assoc, append-nil, arith, length-append, length-drop, take-append-drop, drop_of_length-le, length-take, length-take-le, drop-drop, take-add, drop_at, ne_eqb, eqb-true, le-leb, leb-false, leb-true}
use Rattle.std.proofs.Math.Bool.{and_assoc, and-eq-true_iff}
use Rattle.std.proofs.Math.Seq.{take-append-add, drop-append-add, take-append_seam}
use Rattle.std.proofs.lemmas.Bool.{lt-leb, eqb-false}
use Rattle.std.proofs.lemmas.List.{take-append-le, drop-append-le}
use Rattle.std.proofs.lemmas.Nat.{le_or_l}
use Rattle.std.specs.Int.Bits.{bit_or}
use Rattle.std.specs.List.{list_all}
use borrow.Rule.Slice.PartMut.{put_mid}
use Rattle.fields.specs.Part.{part, splice, zeros}

-- the places from a, m of them, and those from b, n of them, have none in common
pub data Apart (a m b n : ℕ) : Type 0 where
  before : a + m ≤ b → Apart a m b n
  after : b + n ≤ a → Apart a m b n

-- by cases on whether a place with its count lies within a list
pub within? {ℓ} : {P : Type ℓ} (a n : ℕ) → (a ≤ n → P) → (n < a → P) → P
within? {P = P} a n in_it past_it = go (leb a n) refl
  where
    go : (b : Bool) → leb a n ≡ b → P
    go true e = in_it (leb-true a n e)
    go false e = past_it (leb-false a n e)

-- ---- within the list, and outside it

-- what the answer of `within` says
pub inside : (a n : ℕ) {t : Bool} → t ≡ leb a n → t ≡ true → a ≤ n
inside a n answer taken = leb-true a n (sym answer ∙ taken)

pub outside : (a n : ℕ) {t : Bool} → t ≡ leb a n → t ≡ false → n < a
outside a n answer left = leb-false a n (sym answer ∙ left)

pub part_in : (bs : List ℕ) (at count : ℕ) → at + count ≤ length bs → part bs at count ≡ take count (drop at bs)
unfolding part
part_in bs at count h = simp (le-leb _ _ h)

pub part_out : (bs : List ℕ) (at count : ℕ) → length bs < at + count → part bs at count ≡ []
unfolding part
part_out bs at count h = simp (lt-leb _ _ h)

pub splice_in : (bs : List ℕ) (at : ℕ) (new : List ℕ) → at + length new ≤ length bs → splice bs at new ≡ take at bs ++ (new ++ drop (at + length new) bs)
unfolding splice
splice_in bs at new h = simp (le-leb _ _ h)

pub splice_out : (bs : List ℕ) (at : ℕ) (new : List ℕ) → length bs < at + length new → splice bs at new ≡ bs
unfolding splice
splice_out bs at new h = simp (lt-leb _ _ h)

pub length_part : (bs : List ℕ) (at count : ℕ) → at + count ≤ length bs → length (part bs at count) ≡ count
length_part bs at count h = ap length (part_in bs at count h) ∙ simp (length-take, length-drop) (omega arith)

-- ---- two lists in a row

pub part_append_left : (a r : List ℕ) (at count : ℕ) → at + count ≤ length a → part (a ++ r) at count ≡ part a at count
part_append_left a r at count h =
    part_in (a ++ r) at count (simp length-append (omega arith))
    ∙ ap (take count) (drop-append-le at a r (omega arith))
    ∙ take-append-le count (drop at a) r (simp length-drop (omega arith))
    ∙ sym (part_in a at count h)

pub part_append_right : (a r : List ℕ) (at count : ℕ) → part (a ++ r) (length a + at) count ≡ part r at count
part_append_right a r at count =
    within? (at + count) (length r)
    (λ h.
    part_in (a ++ r) (length a + at) count (simp length-append (omega arith))
    ∙ ap (take count) (drop-append-add a r at)
    ∙ sym (part_in r at count h))
    (λ h. part_out (a ++ r) (length a + at) count (simp length-append (omega arith)) ∙ sym (part_out r at count h))

-- ---- stores

pub length_splice : (bs : List ℕ) (at : ℕ) (new : List ℕ) → length (splice bs at new) ≡ length bs
length_splice bs at new =
    within? (at + length new) (length bs)
    (λ h. ap length (splice_in bs at new h) ∙ simp (length-append, length-take, length-drop) (omega arith))
    (λ h. ap length (splice_out bs at new h))

pub part_splice_same : (bs : List ℕ) (at : ℕ) (new : List ℕ) → at + length new ≤ length bs → part (splice bs at new) at (length new) ≡ new
part_splice_same bs at new h =
    let p : length (take at bs) ≡ at = length-take-le at bs (omega arith) in
    part_in (splice bs at new) at (length new) (simp length_splice h)
    ∙ ap (λ (l : List ℕ). take (length new) (drop at l)) (splice_in bs at new h)
    ∙ ap (take (length new)) (drop_at (take at bs) (new ++ drop (at + length new) bs) at p)
    ∙ take-append_seam new (drop (at + length new) bs)

-- two lists with the same beginning, or with the same end behind beginnings of one length, agree on the parts that lie there
same_head : (a r s : List ℕ) (at count : ℕ) → at + count ≤ length a → part (a ++ r) at count ≡ part (a ++ s) at count
same_head a r s at count h = part_append_left a r at count h ∙ sym (part_append_left a s at count h)

same_tail : (a b r : List ℕ) (n at count : ℕ) → length a ≡ n → length b ≡ n → n ≤ at → part (a ++ r) at count ≡ part (b ++ r) at count
same_tail a b r n at count p q h =
    let e : length a + (at - n) ≡ at = omega arith in
    let f : length b + (at - n) ≡ at = omega arith in
    ap (λ (i : ℕ). part (a ++ r) i count) (sym e)
    ∙ part_append_right a r (at - n) count
    ∙ sym (part_append_right b r (at - n) count)
    ∙ ap (λ (i : ℕ). part (b ++ r) i count) f

pub part_splice_other : (bs : List ℕ) (at : ℕ) (new : List ℕ) (at' count : ℕ) → Apart at (length new) at' count
    → part (splice bs at new) at' count ≡ part bs at' count
part_splice_other bs at new at' count apart = within? (at + length new) (length bs) (λ h. within_it h apart) (λ h. simp (splice_out bs at new h))
  where
    within_it : at + length new ≤ length bs → Apart at (length new) at' count → part (splice bs at new) at' count ≡ part bs at' count
    within_it h (before a) =
        let n = at + length new in
        ap (λ (l : List ℕ). part l at' count) (splice_in bs at new h ∙ sym (append_assoc (take at bs) new (drop n bs)))
        ∙ same_tail (take at bs ++ new) (take n bs) (drop n bs) n at' count
        (simp (length-append, length-take) (omega arith)) (length-take-le n bs h) a
        ∙ ap (λ (l : List ℕ). part l at' count) (take-append-drop n bs)
    within_it h (after a) =
        ap (λ (l : List ℕ). part l at' count) (splice_in bs at new h)
        ∙ same_head (take at bs) (new ++ drop (at + length new) bs) (drop at bs) at' count (simp length-take (omega arith))
        ∙ ap (λ (l : List ℕ). part l at' count) (take-append-drop at bs)

-- a store within the first of two lists, or within the second
pub splice_append_left : (a r : List ℕ) (at : ℕ) (new : List ℕ) → at + length new ≤ length a → splice (a ++ r) at new ≡ splice a at new ++ r
splice_append_left a r at new h =
    splice_in (a ++ r) at new (simp length-append (omega arith))
    ∙ ap₂ (λ (x y : List ℕ). x ++ (new ++ y)) (take-append-le at a r (omega arith)) (drop-append-le (at + length new) a r h)
    ∙ simp (splice_in a at new h, append_assoc)

pub splice_append_right : (a r : List ℕ) (at : ℕ) (new : List ℕ) → splice (a ++ r) (length a + at) new ≡ a ++ splice r at new
splice_append_right a r at new =
    within? (at + length new) (length r)
    (λ h.
    let e : length a + at + length new ≡ length a + (at + length new) = omega arith in
    splice_in (a ++ r) (length a + at) new (simp length-append (omega arith))
    ∙ ap₂ (λ (x y : List ℕ). x ++ (new ++ y)) (take-append-add a r at)
    (ap (λ (n : ℕ). drop n (a ++ r)) e ∙ drop-append-add a r (at + length new))
    ∙ simp (splice_in r at new h, append_assoc))
    (λ h. splice_out (a ++ r) (length a + at) new (simp length-append (omega arith)) ∙ simp (splice_out r at new h))

-- what a write to `b[at..at + count]` leaves
pub splice_mid : (at count : ℕ) (bs : List ℕ) {written : List ℕ} (new : List ℕ) → at + length new ≤ length bs → count ≡ length new
    → written ≡ new → put_mid at count bs written ≡ splice bs at new
splice_mid at count bs {written} new h n e =
    simp (e, n, drop-drop) (sym (splice_in bs at new h))

-- ---- a part, and a store, in two pieces

pub part_join : (bs : List ℕ) (at m n : ℕ) → at + (m + n) ≤ length bs → part bs at (m + n) ≡ part bs at m ++ part bs (at + m) n
part_join bs at m n h =
    part_in bs at (m + n) h
    ∙ take-add m n (drop at bs)
    ∙ ap₂ (λ (x y : List ℕ). x ++ y)
    (sym (part_in bs at m (omega arith)))
    (ap (take n) (drop-drop m at bs) ∙ sym (part_in bs (at + m) n (omega arith)))

pub splice_join : (bs : List ℕ) (at : ℕ) (a b : List ℕ) → at + (length a + length b) ≤ length bs
    → splice (splice bs at a) (at + length a) b ≡ splice bs at (a ++ b)
splice_join bs at a b h =
    let n = at + length a in
    let front = take at bs ++ a in
    let p : length front ≡ n = simp (length-append, length-take) (omega arith) in
    let s : splice bs at a ≡ front ++ drop n bs = splice_in bs at a (omega arith) ∙ sym (append_assoc (take at bs) a (drop n bs)) in
    let i : n ≡ length front + 0 = omega arith in
    let e : n + (0 + length b) ≡ at + length (a ++ b) = simp length-append (omega arith) in
    let t : drop (0 + length b) (drop n bs) ≡ drop (at + length (a ++ b)) bs = drop-drop (0 + length b) n bs ∙ ap (λ (k : ℕ). drop k bs) e in
    ap₂ (λ (l : List ℕ) (k : ℕ). splice l k b) s i
    ∙ splice_append_right front (drop n bs) 0 b
    ∙ ap (λ (l : List ℕ). front ++ l) (splice_in (drop n bs) 0 b (simp length-drop (omega arith)))
    ∙ sym (splice_in bs at (a ++ b) (simp length-append h) ∙ simp (append_assoc, t))

-- ---- no store, a store of what is there already, a store over the whole, and over an earlier one

pub splice_none : (bs : List ℕ) (at : ℕ) → splice bs at [] ≡ bs
splice_none bs at =
    within? (at + 0) (length bs)
    (λ h.
    let e : at + 0 ≡ at = omega arith in
    splice_in bs at [] h ∙ ap (λ (k : ℕ). take at bs ++ drop k bs) e ∙ take-append-drop at bs)
    (λ h. splice_out bs at [] h)

pub splice_part : (bs : List ℕ) (at count : ℕ) → splice bs at (part bs at count) ≡ bs
splice_part bs at count =
    within? (at + count) (length bs)
    (λ h.
    let new = part bs at count in
    let n : length new ≡ count = length_part bs at count h in
    let r : drop (at + length new) bs ≡ drop count (drop at bs) = ap (λ (k : ℕ). drop (at + k) bs) n ∙ sym (drop-drop count at bs) in
    splice_in bs at new (simp n h)
    ∙ ap₂ (λ (x y : List ℕ). take at bs ++ (x ++ y)) (part_in bs at count h) r
    ∙ simp take-append-drop)
    (λ h. ap (splice bs at) (part_out bs at count h) ∙ splice_none bs at)

pub splice_all : (a b : List ℕ) → length a ≡ length b → splice a 0 b ≡ b
splice_all a b e =
    let past : length a ≤ 0 + length b = omega arith in
    splice_in a 0 b (omega arith) ∙ ap (λ (l : List ℕ). b ++ l) (drop_of_length-le a past) ∙ append-nil b

pub splice_again : (bs : List ℕ) (at : ℕ) (a b : List ℕ) → length a ≡ length b → splice (splice bs at a) at b ≡ splice bs at b
splice_again bs at a b e =
    within? (at + length a) (length bs)
    (λ h.
    let front = take at bs in
    let rest = drop (at + length a) bs in
    let i : at ≡ length front + 0 = simp length-take (omega arith) in
    let r : drop (at + length b) bs ≡ rest = ap (λ (k : ℕ). drop (at + k) bs) (sym e) in
    ap₂ (λ (l : List ℕ) (k : ℕ). splice l k b) (splice_in bs at a h) i
    ∙ splice_append_right front (a ++ rest) 0 b
    ∙ ap (λ (l : List ℕ). front ++ l) (splice_append_left a rest 0 b (omega arith) ∙ ap (λ (l : List ℕ). l ++ rest) (splice_all a b e))
    ∙ sym (splice_in bs at b (omega arith) ∙ simp r))
    (λ h. ap (λ (l : List ℕ). splice l at b) (splice_out bs at a h))

-- ---- two stores that lie apart

-- the earlier place lies in the first of two lists, the later one begins with the second
splice_seam : (f r : List ℕ) (at : ℕ) (a : List ℕ) (at' : ℕ) (b : List ℕ) → length f ≡ at' → at + length a ≤ at'
    → splice (splice (f ++ r) at a) at' b ≡ splice (splice (f ++ r) at' b) at a
splice_seam f r at a at' b e h =
    let first = splice f at a in
    let second = splice r 0 b in
    let in_f : at + length a ≤ length f = omega arith in
    let i : at' ≡ length first + 0 = simp length_splice (omega arith) in
    let j : length f + 0 ≡ at' = omega arith in
    ap₂ (λ (l : List ℕ) (k : ℕ). splice l k b) (splice_append_left f r at a in_f) i
    ∙ splice_append_right first r 0 b
    ∙ sym (splice_append_left f second at a in_f)
    ∙ ap (λ (l : List ℕ). splice l at a) (sym (splice_append_right f r 0 b) ∙ ap (λ (k : ℕ). splice (f ++ r) k b) j)

splice_before : (bs : List ℕ) (at : ℕ) (a : List ℕ) (at' : ℕ) (b : List ℕ) → at + length a ≤ at'
    → splice (splice bs at a) at' b ≡ splice (splice bs at' b) at a
splice_before bs at a at' b h =
    within? at' (length bs)
    (λ i.
    let e : take at' bs ++ drop at' bs ≡ bs = take-append-drop at' bs in
    rw e at (splice_seam (take at' bs) (drop at' bs) at a at' b (length-take-le at' bs i) h))
    (λ o.
    splice_out (splice bs at a) at' b (simp length_splice (omega arith))
    ∙ ap (λ (l : List ℕ). splice l at a) (sym (splice_out bs at' b (omega arith))))

-- stores to parts that lie apart change places
pub splice_apart : (bs : List ℕ) (at : ℕ) (a : List ℕ) (at' : ℕ) (b : List ℕ) → Apart at (length a) at' (length b)
    → splice (splice bs at a) at' b ≡ splice (splice bs at' b) at a
splice_apart bs at a at' b (before h) = splice_before bs at a at' b h
splice_apart bs at a at' b (after h) = sym (splice_before bs at' b at a h)

-- ---- zeros

pub zeros_append : (a b : List ℕ) → zeros (a ++ b) ≡ (zeros a && zeros b)
unfolding zeros
zeros_append [] b = refl
zeros_append (x ∷ a) b = simp (zeros_append a b, and_assoc)

pub zeros_replicate : (n : ℕ) → zeros (replicate n 0) ≡ true
unfolding zeros
zeros_replicate zero = refl
zeros_replicate (suc n) = zeros_replicate n

-- all bytes are 0 exactly if the list is one of zeros
pub zeros_all : (bs : List ℕ) → zeros bs ≡ true → bs ≡ replicate (length bs) 0
unfolding zeros
zeros_all [] e = refl
zeros_all (b ∷ bs) e = let h = (and-eq-true_iff (eqb b 0) (zeros bs)).0 e in ap₂ ◌∷◌ (eqb-true b 0 h.0) (zeros_all bs h.1)

-- what two numbers have set between them is nothing exactly if both are 0
pub none_set : (a b : ℕ) → eqb (bit_or a b) 0 ≡ (eqb a 0 && eqb b 0)
none_set a b = go (eqb a 0) refl
  where
    go : (t : Bool) → eqb a 0 ≡ t → eqb (bit_or a b) 0 ≡ (t && eqb b 0)
    go true e = ap (λ (n : ℕ). eqb (bit_or n b) 0) (eqb-true a 0 e)
    go false e = ne_eqb (bit_or a b) 0 (λ z. eqb-false a 0 e (omega (arith, z, le_or_l a b)))

-- byte by byte
pub zeros_each : (bs : List ℕ) → list_all (λ b. eqb b 0) bs ≡ zeros bs
unfolding zeros
zeros_each [] = refl
zeros_each (b ∷ bs) = ap (λ (t : Bool). eqb b 0 && t) (zeros_each bs)
