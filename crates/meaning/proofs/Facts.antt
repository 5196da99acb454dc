-- Tests as facts, lists counted from 1, counts, rows, and fields packed and read: what the laws of this crate share. Assumes nothing.
use Rattle.std.proofs.Common.{◌≡◌, ℕ, zero, suc, ◌+◌, ◌*◌, ◌^◌, ◌<◌, ◌≤◌, Bool, true, false, ◌&&◌, eqb, List, [], ◌∷◌, ◌++◌, length, get_or, take, drop, sym, refl, ap, ◌∙◌, subst, ap₂, append_assoc, mul-zero, mul-suc, arith, length-append, length-drop, length-set, length-take, length-take-le, get_or-drop, take_all, get_or-set_other, get_or-take, get_or-set_same, drop-drop, take_at, take-add, drop_at, eq-eqb, eqb-true}
use Rattle.std.proofs.Math.Bool.{and-eq-true_iff}
use Rattle.std.proofs.Math.Decide.{dec_lt}
use Rattle.std.proofs.Math.ListN.{get_or-eq_default}
use Rattle.std.proofs.lemmas.Bool.{eqb-false}
use Rattle.fields.specs.Number.{value, digits, get_le, Bytes}
use Rattle.fields.specs.Part.{part}
use Rattle.fields.proofs.Numbers.{length_digits, value_digits, digits_value}
use Rattle.fields.proofs.Parts.{part_in, part_append_left, part_append_right}
use Rattle.avl.specs.Order.{All}
use Rattle.meaning.specs.Layout.{pack, rows, bit, all, every, count, concat, at, put, span}

-- ---- tests

-- by cases on a test, with its equation
pub test {ℓ} : {P : Type ℓ} (b : Bool) → (b ≡ true → P) → (b ≡ false → P) → P
test true f g = f refl
test false f g = g refl

abbrev pub Facts : List Bool → Type 0
Facts [] = Unit {0}
Facts (x ∷ xs) = (x ≡ true) × Facts xs

pub facts : (xs : List Bool) → all xs ≡ true → Facts xs
unfolding all
facts [] h = tt
facts (x ∷ xs) h = let k = (and-eq-true_iff x (all xs)).0 h in (k.0, facts xs k.1)

pub all_facts : (xs : List Bool) → Facts xs → all xs ≡ true
unfolding all
all_facts [] h = refl
all_facts (x ∷ xs) h = (and-eq-true_iff x (all xs)).1 (h.0, all_facts xs h.1)

pub both : (a b : Bool) → (a && b) ≡ true → (a ≡ true) × (b ≡ true)
both a b h = (and-eq-true_iff a b).0 h

pub both_true : (a b : Bool) → a ≡ true → b ≡ true → (a && b) ≡ true
both_true a b h k = (and-eq-true_iff a b).1 (h, k)

pub bit_low : (c : Bool) → bit c ≤ 1
bit_low true = omega arith
bit_low false = omega arith

pub bit_zero : (c : Bool) → bit c ≡ 0 → c ≡ false
bit_zero true h = absurd (omega arith)
bit_zero false h = refl

pub bit_one : (c : Bool) → 1 ≤ bit c → c ≡ true
bit_one true h = refl
bit_one false h = absurd (omega arith)

module _ {A : Type 0} where
  pub every_at : (f : A → Bool) (xs : List A) (i : ℕ) (d : A) → i < length xs → every f xs ≡ true → f (get_or xs i d) ≡ true
  unfolding every
  every_at f [] i d h e = absurd (omega arith)
  every_at f (x ∷ xs) zero d h e = (both (f x) (every f xs) e).0
  every_at f (x ∷ xs) (suc i) d h e = every_at f xs i d (omega arith) (both (f x) (every f xs) e).1

  pub at_every : (f : A → Bool) (xs : List A) (d : A) → ((i : ℕ) → i < length xs → f (get_or xs i d) ≡ true) → every f xs ≡ true
  unfolding every
  at_every f [] d h = refl
  at_every f (x ∷ xs) d h = both_true (f x) (every f xs) (h 0 (omega arith)) (at_every f xs d (λ i k. h (suc i) (omega arith)))

pub every_span : (f : ℕ → Bool) (i n x : ℕ) → i ≤ x → x < i + n → every f (span i n) ≡ true → f x ≡ true
unfolding every span
every_span f i zero x p q e = absurd (omega arith)
every_span f i (suc n) x p q e =
    test (eqb i x) (λ t. subst (λ (k : ℕ). f k ≡ true) (eqb-true i x t) (both (f i) (every f (span (suc i) n)) e).0)
    (λ t. every_span f (suc i) n x (omega (arith, eqb-false i x t)) (omega arith) (both (f i) (every f (span (suc i) n)) e).1)

pub span_every : (f : ℕ → Bool) (i n : ℕ) → ((x : ℕ) → i ≤ x → x < i + n → f x ≡ true) → every f (span i n) ≡ true
unfolding every span
span_every f i zero h = refl
span_every f i (suc n) h =
    both_true (f i) (every f (span (suc i) n)) (h i (omega arith) (omega arith)) (span_every f (suc i) n (λ x p q. h x (omega arith) (omega arith)))

-- ---- lists counted from 1

module _ {A : Type 0} (d : A) where
  pub at_put_same : (xs : List A) (i : ℕ) (a : A) → 1 ≤ i → i ≤ length xs → at d (put xs i a) i ≡ a
  unfolding at put
  at_put_same xs zero a h k = absurd (omega arith)
  at_put_same xs (suc i) a h k = get_or-set_same xs i a d (omega arith)

  pub at_put_other : (xs : List A) (i j : ℕ) (a : A) → (j ≡ i → ⊥) → at d (put xs i a) j ≡ at d xs j
  unfolding at put
  at_put_other xs zero j a n = refl
  at_put_other xs (suc i) zero a n = refl
  at_put_other xs (suc i) (suc j) a n = get_or-set_other xs i j a d (λ e. n (ap suc e))

  pub at_out : (xs : List A) (i : ℕ) → length xs < i → at d xs i ≡ d
  unfolding at
  at_out xs zero h = refl
  at_out xs (suc i) h = get_or-eq_default xs d (omega arith)

  pub at_none : (xs : List A) → at d xs 0 ≡ d
  unfolding at
  at_none xs = refl

pub length_put : {A : Type 0} (xs : List A) (i : ℕ) (a : A) → length (put xs i a) ≡ length xs
unfolding put
length_put xs zero a = refl
length_put xs (suc i) a = length-set xs i a

-- ---- counts

pub count_append : {A : Type 0} (f : A → Bool) (xs ys : List A) → count f (xs ++ ys) ≡ count f xs + count f ys
unfolding count
count_append f [] ys = omega arith
count_append f (x ∷ xs) ys = omega (arith, count_append f xs ys)

-- ---- rows

pub length_rows : (n w : ℕ) (bs : List ℕ) → length (rows n w bs) ≡ n
unfolding rows
length_rows zero w bs = refl
length_rows (suc n) w bs = ap suc (length_rows n w (drop w bs))

-- row i stands at w * i
pub rows_at : (n w : ℕ) (bs : List ℕ) (i : ℕ) → i < n → get_or (rows n w bs) i [] ≡ take w (drop (w * i) bs)
unfolding rows
rows_at zero w bs i h = absurd (omega arith)
rows_at (suc n) w bs zero h = rw mul-zero
rows_at (suc n) w bs (suc i) h =
    let e : w * suc i ≡ w + w * i = omega (arith, mul-suc w i) in
    rows_at n w (drop w bs) i (omega arith) ∙ rw (drop-drop (w * i) w bs, e)

pub concat_rows : (n w : ℕ) (bs : List ℕ) → concat (rows n w bs) ≡ take (w * n) bs
unfolding concat rows
concat_rows zero w bs = rw mul-zero
concat_rows (suc n) w bs =
    let e : w * suc n ≡ w + w * n = omega (arith, mul-suc w n) in
    rw (concat_rows n w (drop w bs), e, take-add w (w * n) bs)

-- all of the rows have this length
pub data Rows (w : ℕ) : List (List ℕ) → Type 0 where
  no_row : Rows w []
  one_more : {r : List ℕ} {rs : List (List ℕ)} → length r ≡ w → Rows w rs → Rows w (r ∷ rs)

pub rows_concat : (w : ℕ) (ls : List (List ℕ)) (rest : List ℕ) → Rows w ls → rows (length ls) w (concat ls ++ rest) ≡ ls
unfolding rows concat
rows_concat w [] rest no_row = refl
rows_concat w (r ∷ ls) rest (one_more e a) =
    rw (append_assoc r (concat ls) rest, take_at r (concat ls ++ rest) w e, drop_at r (concat ls ++ rest) w e, rows_concat w ls rest a)

pub length_concat : (w : ℕ) (ls : List (List ℕ)) → Rows w ls → length (concat ls) ≡ w * length ls
unfolding concat
length_concat w [] no_row = sym (mul-zero w)
length_concat w (r ∷ ls) (one_more e a) = rw (length-append r (concat ls)) (omega (arith, length_concat w ls a, mul-suc w (length ls)))

-- ---- fields packed and read

abbrev pub total : List (ℕ × ℕ) → ℕ
total [] = 0
total (f ∷ fs) = f.0 + total fs

pub length_pack : (fs : List (ℕ × ℕ)) → length (pack fs) ≡ total fs
unfolding pack
length_pack [] = refl
length_pack (f ∷ fs) = length-append (digits f.0 f.1) (pack fs) ∙ omega (arith, length_digits f.0 f.1, length_pack fs)

pub pack_append : (fs gs : List (ℕ × ℕ)) → pack (fs ++ gs) ≡ pack fs ++ pack gs
unfolding pack
pack_append [] gs = refl
pack_append (f ∷ fs) gs = ap (λ (l : List ℕ). digits f.0 f.1 ++ l) (pack_append fs gs) ∙ sym (append_assoc (digits f.0 f.1) (pack fs) (pack gs))

-- a field of a packed row, whatever follows the row, reads as its number: fs are the fields before it
pub pack_get : (fs : List (ℕ × ℕ)) (w n : ℕ) (gs : List (ℕ × ℕ)) (rest : List ℕ) → n < 256 ^ w
    → get_le w (pack (fs ++ ((w, n) ∷ gs)) ++ rest) (total fs) ≡ n
unfolding get_le pack
pack_get fs w n gs rest h =
    let d = digits w n in
    let l : length d ≡ w = length_digits w n in
    let e : pack (fs ++ ((w, n) ∷ gs)) ++ rest ≡ pack fs ++ (d ++ (pack gs ++ rest)) =
    ap (λ (x : List ℕ). x ++ rest) (pack_append fs ((w, n) ∷ gs)) ∙ simp append_assoc in
    let i : total fs ≡ length (pack fs) + 0 = omega (arith, length_pack fs) in
    ap₂ (λ (x : List ℕ) (k : ℕ). value (part x k w)) e i
    ∙ ap value (part_append_right (pack fs) (d ++ (pack gs ++ rest)) 0 w ∙ part_append_left d (pack gs ++ rest) 0 w (omega arith))
    ∙ ap value (part_in d 0 w (omega arith) ∙ take_all w d (omega arith))
    ∙ value_digits w n h

-- ---- lists of slots by their counts

-- What holds of every slot that a list counts holds of all of the list.
pub all_counted : {P : ℕ → Type 0} (w : List ℕ) → ((x : ℕ) → 1 ≤ count (eqb x) w → P x) → All P w
unfolding count
all_counted [] h = All.nil
all_counted (x ∷ w) h = All.more (h x (omega (arith, ap bit (eq-eqb x x refl)))) (all_counted w (λ y k. h y (omega arith)))

-- A slot that is no member is not in a list of members.
pub count_none : {P : ℕ → Type 0} (y : ℕ) (w : List ℕ) → All P w → (P y → ⊥) → count (eqb y) w ≡ 0
unfolding count
count_none y [] a h = refl
count_none {P} y (x ∷ w) (All.more p a) h =
    test (eqb y x) (λ t. absurd (h (subst P (sym (eqb-true y x t)) p))) (λ t. rw t (omega (arith, count_none y w a h)))

-- ---- bytes of a part

pub bytes_drop : (i : ℕ) (b : List ℕ) → Bytes b → Bytes (drop i b)
bytes_drop i b a = record { below = λ j. subst (λ (n : ℕ). n < 256) (sym (get_or-drop i b j 0)) (a.below (i + j)) }

pub bytes_take : (n : ℕ) (b : List ℕ) → Bytes b → Bytes (take n b)
bytes_take n b a = record { below = λ j. go j (dec_lt j n) }
  where
    go : (j : ℕ) → Dec (j < n) → get_or (take n b) j 0 < 256
    go j (yes h) = subst (λ (k : ℕ). k < 256) (sym (get_or-take n b j 0 h)) (a.below j)
    go j (no h) =
        let past : length (take n b) ≤ j = rw length-take (omega arith) in
        subst (λ (k : ℕ). k < 256) (sym (get_or-eq_default (take n b) 0 past)) (omega arith)

-- the fields of these widths from place i on, as they are read
abbrev pub unpack : ℕ → List ℕ → List ℕ → List (ℕ × ℕ)
unpack i [] b = []
unpack i (w ∷ ws) b = (w, get_le w b i) ∷ unpack (i + w) ws b

abbrev pub widths : List ℕ → ℕ
widths [] = 0
widths (w ∷ ws) = w + widths ws

-- fields read and packed again are the bytes that they were read from
pub pack_unpack : (ws : List ℕ) (i : ℕ) (b : List ℕ) → Bytes b → i + widths ws ≤ length b → pack (unpack i ws b) ≡ take (widths ws) (drop i b)
unfolding pack get_le
pack_unpack [] i b a h = refl
pack_unpack (w ∷ ws) i b a h =
    let q = take w (drop i b) in
    let n : length q ≡ w = length-take-le w (drop i b) (rw length-drop (omega arith)) in
    let here : digits w (value (part b i w)) ≡ q =
    ap (λ (l : List ℕ). digits w (value l)) (part_in b i w (omega arith))
    ∙ ap (λ (k : ℕ). digits k (value q)) (sym n)
    ∙ digits_value q (bytes_take w (drop i b) (bytes_drop i b a)) in
    let there = pack_unpack ws (i + w) b a (omega arith) ∙ ap (take (widths ws)) (sym (drop-drop w i b)) in
    ap₂ ◌++◌ here there ∙ sym (take-add w (widths ws) (drop i b))
