-- The records of a pool as bytes: a store into the bytes is a change of one slot's links, and a tree written over them gives its links to its
-- slots. Assumes nothing.
use Rattle.std.proofs.Common.{◌≡◌, ℕ, zero, suc, ◌+◌, ◌-◌, ◌*◌, ◌^◌, ◌<◌, ◌≤◌, Bool, true, false, cond, eqb, List, ◌++◌, length, sym, refl, ap, ◌∙◌, ap₂, append_assoc, arith, length-append, eq-eqb, ne_eqb, eqb-true}
use Rattle.std.proofs.Math.Seq.{take-length}
use Rattle.fields.specs.Part.{part, splice}
use Rattle.fields.specs.Number.{value, digits, get_le, put_le}
use Rattle.fields.proofs.Parts.{part_in, part_append_left, part_append_right, splice_append_left, splice_append_right, splice_all}
use Rattle.fields.proofs.Numbers.{length_digits, value_digits}
use Rattle.avl.specs.Tree.{left, right, code, Tree, leaf, node, top}
use Rattle.avl.specs.Links.{Links, unlinked, links_in}
use Rattle.tree.specs.Node.{Field, child, parent, balance, offset, width, put_n, key_n}
use Rattle.tree.specs.Held.{write, over, times, room}
use Rattle.tree.specs.Section.{Cargo, row, rows_from, section}
use Rattle.tree.proofs.Ways.{room_in, here}

-- every record has 32 bytes
pub record Whole (c : ℕ → Cargo) : Type 0 where
  pub long : (x : ℕ) → length (c x).rest ≡ 17

-- ---- links by field

-- the field f of links
abbrev pub field : Field → Links → ℕ
field (child left) k = k.left
field (child right) k = k.right
field parent k = k.parent
field balance k = k.balance

-- links whose field f is v
abbrev pub stored : Field → ℕ → Links → Links
stored (child left) v k = record { left = v; right = k.right; parent = k.parent; balance = k.balance }
stored (child right) v k = record { left = k.left; right = v; parent = k.parent; balance = k.balance }
stored parent v k = record { left = k.left; right = k.right; parent = v; balance = k.balance }
stored balance v k = record { left = k.left; right = k.right; parent = k.parent; balance = v }

stored_same : (f : Field) (k : Links) → stored f (field f k) k ≡ k
stored_same (child left) k = refl
stored_same (child right) k = refl
stored_same parent k = refl
stored_same balance k = refl

-- the links of all slots, those of slot s with v in the field f
unfoldable pub changed : (ℕ → Links) → ℕ → Field → ℕ → ℕ → Links
changed k s f v x = cond (eqb x s) (stored f v (k x)) (k x)

-- ---- rows

-- the bytes of a record before the field f and after it
record Split (f : Field) (k : Links) (c : Cargo) : Type 0 where
  front : List ℕ
  back : List ℕ
  place : length front ≡ offset f
  is : (v : ℕ) → row (stored f v k) c ≡ front ++ (digits (width f) v ++ back)

split : (f : Field) (k : Links) (c : Cargo) → Split f k c
unfolding row
split (child left) k c =
    record {
      front = digits 8 c.key;
      back = digits 2 k.right ++ (digits 2 k.parent ++ (digits 1 k.balance ++ c.rest));
      place = simp length_digits;
      is = λ v. refl;
    }
split (child right) k c =
    record {
      front = digits 8 c.key ++ digits 2 k.left;
      back = digits 2 k.parent ++ (digits 1 k.balance ++ c.rest);
      place = simp (length-append, length_digits);
      is = λ v. simp append_assoc;
    }
split parent k c =
    record {
      front = digits 8 c.key ++ (digits 2 k.left ++ digits 2 k.right);
      back = digits 1 k.balance ++ c.rest;
      place = simp (length-append, length_digits);
      is = λ v. simp append_assoc;
    }
split balance k c =
    record {
      front = digits 8 c.key ++ (digits 2 k.left ++ (digits 2 k.right ++ digits 2 k.parent));
      back = c.rest;
      place = simp (length-append, length_digits);
      is = λ v. simp append_assoc;
    }

-- a record has 32 bytes
pub length_row : (k : Links) (c : Cargo) → length c.rest ≡ 17 → length (row k c) ≡ 32
unfolding row
length_row k c h = simp (length-append, length_digits) (omega arith)

length_rows : (k : ℕ → Links) (c : ℕ → Cargo) (x n : ℕ) → Whole c → length (rows_from k c x n) ≡ 32 * n
unfolding rows_from
length_rows k c x zero w = refl
length_rows k c x (suc n) w =
    length-append (row (k x) (c x)) (rows_from k c (suc x) n)
    ∙ omega (arith, length_row (k x) (c x) (w.long x), length_rows k c (suc x) n w)

rows_same : (k k₂ : ℕ → Links) (c : ℕ → Cargo) (x n : ℕ) → ((y : ℕ) → x ≤ y → y < x + n → k y ≡ k₂ y) → rows_from k c x n ≡ rows_from k₂ c x n
unfolding rows_from
rows_same k k₂ c x zero h = refl
rows_same k k₂ c x (suc n) h =
    ap₂ (λ l m. row l (c x) ++ m) (h x (omega arith) (omega arith)) (rows_same k k₂ c (suc x) n (λ y p q. h y (omega arith) (omega arith)))

-- the rows before slot y, and those from it on
rows_join : (k : ℕ → Links) (c : ℕ → Cargo) (x i n y N : ℕ) → y ≡ x + i → N ≡ i + n → rows_from k c x N ≡ rows_from k c x i ++ rows_from k c y n
unfolding rows_from
rows_join k c x zero n y N p q =
    let e : x ≡ y = omega arith in
    let f : N ≡ n = omega arith in
    ap₂ (rows_from k c) e f
rows_join k c x (suc i) n y zero p q = absurd (omega arith)
rows_join k c x (suc i) n y (suc N) p q =
    ap (λ l. row (k x) (c x) ++ l) (rows_join k c (suc x) i n y N (omega arith) (omega arith)) ∙ simp append_assoc

-- ---- sections

-- a section has 32 bytes for each slot
pub length_section : (k : ℕ → Links) (c : ℕ → Cargo) (N : ℕ) → Whole c → length (section k c N) ≡ 32 * N
length_section k c N w = length_rows k c 1 N w

-- sections of the same links are the same
pub section_same : (k k₂ : ℕ → Links) (c : ℕ → Cargo) (N : ℕ) → ((x : ℕ) → 1 ≤ x → x ≤ N → k x ≡ k₂ x) → section k c N ≡ section k₂ c N
section_same k k₂ c N h = rows_same k k₂ c 1 N (λ y p q. h y p (omega arith))

-- a store over the middle of three lists
pub splice_middle : (a old new b : List ℕ) (at : ℕ) → length a ≡ at → length old ≡ length new → splice (a ++ (old ++ b)) at new ≡ a ++ (new ++ b)
splice_middle a old new b at p q =
    let e : at ≡ length a + 0 = omega arith in
    ap (λ i. splice (a ++ (old ++ b)) i new) e
    ∙ splice_append_right a (old ++ b) 0 new
    ∙ ap (λ l. a ++ l) (splice_append_left old b 0 new (omega arith) ∙ ap (λ l. l ++ b) (splice_all old new q))

module _ (k : ℕ → Links) (c : ℕ → Cargo) (N s : ℕ) (tail : List ℕ) (low : 1 ≤ s) (high : s ≤ N) where
  -- the records before slot s, its own, and those behind it, if only the links of slot s may differ from k
  cut : (k₂ : ℕ → Links) → ((x : ℕ) → (x ≡ s → ⊥) → k₂ x ≡ k x)
      → section k₂ c N ++ tail ≡ rows_from k c 1 (s - 1) ++ (row (k₂ s) (c s) ++ (rows_from k c (suc s) (N - s) ++ tail))
  unfolding rows_from
  cut k₂ h =
      ap (λ l. l ++ tail) (rows_join k₂ c 1 (s - 1) (suc (N - s)) s N (omega arith) (omega arith))
      ∙ ap₂ (λ l m. (l ++ (row (k₂ s) (c s) ++ m)) ++ tail)
      (rows_same k₂ k c 1 (s - 1) (λ y p q. h y (λ e. omega arith)))
      (rows_same k₂ k c (suc s) (N - s) (λ y p q. h y (λ e. omega arith)))
      ∙ simp append_assoc

  -- and the bytes before the field f of slot s, the field, and those behind it
  around : (f : Field) (k₂ : ℕ → Links) (v : ℕ) → k₂ s ≡ stored f v (k s) → ((x : ℕ) → (x ≡ s → ⊥) → k₂ x ≡ k x)
      → section k₂ c N ++ tail
      ≡ (rows_from k c 1 (s - 1) ++ (split f (k s) (c s)).front)
      ++ (digits (width f) v ++ ((split f (k s) (c s)).back ++ (rows_from k c (suc s) (N - s) ++ tail)))
  around f k₂ v e h =
      cut k₂ h
      ∙ ap (λ l. rows_from k c 1 (s - 1) ++ (l ++ (rows_from k c (suc s) (N - s) ++ tail)))
      (ap (λ l. row l (c s)) e ∙ (split f (k s) (c s)).is v)
      ∙ simp append_assoc

-- a store into a section is a change of one slot's links
pub put_section : (k : ℕ → Links) (c : ℕ → Cargo) (N s : ℕ) (f : Field) (v : ℕ) (tail : List ℕ) → Whole c → 1 ≤ s → s ≤ N
    → put_n (section k c N ++ tail) s f v ≡ section (changed k s f v) c N ++ tail
unfolding put_n put_le changed
put_section k c N s f v tail w low high =
    let p = split f (k s) (c s) in
    let before = rows_from k c 1 (s - 1) in
    let behind = rows_from k c (suc s) (N - s) ++ tail in
    let at = 32 * (s - 1) + offset f in
    let none : eqb s 0 ≡ false = ne_eqb s 0 (λ e. omega arith) in
    let place : length (before ++ p.front) ≡ at =
    length-append before p.front ∙ omega (arith, length_rows k c 1 (s - 1) w, p.place) in
    ap (λ t. cond t (section k c N ++ tail) (splice (section k c N ++ tail) at (digits (width f) v))) none
    ∙ ap (λ l. splice l at (digits (width f) v)) (around k c N s tail low high f k (field f (k s)) (sym (stored_same f (k s))) (λ x n. refl))
    ∙ splice_middle (before ++ p.front) (digits (width f) (field f (k s))) (digits (width f) v) (p.back ++ behind) at place
    (length_digits (width f) (field f (k s)) ∙ sym (length_digits (width f) v))
    ∙ sym
    (around k c N s tail low high f (changed k s f v) v
    (ap (λ t. cond t (stored f v (k s)) (k s)) (eq-eqb s s refl))
    (λ x n. ap (λ t. cond t (stored f v (k x)) (k x)) (ne_eqb x s n)))

-- a record begins with its key
row_key : (k : Links) (c : Cargo) (r : List ℕ) → part (row k c ++ r) 0 8 ≡ digits 8 c.key
unfolding row
row_key k c r =
    let key = digits 8 c.key in
    let size : length key ≡ 8 = length_digits 8 c.key in
    ap (λ l. part l 0 8) (append_assoc key _ r)
    ∙ part_append_left key _ 0 8 (omega arith)
    ∙ ap (part key 0) (sym size)
    ∙ part_in key 0 (length key) (omega arith)
    ∙ take-length key

-- the key that is read of a slot is the one that it holds
pub key_section : (k : ℕ → Links) (c : ℕ → Cargo) (N s : ℕ) (tail : List ℕ) → Whole c → 1 ≤ s → s ≤ N → (c s).key < 256 ^ 8
    → key_n (section k c N ++ tail) s ≡ (c s).key
unfolding key_n get_le
key_section k c N s tail w low high small =
    let before = rows_from k c 1 (s - 1) in
    let behind = rows_from k c (suc s) (N - s) ++ tail in
    let none : eqb s 0 ≡ false = ne_eqb s 0 (λ e. omega arith) in
    let place : 32 * (s - 1) ≡ length before + 0 = omega (arith, length_rows k c 1 (s - 1) w) in
    ap (λ t. cond t 0 (value (part (section k c N ++ tail) (32 * (s - 1)) 8))) none
    ∙ ap value
    (ap₂ (λ l i. part l i 8) (cut k c N s tail low high k (λ x n. refl)) place
    ∙ part_append_right before (row (k s) (c s) ++ behind) 0 8
    ∙ row_key (k s) (c s) behind)
    ∙ value_digits 8 (c s).key small

-- ---- links written

-- the four stores of a record's links
four : (t : Bool) (k : Links) (a z u b : ℕ)
    → (let put : Field → ℕ → Links → Links = λ f v l. cond t (stored f v l) l in
    put balance b (put parent u (put (child right) z (put (child left) a k))))
    ≡ cond t (record { left = a; right = z; parent = u; balance = b }) k
four true k a z u b = refl
four false k a z u b = refl

-- links written into a section are the links of that slot
pub write_section : (k : ℕ → Links) (c : ℕ → Cargo) (N s a z u b : ℕ) (tail : List ℕ) → Whole c → 1 ≤ s → s ≤ N
    → write (section k c N ++ tail) s left a z u b
    ≡ section (λ x. cond (eqb x s) (record { left = a; right = z; parent = u; balance = b }) (k x)) c N ++ tail
unfolding write changed
write_section k c N s a z u b tail w low high =
    let k₁ = changed k s (child left) a in
    let k₂ = changed k₁ s (child right) z in
    let k₃ = changed k₂ s parent u in
    let put : (k : ℕ → Links) (f : Field) (v : ℕ) → put_n (section k c N ++ tail) s f v ≡ section (changed k s f v) c N ++ tail =
    λ k f v. put_section k c N s f v tail w low high in
    ap (λ m. put_n (put_n (put_n m s (child right) z) s parent u) s balance b) (put k (child left) a)
    ∙ ap (λ m. put_n (put_n m s parent u) s balance b) (put k₁ (child right) z)
    ∙ ap (λ m. put_n m s balance b) (put k₂ parent u)
    ∙ put k₃ balance b
    ∙ ap (λ m. m ++ tail) (section_same _ _ c N (λ x p q. four (eqb x s) (k x) a z u b))

-- a tree written over a section gives its links to its slots, and leaves the others as they are
pub section_over : (t : Tree) (u : ℕ) (k : ℕ → Links) (c : ℕ → Cargo) (N : ℕ) (tail : List ℕ) → Whole c → ((x : ℕ) → times x t ≤ room N x)
    → over t u (section k c N ++ tail) ≡ section (λ x. links_in t u x (k x)) c N ++ tail
unfolding over times links_in
section_over leaf u k c N tail w h = refl
section_over (node l s b r) u k c N tail w h =
    let in_it = room_in N s (omega (arith, h s, here s)) in
    ap (λ m. write (over l s m) s left (top l) (top r) u (code b)) (section_over r s k c N tail w (λ x. omega (arith, h x)))
    ∙ ap (λ m. write m s left (top l) (top r) u (code b)) (section_over l s (λ x. links_in r s x (k x)) c N tail w (λ x. omega (arith, h x)))
    ∙ write_section (λ x. links_in l s x (links_in r s x (k x))) c N s (top l) (top r) u (code b) tail w in_it.0 in_it.1

-- cleared links are those of a record that is in no tree
pub clear_section : (k : ℕ → Links) (c : ℕ → Cargo) (N s : ℕ) (tail : List ℕ) → Whole c → 1 ≤ s → s ≤ N
    → write (section k c N ++ tail) s left 0 0 0 0 ≡ section (λ x. cond (eqb x s) unlinked (k x)) c N ++ tail
clear_section k c N s tail w low high = write_section k c N s 0 0 0 0 tail w low high

-- clearing the links of a record that is in no tree changes nothing
pub blank_section : (k : ℕ → Links) (c : ℕ → Cargo) (N s : ℕ) (tail : List ℕ) → Whole c → 1 ≤ s → s ≤ N → k s ≡ unlinked
    → write (section k c N ++ tail) s left 0 0 0 0 ≡ section k c N ++ tail
blank_section k c N s tail w low high e =
    clear_section k c N s tail w low high ∙ ap (λ m. m ++ tail) (section_same _ _ c N (λ x p q. go x (eqb x s) refl))
  where
    go : (x : ℕ) (t : Bool) → eqb x s ≡ t → cond t unlinked (k x) ≡ k x
    go x true h = sym (ap k (eqb-true x s h) ∙ e)
    go x false h = refl
