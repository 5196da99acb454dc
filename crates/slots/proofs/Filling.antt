-- A record's own fields in the records of a pool: stored into a free slot they are its cargo, and a cleared slot is a free one. Other slots and
-- the links stay. Assumes nothing.
use Rattle.std.proofs.Common.{◌≡◌, ℕ, zero, suc, ◌+◌, ◌-◌, ◌*◌, ◌<◌, ◌≤◌, cond, List, [], ◌++◌, length, replicate, sym, refl, ap, ◌∙◌, subst, ap₂, append_assoc, arith, length-append, ne_eqb}
use Rattle.std.proofs.Math.Option.{none, some}
use Rattle.fields.specs.Number.{digits, put_le}
use Rattle.fields.specs.Part.{splice}
use Rattle.fields.proofs.Numbers.{length_digits}
use Rattle.fields.proofs.Parts.{splice_append_right}
use Rattle.avl.specs.Links.{Links, unlinked}
use Rattle.tree.specs.Section.{Cargo, row, rows_from, section}
use Rattle.tree.proofs.Sections.{Whole, length_row, splice_middle}
use Rattle.meaning.specs.Layout.{pack}
use Rattle.meaning.specs.Pool.{Rec}
use Rattle.slots.specs.Record.{fields_put, fill_n, clear_n}
use Rattle.slots.specs.Image.{record_of, cargo_of}
use Rattle.slots.specs.declared.record.Record.{Record}

-- ---- one row

-- a number stored over another of its width, between two lists
put_middle : (w : ℕ) (a b : List ℕ) (old new at : ℕ) {m : List ℕ} → m ≡ a ++ (digits w old ++ b) → length a ≡ at → put_le w m at new ≡ a ++ (digits w new ++ b)
unfolding put_le
put_middle w a b old new at e p =
    ap (λ l. splice l at (digits w new)) e
    ∙ splice_middle a (digits w old) (digits w new) b at p (length_digits w old ∙ sym (length_digits w new))

-- the four numbers of a record's links
abbrev linked : Links → List ℕ
linked k = digits 2 k.left ++ (digits 2 k.right ++ (digits 2 k.parent ++ digits 1 k.balance))

free_rest : (tail : List ℕ) → replicate 17 0 ++ tail ≡ digits 1 0 ++ (digits 4 0 ++ (digits 4 0 ++ (digits 2 0 ++ (digits 6 0 ++ tail))))
unfolding digits
free_rest tail = refl

-- the row of a free record, as the fields that stand there
free_row : (k : Links) (tail : List ℕ)
    → row k (cargo_of none) ++ tail ≡ digits 8 0 ++ (linked k ++ (digits 1 0 ++ (digits 4 0 ++ (digits 4 0 ++ (digits 2 0 ++ (digits 6 0 ++ tail))))))
unfolding row cargo_of
free_row k tail =
    let e : row k (cargo_of none) ++ tail ≡ digits 8 0 ++ (linked k ++ (replicate 17 0 ++ tail)) = simp append_assoc in
    e ∙ ap (λ (l : List ℕ). digits 8 0 ++ (linked k ++ l)) (free_rest tail)

-- the fields of a record stored into the row of a free one
fill_row : (k : Links) (r : Rec) (tail : List ℕ) → fields_put (row k (cargo_of none) ++ tail) 0 (record_of r) ≡ row k (cargo_of (some r)) ++ tail
unfolding fields_put record_of cargo_of row pack
fill_row k r tail =
    let spare = digits 6 0 ++ tail in
    let front = digits 8 r.key ++ linked k in
    let treed = front ++ digits 1 r.tree in
    let stamped = treed ++ digits 4 r.stamp in
    let started = stamped ++ digits 4 r.start in
    let long : length front ≡ 15 = simp (length-append, length_digits) in
    let first = put_middle 8 [] (linked k ++ (digits 1 0 ++ (digits 4 0 ++ (digits 4 0 ++ (digits 2 0 ++ spare))))) 0 r.key 0 (free_row k tail) refl in
    let second = put_middle 1 front (digits 4 0 ++ (digits 4 0 ++ (digits 2 0 ++ spare))) 0 r.tree 15 (first ∙ simp append_assoc) long in
    let third = put_middle 4 treed (digits 4 0 ++ (digits 2 0 ++ spare)) 0 r.stamp 16 (second ∙ simp append_assoc) (simp (length-append, length_digits)) in
    let fourth = put_middle 4 stamped (digits 2 0 ++ spare) 0 r.start 20 (third ∙ simp append_assoc) (simp (length-append, length_digits)) in
    let fifth = put_middle 2 started spare 0 r.len 24 (fourth ∙ simp append_assoc) (simp (length-append, length_digits)) in
    fifth ∙ simp append_assoc

-- a cleared row is that of a free record in no tree
clear_row : (c : Cargo) (tail : List ℕ) → length c.rest ≡ 17 → splice (row unlinked c ++ tail) 0 (replicate 32 0) ≡ row unlinked (cargo_of none) ++ tail
unfolding row cargo_of digits
clear_row c tail h = splice_middle [] (row unlinked c) (replicate 32 0) tail 0 refl (length_row unlinked c h)

-- ---- rows

rows_same : (k : ℕ → Links) (c c₂ : ℕ → Cargo) (x n : ℕ) → ((y : ℕ) → x ≤ y → c y ≡ c₂ y) → rows_from k c x n ≡ rows_from k c₂ x n
unfolding rows_from
rows_same k c c₂ x zero h = refl
rows_same k c c₂ x (suc n) h =
    ap₂ (λ (d : Cargo) (m : List ℕ). row (k x) d ++ m) (h x (omega arith)) (rows_same k c c₂ (suc x) n (λ y p. h y (omega arith)))

-- an edit of bytes from a place on, which looks at nothing before the place
record Edit (e : List ℕ → ℕ → List ℕ) : Type 0 where
  moves : (a r : List ℕ) (at : ℕ) → e (a ++ r) (length a + at) ≡ a ++ e r at

module _ (e : List ℕ → ℕ → List ℕ) (edit : Edit e) (k : ℕ → Links) (c c₂ : ℕ → Cargo) (s : ℕ) (whole : Whole c)
    (others : (y : ℕ) → (y ≡ s → ⊥) → c y ≡ c₂ y) (own : (r : List ℕ) → e (row (k s) (c s) ++ r) 0 ≡ row (k s) (c₂ s) ++ r) (tail : List ℕ) where
  -- an edit of the row of slot s among the rows
  rows_edit : (x n i : ℕ) → s ≡ x + i → i < n → e (rows_from k c x n ++ tail) (32 * i) ≡ rows_from k c₂ x n ++ tail
  unfolding rows_from
  rows_edit x zero i q h = absurd (omega arith)
  rows_edit x (suc n) zero q h =
      let at : s ≡ x = omega arith in
      let rest = rows_from k c (suc x) n ++ tail in
      ap (λ (l : List ℕ). e l 0) (append_assoc (row (k x) (c x)) (rows_from k c (suc x) n) tail)
      ∙ subst (λ (y : ℕ). e (row (k y) (c y) ++ rest) 0 ≡ row (k y) (c₂ y) ++ rest) at (own rest)
      ∙ ap (λ (l : List ℕ). row (k x) (c₂ x) ++ (l ++ tail)) (rows_same k c c₂ (suc x) n (λ y p. others y (omega arith)))
      ∙ sym (append_assoc (row (k x) (c₂ x)) (rows_from k c₂ (suc x) n) tail)
  rows_edit x (suc n) (suc i) q h =
      let first = row (k x) (c x) in
      let place : 32 * suc i ≡ length first + 32 * i = omega (arith, length_row (k x) (c x) (whole.long x)) in
      ap₂ e (append_assoc first (rows_from k c (suc x) n) tail) place
      ∙ edit.moves first (rows_from k c (suc x) n ++ tail) (32 * i)
      ∙ ap₂ (λ (d : Cargo) (m : List ℕ). row (k x) d ++ m) (others x (omega arith)) (rows_edit (suc x) n i (omega arith) (omega arith))
      ∙ sym (append_assoc (row (k x) (c₂ x)) (rows_from k c₂ (suc x) n) tail)

  section_edit : (N : ℕ) → 1 ≤ s → s ≤ N → e (section k c N ++ tail) (32 * (s - 1)) ≡ section k c₂ N ++ tail
  section_edit N low high = rows_edit 1 N (s - 1) (omega arith) (omega arith)

-- ---- stores into a section

splice_edit : (new : List ℕ) → Edit (λ m at. splice m at new)
splice_edit new = record { moves = λ a r at. splice_append_right a r at new }

put_edit : (w v off : ℕ) (a r : List ℕ) (at : ℕ) → put_le w (a ++ r) (length a + at + off) v ≡ a ++ put_le w r (at + off) v
unfolding put_le
put_edit w v off a r at =
    let e : length a + at + off ≡ length a + (at + off) = omega arith in
    ap (λ (i : ℕ). splice (a ++ r) i (digits w v)) e ∙ splice_append_right a r (at + off) (digits w v)

fields_edit : (v : Record) → Edit (λ m at. fields_put m at v)
unfolding fields_put put_le
fields_edit v = record {
  moves = λ a r at.
      simp (splice_append_right a r at (digits 8 v.key), put_edit 1 v.tree 15 a, put_edit 4 v.stamp 16 a, put_edit 4 v.start 20 a, put_edit 2 v.len 24 a);
}

-- A record's own fields, stored into a free slot, are its cargo there; every other slot and all links stay.
pub fill_section : (k : ℕ → Links) (c c₂ : ℕ → Cargo) (N s : ℕ) (r : Rec) (tail : List ℕ) → Whole c → 1 ≤ s → s ≤ N → c s ≡ cargo_of none
    → c₂ s ≡ cargo_of (some r) → ((y : ℕ) → (y ≡ s → ⊥) → c y ≡ c₂ y) → fill_n (section k c N ++ tail) s (record_of r) ≡ section k c₂ N ++ tail
unfolding fill_n
fill_section k c c₂ N s r tail whole low high free full others =
    let m = section k c N ++ tail in
    ap (λ t. cond t m (fields_put m (32 * (s - 1)) (record_of r))) (ne_eqb s 0 (omega arith))
    ∙ section_edit (λ m at. fields_put m at (record_of r)) (fields_edit (record_of r)) k c c₂ s whole others
    (λ l. ap (λ (d : Cargo). fields_put (row (k s) d ++ l) 0 (record_of r)) free ∙ fill_row (k s) r l ∙ ap (λ (d : Cargo). row (k s) d ++ l) (sym full))
    tail N low high

-- A cleared slot is a free one, if its links are those of a record in no tree; every other slot stays.
pub clear_section : (k : ℕ → Links) (c c₂ : ℕ → Cargo) (N s : ℕ) (tail : List ℕ) → Whole c → 1 ≤ s → s ≤ N → k s ≡ unlinked
    → c₂ s ≡ cargo_of none → ((y : ℕ) → (y ≡ s → ⊥) → c y ≡ c₂ y) → clear_n (section k c N ++ tail) s ≡ section k c₂ N ++ tail
unfolding clear_n
clear_section k c c₂ N s tail whole low high bare free others =
    let m = section k c N ++ tail in
    ap (λ t. cond t m (splice m (32 * (s - 1)) (replicate 32 0))) (ne_eqb s 0 (omega arith))
    ∙ section_edit (λ m at. splice m at (replicate 32 0)) (splice_edit (replicate 32 0)) k c c₂ s whole others
    (λ l.
    ap (λ (h : Links). splice (row h (c s) ++ l) 0 (replicate 32 0)) bare
    ∙ clear_row (c s) l (whole.long s)
    ∙ ap₂ (λ (h : Links) (d : Cargo). row h d ++ l) (sym bare) (sym free))
    tail N low high
