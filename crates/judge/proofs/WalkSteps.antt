-- The answers of the walk that checks a tree, each by its tests and calls in the code's order. Assumes nothing.
use Rattle.std.specs.Prelude.{Some, None}
use Rattle.std.proofs.Common.{◌≡◌, ℕ, zero, suc, ◌+◌, ◌-◌, ◌*◌, ◌/◌, ◌%◌, ◌^◌, ◌<◌, ◌≤◌, Bool, true, false, cond, ◌&&◌, eqb, ltb, leb, List, length, sym, refl, ap, ◌∙◌, arith, ltb-false, ltb-true, eq-eqb, ne_eqb, eqb-true, le-leb}
use Rattle.std.proofs.Math.Bool.{and_assoc}
use Rattle.std.proofs.Math.Nat.{pow-le-pow_right}
use Rattle.std.proofs.lemmas.Bool.{lt-leb, eqb-false}
use Rattle.fields.specs.Number.{get_le, Bytes}
use Rattle.meaning.proofs.Facts.{test}
use Rattle.judge.specs.Check.{link_n, weighed, bound_n, parts_n, found, row_n, from, below, rises_n, own_n, sized, higher_n, higher_in, height_n, fits_n}
use Rattle.judge.proofs.SameWalk.{walk_none, bound_none, part_low, found_same}
use Rattle.judge.proofs.Heights.{none_is, by_some, sized_some, sized_is, sized_none, fit_of, part, parts_some, parts_sum, settled, height_is}
use Rattle.judge.proofs.Between.{row_left, row_right, row_balance, parts_are, link_turn}

-- ---- the way down the higher sides

-- the link on the higher side, read off the row that is lent
pub higher_right : (row : List ℕ) {b : ℕ} → b ≡ get_le 1 row 14 → b ≡ 1 → {r : ℕ} → r ≡ get_le 2 row 10 → r ≡ higher_in row
unfolding higher_in
higher_right row be e re = simp (← be, eq-eqb _ 1 e) re

pub higher_left : (row : List ℕ) {b : ℕ} → b ≡ get_le 1 row 14 → (b ≡ 1 → ⊥) → {l : ℕ} → l ≡ get_le 2 row 8 → l ≡ higher_in row
unfolding higher_in
higher_left row be e le = simp (← be, ne_eqb _ 1 e) le

higher_row : (m : List ℕ) (x : ℕ) → 1 ≤ x → 32 * x ≤ length m → higher_in (row_n m x) ≡ higher_n m x
unfolding higher_in higher_n
higher_row m x s h = rw (row_balance m x s h, row_right m x s h, row_left m x s h) refl

-- the way from here on, after h records, is the way from the root
pub record Climbing (m : List ℕ) (N root h x : ℕ) : Type 0 where
  pub most : h ≤ 15
  pub same : height_n m N (15 - h) h x ≡ height_n m N 15 0 root

pub height_end : {m : List ℕ} {N root h x : ℕ} → Climbing m N root h x → 15 ≤ h → None ≡ height_n m N 15 0 root
unfolding height_n
height_end {m} {N} {root} {h} {x} s d = let e : 15 - h ≡ 0 = omega arith in (rw e refl) ∙ s.same

module _ {m : List ℕ} {N root h x : ℕ} (s : Climbing m N root h x) (d : h < 15) where
  turn_on : height_n m N (suc (14 - h)) h x ≡ height_n m N 15 0 root
  turn_on = let e : suc (14 - h) ≡ 15 - h = omega arith in rw e s.same

  pub height_here : x ≡ 0 → Some h ≡ height_n m N 15 0 root
  unfolding height_n
  height_here z = simp (eq-eqb x 0 z) at turn_on

  module _ (n : x ≡ 0 → ⊥) where
    pub height_past : N < x → None ≡ height_n m N 15 0 root
    unfolding height_n
    height_past p = simp (ne_eqb x 0 n, lt-leb x N p) at turn_on

    pub height_on : x ≤ N → 32 * x ≤ length m → {row : List ℕ} → row ≡ row_n m x → {y : ℕ} → y ≡ higher_in row → Climbing m N root (h + 1) y
    unfolding height_n
    height_on p room re ye =
        let y_is = ye ∙ ap higher_in re ∙ higher_row m x (omega arith) room in
        let e : 15 - (h + 1) ≡ 14 - h = omega arith in
        record { most = omega arith; same = rw (e, y_is) (simp (ne_eqb x 0 n, le-leb x N p) at turn_on) }

-- ---- a link

pub word_row : (m : List ℕ) (x word lo hi : ℕ) {row : List ℕ} → row ≡ row_n m x → {w : ℕ} → w ≡ get_le 8 row 8 → {c d : Bool} → c ≡ rises_n m lo x
    → d ≡ rises_n m x hi → ((eqb w word && c) && d) ≡ fits_n m x word lo hi
unfolding fits_n
word_row m x word lo hi re we c d = simp (we, re, c, d, and_assoc) refl

module _ (m : List ℕ) (all : Bytes m) (N t level u x lo hi : ℕ) (deep : 1 ≤ level) {o : Bool} (e : o ≡ own_n m N t u x lo hi) where
  abbrev link : ℕ
  link = sized (bound_n m N t level u x (from m lo) (below m hi)) level

  turn : (x ≡ 0 → ⊥) → bound_n m N t level u x (from m lo) (below m hi) ≡ cond o (parts_n m N t (level - 1) x (from m lo) (below m hi)) 0
  turn s = go level deep where
    go : (j : ℕ) → 1 ≤ j → bound_n m N t j u x (from m lo) (below m hi) ≡ cond o (parts_n m N t (j - 1) x (from m lo) (below m hi)) 0
    go zero f = absurd (omega arith)
    go (suc j) f = let q : suc j - 1 ≡ j = omega arith in rw (q, e) (link_turn m N t j u x lo hi s all)

  pub link_other : o ≡ false → 0 ≡ link
  link_other f =
      test (eqb x 0)
      (λ z.
      let n : bound_n m N t level u x (from m lo) (below m hi) ≡ 256 = rw (eqb-true x 0 z) (bound_none m N t level u (from m lo) (below m hi)) in
      none_is link (λ some. omega (arith, (sized_some (bound_n m N t level u x (from m lo) (below m hi)) level some).0)))
      (λ z. sized_none (bound_n m N t level u x (from m lo) (below m hi)) level (turn (eqb-false x 0 z) ∙ simp f refl))

  module _ (f : o ≡ true) (s : 1 ≤ x) where
    pub link_twig : level ≤ 2 → {w : ℕ} → w ≡ sized (parts_n m N t 1 x (from m lo) (below m hi)) level → w ≡ link
    link_twig h we =
        let two : bound_n m N t 2 u x (from m lo) (below m hi) ≡ parts_n m N t 1 x (from m lo) (below m hi) =
        link_turn m N t 1 u x lo hi (λ z. omega arith) all ∙ simp (← e, f) refl in
        we ∙ ap (λ (n : ℕ). sized n level) (sym two) ∙ settled m N t 2 level u x (from m lo) (below m hi) level h (omega arith)

    pub link_record : {w : ℕ} → w ≡ sized (parts_n m N t (level - 1) x (from m lo) (below m hi)) level → w ≡ link
    link_record we = we ∙ rw (turn (λ z. omega arith), f) refl

-- what a part counts fits in
pub part_fits : (m : List ℕ) (N t level u x lo hi h : ℕ) → level ≤ 14 → {n : ℕ} → n ≡ sized (bound_n m N t level u x lo hi) h → n ≤ 16384
part_fits m N t level u x lo hi h l e =
    let most : 2 ^ level ≤ 2 ^ 14 = pow-le-pow_right {n = 2} (omega arith) l in
    let low = (part_low m N t level u x lo hi).1 in
    let w = bound_n m N t level u x lo hi in
    test (ltb 0 (sized w h)) (λ z. omega (arith, (sized_some w h (ltb-true 0 (sized w h) z)).1)) (λ z. omega (arith, ltb-false 0 (sized w h) z))

-- ---- a record

module _ (m : List ℕ) (N t tall x lo hi : ℕ) (s : 1 ≤ x) (h : 32 * x ≤ length m) (deep : 3 ≤ tall) (high : tall ≤ 14)
    {row : List ℕ} (re : row ≡ row_n m x) {b : ℕ} (be : b ≡ get_le 1 row 14) where
  abbrev whole : ℕ
  whole = sized (parts_n m N t (tall - 1) x (from m lo) (below m hi)) tall

  abbrev L : ℕ → ℕ
  L l = bound_n m N t (tall - 1) x l (from m lo) (below m x)

  abbrev R : ℕ → ℕ
  R r = bound_n m N t (tall - 1) x r (from m x) (below m hi)

  parts : {l r : ℕ} → l ≡ get_le 2 row 8 → r ≡ get_le 2 row 10 → parts_n m N t (tall - 1) x (from m lo) (below m hi) ≡ weighed b (L l) (R r)
  parts le ue = parts_are m x s h re N t (tall - 1) lo hi le ue be

  pub record_tilted : 2 < b → 0 ≡ whole
  record_tilted f = none_is whole (λ some. omega (arith, (fit_of b _ _ tall (rw (parts refl refl) at some)).low))

  module _ (low : b ≤ 2) {l : ℕ} (le : l ≡ get_le 2 row 8) {p : ℕ}
      (pe : p ≡ sized (bound_n m N t (tall - 1 - b % 2) x l (from m lo) (below m x)) (tall - 1 - b % 2)) where
    left_count : p ≡ sized (L l) (tall - 1 - b % 2)
    left_count = pe ∙ settled m N t (tall - 1 - b % 2) (tall - 1) x l (from m lo) (below m x) (tall - 1 - b % 2) (omega arith) (omega arith)

    module _ {r : ℕ} (ue : r ≡ get_le 2 row 10) where
      some_of : 1 ≤ whole → (1 ≤ p) × (1 ≤ sized (R r) (tall - 1 - b / 2))
      some_of some =
          let f = parts_some b (L l) (R r) tall (tall - 1 - b % 2) (tall - 1 - b / 2) (omega arith) (omega arith)
          (part m N t (tall - 1) x l (from m lo) (below m x) (omega arith)) (part m N t (tall - 1) x r (from m x) (below m hi) (omega arith))
          (rw (parts le ue) at some) in
          (omega (arith, f.0, left_count), f.1)

    pub record_left : p ≡ 0 → 0 ≡ whole
    record_left z = none_is whole (λ some. omega (arith, (some_of refl some).0))

    module _ (n : p ≡ 0 → ⊥) {r : ℕ} (ue : r ≡ get_le 2 row 10) {q : ℕ}
        (qe : q ≡ sized (bound_n m N t (tall - 1 - b / 2) x r (from m x) (below m hi)) (tall - 1 - b / 2)) where
      right_count : q ≡ sized (R r) (tall - 1 - b / 2)
      right_count = qe ∙ settled m N t (tall - 1 - b / 2) (tall - 1) x r (from m x) (below m hi) (tall - 1 - b / 2) (omega arith) (omega arith)

      pub record_right : q ≡ 0 → 0 ≡ whole
      record_right z = none_is whole (λ some. omega (arith, (some_of ue some).1, right_count))

      pub record_sum : (q ≡ 0 → ⊥) → p + q ≡ whole
      record_sum k =
          rw (parts le ue)
          (omega (
            arith,
            left_count,
            right_count,
            parts_sum b (L l) (R r) tall (tall - 1 - b % 2) (tall - 1 - b / 2) (omega arith) (omega arith)
                (part m N t (tall - 1) x l (from m lo) (below m x) (omega arith)) (part m N t (tall - 1) x r (from m x) (below m hi) (omega arith)) low
                (omega (arith, left_count)) (omega (arith, right_count)),
          ))

-- ---- a whole tree

module _ (m : List ℕ) (N t x : ℕ) where
  pub tree_none : x ≡ 0 → 1 ≡ found (link_n m N t 14 0 x 0 0)
  unfolding found
  tree_none z = simp (z, walk_none m N t 14 0 0 0)

  module _ (all : Bytes m) where
    abbrev tree : ℕ
    tree = bound_n m N t 14 0 x 0 18_446_744_073_709_551_616

    -- a tree by its number, and one that is too large
    found_is : found (link_n m N t 14 0 x 0 0) ≡ cond (leb (tree / 256) (N + 1)) (tree / 256) 0
    found_is = sym (found_same m N t all x)

    -- no way down the higher sides that ends
    pub tree_lost : None ≡ height_n m N 15 0 x → 0 ≡ found (link_n m N t 14 0 x 0 0)
    tree_lost none =
        let bad : tree ≡ 0 = test (ltb 0 tree)
        (λ s. let some = height_is m N t 14 0 0 x 0 18_446_744_073_709_551_616 (ltb-true 0 tree s) in absurd cc)
        (λ s. omega (arith, ltb-false 0 tree s)) in
        let n : tree / 256 ≡ 0 = omega arith in
        sym (found_is ∙ rw (n, le-leb 0 (N + 1) (omega arith)) refl)

    module _ {h : ℕ} (he : Some h ≡ height_n m N 15 0 x) (low : h ≤ 14) {n : ℕ} (e : n ≡ sized (bound_n m N t h 0 x (from m 0) (below m 0)) h) where
      count_is : n ≡ tree / 256
      unfolding from below
      count_is =
          e ∙ settled m N t h 14 0 x 0 18_446_744_073_709_551_616 h (omega arith) low
          ∙ by_some (sized tree h) (tree / 256) (λ s. (sized_some tree h s).1)
          (λ s.
          let some = he ∙ height_is m N t 14 0 0 x 0 18_446_744_073_709_551_616 (omega (arith, s)) in
          let q : h ≡ 0 + tree % 256 = cc in
          sized_is tree h (omega arith))

      pub tree_many : N + 1 < n → 0 ≡ found (link_n m N t 14 0 x 0 0)
      tree_many p = simp (← count_is, lt-leb n (N + 1) p) at (found_same m N t all x)

      pub tree_is : n ≤ N + 1 → n ≡ found (link_n m N t 14 0 x 0 0)
      tree_is p = simp (← count_is, le-leb n (N + 1) p) at (found_same m N t all x)
