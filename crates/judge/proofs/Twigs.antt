-- Leaves judged where they hang: a record whose word is a leaf's is a leaf, and what a record of height 1 or 2 counts. Assumes nothing.
use Rattle.std.proofs.Common.{◌≡◌, ℕ, zero, suc, ◌+◌, ◌-◌, ◌*◌, ◌/◌, ◌%◌, ◌^◌, ◌<◌, ◌≤◌, Bool, true, false, cond, ◌&&◌, eqb, leb, List, length, drop, sym, refl, ap, ◌∙◌, arith, length-drop, length-take-le, eq-eqb, ne_eqb, eqb-true, le-leb, leb-true}
use Rattle.std.proofs.Math.Bool.{and-false}
use Rattle.std.proofs.lemmas.Bool.{false≢true, eqb-false}
use Rattle.fields.specs.Number.{get_le, Bytes}
use Rattle.fields.proofs.Numbers.{get_join}
use Rattle.avl.specs.Tree.{left, right}
use Rattle.tree.specs.Node.{child, parent, balance, get_n}
use Rattle.meaning.proofs.Facts.{test, both, both_true}
use Rattle.meaning.proofs.Sections.{get_bound}
use Rattle.judge.specs.Check.{tree_n, evenly, weighed, bound_n, parts_n, row_n, from, below, rises_n, own_n, sized, pick_n, word_n, leaf_n, fits_n}
use Rattle.judge.proofs.Passing.{same_truth}
use Rattle.judge.proofs.SameWalk.{bound_none}
use Rattle.judge.proofs.Heights.{none_is, fit_of, part, parts_sum, sized_is, turned}
use Rattle.judge.proofs.Between.{row_get, row_tree, row_parent, row_balance, row_left, row_right, link_turn, parts_are}

-- ---- the word of a leaf

-- two bytes and the rest of a number
digit : (a b c d : ℕ) → a < 65536 → c < 65536 → a + 65536 * b ≡ c + 65536 * d → (a ≡ c) × (b ≡ d)
digit a b c d p q e = (omega arith, omega arith)

last_digit : (b v t : ℕ) → b < 256 → b + 256 * v ≡ 256 * t → (b ≡ 0) × (v ≡ t)
last_digit b v t p e = (omega arith, omega arith)

-- left, right, parent, balance and tree in one number
leaf_word : (l r p b v w t u : ℕ) → w ≡ l + 65536 * (r + 65536 * (p + 65536 * (b + 256 * v))) → l < 65536 → r < 65536 → p < 65536 → b < 256
    → u < 65536 → eqb w (leaf_n t u) ≡ (eqb v t && (eqb p u && (eqb l 0 && (eqb r 0 && eqb b 0))))
leaf_word l r p b v w t u e hl hr hp hb hu =
    same_truth (eqb w (leaf_n t u)) _
    (λ z.
    let q = eqb-true w (leaf_n t u) z in
    let d₁ = digit l (r + 65536 * (p + 65536 * (b + 256 * v))) 0 (65536 * (u + 16_777_216 * t)) hl (omega arith) (omega (arith, e, q)) in
    let d₂ = digit r (p + 65536 * (b + 256 * v)) 0 (u + 16_777_216 * t) hr (omega arith) (omega (arith, d₁.1)) in
    let d₃ = digit p (b + 256 * v) u (256 * t) hp hu (omega (arith, d₂.1)) in
    let d₄ = last_digit b v t hb d₃.1 in
    both_true (eqb v t) _ (eq-eqb v t d₄.1) (both_true (eqb p u) _ (eq-eqb p u d₃.0)
    (both_true (eqb l 0) _ (eq-eqb l 0 d₁.0) (both_true (eqb r 0) _ (eq-eqb r 0 d₂.0) (eq-eqb b 0 d₄.0)))))
    (λ z.
    let c₁ = both (eqb v t) _ z in
    let c₂ = both (eqb p u) _ c₁.1 in
    let c₃ = both (eqb l 0) _ c₂.1 in
    let c₄ = both (eqb r 0) _ c₃.1 in
    eq-eqb w (leaf_n t u)
    (omega (arith, e, eqb-true v t c₁.0, eqb-true p u c₂.0, eqb-true l 0 c₃.0, eqb-true r 0 c₄.0, eqb-true b 0 c₄.1)))

module _ (m : List ℕ) (all : Bytes m) (x : ℕ) (s : 1 ≤ x) (h : 32 * x ≤ length m) where
  row_long : length (row_n m x) ≡ 32
  unfolding row_n
  row_long = length-take-le 32 (drop (32 * (x - 1)) m) (simp length-drop (omega arith))

  row_bound : (w f : ℕ) → f + w ≤ 32 → get_le w (row_n m x) f < 256 ^ w
  row_bound w f e = rw (row_get m x s h w f e) (get_bound w m _ all)

  leaf_fields : (t u : ℕ) → u < 65536 → eqb (word_n m x) (leaf_n t u)
      ≡ (eqb (tree_n m x) t && (eqb (get_n m x parent) u && (eqb (get_n m x (child left)) 0 && (eqb (get_n m x (child right)) 0 && eqb (get_n m x balance) 0))))
  leaf_fields t u hu =
      let r = row_n m x in
      let long = row_long in
      let j₁ = get_join 2 6 r 8 (omega arith) in
      let j₂ = get_join 2 4 r 10 (omega arith) in
      let j₃ = get_join 2 2 r 12 (omega arith) in
      let j₄ = get_join 1 1 r 14 (omega arith) in
      rw (← row_tree m x s h, ← row_parent m x s h, ← row_left m x s h, ← row_right m x s h, ← row_balance m x s h)
      (leaf_word (get_le 2 r 8) (get_le 2 r 10) (get_le 2 r 12) (get_le 1 r 14) (get_le 1 r 15) (word_n m x) t u (omega (arith, j₁, j₂, j₃, j₄))
      (row_bound 2 8 (omega arith)) (row_bound 2 10 (omega arith)) (row_bound 2 12 (omega arith)) (row_bound 1 14 (omega arith)) hu)

-- ---- a leaf

even_none : (b : ℕ) → evenly b 0 0 ≡ eqb b 0
unfolding evenly
even_none b = test (eqb b 0) (λ e. rw e refl) (λ e. rw (e, and-false, and-false) refl)

-- a record without parts
leaf_parts : (m : List ℕ) (N t x lo hi : ℕ)
    → parts_n m N t 0 x lo hi ≡ cond (eqb (get_n m x (child left)) 0 && (eqb (get_n m x (child right)) 0 && eqb (get_n m x balance) 0)) 513 0
unfolding parts_n bound_n weighed
leaf_parts m N t x lo hi =
    let b = get_n m x balance in
    test (eqb (get_n m x (child left)) 0)
    (λ e. rw e (test (eqb (get_n m x (child right)) 0) (λ f. rw (f, even_none b) refl) (λ f. rw f refl))) (λ e. rw e refl)

regroup : (a p r c : Bool) (n : ℕ) → cond (a && (p && r)) (cond c n 0) 0 ≡ cond ((a && (p && c)) && r) n 0
regroup false p r c n = refl
regroup true false r c n = refl
regroup true true true true n = refl
regroup true true true false n = refl
regroup true true false true n = refl
regroup true true false false n = refl

own_word : (m : List ℕ) (x lo hi : ℕ) → (rises_n m lo x && rises_n m x hi) ≡ true → fits_n m x (word_n m x) lo hi ≡ true
unfolding fits_n
own_word m x lo hi r = both_true (eqb (word_n m x) (word_n m x)) _ (eq-eqb (word_n m x) (word_n m x) refl) r

module _ (m : List ℕ) (all : Bytes m) (N t : ℕ) (room : 32 * N ≤ length m) (u : ℕ) (few : u < 65536) where
  -- a link to a record that is to be a leaf
  leaf_part : (x lo hi : ℕ) → (x ≡ 0 → ⊥) → x ≤ N → bound_n m N t 1 u x (from m lo) (below m hi) ≡ cond (fits_n m x (leaf_n t u) lo hi) 513 0
  unfolding own_n fits_n
  leaf_part x lo hi s h =
      rw (
        link_turn m N t 0 u x lo hi s all,
        leaf_parts m N t x (from m lo) (below m hi),
        ne_eqb x 0 s,
        le-leb x N h,
        leaf_fields m all x (omega arith) (omega arith) t u few,
      )
      (regroup (eqb (tree_n m x) t) (eqb (get_n m x parent) u) (rises_n m lo x && rises_n m x hi) _ 513)

  -- a link of the record u to y, or to none, where u is asked in its place
  pub hung : (lo hi y a c : ℕ) → (rises_n m lo u && rises_n m u hi) ≡ true → y ≤ N → bound_n m N t 1 u y (from m a) (below m c)
      ≡ cond (fits_n m (pick_n y y u) (pick_n y (leaf_n t u) (word_n m u)) (pick_n y a lo) (pick_n y c hi)) (256 * (1 + pick_n y 1 0) + pick_n y 1 0) 0
  unfolding pick_n
  hung lo hi y a c r h =
      test (eqb y 0)
      (λ e. rw e (rw (eqb-true y 0 e) (bound_none m N t 1 u (from m a) (below m c)) ∙ sym (ap (λ (k : Bool). cond k 256 0) (own_word m u lo hi r))))
      (λ e. rw e (leaf_part y a c (eqb-false y 0 e) h))

-- ---- a record of height 1 or 2

-- what a side counts that is no record or a leaf: H is its height
side : (n H : ℕ) (f : Bool) → 1 ≤ n → n ≡ cond f (256 * (1 + H) + H) 0 → H ≤ 1 → (f ≡ true) × (n % 256 ≡ H) × (n / 256 ≡ 1 + H)
side n H true some e h = (refl, omega arith, omega arith)
side n H false some e h = absurd (omega arith)

pick_same : (x a : ℕ) → pick_n x a a ≡ a
unfolding pick_n
pick_same x a = test (eqb x 0) (λ e. rw e refl) (λ e. rw e refl)

-- a choice holds what both numbers do
pick_both : {k : ℕ} (P : ℕ → Type 0) (x a c : ℕ) → k ≡ pick_n x a c → P a → P c → P k
unfolding pick_n
pick_both P x a c e p q = rw e (test (eqb x 0) (λ z. rw z q) (λ z. rw z p))

pub pick_bit : {k : ℕ} (x : ℕ) → k ≡ pick_n x 1 0 → k ≤ 1
pick_bit x e = pick_both (λ k. k ≤ 1) x 1 0 e (omega arith) (omega arith)

pub pick_most : {k : ℕ} (N x a c : ℕ) → k ≡ pick_n x a c → a ≤ N → c ≤ N → k ≤ N
pick_most N x a c e p q = pick_both (λ k. k ≤ N) x a c e p q

-- a link or a record in its place
pub pick_slot : {k : ℕ} (x y : ℕ) → k ≡ pick_n y y x → 1 ≤ x → 1 ≤ k
unfolding pick_n
pick_slot x y e h = rw e (test (eqb y 0) (λ z. rw z h) (λ z. rw z (omega (arith, eqb-false y 0 z))))

-- links that pass the tests lead to slots
pub shaped_in : (N l r : ℕ) (c d : Bool) → (((leb l N && leb r N) && c) && d) ≡ true → (l ≤ N) × (r ≤ N)
shaped_in N l r c d z =
    let g = both (leb l N) (leb r N) (both (leb l N && leb r N) c (both ((leb l N && leb r N) && c) d z).0).0 in
    (leb-true l N g.0, leb-true r N g.1)

-- a link of a good part leads to a slot
in_slots : (m : List ℕ) (N t u y lo hi : ℕ) → 1 ≤ bound_n m N t 1 u y lo hi → y ≤ N
in_slots m N t u zero lo hi h = omega arith
in_slots m N t u (suc i) lo hi h = leb-true (suc i) N (both (leb (suc i) N) _ (turned m N t 0 u (suc i) lo hi (omega arith) h).fits).0

module _ (m : List ℕ) (all : Bytes m) (N t x lo hi h : ℕ) (s : 1 ≤ x) (inside : x ≤ N) (room : 32 * N ≤ length m) (few : N ≤ 65_535)
    (between : (rises_n m lo x && rises_n m x hi) ≡ true) {row : List ℕ} (re : row ≡ row_n m x) {l r b : ℕ} (le : l ≡ get_le 2 row 8)
    (ue : r ≡ get_le 2 row 10) (be : b ≡ get_le 1 row 14) {hl hr : ℕ} (hle : hl ≡ pick_n l 1 0) (hre : hr ≡ pick_n r 1 0) where
  abbrev left_leaf : Bool
  left_leaf = fits_n m (pick_n l l x) (pick_n l (leaf_n t x) (word_n m x)) lo (pick_n l x hi)

  abbrev right_leaf : Bool
  right_leaf = fits_n m (pick_n r r x) (pick_n r (leaf_n t x) (word_n m x)) (pick_n r x lo) hi

  abbrev P : ℕ
  P = bound_n m N t 1 x l (from m lo) (below m x)

  abbrev Q : ℕ
  Q = bound_n m N t 1 x r (from m x) (below m hi)

  abbrev twig : ℕ
  twig = sized (parts_n m N t 1 x (from m lo) (below m hi)) h

  within : 32 * x ≤ length m
  within = omega (arith, room)

  parts : parts_n m N t 1 x (from m lo) (below m hi) ≡ weighed b P Q
  parts = parts_are m x s within re N t 1 lo hi le ue be

  left_part : l ≤ N → P ≡ cond left_leaf (256 * (1 + hl) + hl) 0
  left_part i =
      rw hle (rw (pick_same l lo) at (hung m all N t room x (omega (arith, few)) lo hi l lo x between i))

  right_part : r ≤ N → Q ≡ cond right_leaf (256 * (1 + hr) + hr) 0
  right_part i =
      rw hre (rw (pick_same r hi) at (hung m all N t room x (omega (arith, few)) lo hi r x hi between i))

  -- a good twig passes every test
  pub record Twig : Type 0 where
    pub low : b ≤ 2
    pub left_in : l ≤ N
    pub right_in : r ≤ N
    pub left_high : hl + b % 2 + 1 ≡ h
    pub right_high : hr + b / 2 + 1 ≡ h
    pub left_fits : left_leaf ≡ true
    pub right_fits : right_leaf ≡ true

  twig_some : 1 ≤ twig → Twig
  twig_some some =
      let f = fit_of b P Q h (rw parts at some) in
      let i = in_slots m N t x l (from m lo) (below m x) f.left_some in
      let j = in_slots m N t x r (from m x) (below m hi) f.right_some in
      let p = side P hl left_leaf f.left_some (left_part i) (pick_bit l hle) in
      let q = side Q hr right_leaf f.right_some (right_part j) (pick_bit r hre) in
      record {
        low = f.low;
        left_in = i;
        right_in = j;
        left_high = omega (arith, f.left_high, p.1);
        right_high = omega (arith, f.right_high, q.1);
        left_fits = p.0;
        right_fits = q.0;
      }

  -- a record that passes every test counts itself and its leaves
  some_twig : Twig → 2 + (hl + hr) ≡ twig
  some_twig w =
      let p = left_part w.left_in ∙ ap (λ (k : Bool). cond k (256 * (1 + hl) + hl) 0) w.left_fits in
      let q = right_part w.right_in ∙ ap (λ (k : Bool). cond k (256 * (1 + hr) + hr) 0) w.right_fits in
      let a : hl ≤ 1 = pick_bit l hle in
      let c : hr ≤ 1 = pick_bit r hre in
      let e = sized_is P hl (omega (arith, p)) in
      let f = sized_is Q hr (omega (arith, q)) in
      let n = parts_sum b P Q h hl hr w.left_high w.right_high (part m N t 1 x l (from m lo) (below m x) (omega arith))
      (part m N t 1 x r (from m x) (below m hi) (omega arith)) w.low (omega (arith, e, p)) (omega (arith, f, q)) in
      omega (arith, e, f, p, q, n) ∙ ap (λ (k : ℕ). sized k h) (sym parts)

  -- the tests of its links and its balance
  abbrev slots : Bool
  slots = leb l N && leb r N

  abbrev even : Bool
  even = eqb (hl + b % 2 + 1) h && eqb (hr + b / 2 + 1) h

  pub twig_unshaped : ((slots && leb b 2) && even) ≡ false → 0 ≡ twig
  twig_unshaped z = none_is twig (λ some. false≢true (sym z ∙ good (twig_some some)))
    where
      good : Twig → ((slots && leb b 2) && even) ≡ true
      good w =
          both_true (slots && leb b 2) even
          (both_true slots (leb b 2) (both_true (leb l N) (leb r N) (le-leb l N w.left_in) (le-leb r N w.right_in)) (le-leb b 2 w.low))
          (both_true (eqb (hl + b % 2 + 1) h) (eqb (hr + b / 2 + 1) h) (eq-eqb (hl + b % 2 + 1) h w.left_high) (eq-eqb (hr + b / 2 + 1) h w.right_high))

  module _ (z : ((slots && leb b 2) && even) ≡ true) where
    shaped : left_leaf ≡ true → right_leaf ≡ true → Twig
    shaped p q =
        let g = both (slots && leb b 2) even z in
        let k = both (eqb (hl + b % 2 + 1) h) (eqb (hr + b / 2 + 1) h) g.1 in
        record {
          low = leb-true b 2 (both slots (leb b 2) g.0).1;
          left_in = (shaped_in N l r _ _ z).0;
          right_in = (shaped_in N l r _ _ z).1;
          left_high = eqb-true (hl + b % 2 + 1) h k.0;
          right_high = eqb-true (hr + b / 2 + 1) h k.1;
          left_fits = p;
          right_fits = q;
        }

    -- the tests of its leaves
    module _ {word : ℕ} (we : word ≡ get_le 8 row 8) {l₁ l₂ l₃ r₁ r₂ r₃ : ℕ} (a₁ : l₁ ≡ pick_n l l x) (a₂ : l₂ ≡ pick_n l (leaf_n t x) word)
        (a₃ : l₃ ≡ pick_n l x hi) {p : Bool} (pe : p ≡ fits_n m l₁ l₂ lo l₃) (c₁ : r₁ ≡ pick_n r r x) (c₂ : r₂ ≡ pick_n r (leaf_n t x) word)
        (c₃ : r₃ ≡ pick_n r x lo) {q : Bool} (qe : q ≡ fits_n m r₁ r₂ r₃ hi) where
      word_is : word ≡ word_n m x
      word_is = we ∙ ap (λ (k : List ℕ). get_le 8 k 8) re

      left_is : p ≡ left_leaf
      left_is = pe ∙ simp (a₁, a₂, a₃, word_is) refl

      right_is : q ≡ right_leaf
      right_is = qe ∙ simp (c₁, c₂, c₃, word_is) refl

      pub twig_bare : (p && q) ≡ false → 0 ≡ twig
      twig_bare n =
          none_is twig (λ some.
          let w = twig_some some in
          false≢true (sym n ∙ both_true p q (left_is ∙ w.left_fits) (right_is ∙ w.right_fits)))

      pub twig_good : (p && q) ≡ true → 2 + (hl + hr) ≡ twig
      twig_good n = let g = both p q n in some_twig (shaped (sym left_is ∙ g.0) (sym right_is ∙ g.1))
