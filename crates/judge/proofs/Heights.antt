-- Heights handed down: a record of balance b has a height exactly if its parts have what the balance leaves of it, and what a part counts if it
-- has the height that it is to have does not depend on how deep the walk may go. Assumes nothing.
use Rattle.std.specs.Prelude.{Some, None}
use Rattle.std.proofs.Common.{◌≡◌, ℕ, zero, suc, ◌+◌, ◌/◌, ◌%◌, ◌<◌, ◌≤◌, max, true, cond, eqb, leb, List, sym, refl, ap, ◌∙◌, arith, eq-eqb, ne_eqb, eqb-true, le-leb}
use Rattle.std.proofs.lemmas.Bool.{eqb-false}
use Rattle.avl.specs.Tree.{left, right}
use Rattle.tree.specs.Node.{child, balance, get_n, key_n}
use Rattle.meaning.proofs.Facts.{test, both, both_true}
use Rattle.judge.specs.Check.{evenly, weighed, bound_n, sized, higher_n, height_n, ground_n}
use Rattle.judge.proofs.Passing.{evenly_cases, or_first}
use Rattle.judge.proofs.Bounds.{even_low, weighed_parts, weighed_is, Weighed, unweigh}
use Rattle.judge.proofs.SameWalk.{own, bound_none, bound_deep, bound_turn, counts, part_low}

-- ---- a balance and two heights

split : (b p q h : ℕ) → evenly b p q ≡ true → max p q + 1 ≡ h → (b ≤ 2) × (p + b % 2 + 1 ≡ h) × (q + b / 2 + 1 ≡ h)
split b p q h e m =
    evenly_cases b p q e (λ i j. (omega (arith, i), omega (arith, i, j, m), omega (arith, i, j, m)))
    (λ i j. (omega (arith, i), omega (arith, i, j, m), omega (arith, i, j, m)))
    (λ i j. (omega (arith, i), omega (arith, i, j, m), omega (arith, i, j, m)))

rejoin : (b p q h : ℕ) → p ≤ 14 → q ≤ 14 → b ≤ 2 → p + b % 2 + 1 ≡ h → q + b / 2 + 1 ≡ h → (evenly b p q ≡ true) × (max p q + 1 ≡ h)
unfolding evenly
rejoin zero p q h c d e f g = (
  both_true (leb p 14) _ (le-leb p 14 c) (both_true (leb q 14) _ (le-leb q 14 d)
      (or_first (eqb p q) _ (eq-eqb p q (omega (arith, f, g))))),
  omega (arith, f, g),
)
rejoin (suc zero) p q h c d e f g = (
  both_true (leb p 14) _ (le-leb p 14 c) (both_true (leb q 14) _ (le-leb q 14 d)
      (or_first (eqb (p + 1) q) _ (eq-eqb (p + 1) q (omega (arith, f, g))))),
  omega (arith, f, g),
)
rejoin (suc (suc zero)) p q h c d e f g = (
  both_true (leb p 14) _ (le-leb p 14 c) (both_true (leb q 14) _ (le-leb q 14 d)
      (eq-eqb p (q + 1) (omega (arith, f, g)))),
  omega (arith, f, g),
)
rejoin (suc (suc (suc b))) p q h c d e f g = absurd (omega (arith, e))

-- ---- what a part counts at a height

pub none_is : (n : ℕ) → (1 ≤ n → ⊥) → 0 ≡ n
none_is zero f = refl
none_is (suc n) f = absurd (f (omega arith))

pub sized_some : (n h : ℕ) → 1 ≤ sized n h → (n % 256 ≡ h) × (sized n h ≡ n / 256)
unfolding sized
sized_some n h s = test (eqb (n % 256) h) (λ t. (eqb-true (n % 256) h t, rw t refl)) (λ t. absurd (omega (arith, rw t at s)))

pub sized_is : (n h : ℕ) → n % 256 ≡ h → sized n h ≡ n / 256
unfolding sized
sized_is n h e = rw (eq-eqb (n % 256) h e) refl

pub sized_none : (n h : ℕ) → n ≡ 0 → 0 ≡ sized n h
sized_none n h e = none_is (sized n h) (λ s. omega (arith, (sized_some n h s).1))

-- two numbers that are equal as soon as one of them is not 0
pub by_some : (a c : ℕ) → (1 ≤ a → a ≡ c) → (1 ≤ c → a ≡ c) → a ≡ c
by_some zero zero f g = refl
by_some zero (suc c) f g = g (omega arith)
by_some (suc a) c f g = f (omega arith)

-- ---- a record

-- the number of a part, whose height is at most 14, and that counts itself
pub record Part (n : ℕ) : Type 0 where
  pub flat : n % 256 ≤ 14
  pub itself : 1 ≤ n → 1 ≤ n / 256

-- a record of balance b and the height h, by the numbers of its parts
pub record Fit (b l r h : ℕ) : Type 0 where
  pub low : b ≤ 2
  pub left_some : 1 ≤ l
  pub right_some : 1 ≤ r
  pub left_high : l % 256 + b % 2 + 1 ≡ h
  pub right_high : r % 256 + b / 2 + 1 ≡ h

pub fit_of : (b l r h : ℕ) → 1 ≤ sized (weighed b l r) h → Fit b l r h
fit_of b l r h some =
    let w = weighed b l r in
    let s = sized_some w h some in
    let d = weighed_parts b l r (omega (arith, s.1)) in
    let e = even_low b (l % 256) (r % 256) d.2 in
    let f = split b (l % 256) (r % 256) h d.2 (omega (arith, s.0, d.3, e)) in
    record { low = f.0; left_some = d.0; right_some = d.1; left_high = f.1; right_high = f.2 }

of_fit : (b l r h : ℕ) → Part l → Part r → Fit b l r h → sized (weighed b l r) h ≡ l / 256 + r / 256
of_fit b l r h p q f =
    let e = rejoin b (l % 256) (r % 256) h p.flat q.flat f.low f.left_high f.right_high in
    let w = weighed_is b l r f.left_some f.right_some e.0 in
    let a = p.flat in
    let c = q.flat in
    sized_is (weighed b l r) h (omega (arith, w, e.1)) ∙ omega (arith, w, e.1)

-- A record counts what its parts do at the heights that its balance leaves them.
module _ (b l r h p q : ℕ) (hp : p + b % 2 + 1 ≡ h) (hq : q + b / 2 + 1 ≡ h) (pl : Part l) (pr : Part r) where
  pub parts_some : 1 ≤ sized (weighed b l r) h → (1 ≤ sized l p) × (1 ≤ sized r q)
  parts_some some =
      let f = fit_of b l r h some in (
        omega (arith, sized_is l p (omega (arith, f.left_high)), pl.itself f.left_some),
        omega (arith, sized_is r q (omega (arith, f.right_high)), pr.itself f.right_some),
      )

  pub parts_sum : b ≤ 2 → 1 ≤ sized l p → 1 ≤ sized r q → sized l p + sized r q ≡ sized (weighed b l r) h
  parts_sum low hl hr =
      let s = sized_some l p hl in
      let t = sized_some r q hr in
      let f : Fit b l r h =
      record {
        low = low;
        left_some = omega (arith, s.1);
        right_some = omega (arith, t.1);
        left_high = omega (arith, s.0);
        right_high = omega (arith, t.0);
      } in
      omega (arith, s.1, t.1, of_fit b l r h pl pr f)

-- ---- how deep the walk may go

module _ (m : List ℕ) (N t : ℕ) where
  pub part : (level u x lo hi : ℕ) → level ≤ 14 → Part (bound_n m N t level u x lo hi)
  part level u x lo hi h = record { flat = omega (arith, (part_low m N t level u x lo hi).0); itself = counts m N t level u x lo hi }

  -- a good part with a record
  pub turned : (level u x lo hi : ℕ) → 1 ≤ x → 1 ≤ bound_n m N t (suc level) u x lo hi
      → Weighed (own m N t u x) (get_n m x balance) (key_n m x) lo hi (bound_n m N t level x (get_n m x (child left)) lo (key_n m x))
      (bound_n m N t level x (get_n m x (child right)) (key_n m x + 1) hi) (bound_n m N t (suc level) u x lo hi)
  turned level u x lo hi s h =
      let n = bound_turn m N t level u x lo hi s in
      rw n (unweigh (own m N t u x) (get_n m x balance) (key_n m x) lo hi (bound_n m N t level x (get_n m x (child left)) lo (key_n m x))
      (bound_n m N t level x (get_n m x (child right)) (key_n m x + 1) hi) (rw n at h))

  -- has a height
  tall : (level u x lo hi : ℕ) → 1 ≤ x → 1 ≤ bound_n m N t level u x lo hi → 1 ≤ bound_n m N t level u x lo hi % 256
  tall level u zero lo hi s h = absurd (omega arith)
  tall zero u (suc i) lo hi s h = absurd (omega (arith, bound_deep m N t u i lo hi))
  tall (suc level) u (suc i) lo hi s h = let d = turned level u (suc i) lo hi s h in omega (arith, d.is, even_low _ _ _ d.even)

  -- and is found from the level of its height on
  deeper : (j k u x lo hi : ℕ) → 1 ≤ bound_n m N t j u x lo hi → bound_n m N t j u x lo hi % 256 ≤ k
      → bound_n m N t k u x lo hi ≡ bound_n m N t j u x lo hi
  deeper zero k u zero lo hi h e = bound_none m N t k u lo hi ∙ sym (bound_none m N t zero u lo hi)
  deeper (suc j) k u zero lo hi h e = bound_none m N t k u lo hi ∙ sym (bound_none m N t (suc j) u lo hi)
  deeper zero k u (suc i) lo hi h e = absurd (omega (arith, bound_deep m N t u i lo hi))
  deeper (suc j) zero u (suc i) lo hi h e = absurd (omega (arith, tall (suc j) u (suc i) lo hi (omega arith) h))
  deeper (suc j) (suc k) u (suc i) lo hi h e =
      let x = suc i in
      let key = key_n m x in
      let d = turned j u x lo hi (omega arith) h in
      let f = even_low _ _ _ d.even in
      rw (
        bound_turn m N t k u x lo hi (omega arith),
        bound_turn m N t j u x lo hi (omega arith),
        deeper j k x (get_n m x (child left)) lo key d.left_some (omega (arith, d.is, f, e)),
        deeper j k x (get_n m x (child right)) (key + 1) hi d.right_some (omega (arith, d.is, f, e)),
      )

  pub settled : (j k u x lo hi h : ℕ) → h ≤ j → h ≤ k → sized (bound_n m N t j u x lo hi) h ≡ sized (bound_n m N t k u x lo hi) h
  settled j k u x lo hi h p q =
      let n = bound_n m N t j u x lo hi in
      let o = bound_n m N t k u x lo hi in
      by_some (sized n h) (sized o h)
      (λ s. let e = sized_some n h s in ap (λ (n : ℕ). sized n h) (sym (deeper j k u x lo hi (omega (arith, e.1)) (omega (arith, e.0)))))
      (λ s. let e = sized_some o h s in ap (λ (n : ℕ). sized n h) (deeper k j u x lo hi (omega (arith, e.1)) (omega (arith, e.0))))

  -- The way down the higher sides of a good part ends as many levels down as the part is high.
  pub ground_height : (level u x lo hi : ℕ) → 1 ≤ bound_n m N t level u x lo hi → ground_n m N level x + bound_n m N t level u x lo hi % 256 ≡ level
  unfolding ground_n higher_n
  ground_height zero u zero lo hi h = omega (arith, bound_none m N t zero u lo hi)
  ground_height (suc level) u zero lo hi h = omega (arith, bound_none m N t (suc level) u lo hi)
  ground_height zero u (suc i) lo hi h = absurd (omega (arith, bound_deep m N t u i lo hi))
  ground_height (suc level) u (suc i) lo hi h =
      let x = suc i in
      let b = get_n m x balance in
      let key = key_n m x in
      let a = get_n m x (child left) in
      let c = get_n m x (child right) in
      let p = bound_n m N t level x a lo key in
      let q = bound_n m N t level x c (key + 1) hi in
      let d = turned level u x lo hi (omega arith) h in
      let f = even_low b (p % 256) (q % 256) d.even in
      let k = split b (p % 256) (q % 256) (max (p % 256) (q % 256) + 1) d.even refl in
      let inside = (both (leb x N) _ d.fits).0 in
      rw (ne_eqb x 0 (omega arith), inside)
      (test (eqb b 1)
      (λ e. rw e (omega (arith, ground_height level x c (key + 1) hi d.right_some, eqb-true b 1 e, k, d.is, f)))
      (λ e. rw e (omega (arith, ground_height level x a lo key d.left_some, eqb-false b 1 e, k, d.is, f))))

  -- The way down the higher sides of a good part has as many records as the part is high.
  pub height_is : (level h u x lo hi : ℕ) → 1 ≤ bound_n m N t level u x lo hi
      → height_n m N (suc level) h x ≡ Some (h + bound_n m N t level u x lo hi % 256)
  unfolding height_n higher_n
  height_is zero h u zero lo hi s = ap Some (omega (arith, bound_none m N t zero u lo hi))
  height_is (suc level) h u zero lo hi s = ap Some (omega (arith, bound_none m N t (suc level) u lo hi))
  height_is zero h u (suc i) lo hi s = absurd (omega (arith, bound_deep m N t u i lo hi))
  height_is (suc level) h u (suc i) lo hi s =
      let x = suc i in
      let b = get_n m x balance in
      let key = key_n m x in
      let a = get_n m x (child left) in
      let c = get_n m x (child right) in
      let p = bound_n m N t level x a lo key in
      let q = bound_n m N t level x c (key + 1) hi in
      let d = turned level u x lo hi (omega arith) s in
      let f = even_low b (p % 256) (q % 256) d.even in
      let k = split b (p % 256) (q % 256) (max (p % 256) (q % 256) + 1) d.even refl in
      let inside = (both (leb x N) _ d.fits).0 in
      rw (ne_eqb x 0 (omega arith), inside)
      (test (eqb b 1)
      (λ e. rw e (height_is level (h + 1) x c (key + 1) hi d.right_some ∙ ap Some (omega (arith, eqb-true b 1 e, k, d.is, f))))
      (λ e. rw e (height_is level (h + 1) x a lo key d.left_some ∙ ap Some (omega (arith, eqb-false b 1 e, k, d.is, f)))))

-- The way has at least the records that were met before, and no more than there are turns.
height_within : (m : List ℕ) (N turns h x : ℕ) {k : ℕ} → Some k ≡ height_n m N turns h x → (h ≤ k) × (k < h + turns)
unfolding height_n
height_within m N zero h x e = absurd cc
height_within m N (suc turns) h x {k} e =
    test (eqb x 0) (λ z. let same : Some k ≡ Some h = rw z at e in let n : k ≡ h = cc in (omega arith, omega arith))
    (λ z. let rest : Some k ≡ cond (leb x N) (height_n m N turns (h + 1) (higher_n m x)) None = rw z at e in
    test (leb x N)
    (λ i. let w = height_within m N turns (h + 1) (higher_n m x) (rw i at rest) in (omega (arith, w.0), omega (arith, w.1)))
    (λ i. let none : Some k ≡ None = rw i at rest in absurd cc))

-- and from a record at least that one
pub height_root : (m : List ℕ) (N turns x : ℕ) → 1 ≤ x → {k : ℕ} → Some k ≡ height_n m N (suc turns) 0 x → (1 ≤ k) × (k ≤ turns)
unfolding height_n
height_root m N turns x s {k} e =
    let rest : Some k ≡ cond (leb x N) (height_n m N turns (0 + 1) (higher_n m x)) None = rw (ne_eqb x 0 (omega arith)) at e in
    test (leb x N)
    (λ i. let w = height_within m N turns (0 + 1) (higher_n m x) (rw i at rest) in (omega (arith, w.0), omega (arith, w.1)))
    (λ i. let none : Some k ≡ None = rw i at rest in absurd cc)
