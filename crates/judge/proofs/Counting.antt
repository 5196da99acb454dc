-- Counts of records: a list of a tree's records, none twice, has all of them exactly if it is as long as their count; and the counts of all trees
-- together are the count of the live records. Assumes nothing.
use Rattle.std.proofs.Common.{◌≡◌, ℕ, zero, suc, ◌+◌, ◌<◌, ◌≤◌, Bool, true, not, ◌&&◌, eqb, ltb, leb, List, [], ◌∷◌, length, get_or, sym, refl, ap, ◌∙◌, add-zero, add-suc, suc-add, arith, ltb-true, le-ltb, lt-ltb, eq-eqb, ne_eqb, eqb-true, le-leb, leb-false, leb-true}
use Rattle.std.proofs.lemmas.Bool.{eqb-false, lt-leb}
use Rattle.avl.specs.Order.{All, Sorted}
use Rattle.avl.proofs.Sorting.{all_map}
use Rattle.meaning.specs.Layout.{bit, every, count, at, span}
use Rattle.meaning.specs.Pool.{tree_in}
use Rattle.meaning.specs.Sound.{record_ok, reached}
use Rattle.meaning.proofs.Facts.{test, both, bit_low, bit_one, count_none, span_every}
use Rattle.meaning.proofs.Clauses.{RowFacts, row_facts}
use Rattle.meaning.proofs.Hanging.{Member}

-- ---- sums over the slots

unfoldable sum_of : (ℕ → ℕ) → List ℕ → ℕ
sum_of f [] = 0
sum_of f (x ∷ xs) = f x + sum_of f xs

sum_le : (f g : ℕ → ℕ) (lo n : ℕ) → ((x : ℕ) → lo ≤ x → x < lo + n → f x ≤ g x) → sum_of f (span lo n) ≤ sum_of g (span lo n)
unfolding sum_of span
sum_le f g lo zero h = omega arith
sum_le f g lo (suc n) h = omega (arith, h lo (omega arith) (omega arith), sum_le f g (suc lo) n (λ x p q. h x (omega arith) (omega arith)))

-- at most as much everywhere and as much in all: as much everywhere
sum_eq : (f g : ℕ → ℕ) (lo n : ℕ) → ((x : ℕ) → lo ≤ x → x < lo + n → f x ≤ g x) → sum_of f (span lo n) ≡ sum_of g (span lo n)
    → (x : ℕ) → lo ≤ x → x < lo + n → f x ≡ g x
unfolding sum_of span
sum_eq f g lo zero h e x p q = absurd (omega arith)
sum_eq f g lo (suc n) h e x p q =
    let u = h lo (omega arith) (omega arith) in
    let rest : (x : ℕ) → suc lo ≤ x → x < suc lo + n → f x ≤ g x = λ x p q. h x (omega arith) (omega arith) in
    let v = sum_le f g (suc lo) n rest in
    test (eqb x lo)
    (λ t. rw (eqb-true x lo t) (omega arith))
    (λ t. sum_eq f g (suc lo) n rest (omega arith) x (omega (arith, eqb-false x lo t)) (omega arith))

sum_same : (f g : ℕ → ℕ) (lo n : ℕ) → ((x : ℕ) → lo ≤ x → x < lo + n → f x ≡ g x) → sum_of f (span lo n) ≡ sum_of g (span lo n)
unfolding sum_of span
sum_same f g lo zero h = refl
sum_same f g lo (suc n) h = omega (arith, h lo (omega arith) (omega arith), sum_same f g (suc lo) n (λ x p q. h x (omega arith) (omega arith)))

sum_add : (f g : ℕ → ℕ) (xs : List ℕ) → sum_of (λ x. f x + g x) xs ≡ sum_of f xs + sum_of g xs
unfolding sum_of
sum_add f g [] = refl
sum_add f g (x ∷ xs) = omega (arith, sum_add f g xs)

sum_out : (y lo n : ℕ) → y < lo → sum_of (λ x. bit (eqb x y)) (span lo n) ≡ 0
unfolding sum_of span
sum_out y lo zero h = refl
sum_out y lo (suc n) h = rw (ne_eqb lo y (omega arith)) (omega (arith, sum_out y (suc lo) n (omega arith)))

sum_one : (y lo n : ℕ) → lo ≤ y → y < lo + n → sum_of (λ x. bit (eqb x y)) (span lo n) ≡ 1
unfolding sum_of span
sum_one y lo zero p q = absurd (omega arith)
sum_one y lo (suc n) p q = test (eqb lo y)
    (λ t. rw t (omega (arith, eqb-true lo y t, sum_out y (suc lo) n (omega (arith, eqb-true lo y t)))))
    (λ t. rw t (omega (arith, sum_one y (suc lo) n (omega (arith, eqb-false lo y t)) (omega arith))))

sum_nil : (lo n : ℕ) → sum_of (λ x. 0) (span lo n) ≡ 0
unfolding sum_of span
sum_nil lo zero = refl
sum_nil lo (suc n) = omega (arith, sum_nil (suc lo) n)

-- a list within lo .. lo + n - 1 is as long as its elements' counts together
sum_count : (lo n : ℕ) (w : List ℕ) → All (λ y. (lo ≤ y) × (y < lo + n)) w → sum_of (λ x. count (eqb x) w) (span lo n) ≡ length w
unfolding count
sum_count lo n [] a = sum_nil lo n
sum_count lo n (y ∷ w) (All.more p a) =
    sum_add (λ x. bit (eqb x y)) (λ x. count (eqb x) w) (span lo n) ∙ rw (sum_one y lo n p.0 p.1, sum_count lo n w a) (omega arith)

sum_rows : (f : List ℕ → Bool) (h : ℕ → ℕ) (i : ℕ) (rs : List (List ℕ)) → ((k : ℕ) → k < length rs → h (i + k) ≡ bit (f (get_or rs k [])))
    → sum_of h (span i (length rs)) ≡ count f rs
unfolding sum_of span count
sum_rows f h i [] e = refl
sum_rows f h i (r ∷ rs) e =
    let u = rw add-zero at (e 0 (omega arith)) in
    rw (u, sum_rows f h (suc i) rs (λ k q. rw (suc-add, ← add-suc i k) (e (suc k) (omega arith))))

-- ---- one tree

-- A list whose keys rise has no record twice.
pub at_most_once : (key : ℕ → ℕ) (x : ℕ) (w : List ℕ) → Sorted (λ y z. key y < key z) w → count (eqb x) w ≤ 1
unfolding count
at_most_once key x [] s = omega arith
at_most_once key x (y ∷ w) (Sorted.rise a s) =
    test (eqb x y)
    (λ t. rw t (omega (arith, count_none x w a (λ q. omega (arith, ap key (eqb-true x y t))))))
    (λ t. rw t (omega (arith, at_most_once key x w s)))

-- how many records say that they are of tree t
unfoldable pub count_in : List (List ℕ) → ℕ → ℕ
count_in rs t = count (λ r. eqb (tree_in r) t) rs

module _ (rs : List (List ℕ)) (t : ℕ) (w : List ℕ) (a : All (Member rs t) w) where
  abbrev marked : ℕ → ℕ
  marked x = bit (eqb (tree_in (at [] rs x)) t)

  sum_walk : sum_of (λ x. count (eqb x) w) (span 1 (length rs)) ≡ length w
  sum_walk = sum_count 1 (length rs) w (all_map (λ y h. (h.low, omega (arith, h.high))) a)

  sum_marked : sum_of marked (span 1 (length rs)) ≡ count_in rs t
  unfolding at count_in
  sum_marked = sum_rows (λ r. eqb (tree_in r) t) marked 1 rs (λ k h. let q : 1 + k ≡ suc k = omega arith in rw q)

  below : ((x : ℕ) → count (eqb x) w ≤ 1) → (x : ℕ) → count (eqb x) w ≤ marked x
  below o x =
      test (eqb (tree_in (at [] rs x)) t)
      (λ h. rw h (o x))
      (λ h. rw h (omega (arith, count_none x w a (λ k. eqb-false (tree_in (at [] rs x)) t h k.tree))))

  -- A list of a tree's records, none twice, is no longer than their count.
  pub walk_short : ((x : ℕ) → count (eqb x) w ≤ 1) → length w ≤ count_in rs t
  walk_short o = omega (arith, sum_walk, sum_marked, sum_le (λ x. count (eqb x) w) marked 1 (length rs) (λ x p q. below o x))

  -- If it is as long, it has each record of the tree once.
  pub walk_reached : ((x : ℕ) → count (eqb x) w ≤ 1) → length w ≡ count_in rs t → reached rs t w ≡ true
  unfolding reached
  walk_reached o e =
      span_every (λ x. eqb (count (eqb x) w) (marked x)) 1 (length rs)
      (λ x p q. eq-eqb (count (eqb x) w) (marked x)
      (sum_eq (λ x. count (eqb x) w) marked 1 (length rs) (λ x p q. below o x) (sum_walk ∙ (e ∙ sym sum_marked)) x p q))

  -- If it has each once, it is as long.
  pub walk_counted : ((x : ℕ) → 1 ≤ x → x ≤ length rs → count (eqb x) w ≡ bit (eqb (tree_in (at [] rs x)) t)) → length w ≡ count_in rs t
  walk_counted h = sym sum_walk ∙ (sum_same (λ x. count (eqb x) w) marked 1 (length rs) (λ x p q. h x p (omega arith)) ∙ sum_marked)

-- ---- all trees

-- the counts of n trees, from tree t on
unfoldable pub count_from : List (List ℕ) → ℕ → ℕ → ℕ
count_from rs t zero = 0
count_from rs t (suc n) = count_in rs t + count_from rs (suc t) n

abbrev among : ℕ → ℕ → ℕ → Bool
among t n v = leb t v && ltb v (t + n)

among_none : (t v : ℕ) → bit (among t 0 v) ≡ 0
among_none t v =
    test (leb t v) (λ p. rw (p, le-ltb v (t + 0) (omega (arith, leb-true t v p)))) (λ p. rw p)

among_more : (t n v : ℕ) → bit (among t (suc n) v) ≡ bit (eqb v t) + bit (among (suc t) n v)
among_more t n v =
    let e : t + suc n ≡ suc t + n = omega arith in
    test (eqb v t)
    (λ p. let q = eqb-true v t p in rw (p, le-leb t v (omega arith), lt-ltb v (t + suc n) (omega arith), lt-leb (suc t) v (omega arith)))
    (λ p. test (leb t v)
    (λ q. let k : suc t ≤ v = omega (arith, eqb-false v t p, leb-true t v q) in rw (p, q, le-leb (suc t) v k, e) (omega arith))
    (λ q. let k : v < suc t = omega (arith, leb-false t v q) in rw (p, q, lt-leb (suc t) v k)))

module _ {A : Type 0} where
  count_zero : (f : A → Bool) → ((a : A) → bit (f a) ≡ 0) → (xs : List A) → count f xs ≡ 0
  unfolding count
  count_zero f h [] = refl
  count_zero f h (a ∷ xs) = omega (arith, h a, count_zero f h xs)

  count_add : (f g k : A → Bool) → ((a : A) → bit (f a) ≡ bit (g a) + bit (k a)) → (xs : List A) → count f xs ≡ count g xs + count k xs
  unfolding count
  count_add f g k h [] = refl
  count_add f g k h (a ∷ xs) = omega (arith, h a, count_add f g k h xs)

count_from_lem : (rs : List (List ℕ)) (t n : ℕ) → count_from rs t n ≡ count (λ r. among t n (tree_in r)) rs
unfolding count_from count_in
count_from_lem rs t zero = sym (count_zero (λ r. among t 0 (tree_in r)) (λ r. among_none t (tree_in r)) rs)
count_from_lem rs t (suc n) =
    let c = count_add (λ r. among t (suc n) (tree_in r)) (λ r. eqb (tree_in r) t) (λ r. among (suc t) n (tree_in r)) (λ r. among_more t n (tree_in r)) rs in
    omega (arith, c, count_from_lem rs (suc t) n)

-- ---- the live records

among_live : (T v : ℕ) → bit (among 1 T v) ≤ bit (not (eqb v 0))
among_live T v = test (eqb v 0) (λ e. rw (e, eqb-true v 0 e) (omega arith)) (λ e. rw e (bit_low (among 1 T v)))

module _ {A : Type 0} (f g : A → Bool) (le : (a : A) → bit (f a) ≤ bit (g a)) where
  count_le : (xs : List A) → count f xs ≤ count g xs
  unfolding count
  count_le [] = omega arith
  count_le (a ∷ xs) = omega (arith, le a, count_le xs)

  -- as many in all: each that passes one test passes the other
  count_eq : (d : A) (xs : List A) → count f xs ≡ count g xs → (k : ℕ) → k < length xs → bit (f (get_or xs k d)) ≡ bit (g (get_or xs k d))
  unfolding count
  count_eq d [] e k h = absurd (omega arith)
  count_eq d (a ∷ xs) e zero h = omega (arith, le a, count_le xs)
  count_eq d (a ∷ xs) e (suc k) h = count_eq d xs (omega (arith, le a, count_le xs)) k (omega arith)

-- No more records are of a tree from 1 to T than are live, and if as many are, each live one is.
pub count_most : (T : ℕ) (rs : List (List ℕ)) → count_from rs 1 T ≤ count (λ r. not (eqb (tree_in r) 0)) rs
count_most T rs =
    omega (arith, count_from_lem rs 1 T, count_le (λ r. among 1 T (tree_in r)) (λ r. not (eqb (tree_in r) 0)) (λ r. among_live T (tree_in r)) rs)

pub count_all : (T : ℕ) (rs : List (List ℕ)) → count_from rs 1 T ≡ count (λ r. not (eqb (tree_in r) 0)) rs → (k : ℕ) → k < length rs
    → (tree_in (get_or rs k []) ≡ 0 → ⊥) → (1 ≤ tree_in (get_or rs k [])) × (tree_in (get_or rs k []) ≤ T)
count_all T rs e k h live =
    let v = tree_in (get_or rs k []) in
    let same = count_eq (λ r. among 1 T (tree_in r)) (λ r. not (eqb (tree_in r) 0)) (λ r. among_live T (tree_in r)) [] rs (sym (count_from_lem rs 1 T) ∙ e) k h in
    let one : bit (not (eqb v 0)) ≡ 1 = rw (ne_eqb v 0 live) refl in
    let c = both (leb 1 v) (ltb v (1 + T)) (bit_one (among 1 T v) (omega arith)) in
    (leb-true 1 v c.0, omega (arith, ltb-true v (1 + T) c.1))

live_among : (T used next : ℕ) (r : List ℕ) → RowFacts T used next r → bit (among 1 T (tree_in r)) ≡ bit (not (eqb (tree_in r) 0))
live_among T used next r (RowFacts.free e z) = rw e
live_among T used next r (RowFacts.live f) =
    rw (le-leb 1 (tree_in r) f.tree_low, lt-ltb (tree_in r) (1 + T) (omega (arith, f.tree_high)), ne_eqb (tree_in r) 0 (omega (arith, f.tree_low)))

live_counts : (T used next : ℕ) (rs : List (List ℕ)) → every (record_ok T used next) rs ≡ true
    → count (λ r. among 1 T (tree_in r)) rs ≡ count (λ r. not (eqb (tree_in r) 0)) rs
unfolding count every
live_counts T used next [] h = refl
live_counts T used next (r ∷ rs) h =
    let k = both (record_ok T used next r) (every (record_ok T used next) rs) h in
    omega (arith, live_among T used next r (row_facts T used next r k.0), live_counts T used next rs k.1)

-- The counts of all trees together are the count of the live records.
pub count_live : (T used next : ℕ) (rs : List (List ℕ)) → every (record_ok T used next) rs ≡ true
    → count_from rs 1 T ≡ count (λ r. not (eqb (tree_in r) 0)) rs
count_live T used next rs h = count_from_lem rs 1 T ∙ live_counts T used next rs h
