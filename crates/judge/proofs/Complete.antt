-- Walks that together meet all live records leave none with a tree outside 1 to T or a balance above 2: so the pass over the records need not ask.
-- Assumes nothing.
use Rattle.std.proofs.Common.{◌≡◌, ℕ, suc, ◌+◌, ◌<◌, ◌≤◌, true, not, ◌&&◌, eqb, leb, List, [], ◌∷◌, length, get_or, sym, refl, ap, ◌∙◌, subst, arith, eq-eqb, eqb-true, le-leb}
use Rattle.std.proofs.lemmas.Bool.{eqb-false}
use Rattle.avl.specs.Order.{All}
use Rattle.avl.specs.Tree.{left, list}
use Rattle.meaning.specs.Layout.{bit, within, all, every, count, at}
use Rattle.meaning.specs.Pool.{root_of, balance_in, tree_in}
use Rattle.meaning.specs.Sound.{live_ok, record_ok, reached}
use Rattle.meaning.proofs.Facts.{test, both, both_true, every_at, at_every, every_span}
use Rattle.meaning.proofs.Hanging.{Member, members}
use Rattle.judge.specs.Check.{Walk, link_n, trees_n}
use Rattle.judge.specs.Rows.{live_in, record_in}
use Rattle.judge.proofs.Passing.{Agree, Passed}
use Rattle.judge.proofs.Counting.{count_in, walk_reached, count_from, count_most, count_all}
use Rattle.judge.proofs.OnePass.{few, once, first_walk, trees_few}

-- ---- a record

module _ (T used next : ℕ) (r : List ℕ) where
  row_weak : record_ok T used next r ≡ true → record_in used next r ≡ true
  unfolding record_ok record_in live_ok live_in all
  row_weak h =
      test (eqb (tree_in r) 0) (λ e. rw e (rw e at h))
      (λ e. rw e (both (within 1 T (tree_in r)) _ (both (leb (balance_in r) 2) _ (rw e at h)).1).1)

  row_good : record_in used next r ≡ true → ((tree_in r ≡ 0 → ⊥) → (1 ≤ tree_in r) × (tree_in r ≤ T) × (balance_in r ≤ 2)) → record_ok T used next r ≡ true
  unfolding record_ok record_in live_ok live_in all within
  row_good h live =
      test (eqb (tree_in r) 0) (λ e. rw e (rw e at h))
      (λ e.
      let f = live (eqb-false (tree_in r) 0 e) in
      rw e (both_true (leb (balance_in r) 2) _ (le-leb (balance_in r) 2 f.2)
      (both_true (leb 1 (tree_in r) && leb (tree_in r) T) _
      (both_true (leb 1 (tree_in r)) (leb (tree_in r) T) (le-leb 1 (tree_in r) f.0) (le-leb (tree_in r) T f.1)) (rw e at h))))

pub rows_weak : (T used next : ℕ) (rs : List (List ℕ)) → every (record_ok T used next) rs ≡ true → every (record_in used next) rs ≡ true
rows_weak T used next rs h =
    at_every (record_in used next) rs [] (λ k q. row_weak T used next (get_or rs k []) (every_at (record_ok T used next) rs k [] q h))

-- ---- a walk

-- what holds of all in a list holds of each that is met there
met : {P : ℕ → Type 0} (x : ℕ) (w : List ℕ) → All P w → 1 ≤ count (eqb x) w → P x
unfolding count
met x [] a h = absurd (omega arith)
met {P} x (y ∷ w) (All.more p a) h =
    test (eqb x y) (λ t. subst P (sym (eqb-true x y t)) p) (λ t. met x w a (omega (arith, rw t at h)))

-- a good walk that meets as many as say that they are of the tree meets each, and has seen its balance
walk_low : (rs : List (List ℕ)) (t root : ℕ) (f : Walk) → Passed rs t 14 0 root 0 0 f → f.seen ≡ count_in rs t
    → (x : ℕ) → Member rs t x → balance_in (at [] rs x) ≤ 2
unfolding reached
walk_low rs t root f p e x i =
    let w = list left p.tree in
    let seen_is : f.seen ≡ 0 + length w = ap (λ (f : Walk). f.seen) p.found in
    let here = every_span (λ x. eqb (count (eqb x) w) (bit (eqb (tree_in (at [] rs x)) t))) 1 (length rs) x i.low (omega (arith, i.high))
    (walk_reached rs t w (members p.hung) (once rs t root f p) (omega arith)) in
    let one : bit (eqb (tree_in (at [] rs x)) t) ≡ 1 = rw (eq-eqb (tree_in (at [] rs x)) t i.tree) refl in
    met x w p.low (omega (arith, eqb-true (count (eqb x) w) (bit (eqb (tree_in (at [] rs x)) t)) here))

-- ---- all trees

module _ (m : List ℕ) (rs : List (List ℕ)) (live : ℕ) (g : Agree m rs) where
  trees_low : (t total : ℕ) (es : List (List ℕ)) → total + count_from rs t (length es) ≡ live → trees_n m (length rs) live t total es ≡ true
      → (x u : ℕ) → t ≤ u → u < t + length es → Member rs u x → balance_in (at [] rs x) ≤ 2
  unfolding count_from
  trees_low t total [] s h x u p q i = absurd (omega arith)
  trees_low t total (e ∷ es) s h x u p q i =
      let f = link_n m (length rs) t 14 0 (root_of e) 0 0 in
      let w = first_walk m rs live g t total e es h in
      let all_met : f.seen ≡ count_in rs t = omega (arith, few rs t (root_of e) f w.0, trees_few m rs live g (suc t) (total + f.seen) es w.2) in
      test (eqb u t)
      (λ z. walk_low rs t (root_of e) f w.0 all_met x (record { low = i.low; high = i.high; tree = i.tree ∙ eqb-true u t z }))
      (λ z. trees_low (suc t) (total + f.seen) es (omega arith) w.2 x u (omega (arith, eqb-false u t z)) (omega arith) i)

pub complete : (m : List ℕ) (rs : List (List ℕ)) (T used next : ℕ) (es : List (List ℕ)) → Agree m rs → length es ≡ T
    → every (record_in used next) rs ≡ true → trees_n m (length rs) (count (λ r. not (eqb (tree_in r) 0)) rs) 1 0 es ≡ true
    → every (record_ok T used next) rs ≡ true
unfolding at
complete m rs T used next es g many i h =
    let live = count (λ r. not (eqb (tree_in r) 0)) rs in
    let s : 0 + count_from rs 1 (length es) ≡ live = omega (arith, trees_few m rs live g 1 0 es h, count_most (length es) rs) in
    let e : count_from rs 1 (length es) ≡ live = omega arith in
    let s' : count_from rs 1 T ≡ live = rw many at e in
    at_every (record_ok T used next) rs []
    (λ k q. row_good T used next (get_or rs k []) (every_at (record_in used next) rs k [] q i)
    (λ n.
    let c = count_all T rs s' k q n in (
      c.0,
      c.1,
      trees_low m rs live g 1 0 es s h (suc k) (tree_in (get_or rs k [])) c.0 (omega (arith, c.1))
          (record { low = omega arith; high = omega arith; tree = refl }),
    )))
