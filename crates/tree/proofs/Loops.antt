-- Loops over the levels of a tree, two sides told apart, and one turn of the search. Assumes nothing.
use Rattle.std.proofs.Common.{◌≡◌, ℕ, suc, ◌+◌, ◌-◌, ◌<◌, ◌≤◌, true, cond, not, ltb, List, sym, refl, ap, ◌∙◌, add-one, arith, le-ltb, lt-ltb, eq-eqb, ne_eqb, eqb-true, leb-false, leb-true}
use Rattle.std.proofs.Math.Dec.{compare_is_eq, is_le}
use Rattle.std.proofs.lemmas.Bool.{false≢true}
use Prim.Native.Nat.{compare, Ordering}
use Rattle.avl.specs.Tree.{Dir, left, right, alike, pick}
use Rattle.avl.specs.Search.{three}
use Rattle.tree.specs.Node.{way, child, get_n, node_n}
use Rattle.tree.specs.Walk.{levels}
use Rattle.tree.specs.Search.{Ending, seek_n}
use Rattle.tree.specs.declared.dir.Dir.{Dir as CodeDir}
use Rattle.tree.specs.declared.dir.Dir.TheVariants.{Left, Right}
use Rattle.tree.specs.declared.spot.Spot.{Spot}
use Rattle.tree.specs.declared.node.Node.{Node}

-- ---- loops over the levels of a tree: after i of them

-- so many are left
pub one_more : (i : ℕ) → i < levels → levels - i ≡ suc (levels - (i + 1))
one_more i h = omega arith

-- none is left
pub none_left : (i : ℕ) → levels ≤ i → levels - i ≡ 0
none_left i h = omega arith

-- ---- sides

-- two sides of the code told apart
pub same_side : {A : Type 0} (d e : CodeDir) (a c : A) → e ≡ d → alike (way d) (way e) a c ≡ a
same_side Left Left a c h = refl
same_side Left Right a c h = cc
same_side Right Left a c h = cc
same_side Right Right a c h = refl

pub other_side : {A : Type 0} (d e : CodeDir) (a c : A) → (e ≡ d → ⊥) → alike (way d) (way e) a c ≡ c
other_side Left Left a c h = absurd (h refl)
other_side Left Right a c h = refl
other_side Right Left a c h = refl
other_side Right Right a c h = absurd (h refl)

-- ---- the search

three_eq : {A : Type 0} (o : Ordering) (a b c : A) → compare_is_eq o ≡ true → three o a b c ≡ b
three_eq Ordering.lt a b c e = absurd (false≢true e)
three_eq Ordering.eq a b c e = refl
three_eq Ordering.gt a b c e = absurd (false≢true e)

-- a comparison of two numbers that are not equal, by the code's test
three_ne : {A : Type 0} (m k : ℕ) (a b c : A) → (m ≡ k → ⊥) → three (compare m k) a b c ≡ cond (not (ltb m k)) c a
three_ne {A} m k a b c z = go (compare m k) refl
  where
    go : (o : Ordering) → compare m k ≡ o → three o a b c ≡ cond (not (ltb m k)) c a
    go Ordering.lt e = let h : m ≤ k = leb-true m k (ap is_le e) in simp (lt-ltb m k (omega arith))
    go Ordering.eq e = absurd (z (eqb-true m k (ap compare_is_eq e)))
    go Ordering.gt e = let h : k < m = leb-false m k (ap is_le e) in simp (le-ltb m k (omega arith))

-- what is left of a search, after i comparisons, ends at z
module _ (m : List ℕ) (key x : ℕ) (at : Spot) (i : ℕ) {z : Ending} (inv : seek_n (levels - i) m key x at.parent (way at.side) i ≡ z) where
  pub seek_end : i ≤ levels → levels ≤ i → record { slot = 0; above = at.parent; side = way at.side; compared = levels } ≡ z
  unfolding seek_n
  seek_end l h = let e : i ≡ levels = omega arith in rw (none_left i h, e) at inv

  module _ (n : i < levels) where
    turn : seek_n (suc (levels - suc i)) m key x at.parent (way at.side) i ≡ z
    turn = let q : levels - i ≡ suc (levels - suc i) = omega arith in rw q at inv

    pub seek_none : x ≡ 0 → record { slot = 0; above = at.parent; side = way at.side; compared = i } ≡ z
    unfolding seek_n
    seek_none h = simp (eq-eqb x 0 h) at turn

    module _ (h : x ≡ 0 → ⊥) {y : Node} (f : y ≡ node_n m x) where
      here : Ending
      here = record { slot = x; above = at.parent; side = way at.side; compared = suc i }

      below : Dir → Ending
      below d = seek_n (levels - suc i) m key (get_n m x (child d)) x d (suc i)

      compared : three (compare key y.key) (below left) here (below right) ≡ z
      unfolding seek_n node_n here below
      compared = rw (ap (λ (u : Node). u.key) f) (simp (ne_eqb x 0 h) at turn)

      pub seek_here : key ≡ y.key → record { slot = x; above = at.parent; side = way at.side; compared = i + 1 } ≡ z
      unfolding here
      seek_here g = rw add-one (sym (three_eq (compare key y.key) (below left) here (below right) (eq-eqb key y.key g)) ∙ compared)

      module _ (g : key ≡ y.key → ⊥) where
        chosen : cond (not (ltb key y.key)) (below right) (below left) ≡ z
        chosen = sym (three_ne key y.key (below left) here (below right) g) ∙ compared

        -- on the side that the code takes
        pub seek_left : key < y.key → {s : CodeDir} → s ≡ Left → {c : ℕ} → c ≡ pick (way s) y.left y.right
            → seek_n (levels - (i + 1)) m key c x (way s) (i + 1) ≡ z
        unfolding below node_n
        seek_left t e k = rw (add-one, k, e, ap (λ (u : Node). u.left) f) (simp (lt-ltb key y.key t) at chosen)

        pub seek_right : y.key ≤ key → {s : CodeDir} → s ≡ Right → {c : ℕ} → c ≡ pick (way s) y.left y.right
            → seek_n (levels - (i + 1)) m key c x (way s) (i + 1) ≡ z
        unfolding below node_n
        seek_right t e k = rw (add-one, k, e, ap (λ (u : Node). u.right) f) (simp (le-ltb key y.key t) at chosen)
