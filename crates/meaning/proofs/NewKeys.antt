-- When a key is new in a tree: the search for it finds none, or it lies strictly between a record and its neighbour, or past an end of the tree.
-- Assumes nothing.
use Rattle.std.proofs.Common.{◌≡◌, ℕ, zero, suc, ◌≤◌, true, List, ◌∷◌, ◌++◌, length, sym, refl, subst, arith, ltb-true}
use Prim.Native.Nat.{Ordering}
use Rattle.avl.specs.Tree.{Dir, left, right, flip, top, list}
use Rattle.avl.specs.Way.{before, after}
use Rattle.avl.specs.Search.{Spot, toward, get}
use Rattle.avl.specs.Order.{All, first}
use Rattle.avl.proofs.Answers.{Outcome, vacant, occupied, entry_outcome}
use Rattle.avl.proofs.Keys.{side_on, key_same, keys, key_exact}
use Rattle.avl.proofs.Sorting.{all_back, all_append, all_map, all_head, Says}
use Rattle.meaning.specs.Pool.{Pool, tree_at, key_at}
use Rattle.meaning.specs.Change.{by_key_in}
use Rattle.meaning.specs.Cursor.{beyond}
use Rattle.meaning.specs.Command.{key_beyond, past}
use Rattle.meaning.specs.WellFormed.{WellFormed}
use Rattle.meaning.specs.States.{NewKey}
use Rattle.meaning.proofs.Cursors.{all_slots, tree_counts, tree_sorted}
use Rattle.meaning.proofs.Members.{Lives}
use Rattle.meaning.proofs.Neighbours.{all_left, Apart, says_apart, first_says, between_apart}

-- A key that lies past a record is sought on that side of it.
pub past_says : (p : Pool) (d : Dir) (x k : ℕ) → past p d x k ≡ true → (x ≡ 0 → ⊥) → by_key_in p k x ≡ toward d
unfolding past key_beyond by_key_in
past_says p left zero k h n = absurd (n refl)
past_says p right zero k h n = absurd (n refl)
past_says p left (suc x) k h n = side_on left k (key_at p (suc x)) (ltb-true k (key_at p (suc x)) h)
past_says p right (suc x) k h n = side_on right k (key_at p (suc x)) (ltb-true (key_at p (suc x)) k h)

-- A search that finds none seeks none of the list.
outcome_apart : (cmp : ℕ → Ordering) {l : List ℕ} {f : Spot} → Outcome cmp l f → All (λ y. y ≡ 0 → ⊥) l → top f.part ≡ 0 → Apart cmp l
outcome_apart cmp (vacant i g h) a z = subst (Apart cmp) (sym i) (all_append (says_apart cmp right _ g) (says_apart cmp left _ h))
outcome_apart cmp (occupied {a = u} {s = s} {z = v} {p = q} i g m h) a z =
    let front = before left q ++ list left u in
    let rest = list left v ++ after left q in
    absurd (all_head (all_back front (s ∷ rest) (subst (All (λ y. y ≡ 0 → ⊥)) i a)) z)

-- A key that is sought nowhere in a tree is new in it.
pub apart_new : (p : Pool) (t k : ℕ) → Apart (by_key_in p k) (list left (tree_at p t)) → NewKey p t k
unfolding by_key_in
apart_new p t k a = all_map (λ y f e. f (key_same k (key_at p y) (sym e))) a

module _ (p : Pool) (good : WellFormed p) (t k : ℕ) (low : 1 ≤ t) (high : t ≤ length p.trees) where
  -- A key that a search does not find is new.
  pub unfound_new : get (by_key_in p k) (tree_at p t) ≡ 0 → NewKey p t k
  unfolding get by_key_in keys
  unfound_new z =
      apart_new p t k (outcome_apart (by_key_in p k)
      (entry_outcome (keys (key_at p)) (by_key_in p k) (key_exact (key_at p) k) (tree_at p t) (tree_sorted p good t low high left))
      (all_slots p good t low high left) z)

  -- A key past a record of the tree, and before the next record in that direction, if there is one, is new.
  pub between_new : (d : Dir) (x : ℕ) → Lives p t x → past p d x k ≡ true → past p (flip d) (beyond d p t x) k ≡ true → NewKey p t k
  unfolding by_key_in keys beyond
  between_new d x h this that =
      let e = flip d in
      apart_new p t k (all_left e (tree_at p t)
      (between_apart (keys (key_at p)) (by_key_in p k) (key_exact (key_at p) k).follows d x (list e (tree_at p t)) (tree_sorted p good t low high e)
      (all_slots p good t low high e) (tree_counts p good t low high e x h) (past_says p d x k this (λ i. omega (arith, h.low)))
      (past_says p e (beyond d p t x) k that)))

  -- A key past the first record from a side, if there is one, lies on that side of the whole tree.
  pub end_says : (e : Dir) (x : ℕ) → x ≡ first (list e (tree_at p t)) → past p e x k ≡ true → Says (by_key_in p k) (toward e) (list left (tree_at p t))
  unfolding by_key_in keys
  end_says e x i h =
      all_left e (tree_at p t)
      (first_says (keys (key_at p)) (by_key_in p k) (key_exact (key_at p) k).follows e (list e (tree_at p t)) (tree_sorted p good t low high e)
      (all_slots p good t low high e) (past_says p e (first (list e (tree_at p t))) k (subst (λ (y : ℕ). past p e y k ≡ true) i h)))

  -- So it is new.
  pub end_new : (e : Dir) (x : ℕ) → x ≡ first (list e (tree_at p t)) → past p e x k ≡ true → NewKey p t k
  end_new e x i h = apart_new p t k (says_apart (by_key_in p k) e (list left (tree_at p t)) (end_says e x i h))
