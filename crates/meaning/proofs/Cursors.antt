-- Records of a tree, and the cursor on them: what it stands at and what it has beside it are live records of its tree. Assumes nothing.
use Rattle.std.proofs.Common.{◌≡◌, ℕ, ◌≤◌, true, eqb, ◌∷◌, ◌++◌, length, sym, refl, ap, ◌∙◌, subst, arith, eq-eqb}
use Prim.Native.Nat.{Ordering}
use Rattle.avl.specs.Tree.{Dir, left, right, flip, alike, Bal, Tree, leaf, node, list}
use Rattle.avl.specs.Way.{Way, root, plug, above, side, before, after}
use Rattle.avl.specs.Search.{Spot, entry}
use Rattle.avl.specs.Order.{All, Sorted, From, LessKey}
use Rattle.avl.proofs.Beside.{list_sorted}
use Rattle.avl.proofs.Lists.{list_plug}
use Rattle.avl.proofs.Search.{seek_plug, entry_list}
use Rattle.avl.proofs.Sorting.{all_front, all_back, all_map, all_head}
use Rattle.avl.proofs.Walks.{nearest}
use Rattle.meaning.specs.Layout.{bit, count}
use Rattle.meaning.specs.Pool.{Pool, rec_at, tree_at, key_at, lives_in}
use Rattle.meaning.specs.Change.{by_key_in}
use Rattle.meaning.specs.Cursor.{Cursor, nowhere, occupied, vacant, first_entry, last_entry, cursor_tree, standing, beyond, next_of}
use Rattle.meaning.specs.WellFormed.{WellFormed}
use Rattle.meaning.specs.States.{CursorOk, at_nowhere, at_occupied, at_vacant, at_first, at_last}
use Rattle.meaning.proofs.Members.{Lives, lives, tree_lives}
use Rattle.meaning.proofs.Neighbours.{all_first, all_following, all_from, count_from_lem, following_after}

-- ---- the records of a tree

-- The test that a slot lives in a tree passes for a live one.
pub lives_is : (p : Pool) (t x : ℕ) → Lives p t x → lives_in t (rec_at p x) ≡ true
unfolding lives_in
lives_is p t x l = ap (lives_in t) l.is ∙ eq-eqb l.rec.tree t l.tree_is

-- What has a live record is a tree of the pool.
pub lives_tree : (p : Pool) → WellFormed p → (t x : ℕ) → Lives p t x → (1 ≤ t) × (t ≤ length p.trees)
lives_tree p good t x h =
    let g = good.recs x h.rec h.is in
    let e = h.tree_is in
    (omega arith, omega arith)

-- A cursor fits at every live record.
pub lives_cursor : (p : Pool) → WellFormed p → (t x : ℕ) → Lives p t x → CursorOk p (occupied t x)
lives_cursor p good t x h = let b = lives_tree p good t x h in at_occupied b.0 b.1 (lives_is p t x h)

module _ (p : Pool) (good : WellFormed p) (t : ℕ) (low : 1 ≤ t) (high : t ≤ length p.trees) where
  -- All of a tree lives in it, listed from any side.
  pub all_live : (e : Dir) → All (Lives p t) (list e (tree_at p t))
  all_live e = all_from e (tree_at p t) (tree_lives p t (good.trees t low high))

  -- So none of it is slot 0.
  pub all_slots : (e : Dir) → All (λ y. y ≡ 0 → ⊥) (list e (tree_at p t))
  all_slots e = all_map (λ y h i. omega (arith, h.low)) (all_live e)

  -- What lives in a tree is listed by it.
  pub tree_counts : (e : Dir) (x : ℕ) → Lives p t x → 1 ≤ count (eqb x) (list e (tree_at p t))
  tree_counts e x h = omega (arith, count_from_lem (eqb x) e (tree_at p t), (good.trees t low high).once x, ap bit (lives_is p t x h))

  -- From side e its keys are in the order of that side.
  pub tree_sorted : (e : Dir) → Sorted (From e (LessKey (key_at p))) (list e (tree_at p t))
  tree_sorted e = list_sorted e (tree_at p t) (good.trees t low high).keys_rise

  -- A record and its neighbour are two.
  pub beyond_other : (d : Dir) (x : ℕ) → Lives p t x → (beyond d p t x ≡ 0 → ⊥) → x ≡ beyond d p t x → ⊥
  unfolding beyond
  beyond_other d x h n i =
      let after_it = following_after x (list (flip d) (tree_at p t)) (tree_sorted (flip d)) (tree_counts (flip d) x h) n in
      go (flip d) (subst (λ (y : ℕ). From (flip d) (LessKey (key_at p)) x y) (sym i) after_it)
    where
      go : (e : Dir) → From e (LessKey (key_at p)) x x → ⊥
      go left h = omega arith
      go right h = omega arith

  -- What a search finds lives in the tree.
  pub found_lives : (cmp : ℕ → Ordering) {l : Tree} {x : ℕ} {b : Bal} {r : Tree} {q : Way}
      → entry cmp (tree_at p t) ≡ record { part = node l x b r; way = q } → Lives p t x
  unfolding list
  found_lives cmp {l} {x} {b} {r} {q} i =
      let u = tree_at p t in
      let P : ℕ → Type 0 = Lives p t in
      let e = subst (λ (f : Spot). list left u ≡ before left f.way ++ (list left f.part ++ after left f.way)) i (entry_list cmp u) in
      let here = list left l ++ (x ∷ list left r) in
      let a : All P (here ++ after left q) = all_back (before left q) (here ++ after left q) (subst (All P) e (all_live left)) in
      all_head (all_back (list left l) (x ∷ list left r) (all_front here (after left q) a))

-- ---- the cursor

-- What the cursor stands at lives in its tree.
pub standing_lives : (p : Pool) → WellFormed p → (k : Cursor) → CursorOk p k → (standing k ≡ 0 → ⊥) → Lives p (cursor_tree k) (standing k)
unfolding standing cursor_tree
standing_lives p good nowhere at_nowhere n = absurd (n refl)
standing_lives p good (occupied t x) (at_occupied low high l) n = lives p t x l
standing_lives p good (vacant t x d k) (at_vacant low high i e a b) n = absurd (n refl)
standing_lives p good (first_entry t x) (at_first low high e) n =
    subst (Lives p t) (sym e) (all_first (list left (tree_at p t)) (all_live p good t low high left) (λ z. n (e ∙ z)))
standing_lives p good (last_entry t x) (at_last low high e) n =
    subst (Lives p t) (sym e) (all_first (list right (tree_at p t)) (all_live p good t low high right) (λ z. n (e ∙ z)))

-- Beside the record that it stands at is the neighbour in the tree.
pub standing_next : (d : Dir) (p : Pool) (k : Cursor) → (standing k ≡ 0 → ⊥) → next_of d p k ≡ beyond d p (cursor_tree k) (standing k)
unfolding standing cursor_tree next_of
standing_next d p nowhere n = absurd (n refl)
standing_next d p (occupied t x) n = refl
standing_next d p (vacant t x e k) n = absurd (n refl)
standing_next d p (first_entry t x) n = refl
standing_next d p (last_entry t x) n = refl

-- The record that an empty place hangs on is one of the tree.
above_all : {P : ℕ → Type 0} (q : Way) (t : Tree) → plug q leaf ≡ t → All P (list left t) → (above q ≡ 0 → ⊥) → P (above q)
above_all {P = P} q t i a n =
    let e = side q in
    let l : All P (before e q ++ (list e leaf ++ after e q)) = subst (All P) (ap (list e) (sym i) ∙ list_plug e q leaf) (all_from e t a) in
    let r : All P (after e q) = all_back (list e leaf) (after e q) (all_back (before e q) (list e leaf ++ after e q) l) in
    subst P (sym (nearest q)) (all_first (after e q) r (λ z. n (nearest q ∙ z)))

either : (P : ℕ → Type 0) (d e : Dir) (a c : ℕ) → ((a ≡ 0 → ⊥) → P a) → ((c ≡ 0 → ⊥) → P c) → (alike d e a c ≡ 0 → ⊥) → P (alike d e a c)
either P left left a c f g = f
either P left right a c f g = g
either P right left a c f g = g
either P right right a c f g = f

-- What the cursor has beside it, on either side, lives in its tree.
pub next_lives : (d : Dir) (p : Pool) → WellFormed p → (k : Cursor) → CursorOk p k → (next_of d p k ≡ 0 → ⊥) → Lives p (cursor_tree k) (next_of d p k)
unfolding cursor_tree next_of beyond entry plug
next_lives d p good nowhere at_nowhere n = absurd (n refl)
next_lives d p good (occupied t x) (at_occupied low high l) n =
    all_following x (list (flip d) (tree_at p t)) (all_live p good t low high (flip d)) n
next_lives d p good (vacant t x e k) (at_vacant {q = q} low high i h a b) n =
    let P : ℕ → Type 0 = Lives p t in
    let there : plug q leaf ≡ tree_at p t = ap (λ (f : Spot). plug f.way f.part) (sym h) ∙ seek_plug (by_key_in p k) (tree_at p t) root in
    either P d e (beyond d p t x) x (all_following x (list (flip d) (tree_at p t)) (all_live p good t low high (flip d)))
    (λ m. subst P a (above_all q (tree_at p t) there (all_live p good t low high left) (λ z. m (sym a ∙ z)))) n
next_lives d p good (first_entry t x) (at_first low high e) n =
    all_following x (list (flip d) (tree_at p t)) (all_live p good t low high (flip d)) n
next_lives d p good (last_entry t x) (at_last low high e) n =
    all_following x (list (flip d) (tree_at p t)) (all_live p good t low high (flip d)) n

-- The record that it stands at and the one beside it are two.
pub next_other : (d : Dir) (p : Pool) → WellFormed p → (k : Cursor) → CursorOk p k → (standing k ≡ 0 → ⊥) → (next_of d p k ≡ 0 → ⊥)
    → standing k ≡ next_of d p k → ⊥
next_other d p good k fits m n i =
    let t = cursor_tree k in
    let x = standing k in
    let h = standing_lives p good k fits m in
    let e = standing_next d p k m in
    let b = lives_tree p good t x h in
    beyond_other p good t b.0 b.1 d x h (λ z. n (e ∙ z)) (i ∙ e)
