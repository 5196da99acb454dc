-- Demand 2, the places: the premises of the laws of Demand2Shapes always hold. A record that is removed, and one that the cursor stands at, stands in its
-- tree, and the search for a key that is added ends at an empty place. Assumes nothing.
use Rattle.std.proofs.Common.{◌≡◌, ℕ, ◌≤◌, true, eqb, ◌⊎◌, List, [], ◌∷◌, ◌++◌, sym, refl, ap, ◌∙◌, subst, inl, inr, arith, eq-eqb, eqb-true}
use Rattle.std.proofs.Math.Decide.{dec_le}
use Rattle.std.proofs.Math.Option.{Option}
use Rattle.std.proofs.lemmas.Bool.{eqb-false}
use Rattle.avl.specs.Tree.{Dir, left, right, pick, Tree, leaf, node, branch, list}
use Rattle.avl.specs.Way.{Way, root, step, plug, before, after}
use Rattle.avl.specs.Edit.{insert, insert_here, remove}
use Rattle.avl.specs.Search.{Spot, seek, entry}
use Rattle.avl.specs.Order.{All, nil, more, first, by_key}
use Rattle.avl.proofs.Answers.{Outcome, vacant, occupied, entry_outcome}
use Rattle.avl.proofs.Keys.{same_key, keys, key_exact}
use Rattle.avl.proofs.Sides.{node_branch}
use Rattle.avl.proofs.Sorting.{all_back, all_head, all_map}
use Rattle.meaning.specs.Layout.{bit, within, count, span}
use Rattle.meaning.specs.Pool.{Pool, tree_at, key_at}
use Rattle.meaning.specs.Change.{by_key_in, free_slot}
use Rattle.meaning.specs.Cursor.{Command, State, cursor_tree, standing, tree_of}
use Rattle.meaning.specs.Command.{meant, not_at_record, among, adding, refusal, perform}
use Rattle.meaning.specs.WellFormed.{WellFormed}
use Rattle.meaning.specs.Meant.{removing}
use Rattle.meaning.specs.Places.{Stands}
use Rattle.meaning.proofs.Adding.{kind_ok, AtEnd, end_ok, adding_ok}
use Rattle.meaning.proofs.Among.{among_all}
use Rattle.meaning.proofs.Cursors.{lives_is, lives_tree, standing_lives}
use Rattle.meaning.proofs.Demand2Shapes.{inserted_shape, beside_ops_lem, beside_tree, beside_shape, removed_shape}
use Rattle.meaning.proofs.Entries.{any_live, any_sorted}
use Rattle.meaning.proofs.Facts.{test, count_append}
use Rattle.meaning.proofs.Members.{Lives}
use Rattle.meaning.proofs.Neighbours.{all_from}
use Rattle.meaning.proofs.Seen.{finds}
use Rattle.meaning.proofs.Tables.{passed}
use Rattle.meaning.specs.Demands.{beside_ops}
use Rattle.meaning.specs.States.{GoodState, Parsed, NewKey}

-- ---- a record stands in its tree

either : {P : Type 0} {A : Type 0} → Dec A → (A → P) → ((A → ⊥) → P) → P
either (yes i) f g = f i
either (no i) f g = g i

-- a slot that a tree lists stands in it
seat : (d : Dir) (x : ℕ) (t : Tree) (p : Way) → 1 ≤ count (eqb x) (list left t) → Stands d x (plug p t)
unfolding list plug branch count
seat d x leaf p h = absurd (omega arith)
seat d x (node l s b r) p h =
    test (eqb x s)
    (λ e. record {
      near = pick d l r;
      bal = b;
      far = pick d r l;
      way = p;
      is = ap (plug p) (node_branch d l s b r ∙ ap (λ (y : ℕ). branch d (pick d l r) y b (pick d r l)) (sym (eqb-true x s e)));
    })
    (λ e. either (dec_le 1 (count (eqb x) (list left l))) (seat d x l (step left s b r p))
    (λ i. seat d x r (step right s b l p) (omega (arith, i, h, ap bit e, count_append (eqb x) (list left l) (s ∷ list left r)))))

-- Every live record of a well-formed pool stands in its tree.
pub live_stands : (p : Pool) → WellFormed p → (d : Dir) (t x : ℕ) → Lives p t x → Stands d x (tree_at p t)
unfolding plug
live_stands p good d t x l =
    let b = lives_tree p good t x l in
    seat d x (tree_at p t) root (omega (arith, (good.trees t b.0 b.1).once x, ap bit (lives_is p t x l)))

-- ---- a key that is new

-- The search for a key that a tree does not have ends at an empty place.
pub new_place : (p : Pool) → WellFormed p → (t k : ℕ) → NewKey p t k
    → (q : Way) × (entry (by_key_in p k) (tree_at p t) ≡ record { part = leaf; way = q })
unfolding by_key_in keys
new_place p good t k new =
    go (entry (by_key (key_at p) k) (tree_at p t)) refl
    (entry_outcome (keys (key_at p)) (by_key (key_at p) k) (key_exact (key_at p) k) (tree_at p t) (any_sorted p good t))
  where
    go : (f : Spot) → entry (by_key (key_at p) k) (tree_at p t) ≡ f → Outcome (by_key (key_at p) k) (list left (tree_at p t)) f
        → (q : Way) × (entry (by_key (key_at p) k) (tree_at p t) ≡ record { part = leaf; way = q })
    go f e (vacant {p = q} i g l) = (q, e)
    go f e (occupied {a = a} {s = s} {z = z} {p = q} i g m l) =
        absurd (all_head (all_back (before left q ++ list left a) (s ∷ (list left z ++ after left q)) (subst (All (λ y. key_at p y ≡ k → ⊥)) i new))
        (sym (same_key k (key_at p s) m)))

-- ---- the laws of Demand2Shapes, without a premise on the place

module _ (origin : Option Pool) (s : State) (c : Command) (g : GoodState origin s) where
  -- Every op that adds, and is not refused: the search for its key ends at an empty place, and the tree after it is the one that `_insert` gives there.
  pub inserted_there : Parsed c → adding c.op ≡ true → refusal s c ≡ 0
      → (q : Way) × (entry (by_key_in s.pool c.key) (tree_at s.pool (tree_of s c)) ≡ record { part = leaf; way = q })
      × (tree_at (perform s c).state.pool (tree_of s c) ≡ insert q (free_slot s.pool))
  inserted_there parsed h z =
      let f = new_place s.pool g.pool (tree_of s c) c.key (adding_ok origin s c parsed g h z).new in
      (f.0, f.1, inserted_shape origin s c parsed g h z f.0 f.1)

  -- An op that puts a record in beside the one that the cursor stands at, and is not refused: that record stands in its tree, and the tree after the op is
  -- the one that `_insert_here` gives on that side of it.
  pub beside_there : Parsed c → (d : Dir) → among (beside_ops d) c.op ≡ true → refusal s c ≡ 0 → (standing s.cursor ≡ 0 → ⊥)
      → (k : Stands d (standing s.cursor) (tree_at s.pool (tree_of s c)))
      × (tree_at (perform s c).state.pool (tree_of s c)
      ≡ insert_here d k.near (standing s.cursor) k.bal k.far k.way (free_slot s.pool))
  beside_there parsed d h z n =
      let x = standing s.cursor in
      let alive = standing_lives s.pool g.pool s.cursor g.cursor n in
      let there : Lives s.pool (tree_of s c) x = subst (λ (t : ℕ). Lives s.pool t x) (sym (beside_tree s c d h z)) alive in
      let k = live_stands s.pool g.pool d (tree_of s c) x there in
      (k, beside_shape origin s c parsed g d h z k.near k.bal k.far k.way k.is)

  -- Ops 16 to 19 that are not refused have a record that the cursor stands at; on an empty tree ops 24 and 25 have none, and `beside_none` is their law.
  pub stands_at : within 16 19 c.op ≡ true → refusal s c ≡ 0 → standing s.cursor ≡ 0 → ⊥
  unfolding not_at_record among
  stands_at h z = eqb-false (standing s.cursor) 0 ((passed s c z).at_record (rw h))

  -- Every op that removes, and is not refused: the record that it means stands in its tree, and the tree after it is the one that `_remove` gives there.
  pub removed_there : removing c.op ≡ true → refusal s c ≡ 0
      → (k : Stands left (meant s c) (tree_at s.pool (tree_of s c)))
      × (tree_at (perform s c).state.pool (tree_of s c) ≡ remove k.near k.bal k.far k.way)
  unfolding branch
  removed_there h z =
      let k = live_stands s.pool g.pool left (tree_of s c) (meant s c) (finds origin s c g h z).0 in
      (k, removed_shape origin s c g h z k.near k.bal k.far k.way k.is)

-- ---- ops 24 and 25 on an empty tree

-- an op that puts a record in beside another is one of 16 to 19, or the one of an end of the tree
beside_or_end : (d : Dir) (n : ℕ) → among (beside_ops d) n ≡ true → (within 16 19 n ≡ true) ⊎ (n ≡ pick d 25 24)
unfolding within span
beside_or_end left n h =
    among_all (λ m. (within 16 19 m ≡ true) ⊎ (m ≡ 25)) (beside_ops left) n h (more (inl refl) (more (inl refl) (more (inr refl) nil)))
beside_or_end right n h =
    among_all (λ m. (within 16 19 m ≡ true) ⊎ (m ≡ 24)) (beside_ops right) n h (more (inl refl) (more (inl refl) (more (inr refl) nil)))

-- a tree of slots whose first is none is empty
first_none : (e : Dir) (u : Tree) → All (λ y. y ≡ 0 → ⊥) (list e u) → first (list e u) ≡ 0 → u ≡ leaf
unfolding list
first_none e leaf a z = refl
first_none e (node l s b r) a z = absurd (go (pick e (list e l) (list e r)) (pick e (list e r) (list e l)) a z)
  where
    go : (front rest : List ℕ) → All (λ y. y ≡ 0 → ⊥) (front ++ (s ∷ rest)) → first (front ++ (s ∷ rest)) ≡ 0 → ⊥
    go [] rest (more h hs) i = h i
    go (y ∷ front) rest (more h hs) i = h i

module _ (origin : Option Pool) (s : State) (c : Command) (g : GoodState origin s) where
  at_end : (d : Dir) → c.op ≡ pick d 25 24 → refusal s c ≡ 0 → AtEnd d s.pool s.cursor
  at_end left e z = end_ok left s.pool s.cursor g.cursor (kind_ok 3 s c ((passed s c z).at_first (eq-eqb 25 c.op (sym e))))
  at_end right e z = end_ok right s.pool s.cursor g.cursor (kind_ok 4 s c ((passed s c z).at_last (eq-eqb 24 c.op (sym e))))

  -- Where such an op is not refused though the cursor stands at no record, its tree is empty, and after it the tree is what `_insert` gives at the root: the
  -- new record alone.
  pub beside_none : Parsed c → (d : Dir) → among (beside_ops d) c.op ≡ true → refusal s c ≡ 0 → standing s.cursor ≡ 0
      → (tree_at s.pool (tree_of s c) ≡ leaf) × (tree_at (perform s c).state.pool (tree_of s c) ≡ insert root (free_slot s.pool))
  unfolding entry seek
  beside_none parsed d h z n = go (beside_or_end d c.op h)
    where
      go : (within 16 19 c.op ≡ true) ⊎ (c.op ≡ pick d 25 24)
          → (tree_at s.pool (tree_of s c) ≡ leaf) × (tree_at (perform s c).state.pool (tree_of s c) ≡ insert root (free_slot s.pool))
      go (inl i) = absurd (stands_at origin s c g i z n)
      go (inr i) =
          let p = s.pool in
          let t = cursor_tree s.cursor in
          let slots : All (λ y. y ≡ 0 → ⊥) (list d (tree_at p t)) = all_map (λ y l k. omega (arith, l.low, k)) (all_from d (tree_at p t) (any_live p g.pool t)) in
          let empty : tree_at p (tree_of s c) ≡ leaf =
          ap (tree_at p) (beside_tree s c d h z) ∙ first_none d (tree_at p t) slots (sym (at_end d i z).is_first ∙ n) in
          (empty, inserted_shape origin s c parsed g (beside_ops_lem d c.op h).0 z root (ap (entry (by_key_in p c.key)) empty))
