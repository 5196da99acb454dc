-- The records that a command looks for on the body are those that `meaning` says it means: by key, at an end, by handle, beside the cursor.
-- Assumes nothing.
use Rattle.std.proofs.Common.{◌≡◌, ℕ, ◌≤◌, Bool, true, cond, eqb, List, [], ◌∷◌, length, sym, refl, ap, ◌∙◌, ne_eqb, eqb-true}
use Rattle.std.proofs.lemmas.Bool.{eqb-false}
use Rattle.avl.specs.Tree.{Dir, left, right, flip, alike, Tree, leaf, node, top, list}
use Rattle.avl.specs.Way.{Way}
use Rattle.avl.specs.Search.{Spot, entry, compared}
use Rattle.avl.specs.Order.{All, more, first}
use Rattle.tree.specs.Node.{get_n}
use Rattle.tree.specs.Walk.{bottom_n, up_n, walk_n}
use Rattle.tree.specs.Search.{seek_n}
use Rattle.tree.specs.Held.{tree_of}
use Rattle.tree.specs.declared.node.AvlTree.{AvlTree}
use Rattle.tree.proofs.Trees.{ending}
use Rattle.meaning.specs.Layout.{following}
use Rattle.meaning.specs.Pool.{Pool, tree_at}
use Rattle.meaning.specs.Change.{by_key_in}
use Rattle.meaning.specs.Cursor.{Cursor, nowhere, occupied, vacant, first_entry, last_entry, State, cursor_tree, standing, beyond, next_of}
use Rattle.meaning.specs.WellFormed.{WellFormed}
use Rattle.meaning.specs.States.{CursorOk, at_nowhere, at_occupied, at_vacant, at_first, at_last}
use Rattle.meaning.proofs.Facts.{test}
use Rattle.meaning.proofs.Members.{Lives}
use Rattle.meaning.proofs.Neighbours.{all_first, all_following}
use Rattle.meaning.proofs.Cursors.{lives_is, all_live, all_slots, found_lives, standing_lives, next_lives}
use Rattle.slots.specs.Head.{tree_n}
use Rattle.slots.specs.Image.{body_of, head_of}
use Rattle.slots.proofs.Looking.{tree_image, entry_image, end_image, walk_image}
use Rattle.cursor.specs.Cursor.{beside_n}
use Rattle.ops.specs.Ops.{sought_n, end_n}
use Rattle.cursor.specs.declared.command.Command.{Command as CodeCommand}

-- ---- by key, and at an end

module _ (p : Pool) (good : WellFormed p) (t : ℕ) (low : 1 ≤ t) (high : t ≤ length p.trees) where
  root_image : (tree_n (head_of p).table t).root ≡ top (tree_at p t)
  unfolding tree_of
  root_image = ap (λ (a : AvlTree). a.root) (tree_image p good t low high)

  -- What a search finds is a record of the tree.
  pub sought_lives : (k : ℕ) → (top (entry (by_key_in p k) (tree_at p t)).part ≡ 0 → ⊥) → Lives p t (top (entry (by_key_in p k) (tree_at p t)).part)
  sought_lives k = go f.part f.way refl
    where
      f : Spot
      f = entry (by_key_in p k) (tree_at p t)

      go : (u : Tree) (q : Way) → f ≡ record { part = u; way = q } → (top u ≡ 0 → ⊥) → Lives p t (top u)
      go leaf q i n = absurd (n refl)
      go (node l x b r) q i n = found_lives p good t low high (by_key_in p k) i

  -- So is the end of its list.
  pub end_lives : (d : Dir) → (first (list d (tree_at p t)) ≡ 0 → ⊥) → Lives p t (first (list d (tree_at p t)))
  end_lives d = all_first (list d (tree_at p t)) (all_live p good t low high d)

  -- So is what follows another.
  pub beyond_lives : (d : Dir) (x : ℕ) → (beyond d p t x ≡ 0 → ⊥) → Lives p t (beyond d p t x)
  unfolding beyond
  beyond_lives d x = all_following x (list (flip d) (tree_at p t)) (all_live p good t low high (flip d))

-- The search for a command's key ends where that of `meaning` does.
pub sought_image : (s : State) (c : CodeCommand) → WellFormed s.pool → 1 ≤ c.tree → c.tree ≤ length s.pool.trees
    → let p = s.pool in let cmp = by_key_in p c.key in let t = tree_at p c.tree in
    sought_n (body_of p) (tree_n (head_of p).table c.tree) c ≡ ending (entry cmp t) (compared cmp t)
unfolding sought_n
sought_image s c good low high =
    ap (λ (x : ℕ). seek_n 14 (body_of s.pool) c.key x 0 right 0) (root_image s.pool good c.tree low high)
    ∙ entry_image s.pool good c.tree low high c.key

-- The record at an end of a tree is that of its list.
pub end_found : (s : State) (t : ℕ) (d : Dir) → WellFormed s.pool → 1 ≤ t → t ≤ length s.pool.trees
    → end_n (body_of s.pool) (tree_n (head_of s.pool).table t) d ≡ first (list d (tree_at s.pool t))
unfolding end_n
end_found s t d good low high =
    ap (λ (x : ℕ). bottom_n 14 (body_of s.pool) x d) (root_image s.pool good t low high) ∙ end_image s.pool good t low high d

-- ---- beside the cursor

-- slot 0 has no links
walk_none : (m : List ℕ) (d : Dir) → walk_n 14 m 0 d ≡ 0
unfolding walk_n up_n get_n
walk_none m d = refl

following_none : (l : List ℕ) → All (λ y. y ≡ 0 → ⊥) l → following 0 l ≡ 0
unfolding following
following_none [] a = refl
following_none (y ∷ l) (more n a) = ap (λ (b : Bool). cond b (first l) (following 0 l)) (ne_eqb 0 y (λ e. n (sym e))) ∙ following_none l a

-- The walk from a record of a tree, or from none, ends at what follows it there.
pub walk_found : (p : Pool) → WellFormed p → (t : ℕ) → 1 ≤ t → t ≤ length p.trees → (d : Dir) (x : ℕ) → ((x ≡ 0 → ⊥) → Lives p t x)
    → walk_n 14 (body_of p) x d ≡ beyond d p t x
unfolding beyond
walk_found p good t low high d x f = test (eqb x 0) from_none (λ h. walk_image p good t low high d x (lives_is p t x (f (eqb-false x 0 h))))
  where
    from_none : eqb x 0 ≡ true → walk_n 14 (body_of p) x d ≡ following x (list (flip d) (tree_at p t))
    from_none h =
        let z = eqb-true x 0 h in
        let l = list (flip d) (tree_at p t) in
        ap (λ (y : ℕ). walk_n 14 (body_of p) y d) z
        ∙ walk_none (body_of p) d
        ∙ sym (ap (λ (y : ℕ). following y l) z ∙ following_none l (all_slots p good t low high (flip d)))

-- The record that a vacant entry hangs on is what it has beside it on the other side.
pub hung_lives : (p : Pool) → WellFormed p → (t x : ℕ) (e : Dir) (k : ℕ) → CursorOk p (vacant t x e k) → (x ≡ 0 → ⊥) → Lives p t x
unfolding cursor_tree next_of
hung_lives p good t x left k fits = next_lives right p good (vacant t x left k) fits
hung_lives p good t x right k fits = next_lives left p good (vacant t x right k) fits

-- The record beside the cursor, by the links, is that of `meaning`.
pub beside_found : (d : Dir) (p : Pool) → WellFormed p → (k : Cursor) → CursorOk p k → beside_n (body_of p) d k ≡ next_of d p k
unfolding beside_n next_of cursor_tree standing
beside_found d p good nowhere at_nowhere = refl
beside_found d p good (occupied t x) (at_occupied low high l) = walk_image p good t low high d x l
beside_found d p good (vacant t x e k) (at_vacant low high i h a b) =
    ap (λ (y : ℕ). alike d e y x) (walk_found p good t low high d x (hung_lives p good t x e k (at_vacant low high i h a b)))
beside_found d p good (first_entry t x) (at_first low high i) =
    walk_found p good t low high d x (standing_lives p good (first_entry t x) (at_first low high i))
beside_found d p good (last_entry t x) (at_last low high i) =
    walk_found p good t low high d x (standing_lives p good (last_entry t x) (at_last low high i))
