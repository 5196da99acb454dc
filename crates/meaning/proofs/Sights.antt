-- Which record an op means, and which entry of the lists: they are one. Assumes nothing.
use Rattle.std.proofs.Common.{◌≡◌, ℕ, zero, suc, Bool, true, false, cond, eqb, List, [], ◌∷◌, ◌++◌, map, reverse, sym, refl, ap, ◌∙◌, subst, append_assoc, arith, le-ltb, lt-ltb, eq-eqb, ne_eqb}
use Rattle.std.proofs.Math.Option.{Option, none, some}
use mathlib.Core.List.{reverse-cons}
use Prim.Native.Nat.{Ordering}
use Rattle.avl.specs.Tree.{Dir, left, right, flip, alike, leaf, list}
use Rattle.avl.specs.Way.{Way, root, step, plug, above, side, before, after}
use Rattle.avl.specs.Search.{Spot, three, get, entry}
use Rattle.avl.specs.Order.{All, nil, more, Sorted, rise, From, sought, first, LessKey, by_key}
use Rattle.avl.proofs.Answers.{get_sought}
use Rattle.avl.proofs.Beside.{list_sorted}
use Rattle.avl.proofs.Keys.{on_side_lem, keys, key_exact}
use Rattle.avl.proofs.Lists.{list_plug, list_flip, after_flip, before_flip}
use Rattle.avl.proofs.Search.{Ends, seek_plug, entry_ends}
use Rattle.avl.proofs.Sides.{Sides, same, opposite, sides, alike_same, alike_opposite, alike_reverse}
use Rattle.avl.proofs.Sorting.{all_back, all_map, sorted_below}
use Rattle.avl.proofs.Walks.{nearest}
use Rattle.meaning.specs.Layout.{bit, following}
use Rattle.meaning.specs.Pool.{Pool, tree_at, key_at}
use Rattle.meaning.specs.Change.{by_key_in}
use Rattle.meaning.specs.Cursor.{Cursor, nowhere, occupied, vacant, first_entry, last_entry, Command, cursor_tree, standing, beyond, next_of}
use Rattle.meaning.specs.Command.{key_beyond}
use Rattle.meaning.specs.WellFormed.{WellFormed}
use Rattle.meaning.specs.Meant.{Entry, entries_of, lookup, in_slot, front, next_to, facing, first_past, is_none, beside_cursor}
use Rattle.meaning.specs.States.{CursorOk, at_vacant}
use Rattle.meaning.proofs.Entries.{entry_at, live_entry, entry_zero, entry_live, entry_key_lem, any_live, any_sorted, facing_list, front_first, next_following, slot_listed, slot_unlisted, lookup_get}
use Rattle.meaning.proofs.Cursors.{lives_is, lives_tree, standing_lives}
use Rattle.meaning.proofs.Facts.{count_none}
use Rattle.meaning.proofs.Members.{Lives}
use Rattle.meaning.proofs.Neighbours.{all_first, all_following, all_from, all_reverse}

-- slot x, 0 for none, is a record of tree t, and its entry is e
pub record Sees (p : Pool) (t x : ℕ) (e : Option Entry) : Type 0 where
  pub there : (x ≡ 0 → ⊥) → Lives p t x
  pub is : live_entry p x ≡ e

-- A slot is 0 exactly if there is no entry.
pub none_zero : {p : Pool} {t : ℕ} (x : ℕ) {e : Option Entry} → Sees p t x e → eqb x 0 ≡ is_none e
unfolding is_none
none_zero {p} {t} zero s = ap is_none (sym (entry_zero p) ∙ s.is)
none_zero {p} {t} (suc x) s =
    ne_eqb (suc x) 0 (λ e. omega arith) ∙ ap is_none (sym (entry_live p (s.there (λ e. omega arith))) ∙ s.is)

all_sought : {P : ℕ → Type 0} (cmp : ℕ → Ordering) (l : List ℕ) → All P l → (sought cmp l ≡ 0 → ⊥) → P (sought cmp l)
unfolding sought
all_sought cmp [] nil n = absurd (n refl)
all_sought {P} cmp (y ∷ l) (more h a) n = go (cmp y) (all_sought cmp l a) n
  where
    go : (o : Ordering) → ((sought cmp l ≡ 0 → ⊥) → P (sought cmp l)) → (three o 0 y (sought cmp l) ≡ 0 → ⊥) → P (three o 0 y (sought cmp l))
    go Ordering.lt f n = absurd (n refl)
    go Ordering.eq f n = h
    go Ordering.gt f n = f n

module _ (p : Pool) (good : WellFormed p) (t : ℕ) where
  live_from : (e : Dir) → All (Lives p t) (list e (tree_at p t))
  live_from e = all_from e (tree_at p t) (any_live p good t)

  -- The record with a key.
  pub sees_key : (k : ℕ) → Sees p t (get (by_key_in p k) (tree_at p t)) (lookup k (entries_of p t))
  unfolding by_key_in keys
  sees_key k =
      let e = get_sought (keys (key_at p)) (by_key (key_at p) k) (key_exact (key_at p) k) (tree_at p t) (any_sorted p good t) in
      record {
        there = λ n. subst (Lives p t) (sym e) (all_sought (by_key (key_at p) k) (list left (tree_at p t)) (any_live p good t) (λ z. n (e ∙ z)));
        is = sym (lookup_get p k good t);
      }

  -- The first record that one meets who goes in the direction d.
  pub sees_end : (d : Dir) → Sees p t (first (list (flip d) (tree_at p t))) (front (facing d (entries_of p t)))
  sees_end d = record {
    there = all_first (list (flip d) (tree_at p t)) (live_from (flip d));
    is = sym (ap front (facing_list p t d) ∙ front_first p t (list (flip d) (tree_at p t)) (live_from (flip d)));
  }

  -- The neighbour of a slot.
  pub sees_beside : (d : Dir) (x : ℕ) → Sees p t (beyond d p t x) (next_to x (facing d (entries_of p t)))
  unfolding beyond
  sees_beside d x = record {
    there = all_following x (list (flip d) (tree_at p t)) (live_from (flip d));
    is = sym (ap (next_to x) (facing_list p t d) ∙ next_following p t x (list (flip d) (tree_at p t)) (live_from (flip d)));
  }

  -- A slot that lives in the tree.
  pub sees_slot : (x : ℕ) → Lives p t x → Sees p t x (in_slot x (entries_of p t))
  unfolding entries_of
  sees_slot x h =
      let b = lives_tree p good t x h in
      let n = (good.trees t b.0 b.1).once x in
      record {
        there = λ _. h;
        is = sym (slot_listed p t x (list left (tree_at p t)) (any_live p good t) (omega (arith, n, ap bit (lives_is p t x h))));
      }

  -- A slot that does not has no entry in its list.
  pub unlisted : (x : ℕ) → (Lives p t x → ⊥) → in_slot x (entries_of p t) ≡ none
  unfolding entries_of
  unlisted x n = let l = list left (tree_at p t) in slot_unlisted p t x l (any_live p good t) (count_none x l (any_live p good t) n)

  -- Nor has slot 0.
  pub sees_none : Sees p t 0 (in_slot 0 (entries_of p t))
  sees_none = record { there = λ n. absurd (n refl); is = entry_zero p ∙ sym (unlisted 0 (λ h. omega (arith, h.low))) }

-- ---- the place of a key that is not there

-- What follows a slot is the first behind it.
pub following_at : (x : ℕ) (a b : List ℕ) → All (λ y. y ≡ x → ⊥) a → following x (a ++ (x ∷ b)) ≡ first b
unfolding following
following_at x [] b nil = ap (λ (c : Bool). cond c (first b) (following x b)) (eq-eqb x x refl)
following_at x (y ∷ a) b (more n h) =
    ap (λ (c : Bool). cond c (first (a ++ (x ∷ b))) (following x (a ++ (x ∷ b)))) (ne_eqb x y (λ e. n (sym e))) ∙ following_at x a b h

no_loop : (key : ℕ → ℕ) (e : Dir) (x : ℕ) → From e (LessKey key) x x → ⊥
no_loop key left x h = omega arith
no_loop key right x h = omega arith

-- No slot before one in a sorted list is that one.
pub before_others : (key : ℕ → ℕ) (e : Dir) (a : List ℕ) (x : ℕ) (b : List ℕ) → Sorted (From e (LessKey key)) (a ++ (x ∷ b)) → All (λ y. y ≡ x → ⊥) a
before_others key e a x b s = all_map (λ y r i. no_loop key e x (subst (λ (z : ℕ). From e (LessKey key) z x) i r)) (sorted_below a x b s)

-- the record on which a place hangs is followed, on the side of the place, by the first behind it
following_above : (key : ℕ → ℕ) (q : Way) → let e = flip (side q) in
    Sorted (From e (LessKey key)) (before e q ++ after e q) → following (above q) (before e q ++ after e q) ≡ first (after e q)
unfolding before after following
following_above key root s = refl
following_above key (step d x b z q) s =
    let e = flip d in
    let pre = before e q ++ list e z in
    let rest = after e (step d x b z q) in
    let i : before e (step d x b z q) ++ rest ≡ pre ++ (x ∷ rest) =
    ap (λ (l : List ℕ). l ++ rest) (alike_reverse d (before e q) (before e q ++ (list e z ++ (x ∷ [])))) ∙ simp append_assoc in
    ap (following x) i ∙ following_at x pre rest (before_others key e pre x rest (subst (Sorted (From e (LessKey key))) i s))

-- Behind the first of a tree from side e nothing follows towards that side.
pub end_alone : (p : Pool) → WellFormed p → (t : ℕ) (e : Dir) → following (first (list e (tree_at p t))) (list (flip e) (tree_at p t)) ≡ 0
unfolding following
end_alone p good t e =
    ap (following (first (list e (tree_at p t)))) (list_flip e (tree_at p t)) ∙ go (list e (tree_at p t)) (list_sorted e (tree_at p t) (any_sorted p good t))
  where
    go : (l : List ℕ) → Sorted (From e (LessKey (key_at p))) l → following (first l) (reverse l) ≡ 0
    go [] s = refl
    go (x ∷ l) (rise a s) =
        ap (following x) (reverse-cons x l)
        ∙ following_at x (reverse l) [] (all_reverse l (all_map (λ y r i. no_loop (key_at p) e x (subst (From e (LessKey (key_at p)) x) i r)) a))

module _ (p : Pool) (k : ℕ) where
  past_first : (t : ℕ) (d : Dir) (a b : List ℕ) → All (λ y. key_beyond d k (key_at p y) ≡ false) a → All (λ y. key_beyond d k (key_at p y) ≡ true) b
      → All (Lives p t) b → first_past d k (map (entry_at p) (a ++ b)) ≡ live_entry p (first b)
  unfolding first_past
  past_first t d [] [] nil nil nil = sym (entry_zero p)
  past_first t d [] (y ∷ b) nil (more h n) (more l m) =
      ap (λ (c : Bool). cond c (some (entry_at p y)) (first_past d k (map (entry_at p) b))) (ap (key_beyond d k) (entry_key_lem p y) ∙ h) ∙ sym (entry_live p l)
  past_first t d (y ∷ a) b (more h n) m l =
      ap (λ (c : Bool). cond c (some (entry_at p y)) (first_past d k (map (entry_at p) (a ++ b)))) (ap (key_beyond d k) (entry_key_lem p y) ∙ h)
      ∙ past_first t d a b n m l

module _ (p : Pool) (good : WellFormed p) (t k : ℕ) (q : Way) (place : entry (by_key_in p k) (tree_at p t) ≡ record { part = leaf; way = q }) where
  place_list : (e : Dir) → list e (tree_at p t) ≡ before e q ++ after e q
  unfolding entry plug list
  place_list e =
      let i : plug q leaf ≡ tree_at p t = ap (λ (f : Spot). plug f.way f.part) (sym place) ∙ seek_plug (by_key_in p k) (tree_at p t) root in
      ap (list e) (sym i) ∙ list_plug e q leaf

  place_ends : Ends (by_key_in p k) (record { part = leaf; way = q })
  unfolding by_key_in keys
  place_ends =
      subst (Ends (by_key_in p k)) place
      (entry_ends (keys (key_at p)) (by_key_in p k) (key_exact (key_at p) k).follows (tree_at p t) (any_sorted p good t))

  -- in the direction d, the keys before the place are not beyond k, and those behind it are
  place_sides : (d : Dir) → All (λ y. key_beyond d k (key_at p y) ≡ false) (before (flip d) q) × All (λ y. key_beyond d k (key_at p y) ≡ true) (after (flip d) q)
  unfolding key_beyond by_key_in
  place_sides right = (
    all_map (λ y h. let l = on_side_lem right k (key_at p y) h in le-ltb k (key_at p y) (omega arith)) place_ends.short,
    all_map (λ y h. lt-ltb k (key_at p y) (on_side_lem left k (key_at p y) h)) place_ends.beyond,
  )
  place_sides left = (
    subst (All (λ y. key_beyond left k (key_at p y) ≡ false)) (sym (before_flip left q)) (all_reverse (after left q)
        (all_map (λ y h. let l = on_side_lem left k (key_at p y) h in le-ltb (key_at p y) k (omega arith)) place_ends.beyond)),
    subst (All (λ y. key_beyond left k (key_at p y) ≡ true)) (sym (after_flip left q)) (all_reverse (before left q)
        (all_map (λ y h. lt-ltb (key_at p y) k (on_side_lem right k (key_at p y) h)) place_ends.short)),
  )

  -- The first record behind the place in the direction d is the first beyond the key.
  pub sees_past : (d : Dir) → Sees p t (first (after (flip d) q)) (first_past d k (facing d (entries_of p t)))
  sees_past d =
      let e = flip d in
      let a : All (Lives p t) (after e q) = all_back (before e q) (after e q) (subst (All (Lives p t)) (place_list e) (live_from p good t e)) in
      let h = place_sides d in
      record {
        there = all_first (after e q) a;
        is = sym (ap (first_past d k) (facing_list p t d ∙ ap (map (entry_at p)) (place_list e)) ∙ past_first p k t d (before e q) (after e q) h.0 h.1 a);
      }

  -- So what a vacant entry has beside it is the first beyond its key.
  pub sees_vacant : (d : Dir) → Sees p t (alike d (side q) (beyond d p t (above q)) (above q)) (first_past d k (facing d (entries_of p t)))
  unfolding beyond
  sees_vacant d = subst (λ (x : ℕ). Sees p t x (first_past d k (facing d (entries_of p t)))) (sym (go (sides d (side q)) refl)) (sees_past d)
    where
      go : {e : Dir} → Sides d e → side q ≡ e → alike d e (following (above q) (list (flip d) (tree_at p t))) (above q) ≡ first (after (flip d) q)
      go opposite i = alike_opposite d _ (above q) ∙ nearest q ∙ ap (λ (e : Dir). first (after e q)) i
      go same i =
          alike_same d _ (above q) ∙ ap (following (above q)) (place_list (flip d))
          ∙ subst (λ (e : Dir). following (above q) (before (flip e) q ++ after (flip e) q) ≡ first (after (flip e) q)) i
          (following_above (key_at p) q
          (subst (Sorted (From (flip (side q)) (LessKey (key_at p)))) (place_list (flip (side q))) (list_sorted (flip (side q)) (tree_at p t) (any_sorted p good t))))

-- ---- the cursor

module _ (p : Pool) (good : WellFormed p) where
  -- The record that the cursor stands at.
  pub sees_standing : (k : Cursor) → CursorOk p k → Sees p (cursor_tree k) (standing k) (in_slot (standing k) (entries_of p (cursor_tree k)))
  sees_standing k h = go (standing k) refl
    where
      go : (x : ℕ) → standing k ≡ x → Sees p (cursor_tree k) x (in_slot x (entries_of p (cursor_tree k)))
      go zero e = sees_none p good (cursor_tree k)
      go (suc x) e =
          sees_slot p good (cursor_tree k) (suc x) (subst (Lives p (cursor_tree k)) e (standing_lives p good k h (λ z. omega (arith, e, z))))

  -- What it has beside it.
  pub sees_next : (d : Dir) (k : Cursor) (c : Command) → CursorOk p k → Sees p (cursor_tree k) (next_of d p k) (beside_cursor d (entries_of p) k c)
  unfolding cursor_tree next_of beside_cursor
  sees_next d nowhere c h = record { there = λ n. absurd (n refl); is = entry_zero p }
  sees_next d (occupied t x) c h = sees_beside p good t d x
  sees_next d (vacant t x e k) c (at_vacant {q = q} low high i place a b) =
      subst (λ (y : ℕ). Sees p t (alike d e (beyond d p t y) y) (first_past d k (facing d (entries_of p t)))) a
      (subst (λ (f : Dir). Sees p t (alike d f (beyond d p t (above q)) (above q)) (first_past d k (facing d (entries_of p t)))) b
      (sees_vacant p good t k q place d))
  sees_next d (first_entry t x) c h = sees_beside p good t d x
  sees_next d (last_entry t x) c h = sees_beside p good t d x
