-- The entries of a pool and its slots: what is found in the list of a tree's entries is the record that its tree finds. Assumes nothing.
use Rattle.std.proofs.Common.{◌≡◌, ℕ, zero, suc, ◌≤◌, Bool, true, false, cond, eqb, List, [], ◌∷◌, map, length, sym, refl, ap, ◌∙◌, subst, arith, eq-eqb, ne_eqb, eqb-true}
use Rattle.std.proofs.Math.Decide.{dec_le}
use Rattle.std.proofs.Math.Option.{Option, none, some}
use mathlib.Core.List.{reverse_aux}
use Prim.Native.Nat.{Ordering}
use Rattle.fields.proofs.Parts.{length_part}
use Rattle.avl.specs.Tree.{Dir, left, right, flip, Tree, leaf, list}
use Rattle.avl.specs.Search.{three, get}
use Rattle.avl.specs.Order.{All, nil, more, Sorted, rise, sought, first, LessKey, by_key}
use Rattle.avl.proofs.Answers.{get_sought}
use Rattle.avl.proofs.Keys.{Told, smaller, equal, greater, told, keys, key_exact}
use Rattle.avl.proofs.Lists.{list_flip}
use Rattle.avl.proofs.Sorting.{all_map}
use Rattle.meaning.specs.Layout.{answer_showing, bit, count, at, following}
use Rattle.meaning.specs.Pool.{Rec, Pool, rec_at, tree_at, key_of, key_at}
use Rattle.meaning.specs.Change.{by_key_in}
use Rattle.meaning.specs.Command.{answer}
use Rattle.meaning.specs.WellFormed.{WellFormed}
use Rattle.meaning.specs.Meant.{Entry, entry_for, entries_of, lookup, in_slot, front, next_to, facing, shown}
use Rattle.meaning.proofs.Facts.{test, at_out, at_none}
use Rattle.meaning.proofs.Members.{Lives, tree_lives}

-- ---- a slot's entry

-- the entry of slot x
abbrev pub entry_at : Pool → ℕ → Entry
entry_at p x = entry_for p.text x (rec_at p x)

-- that of a slot with this record, none for a free one
abbrev live : ℕ → List ℕ → Option Rec → Option Entry
live x text none = none
live x text (some r) = some (entry_for text x (some r))

-- the entry of slot x, none for a free one
unfoldable pub live_entry : Pool → ℕ → Option Entry
live_entry p x = live x p.text (rec_at p x)

-- There is no slot 0.
pub entry_zero : (p : Pool) → live_entry p 0 ≡ none
unfolding live_entry rec_at at
entry_zero p = refl

module _ (p : Pool) {t x : ℕ} (h : Lives p t x) where
  -- A live slot has its entry.
  pub entry_live : live_entry p x ≡ some (entry_at p x)
  unfolding live_entry
  entry_live = ap (live x p.text) h.is ∙ ap (λ (o : Option Rec). some (entry_for p.text x o)) (sym h.is)

  -- The entry says its slot.
  pub entry_slot : (entry_at p x).slot ≡ x
  unfolding entry_for
  entry_slot = ap (λ (o : Option Rec). (entry_for p.text x o).slot) h.is

-- An entry has its slot's key.
pub entry_key_lem : (p : Pool) (x : ℕ) → (entry_at p x).key ≡ key_at p x
unfolding entry_for key_at key_of
entry_key_lem p x = go (rec_at p x)
  where
    go : (o : Option Rec) → (entry_for p.text x o).key ≡ key_of o
    go none = refl
    go (some r) = refl

-- An answer shows the entry of the slot.
pub answer_shows : (p : Pool) → WellFormed p → (code k x : ℕ) → answer code k x (rec_at p x) ≡ shown code k (live_entry p x)
unfolding answer shown live_entry entry_for
answer_shows p good code k x = go (rec_at p x) refl
  where
    go : (o : Option Rec) → rec_at p x ≡ o → answer code k x o ≡ shown code k (live x p.text o)
    go none e = refl
    go (some r) e =
        ap (answer_showing code k x r.stamp r.key r.start) (sym (length_part p.text r.start r.len (good.recs x r e).name_fits))

-- ---- any tree, the pool's or not

-- What holds of the empty tree and of the pool's holds of any.
any_tree : (p : Pool) (t : ℕ) (P : Tree → Type 0) → P leaf → (1 ≤ t → t ≤ length p.trees → P (tree_at p t)) → P (tree_at p t)
unfolding tree_at
any_tree p zero P o f = subst P (sym (at_none leaf p.trees)) o
any_tree p (suc t) P o f = go (dec_le (suc t) (length p.trees))
  where
    go : Dec (suc t ≤ length p.trees) → P (at leaf p.trees (suc t))
    go (yes h) = f (omega arith) h
    go (no h) = subst P (sym (at_out leaf p.trees (suc t) (omega arith))) o

module _ (p : Pool) (good : WellFormed p) (t : ℕ) where
  -- All slots of a tree live in it.
  pub any_live : All (Lives p t) (list left (tree_at p t))
  unfolding list
  any_live = any_tree p t (λ u. All (Lives p t) (list left u)) nil (λ l h. tree_lives p t (good.trees t l h))

  -- Its keys rise.
  pub any_sorted : Sorted (LessKey (key_at p)) (list left (tree_at p t))
  unfolding list
  any_sorted = any_tree p t (λ u. Sorted (LessKey (key_at p)) (list left u)) nil (λ l h. (good.trees t l h).keys_rise)

-- ---- lists of slots and lists of entries

map_aux : {A B : Type 0} (f : A → B) (l r : List A) → map f (reverse_aux l r) ≡ reverse_aux (map f l) (map f r)
map_aux f [] r = refl
map_aux f (x ∷ l) r = map_aux f l (x ∷ r)

-- The entries as one who goes in the direction d meets them are those of the slots listed from the other side.
pub facing_list : (p : Pool) (t : ℕ) (d : Dir) → facing d (entries_of p t) ≡ map (entry_at p) (list (flip d) (tree_at p t))
unfolding facing entries_of
facing_list p t right = refl
facing_list p t left = sym (ap (map (entry_at p)) (list_flip left (tree_at p t)) ∙ map_aux (entry_at p) (list left (tree_at p t)) [])

module _ (p : Pool) (t : ℕ) where
  -- The first entry is that of the first slot.
  pub front_first : (l : List ℕ) → All (Lives p t) l → front (map (entry_at p) l) ≡ live_entry p (first l)
  unfolding front
  front_first [] nil = sym (entry_zero p)
  front_first (y ∷ l) (more h a) = sym (entry_live p h)

  -- The entry that follows is that of the slot that follows.
  pub next_following : (x : ℕ) (l : List ℕ) → All (Lives p t) l → next_to x (map (entry_at p) l) ≡ live_entry p (following x l)
  unfolding next_to following
  next_following x [] nil = sym (entry_zero p)
  next_following x (y ∷ l) (more h a) =
      ap (λ (z : ℕ). cond (eqb x z) (front (map (entry_at p) l)) (next_to x (map (entry_at p) l))) (entry_slot p h)
      ∙ go (eqb x y) (front_first l a) (next_following x l a)
    where
      go : (b : Bool) → front (map (entry_at p) l) ≡ live_entry p (first l) → next_to x (map (entry_at p) l) ≡ live_entry p (following x l)
          → cond b (front (map (entry_at p) l)) (next_to x (map (entry_at p) l)) ≡ live_entry p (cond b (first l) (following x l))
      go true e f = e
      go false e f = f

  -- The entry in a slot of the list is that of the slot.
  pub slot_listed : (x : ℕ) (l : List ℕ) → All (Lives p t) l → 1 ≤ count (eqb x) l → in_slot x (map (entry_at p) l) ≡ live_entry p x
  unfolding in_slot count
  slot_listed x [] nil n = absurd (omega arith)
  slot_listed x (y ∷ l) (more h a) n =
      ap (λ (z : ℕ). cond (eqb x z) (some (entry_at p y)) (in_slot x (map (entry_at p) l))) (entry_slot p h)
      ∙ test (eqb x y)
      (λ e. ap (λ (b : Bool). cond b (some (entry_at p y)) (in_slot x (map (entry_at p) l))) e ∙ sym (entry_live p h) ∙ ap (live_entry p) (sym (eqb-true x y e)))
      (λ e. ap (λ (b : Bool). cond b (some (entry_at p y)) (in_slot x (map (entry_at p) l))) e ∙ slot_listed x l a (omega (arith, ap bit e)))

  -- A slot that is not in the list has no entry in it.
  pub slot_unlisted : (x : ℕ) (l : List ℕ) → All (Lives p t) l → count (eqb x) l ≡ 0 → in_slot x (map (entry_at p) l) ≡ none
  unfolding in_slot count
  slot_unlisted x [] nil n = refl
  slot_unlisted x (y ∷ l) (more h a) n =
      ap (λ (z : ℕ). cond (eqb x z) (some (entry_at p y)) (in_slot x (map (entry_at p) l))) (entry_slot p h)
      ∙ test (eqb x y) (λ e. absurd (omega (arith, ap bit e)))
      (λ e. ap (λ (b : Bool). cond b (some (entry_at p y)) (in_slot x (map (entry_at p) l))) e ∙ slot_unlisted x l a (omega arith))

-- ---- the entry with a key

module _ (p : Pool) (k : ℕ) where
  -- A key that no slot of a list has is not found among the entries.
  pub lookup_absent : (l : List ℕ) → All (λ y. key_at p y ≡ k → ⊥) l → lookup k (map (entry_at p) l) ≡ none
  unfolding lookup
  lookup_absent [] nil = refl
  lookup_absent (y ∷ l) (more h a) =
      ap (λ (b : Bool). cond b (some (entry_at p y)) (lookup k (map (entry_at p) l)))
      (ap (λ (j : ℕ). eqb j k) (entry_key_lem p y) ∙ ne_eqb (key_at p y) k h)
      ∙ lookup_absent l a

  lookup_sought : (t : ℕ) (l : List ℕ) → All (Lives p t) l → Sorted (LessKey (key_at p)) l
      → lookup k (map (entry_at p) l) ≡ live_entry p (sought (by_key (key_at p) k) l)
  unfolding lookup sought
  lookup_sought t [] nil nil = sym (entry_zero p)
  lookup_sought t (y ∷ l) (more h a) (rise q s) =
      ap (λ (j : ℕ). cond (eqb j k) (some (entry_at p y)) (lookup k (map (entry_at p) l))) (entry_key_lem p y)
      ∙ go (told k (key_at p y)) (lookup_sought t l a s)
    where
      it : Bool → Option Entry
      it b = cond b (some (entry_at p y)) (lookup k (map (entry_at p) l))

      go : {o : Ordering} → Told o k (key_at p y) → lookup k (map (entry_at p) l) ≡ live_entry p (sought (by_key (key_at p) k) l)
          → cond (eqb (key_at p y) k) (some (entry_at p y)) (lookup k (map (entry_at p) l)) ≡ live_entry p (three o 0 y (sought (by_key (key_at p) k) l))
      go (smaller m) e =
          ap it (ne_eqb (key_at p y) k (λ i. omega arith)) ∙ lookup_absent l (all_map (λ z r i. omega arith) q) ∙ sym (entry_zero p)
      go (equal m) e = ap it (eq-eqb (key_at p y) k (sym m)) ∙ sym (entry_live p h)
      go (greater m) e = ap it (ne_eqb (key_at p y) k (λ i. omega arith)) ∙ e

  -- The entry with a key is that of the slot that a search for it finds.
  pub lookup_get : WellFormed p → (t : ℕ) → lookup k (entries_of p t) ≡ live_entry p (get (by_key_in p k) (tree_at p t))
  unfolding entries_of by_key_in keys
  lookup_get good t =
      lookup_sought t (list left (tree_at p t)) (any_live p good t) (any_sorted p good t)
      ∙ ap (live_entry p) (sym (get_sought (keys (key_at p)) (by_key (key_at p) k) (key_exact (key_at p) k) (tree_at p t) (any_sorted p good t)))
