-- What a change of the pool does to its lists of entries: an added record is put in by its key, a removed one is left out, and the other lists
-- stay as they were. Assumes nothing.
use Rattle.std.proofs.Common.{◌≡◌, ℕ, zero, suc, ◌+◌, ◌<◌, Bool, cond, eqb, ltb, List, [], ◌∷◌, ◌++◌, map, length, get_or, sym, refl, ap, ◌∙◌, subst, ap₂, arith, take_all, le-ltb, lt-ltb, eq-eqb, ne_eqb}
use Rattle.std.proofs.Math.Option.{Option, some}
use Prim.Native.Nat.{Ordering}
use Rattle.fields.specs.Part.{part}
use Rattle.fields.proofs.Parts.{part_in, part_append_left, part_append_right}
use Rattle.avl.specs.Tree.{left, Tree, leaf, list}
use Rattle.avl.specs.Search.{add, remove_by_key}
use Rattle.avl.specs.Order.{All, nil, more, Sorted, LessKey}
use Rattle.avl.proofs.Keys.{keys}
use Rattle.avl.proofs.Sorting.{all_front, all_back, all_map, sorted_once}
use Rattle.meaning.specs.Layout.{at}
use Rattle.meaning.specs.Pool.{Rec, Pool, rec_at, tree_at, key_at}
use Rattle.meaning.specs.Change.{with_trees, with_text, with_next, by_key_in, free_slot, put_rec, drop_rec, new_rec, add_rec, emptied}
use Rattle.meaning.specs.WellFormed.{WellFormed}
use Rattle.meaning.specs.Meant.{Entry, entry_for, entries_of, insert_by_key, without, new_entry}
use Rattle.meaning.proofs.Acts.{as_put}
use Rattle.meaning.proofs.Changes.{free_slot_lem, grown, add_fits, grown_good}
use Rattle.meaning.proofs.Entries.{entry_at, entry_slot, entry_key_lem, any_live}
use Rattle.meaning.proofs.Formed.{formed, room, not_both, put_gap, put_split, drop_edited, drop_stands, drop_split}
use Rattle.meaning.proofs.Good.{Addable}
use Rattle.meaning.proofs.Members.{Lives}
use Rattle.meaning.proofs.Slots.{Around}

-- ---- lists of entries

map_same : {A : Type 0} (f g : ℕ → A) {l : List ℕ} → All (λ y. f y ≡ g y) l → map f l ≡ map g l
map_same f g nil = refl
map_same f g (more {x = y} {l = l} e a) = ap (λ (z : _). z ∷ map f l) e ∙ ap (λ (z : List _). g y ∷ z) (map_same f g a)

map_append : {A : Type 0} (f : ℕ → A) (a b : List ℕ) → map f (a ++ b) ≡ map f a ++ map f b
map_append f [] b = refl
map_append f (x ∷ a) b = ap (λ (z : List _). f x ∷ z) (map_append f a b)

-- an entry put in at the place of its key
insert_split : (p : Pool) (e : Entry) (a b : List ℕ) → Around (key_at p) e.key a b
    → insert_by_key e (map (entry_at p) (a ++ b)) ≡ map (entry_at p) a ++ (e ∷ map (entry_at p) b)
unfolding insert_by_key
insert_split p e [] [] w = refl
insert_split p e [] (y ∷ b) w = go w.above
  where
    go : All (λ y. e.key < key_at p y) (y ∷ b)
        → cond (ltb e.key (entry_at p y).key) (e ∷ entry_at p y ∷ map (entry_at p) b) (entry_at p y ∷ insert_by_key e (map (entry_at p) b))
        ≡ e ∷ entry_at p y ∷ map (entry_at p) b
    go (more h n) =
        ap (λ (c : Bool). cond c (e ∷ entry_at p y ∷ map (entry_at p) b) (entry_at p y ∷ insert_by_key e (map (entry_at p) b)))
        (ap (ltb e.key) (entry_key_lem p y) ∙ lt-ltb e.key (key_at p y) h)
insert_split p e (y ∷ a) b w = go w.below (insert_split p e a b)
  where
    l : List ℕ
    l = a ++ b

    go : All (λ y. key_at p y < e.key) (y ∷ a)
        → (Around (key_at p) e.key a b → insert_by_key e (map (entry_at p) l) ≡ map (entry_at p) a ++ (e ∷ map (entry_at p) b))
        → cond (ltb e.key (entry_at p y).key) (e ∷ entry_at p y ∷ map (entry_at p) l) (entry_at p y ∷ insert_by_key e (map (entry_at p) l))
        ≡ entry_at p y ∷ (map (entry_at p) a ++ (e ∷ map (entry_at p) b))
    go (more h n) f =
        ap (λ (c : Bool). cond c (e ∷ entry_at p y ∷ map (entry_at p) l) (entry_at p y ∷ insert_by_key e (map (entry_at p) l)))
        (ap (ltb e.key) (entry_key_lem p y) ∙ le-ltb e.key (key_at p y) (omega arith))
        ∙ ap (λ (z : List Entry). entry_at p y ∷ z) (f (record { below = n; above = w.above }))

-- a slot left out
without_split : (p : Pool) (t x : ℕ) (a b : List ℕ) → All (Lives p t) (a ++ (x ∷ b)) → All (λ y. y ≡ x → ⊥) a
    → without x (map (entry_at p) (a ++ (x ∷ b))) ≡ map (entry_at p) (a ++ b)
unfolding without
without_split p t x [] b (more h l) nil =
    ap (λ (c : Bool). cond c (map (entry_at p) b) (entry_at p x ∷ without x (map (entry_at p) b))) (ap (eqb x) (entry_slot p h) ∙ eq-eqb x x refl)
without_split p t x (y ∷ a) b (more h l) (more n m) =
    ap (λ (c : Bool). cond c (map (entry_at p) (a ++ (x ∷ b))) (entry_at p y ∷ without x (map (entry_at p) (a ++ (x ∷ b)))))
    (ap (eqb x) (entry_slot p h) ∙ ne_eqb x y (λ e. n (sym e)))
    ∙ ap (λ (z : List Entry). entry_at p y ∷ z) (without_split p t x a b l m)

-- ---- a record added

module _ (p : Pool) (t k : ℕ) (name : List ℕ) (good : WellFormed p) (a : Addable p t k name) where
  abbrev x : ℕ
  x = free_slot p

  abbrev q : Pool
  q = add_rec t k name p

  grown_rec : (y : ℕ) → rec_at (grown p name) y ≡ rec_at p y
  unfolding with_next with_text rec_at
  grown_rec y = refl

  grown_tree : (u : ℕ) → tree_at (grown p name) u ≡ tree_at p u
  unfolding with_next with_text tree_at
  grown_tree u = refl

  grown_search : by_key_in (grown p name) k ≡ by_key_in p k
  unfolding with_next with_text by_key_in key_at rec_at
  grown_search = refl

  -- Its text is the old one and the name behind it.
  pub add_text : (add_rec t k name p).text ≡ p.text ++ name
  unfolding add_rec put_rec with_trees with_next with_text
  add_text = refl

  -- The next stamp is one more.
  pub add_next : (add_rec t k name p).next ≡ suc p.next
  unfolding add_rec put_rec with_trees with_next with_text
  add_next = refl

  -- The new record's entry.
  pub add_entry : entry_at (add_rec t k name p) (free_slot p) ≡ new_entry p k name
  unfolding entry_for new_entry new_rec
  add_entry =
      let r = new_rec t k name p in
      let n = length p.text in
      let here : part (p.text ++ name) n (length name) ≡ name =
      ap (λ (i : ℕ). part (p.text ++ name) i (length name)) (let i : n ≡ n + 0 = omega arith in i)
      ∙ part_append_right p.text name 0 (length name)
      ∙ part_in name 0 (length name) (omega arith)
      ∙ take_all (length name) name (omega arith) in
      ap₂ (λ (z : List ℕ) (o : Option Rec). entry_for z x o) add_text (as_put p t k name good a).slot
      ∙ ap (λ (z : List ℕ). record { key = k; slot = x; stamp = p.next; start = n; name = z }) here

  old_entry : (u y : ℕ) → Lives p u y → entry_at q y ≡ entry_at p y
  unfolding entry_for
  old_entry u y h =
      let other : y ≡ x → ⊥ = λ e. not_both (rec_at p y) h.is (ap (rec_at p) e ∙ (free_slot_lem p a.slot).2) in
      let same : rec_at q y ≡ some h.rec = (as_put p t k name good a).slots y other ∙ grown_rec y ∙ h.is in
      let r = h.rec in
      ap₂ (λ (z : List ℕ) (o : Option Rec). entry_for z y o) add_text same
      ∙ ap (λ (z : List ℕ). record { key = r.key; slot = y; stamp = r.stamp; start = r.start; name = z })
      (part_append_left p.text name r.start r.len (good.recs y r h.is).name_fits)
      ∙ ap (entry_for p.text y) (sym h.is)

  old_entries : (u : ℕ) (l : List ℕ) → All (Lives p u) l → map (entry_at q) l ≡ map (entry_at p) l
  old_entries u l h = map_same (entry_at q) (entry_at p) (all_map (λ y i. old_entry u y i) h)

  -- The tree's list has the new entry at the place of its key.
  pub add_entries : entries_of (add_rec t k name p) t ≡ insert_by_key (new_entry p k name) (entries_of p t)
  unfolding entries_of new_entry add_rec new_rec with_next with_text rec_at tree_at key_at
  add_entries =
      let g = grown p name in
      let f = formed (grown_good p t k name good a) in
      let m = room (add_fits p t k name good a) in
      let h = put_gap x (new_rec t k name p) g f m in
      let lo = h.low in
      let hi = h.high in
      let all : All (Lives p t) (lo ++ hi) = subst (All (Lives p t)) h.split (any_live p good t) in
      ap (map (entry_at q)) (put_split x (new_rec t k name p) g f m)
      ∙ map_append (entry_at q) lo (x ∷ hi)
      ∙ ap₂ (λ (u v : List Entry). u ++ v) (old_entries t lo (all_front lo hi all))
      (ap₂ (λ (e : Entry) (v : List Entry). e ∷ v) add_entry (old_entries t hi (all_back lo hi all)))
      ∙ sym (insert_split p (new_entry p k name) lo hi h.around)
      ∙ ap (λ (l : List ℕ). insert_by_key (new_entry p k name) (map (entry_at p) l)) (sym h.split)

  -- The other trees' lists are as they were.
  pub add_others : (u : ℕ) → (u ≡ t → ⊥) → entries_of (add_rec t k name p) u ≡ entries_of p u
  unfolding entries_of
  add_others u n =
      ap (λ (v : Tree). map (entry_at q) (list left v)) ((as_put p t k name good a).trees u n ∙ grown_tree u)
      ∙ old_entries u (list left (tree_at p u)) (any_live p good u)

  -- The other trees are as they were.
  pub add_other_trees : (u : ℕ) → (u ≡ t → ⊥) → tree_at (add_rec t k name p) u ≡ tree_at p u
  add_other_trees u n = (as_put p t k name good a).trees u n ∙ grown_tree u

  -- The tree is that of the Rust's `add`.
  pub add_tree : tree_at (add_rec t k name p) t ≡ add (by_key_in p k) (free_slot p) (tree_at p t)
  add_tree = (as_put p t k name good a).tree ∙ ap₂ (λ (f : ℕ → Ordering) (u : Tree). add f (free_slot p) u) grown_search (grown_tree t)

-- ---- a record removed

module _ (p : Pool) (x : ℕ) (r : Rec) (good : WellFormed p) (live : rec_at p x ≡ some r) where
  -- The text stays.
  pub drop_text : (drop_rec x r p).text ≡ p.text
  unfolding drop_rec with_trees
  drop_text = refl

  -- So does the next stamp.
  pub drop_next : (drop_rec x r p).next ≡ p.next
  unfolding drop_rec with_trees
  drop_next = refl

  kept_entries : (l : List ℕ) → All (λ y. y ≡ x → ⊥) l → map (entry_at (drop_rec x r p)) l ≡ map (entry_at p) l
  kept_entries l h =
      map_same (entry_at (drop_rec x r p)) (entry_at p)
      (all_map (λ y n. ap₂ (λ (z : List ℕ) (o : Option Rec). entry_for z y o) drop_text ((drop_edited x r p (formed good) live).slots y n)) h)

  -- The tree's list is without the record.
  pub drop_entries : entries_of (drop_rec x r p) r.tree ≡ without x (entries_of p r.tree)
  unfolding entries_of keys
  drop_entries =
      let t = r.tree in
      let s = drop_stands x r p (formed good) live in
      let lo = s.low in
      let hi = s.high in
      let b = good.recs x r live in
      let n = sorted_once (keys (key_at p)) lo x hi (subst (Sorted (LessKey (key_at p))) s.split (good.trees t b.tree_low b.tree_high).keys_rise) in
      ap (map (entry_at (drop_rec x r p))) (drop_split x r p (formed good) live)
      ∙ kept_entries (lo ++ hi) n
      ∙ sym (without_split p t x lo hi (subst (All (Lives p t)) s.split (any_live p good t)) (all_front lo hi n))
      ∙ ap (λ (l : List ℕ). without x (map (entry_at p) l)) (sym s.split)

  -- The other trees' lists are as they were.
  pub drop_others : (u : ℕ) → (u ≡ r.tree → ⊥) → entries_of (drop_rec x r p) u ≡ entries_of p u
  unfolding entries_of
  drop_others u n =
      ap (λ (v : Tree). map (entry_at (drop_rec x r p)) (list left v)) ((drop_edited x r p (formed good) live).trees u n)
      ∙ kept_entries (list left (tree_at p u)) (all_map other (any_live p good u))
    where
      other : (y : ℕ) → Lives p u y → y ≡ x → ⊥
      other y h e = n (sym h.tree_is ∙ ap (λ (z : Rec). z.tree) (same h.rec r (sym h.is ∙ ap (rec_at p) e ∙ live)))
        where
          same : (a b : Rec) → some a ≡ some b → a ≡ b
          same a b i = (cc)

  -- The other trees are as they were.
  pub drop_other_trees : (u : ℕ) → (u ≡ r.tree → ⊥) → tree_at (drop_rec x r p) u ≡ tree_at p u
  drop_other_trees u n = (drop_edited x r p (formed good) live).trees u n

  -- The tree is that of the Rust's `remove`.
  pub drop_tree : tree_at (drop_rec x r p) r.tree ≡ remove_by_key (by_key_in p r.key) (tree_at p r.tree)
  drop_tree = (drop_edited x r p (formed good) live).tree

-- ---- a pool emptied

at_map : {A : Type 0} (d : A) (l : List A) (i : ℕ) → at d (map (λ _. d) l) i ≡ d
unfolding at
at_map d l zero = refl
at_map {A} d l (suc i) = go l i
  where
    go : (l : List A) (i : ℕ) → get_or (map (λ _. d) l) i d ≡ d
    go [] i = refl
    go (a ∷ l) zero = refl
    go (a ∷ l) (suc i) = go l i

-- Every list is empty.
pub emptied_entries : (p : Pool) (t : ℕ) → entries_of (emptied p) t ≡ []
unfolding entries_of emptied with_text with_trees tree_at list
emptied_entries p t = ap (λ (u : Tree). map (entry_at (emptied p)) (list left u)) (at_map leaf p.trees t)
