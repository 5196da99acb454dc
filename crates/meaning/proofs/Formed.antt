-- The records and the trees of a pool agree, whatever its text and its stamps; a record put into a slot or taken out keeps them so.
-- Assumes nothing.
use Rattle.std.proofs.Common.{◌≡◌, ℕ, ◌≤◌, true, false, eqb, List, ◌∷◌, ◌++◌, length, sym, refl, ap, ◌∙◌, subst, arith, eq-eqb, ne_eqb}
use Rattle.std.proofs.Math.Decide.{ℕ_discrete}
use Rattle.std.proofs.Math.Option.{Option, none, some}
use Rattle.avl.specs.Tree.{left, Tree, leaf, list, Balanced}
use Rattle.avl.specs.Search.{add, remove_by_key}
use Rattle.avl.specs.Order.{All, Sorted, LessKey, into, out}
use Rattle.avl.proofs.Answers.{add_balanced, remove_by_key_balanced}
use Rattle.avl.proofs.Sorting.{all_map, sorted_once, sorted_without}
use Rattle.avl.proofs.Keys.{keys}
use Rattle.meaning.specs.Layout.{bit, count, put}
use Rattle.meaning.specs.Pool.{Rec, Pool, rec_at, tree_at, key_of, key_at, lives_in}
use Rattle.meaning.specs.Change.{with_trees, with_text, with_next, by_key_in, put_rec, drop_rec}
use Rattle.meaning.specs.WellFormed.{GoodTree, WellFormed}
use Rattle.meaning.specs.States.{NewKey, Fits}
use Rattle.meaning.proofs.Facts.{all_counted, count_none, at_put_same, at_put_other, length_put}
use Rattle.meaning.proofs.Members.{slot_in}
use Rattle.meaning.proofs.Slots.{count_between, Stands, stands, SameKeys, sorted_keys, Around, around_keys, Gap, gap, around_slot, around_into, around_out, around_sorted, add_list, remove_list}

-- every live record's tree is one of the pool's, and every tree lists its records
pub record Formed (p : Pool) : Type 0 where
  pub homes : (x : ℕ) (r : Rec) → rec_at p x ≡ some r → (1 ≤ r.tree) × (r.tree ≤ length p.trees)
  pub trees : (t : ℕ) → 1 ≤ t → t ≤ length p.trees → GoodTree p t

-- in a well-formed pool they do
pub formed : {p : Pool} → WellFormed p → Formed p
formed w = record { homes = λ x r e. ((w.recs x r e).tree_low, (w.recs x r e).tree_high); trees = w.trees }

-- text and stamps do not matter
pub formed_as : (p : Pool) (x : List ℕ) (n : ℕ) → Formed p → Formed (with_next (with_text p x) n)
unfolding with_next with_text rec_at tree_at key_at
formed_as p x n f = record { homes = f.homes; trees = λ t h k. same (f.trees t h k) }
  where
    same : {t : ℕ} → GoodTree p t → GoodTree (with_next (with_text p x) n) t
    same g = record { once = g.once; keys_rise = g.keys_rise; balanced = g.balanced }

-- slot x is free for the record r, and its tree has no other of its key
pub record Room (p : Pool) (x : ℕ) (r : Rec) : Type 0 where
  pub slot_low : 1 ≤ x
  pub slot_high : x ≤ length p.slots
  pub free : rec_at p x ≡ none
  pub tree_low : 1 ≤ r.tree
  pub tree_high : r.tree ≤ length p.trees
  pub new : NewKey p r.tree r.key

-- a record that fits has it
pub room : {p : Pool} {x : ℕ} {r : Rec} → Fits p x r → Room p x r
room f = record {
  slot_low = f.slot_low;
  slot_high = f.slot_high;
  free = f.free;
  tree_low = f.good.tree_low;
  tree_high = f.good.tree_high;
  new = f.new;
}

-- ---- slots

-- a slot is live or free
pub not_both : {A : Type 0} {a : A} (o : Option A) → o ≡ some a → o ≡ none → ⊥
not_both o p q = let z : ◌≡◌ {A = ℕ} 0 1 = cc in omega arith

-- a live slot has its record's key
pub live_key : (p : Pool) (x : ℕ) (r : Rec) → rec_at p x ≡ some r → key_at p x ≡ r.key
unfolding key_at key_of
live_key p x r e = ap key_of e

-- a record that does not live in a tree is not in its list
pub absent : (p : Pool) (x t : ℕ) → GoodTree p t → lives_in t (rec_at p x) ≡ false → All (λ y. y ≡ x → ⊥) (list left (tree_at p t))
absent p x t g e = all_counted (list left (tree_at p t)) (λ y h i. omega (arith, rw i at h, g.once x, ap bit e))

-- two pools have the same records but in slot x
abbrev pub SameBut : ℕ → Pool → Pool → Type 0
SameBut x p q = (y : ℕ) → (y ≡ x → ⊥) → rec_at q y ≡ rec_at p y

-- so a list without x has the same keys in both
pub same_keys : {x : ℕ} (p q : Pool) → SameBut x p q → {l : List ℕ} → All (λ y. y ≡ x → ⊥) l → SameKeys (key_at p) (key_at q) l
unfolding key_at
same_keys p q same h = all_map (λ y n. ap key_of (same y n)) h

-- ---- one slot and one tree changed

-- q is p but for o in slot x and u at tree t
pub record Edited (p q : Pool) (x : ℕ) (o : Option Rec) (t : ℕ) (u : Tree) : Type 0 where
  pub slot : rec_at q x ≡ o
  pub slots : SameBut x p q
  pub tree : tree_at q t ≡ u
  pub trees : (s : ℕ) → (s ≡ t → ⊥) → tree_at q s ≡ tree_at p s
  pub many : length q.trees ≡ length p.trees

-- which is so of the pool with these put in
edited : (p : Pool) (x : ℕ) (o : Option Rec) (t : ℕ) (u : Tree) → 1 ≤ x → x ≤ length p.slots → 1 ≤ t → t ≤ length p.trees
    → Edited p (with_trees p (put p.slots x o) (put p.trees t u)) x o t u
unfolding with_trees rec_at tree_at
edited p x o t u a b c d = record {
  slot = at_put_same none p.slots x o a b;
  slots = λ y n. at_put_other none p.slots x y o n;
  tree = at_put_same leaf p.trees t u c d;
  trees = λ s n. at_put_other leaf p.trees t s u n;
  many = length_put p.trees t u;
}

-- what lives in tree t if anywhere
abbrev OnlyIn : ℕ → Option Rec → Type 0
OnlyIn t o = (s : ℕ) → (s ≡ t → ⊥) → lives_in s o ≡ false

only_none : (t : ℕ) → OnlyIn t none
unfolding lives_in
only_none t s n = refl

only_own : (r : Rec) → OnlyIn r.tree (some r)
unfolding lives_in
only_own r s n = ne_eqb r.tree s (λ e. n (sym e))

module _ {p q : Pool} {x : ℕ} {o : Option Rec} {t : ℕ} {u : Tree} (e : Edited p q x o t u) where
  -- what holds of o and of the records before holds of those after
  pub edited_recs : {P : Rec → Type 0} → ((y : ℕ) (r : Rec) → rec_at p y ≡ some r → P r) → ((r : Rec) → o ≡ some r → P r)
      → (y : ℕ) (r : Rec) → rec_at q y ≡ some r → P r
  edited_recs {P = P} f g y r i = go (ℕ_discrete y x)
    where
      go : Dec (y ≡ x) → P r
      go (yes j) = g r (sym e.slot ∙ ap (rec_at q) (sym j) ∙ i)
      go (no n) = f y r (sym (e.slots y n) ∙ i)

  rebuilt : (s : ℕ) → GoodTree p s
      → ((y : ℕ) → (y ≡ x → ⊥) → count (eqb y) (list left (tree_at q s)) ≡ count (eqb y) (list left (tree_at p s)))
      → count (eqb x) (list left (tree_at q s)) ≡ bit (lives_in s o) → Sorted (LessKey (key_at q)) (list left (tree_at q s)) → Balanced (tree_at q s)
      → GoodTree q s
  rebuilt s g c h k b = record { once = λ y. go y (ℕ_discrete y x); keys_rise = k; balanced = b }
    where
      go : (y : ℕ) → Dec (y ≡ x) → count (eqb y) (list left (tree_at q s)) ≡ bit (lives_in s (rec_at q y))
      go y (yes i) = rw (i, e.slot) h
      go y (no n) = c y n ∙ g.once y ∙ ap (λ (m : Option Rec). bit (lives_in s m)) (sym (e.slots y n))

  -- another tree
  tree_stays : OnlyIn t (rec_at p x) → OnlyIn t o → (s : ℕ) → (s ≡ t → ⊥) → GoodTree p s → GoodTree q s
  tree_stays a b s n g =
      let i = e.trees s n in
      rebuilt s g (λ y d. rw i) (rw i (g.once x ∙ ap bit (a s n ∙ sym (b s n))))
      (rw i (sorted_keys (same_keys p q e.slots (absent p x s g (a s n))) g.keys_rise)) (rw i g.balanced)

  -- the tree that gets the record
  tree_enters : GoodTree p t → lives_in t (rec_at p x) ≡ false → lives_in t o ≡ true → (a b : List ℕ) → list left (tree_at p t) ≡ a ++ b
      → list left (tree_at q t) ≡ a ++ (x ∷ b) → (k : ℕ) → key_at q x ≡ k → Around (key_at p) k a b → Balanced u → GoodTree q t
  tree_enters g m h a b i j k c w d =
      let n = subst (All (λ y. y ≡ x → ⊥)) i (absent p x t g m) in
      let keys = same_keys p q e.slots n in
      rebuilt t g (λ y d. rw (i, j) (omega (arith, count_between y a x b, ap bit (ne_eqb y x d))))
      (rw (j, h) (omega (arith, count_between x a x b, ap bit (eq-eqb x x refl), count_none x (a ++ b) n (λ d. d refl))))
      (rw j (around_sorted (key_at q) k a x b c (around_keys keys w) (sorted_keys keys (subst (Sorted (LessKey (key_at p))) i g.keys_rise))))
      (rw e.tree d)

  -- the tree that loses it
  tree_leaves : GoodTree p t → lives_in t o ≡ false → (a b : List ℕ) → list left (tree_at p t) ≡ a ++ (x ∷ b) → list left (tree_at q t) ≡ a ++ b
      → Balanced u → GoodTree q t
  unfolding keys
  tree_leaves g h a b i j d =
      let s = subst (Sorted (LessKey (key_at p))) i g.keys_rise in
      let n = sorted_once (keys (key_at p)) a x b s in
      rebuilt t g (λ y d. rw (i, j) (omega (arith, count_between y a x b, ap bit (ne_eqb y x d)))) (rw (j, h) (count_none x (a ++ b) n (λ d. d refl)))
      (rw j (sorted_keys (same_keys p q e.slots n) (sorted_without a x b s))) (rw e.tree d)

  -- all of it, from the tree that changed
  edited_formed : Formed p → ((r : Rec) → o ≡ some r → (1 ≤ r.tree) × (r.tree ≤ length p.trees)) → OnlyIn t (rec_at p x) → OnlyIn t o
      → GoodTree q t → Formed q
  edited_formed f h a b g =
      record { homes = rw e.many (edited_recs f.homes h); trees = λ s l m. tree s l (omega (arith, e.many)) (ℕ_discrete s t) }
    where
      tree : (s : ℕ) → 1 ≤ s → s ≤ length p.trees → Dec (s ≡ t) → GoodTree q s
      tree s l m (yes i) = subst (GoodTree q) (sym i) g
      tree s l m (no n) = tree_stays a b s n (f.trees s l m)

-- ---- a record put in

module _ (x : ℕ) (r : Rec) (p : Pool) (g : Formed p) (f : Room p x r) where
  -- what changes
  pub put_edited : Edited p (put_rec x r p) x (some r) r.tree (add (by_key_in p r.key) x (tree_at p r.tree))
  unfolding put_rec
  put_edited = edited p x (some r) r.tree _ f.slot_low f.slot_high f.tree_low f.tree_high

  put_home : GoodTree p r.tree
  put_home = g.trees r.tree f.tree_low f.tree_high

  -- its tree's list gets it by its key
  pub formed_put_list : list left (tree_at (put_rec x r p) r.tree) ≡ into (by_key_in p r.key) x (list left (tree_at p r.tree))
  unfolding by_key_in
  formed_put_list = ap (list left) put_edited.tree ∙ add_list (key_at p) r.key x (tree_at p r.tree) put_home.keys_rise

  -- the place that it gets there
  pub put_gap : Gap (key_at p) r.key (list left (tree_at p r.tree))
  put_gap = gap (key_at p) r.key (list left (tree_at p r.tree)) put_home.keys_rise f.new

  -- and the list with it
  pub put_split : list left (tree_at (put_rec x r p) r.tree) ≡ put_gap.low ++ (x ∷ put_gap.high)
  unfolding by_key_in
  put_split =
      formed_put_list ∙ ap (into (by_key_in p r.key) x) put_gap.split
      ∙ around_into (key_at p) r.key put_gap.low x put_gap.high put_gap.around

  -- records and trees agree still
  pub formed_put : Formed (put_rec x r p)
  unfolding lives_in
  formed_put = edited_formed put_edited g range (rw f.free (only_none r.tree)) (only_own r) tree
    where
      range : (s : Rec) → some r ≡ some s → (1 ≤ s.tree) × (s.tree ≤ length p.trees)
      range s e = let i : r ≡ s = cc in rw (← i) (f.tree_low, f.tree_high)

      tree : GoodTree (put_rec x r p) r.tree
      tree =
          tree_enters put_edited put_home (rw (f.free, lives_in)) (eq-eqb r.tree r.tree refl) put_gap.low put_gap.high put_gap.split
          put_split r.key (live_key (put_rec x r p) x r put_edited.slot) put_gap.around
          (add_balanced (by_key_in p r.key) x (tree_at p r.tree) put_home.balanced)

-- ---- a record taken out

module _ (x : ℕ) (r : Rec) (p : Pool) (g : Formed p) (live : rec_at p x ≡ some r) where
  -- what changes
  pub drop_edited : Edited p (drop_rec x r p) x none r.tree (remove_by_key (by_key_in p r.key) (tree_at p r.tree))
  unfolding drop_rec
  drop_edited = let s = slot_in p x r live in let t = g.homes x r live in edited p x none r.tree _ s.0 s.1 t.0 t.1

  drop_home : GoodTree p r.tree
  drop_home = g.trees r.tree (g.homes x r live).0 (g.homes x r live).1

  -- its tree's list loses it by its key
  pub formed_drop_list : list left (tree_at (drop_rec x r p) r.tree) ≡ out (by_key_in p r.key) (list left (tree_at p r.tree))
  unfolding by_key_in
  formed_drop_list = ap (list left) drop_edited.tree ∙ remove_list (key_at p) r.key (tree_at p r.tree) drop_home.keys_rise

  -- the place that it had there
  pub drop_stands : Stands x (list left (tree_at p r.tree))
  unfolding lives_in
  drop_stands =
      let e : bit (lives_in r.tree (rec_at p x)) ≡ 1 = rw (live, lives_in) (ap bit (eq-eqb r.tree r.tree refl)) in
      stands x (list left (tree_at p r.tree)) (omega (arith, drop_home.once x))

  -- is that of its key
  pub drop_around : Around (key_at p) r.key drop_stands.low drop_stands.high
  drop_around =
      around_slot (key_at p) r.key drop_stands.low x drop_stands.high (live_key p x r live)
      (subst (Sorted (LessKey (key_at p))) drop_stands.split drop_home.keys_rise)

  -- and the list without it
  pub drop_split : list left (tree_at (drop_rec x r p) r.tree) ≡ drop_stands.low ++ drop_stands.high
  unfolding by_key_in
  drop_split =
      formed_drop_list ∙ ap (out (by_key_in p r.key)) drop_stands.split
      ∙ around_out (key_at p) r.key drop_stands.low x drop_stands.high (live_key p x r live) drop_around

  -- records and trees agree still
  pub formed_drop : Formed (drop_rec x r p)
  formed_drop =
      edited_formed drop_edited g (λ s e. absurd (not_both none e refl)) (rw live (only_own r)) (only_none r.tree)
      (tree_leaves drop_edited drop_home (unfold lives_in in refl) drop_stands.low drop_stands.high drop_stands.split drop_split
      (remove_by_key_balanced (by_key_in p r.key) (tree_at p r.tree) drop_home.balanced))
