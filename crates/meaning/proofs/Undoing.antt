-- Undoing one change, or a journal of them, gives back the records, slots and lists from before, and records and trees that agree.
-- Assumes nothing.
use Rattle.std.proofs.Common.{◌≡◌, ℕ, zero, suc, List, [], ◌∷◌, ◌++◌, length, sym, refl, ap, ◌∙◌, subst, arith, set-set}
use Rattle.std.proofs.Math.Decide.{ℕ_discrete}
use Rattle.std.proofs.Math.Option.{Option, none, some}
use Rattle.std.proofs.lemmas.List.{set-get_or}
use Rattle.avl.specs.Tree.{left, list}
use Rattle.avl.specs.Order.{All, into, out}
use Rattle.avl.proofs.Sorting.{all_map}
use Rattle.meaning.specs.Layout.{at, put}
use Rattle.meaning.specs.Pool.{Rec, Pool, rec_at, tree_at, key_at, lives_in}
use Rattle.meaning.specs.Change.{with_trees, by_key_in, put_rec, drop_rec, Change, added, removed, undo_add, undo}
use Rattle.meaning.specs.States.{Alike, Since, nothing, then_added, then_removed}
use Rattle.meaning.proofs.Facts.{length_put}
use Rattle.meaning.proofs.Formed.{Formed, formed, Room, room, live_key, absent, same_keys, put_edited, put_gap, put_split, formed_put_list, formed_put, drop_edited, drop_stands, drop_around, drop_split, formed_drop_list, formed_drop}
use Rattle.meaning.proofs.Members.{slot_in}
use Rattle.meaning.proofs.Slots.{Around, around_keys, around_new, around_into, around_out}

-- ---- pools alike

-- a pool is like itself
pub alike_same : (p : Pool) → Alike p p
alike_same p = record { slots = refl; lists = λ t. refl; trees = refl; size = refl }

-- and like whatever is like one that it is like
pub alike_on : {p q r : Pool} → Alike p q → Alike q r → Alike p r
alike_on a b = record { slots = a.slots ∙ b.slots; lists = λ t. a.lists t ∙ b.lists t; trees = a.trees ∙ b.trees; size = a.size ∙ b.size }

-- pools alike have the same records
pub alike_rec : {p q : Pool} → Alike p q → (x : ℕ) → rec_at q x ≡ rec_at p x
unfolding rec_at
alike_rec a x = ap (λ (s : List (Option Rec)). at none s x) (sym a.slots)

-- what was in a place put back there
put_back : {A : Type 0} (d : A) (l : List A) (x : ℕ) (a b : A) → at d l x ≡ b → put (put l x a) x b ≡ l
unfolding at put
put_back d l zero a b e = refl
put_back d l (suc i) a b e = set-set l i a b ∙ rw (← e) (set-get_or l i d)

-- what holds of one tree and of the others holds of all
each_tree : (P : ℕ → Type 0) (s : ℕ) → P s → ((t : ℕ) → (t ≡ s → ⊥) → P t) → (t : ℕ) → P t
each_tree P s h k t = go (ℕ_discrete t s)
  where
    go : Dec (t ≡ s) → P t
    go (yes e) = subst P (sym e) h
    go (no n) = k t n

-- ---- one change undone, in any pool alike to the one that it left

-- an added record taken out
module _ (x : ℕ) (r : Rec) (p q : Pool) (f : Formed p) (g : Formed q) (fits : Room p x r) (a : Alike (put_rec x r p) q) where
  -- it is there
  pub added_live : rec_at q x ≡ some r
  added_live = alike_rec a x ∙ (put_edited x r p f fits).slot

  added_list : list left (tree_at p r.tree) ≡ list left (tree_at (drop_rec x r q) r.tree)
  unfolding by_key_in lives_in
  added_list =
      let h = put_gap x r p f fits in
      let n = absent p x r.tree (f.trees r.tree fits.tree_low fits.tree_high) (rw (fits.free, lives_in)) in
      let same = same_keys p q (λ y d. alike_rec a y ∙ (put_edited x r p f fits).slots y d) (subst (All (λ y. y ≡ x → ⊥)) h.split n) in
      h.split
      ∙ sym (around_out (key_at q) r.key h.low x h.high (live_key q x r added_live) (around_keys same h.around))
      ∙ ap (out (by_key_in q r.key)) (sym (put_split x r p f fits) ∙ a.lists r.tree)
      ∙ sym (formed_drop_list x r q g added_live)

  -- and without it the pool is as before
  pub added_back : Alike p (drop_rec x r q)
  unfolding rec_at put_rec drop_rec with_trees
  added_back =
      let d = put_edited x r p f fits in
      let e = drop_edited x r q g added_live in
      record {
        slots = sym (ap (λ (s : List (Option Rec)). put s x none) (sym a.slots) ∙ put_back none p.slots x (some r) none fits.free);
        lists = each_tree (λ t. list left (tree_at p t) ≡ list left (tree_at (drop_rec x r q) t)) r.tree added_list
            (λ t n. ap (list left) (sym (d.trees t n)) ∙ a.lists t ∙ ap (list left) (sym (e.trees t n)));
        trees = sym d.many ∙ a.trees ∙ sym e.many;
        size = a.size;
      }

-- a removed record put back
module _ (x : ℕ) (r : Rec) (p q : Pool) (f : Formed p) (g : Formed q) (live : rec_at p x ≡ some r) (a : Alike (drop_rec x r p) q) where
  removed_split : list left (tree_at q r.tree) ≡ (drop_stands x r p f live).low ++ (drop_stands x r p f live).high
  removed_split = sym (a.lists r.tree) ∙ drop_split x r p f live

  removed_around : Around (key_at q) r.key (drop_stands x r p f live).low (drop_stands x r p f live).high
  removed_around =
      let h = drop_around x r p f live in
      let n = all_map {Q = λ y. y ≡ x → ⊥} (λ y d e. d (ap (key_at p) e ∙ live_key p x r live)) (around_new (key_at p) r.key _ _ h) in
      around_keys (same_keys p q (λ y d. alike_rec a y ∙ (drop_edited x r p f live).slots y d) n) h

  -- there is room for it
  pub removed_room : Room q x r
  unfolding drop_rec with_trees
  removed_room =
      let s = slot_in p x r live in
      let t = f.homes x r live in
      let l = ap length a.slots in
      let m = length_put p.slots x none in
      record {
        slot_low = s.0;
        slot_high = omega arith;
        free = alike_rec a x ∙ (drop_edited x r p f live).slot;
        tree_low = t.0;
        tree_high = omega (arith, t.1, (drop_edited x r p f live).many, a.trees);
        new = subst (All (λ y. key_at q y ≡ r.key → ⊥)) (sym removed_split) (around_new (key_at q) r.key _ _ removed_around);
      }

  removed_list : list left (tree_at p r.tree) ≡ list left (tree_at (put_rec x r q) r.tree)
  unfolding by_key_in
  removed_list =
      let h = drop_stands x r p f live in
      h.split
      ∙ sym (around_into (key_at q) r.key h.low x h.high removed_around)
      ∙ ap (into (by_key_in q r.key) x) (sym removed_split)
      ∙ sym (formed_put_list x r q g removed_room)

  -- and with it the pool is as before
  pub removed_back : Alike p (put_rec x r q)
  unfolding rec_at put_rec drop_rec with_trees
  removed_back =
      let d = drop_edited x r p f live in
      let e = put_edited x r q g removed_room in
      record {
        slots = sym (ap (λ (s : List (Option Rec)). put s x (some r)) (sym a.slots) ∙ put_back none p.slots x none (some r) live);
        lists = each_tree (λ t. list left (tree_at p t) ≡ list left (tree_at (put_rec x r q) t)) r.tree removed_list
            (λ t n. ap (list left) (sym (d.trees t n)) ∙ a.lists t ∙ ap (list left) (sym (e.trees t n)));
        trees = sym d.many ∙ a.trees ∙ sym e.many;
        size = a.size;
      }

-- ---- a journal undone

-- undoing a journal gives back the records, slots and lists of its start, whatever text and stamps are
pub undone_formed : {p₀ : Pool} {cs : List Change} {p : Pool} → Since p₀ cs p → (q : Pool) → Alike p q → Formed q
    → Alike p₀ (undo cs q) × Formed (undo cs q)
unfolding undo undo_add
undone_formed (nothing a) q b g = (alike_on a b, g)
undone_formed {p₀} (then_added {cs = cs} {p = p} x r s w fits a) q b g =
    let c = alike_on a b in
    let live = added_live x r p q (formed w) g (room fits) c in
    subst (λ (o : Option Rec). Alike p₀ (undo cs (undo_add x o q)) × Formed (undo cs (undo_add x o q))) (sym live)
    (undone_formed s (drop_rec x r q) (added_back x r p q (formed w) g (room fits) c) (formed_drop x r q g live))
undone_formed (then_removed {p = p} x r s w live a) q b g =
    let c = alike_on a b in
    undone_formed s (put_rec x r q) (removed_back x r p q (formed w) g live c) (formed_put x r q g (removed_room x r p q (formed w) g live c))

-- the same text, size and next stamp
pub record Kept (p q : Pool) : Type 0 where
  pub text : q.text ≡ p.text
  pub size : q.size ≡ p.size
  pub next : q.next ≡ p.next

-- undoing leaves them alone
pub undo_keeps : (cs : List Change) (p : Pool) → Kept p (undo cs p)
unfolding undo undo_add put_rec drop_rec with_trees
undo_keeps [] p = record { text = refl; size = refl; next = refl }
undo_keeps (added x ∷ cs) p = on (rec_at p x) (undo_keeps cs (undo_add x (rec_at p x) p))
  where
    on : {q : Pool} (o : Option Rec) → Kept (undo_add x o p) q → Kept p q
    on none h = h
    on (some r) h = record { text = h.text; size = h.size; next = h.next }
undo_keeps (removed x r ∷ cs) p = let h = undo_keeps cs (put_rec x r p) in record { text = h.text; size = h.size; next = h.next }
