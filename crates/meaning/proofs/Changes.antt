-- A pool stays well-formed when a record is put into a slot or taken out, when a record is added, and when it is emptied; a fresh pool is so.
-- Assumes nothing.
pub use Rattle.meaning.proofs.Members.{slot_in as live_slot}
use Rattle.std.proofs.Common.{◌≡◌, ℕ, zero, suc, ◌+◌, ◌^◌, ◌<◌, ◌≤◌, List, [], ◌∷◌, ◌++◌, map, length, get_or, replicate, sym, refl, ap, subst, arith, length-append}
use Rattle.std.proofs.Math.Option.{Option, none, some}
use Rattle.std.proofs.lemmas.List.{length-replicate}
use Rattle.avl.specs.Tree.{left, Tree, leaf, list, Balanced}
use Rattle.avl.specs.Order.{nil, into, out}
use Rattle.meaning.specs.Layout.{at, count}
use Rattle.meaning.specs.Pool.{Rec, Pool, rec_at, tree_at, key_at, lives_in}
use Rattle.meaning.specs.Change.{with_trees, with_text, with_next, by_key_in, free_from, free_slot, put_rec, drop_rec, new_rec, add_rec, emptied}
use Rattle.meaning.specs.Doors.{fresh}
use Rattle.meaning.specs.WellFormed.{GoodRec, WellFormed}
use Rattle.meaning.specs.States.{Fits}
use Rattle.meaning.proofs.Bytes.{bytes_append}
use Rattle.meaning.proofs.Facts.{at_put_other, length_put}
use Rattle.meaning.proofs.Formed.{Formed, formed, formed_as, room, not_both, edited_recs, put_edited, formed_put_list, formed_put, drop_edited, formed_drop_list, formed_drop}
use Rattle.meaning.proofs.Good.{Addable}

-- a record is good in any pool that has as many trees, as much text and as late a next stamp
pub rec_moves : {p q : Pool} {r : Rec} → length p.trees ≤ length q.trees → length p.text ≤ length q.text → p.next ≤ q.next → GoodRec p r
    → GoodRec q r
rec_moves a b c g = record {
  tree_low = g.tree_low;
  tree_high = omega arith;
  key_high = g.key_high;
  stamp_low = g.stamp_low;
  stamp_high = omega arith;
  len_low = g.len_low;
  len_high = g.len_high;
  name_fits = omega arith;
}

-- other slots and trees in a well-formed pool, as many as there were
pub trees_good : (p : Pool) (s : List (Option Rec)) (u : List Tree) → WellFormed p → length s ≡ length p.slots → length u ≡ length p.trees
    → ((x : ℕ) (r : Rec) → rec_at (with_trees p s u) x ≡ some r → GoodRec p r) → Formed (with_trees p s u) → WellFormed (with_trees p s u)
unfolding with_trees
trees_good p s u w a b g f = record {
  slots_low = omega (arith, w.slots_low);
  slots_high = omega (arith, w.slots_high);
  trees_low = omega (arith, w.trees_low);
  trees_high = omega (arith, w.trees_high);
  size_high = w.size_high;
  used_fits = w.used_fits;
  text_bytes = w.text_bytes;
  next_low = w.next_low;
  next_high = w.next_high;
  recs = λ x r e. rec_moves (omega arith) (omega arith) (omega arith) (g x r e);
  trees = f.trees;
}

-- ---- a record put into a slot, and taken out

module _ (x : ℕ) (r : Rec) (p : Pool) (w : WellFormed p) where
  -- a record that fits leaves the pool well-formed
  pub put_good : Fits p x r → WellFormed (put_rec x r p)
  unfolding put_rec
  put_good f =
      trees_good p _ _ w (length_put p.slots x (some r)) (length_put p.trees r.tree _)
      (edited_recs (put_edited x r p (formed w) (room f)) w.recs own) (formed_put x r p (formed w) (room f))
    where
      own : (s : Rec) → some r ≡ some s → GoodRec p s
      own s e = let i : r ≡ s = cc in subst (GoodRec p) i f.good

  -- a live record taken out leaves the pool well-formed
  pub drop_good : rec_at p x ≡ some r → WellFormed (drop_rec x r p)
  unfolding drop_rec
  drop_good live =
      trees_good p _ _ w (length_put p.slots x none) (length_put p.trees r.tree _)
      (edited_recs (drop_edited x r p (formed w) live) w.recs (λ s e. absurd (not_both none e refl))) (formed_drop x r p (formed w) live)

  -- the record's own tree lists it at the place of its key
  pub put_list : Fits p x r → list left (tree_at (put_rec x r p) r.tree) ≡ into (by_key_in p r.key) x (list left (tree_at p r.tree))
  put_list f = formed_put_list x r p (formed w) (room f)

  -- and lists it no longer
  pub drop_list : rec_at p x ≡ some r → list left (tree_at (drop_rec x r p) r.tree) ≡ out (by_key_in p r.key) (list left (tree_at p r.tree))
  drop_list live = formed_drop_list x r p (formed w) live

module _ (x : ℕ) (r : Rec) (p : Pool) (t : ℕ) (n : t ≡ r.tree → ⊥) where
  -- every other tree stays as it is when a record is put in
  pub put_other : tree_at (put_rec x r p) t ≡ tree_at p t
  unfolding tree_at put_rec with_trees
  put_other = at_put_other leaf p.trees r.tree t _ n

  -- and when one is taken out
  pub drop_other : tree_at (drop_rec x r p) t ≡ tree_at p t
  unfolding tree_at drop_rec with_trees
  drop_other = at_put_other leaf p.trees r.tree t _ n

-- ---- a new record

free_from_lem : (i : ℕ) (s : List (Option Rec)) → (free_from i s ≡ 0 → ⊥) → (j : ℕ) × (free_from i s ≡ i + j) × (j < length s) × (get_or s j none ≡ none)
unfolding free_from
free_from_lem i [] n = absurd (n refl)
free_from_lem i (none ∷ s) n = (0, omega arith, omega arith, refl)
free_from_lem i (some r ∷ s) n = let h = free_from_lem (suc i) s n in (suc h.0, omega (arith, h.1), omega (arith, h.2), h.3)

-- the free slot that is found is one of the pool's, and free
pub free_slot_lem : (p : Pool) → (free_slot p ≡ 0 → ⊥) → (1 ≤ free_slot p) × (free_slot p ≤ length p.slots) × (rec_at p (free_slot p) ≡ none)
unfolding free_slot rec_at at
free_slot_lem p n =
    let h = free_from_lem 1 p.slots n in
    let e : free_from 1 p.slots ≡ suc h.0 = omega (arith, h.1) in
    (omega arith, omega (arith, h.2), subst (λ (x : ℕ). at none p.slots x ≡ none) (sym e) h.3)

-- the pool with the name and the stamp of a new record, which is yet to be put in
abbrev pub grown : Pool → List ℕ → Pool
grown p name = with_next (with_text p (p.text ++ name)) (suc p.next)

module _ (p : Pool) (t k : ℕ) (name : List ℕ) (w : WellFormed p) (h : Addable p t k name) where
  -- a record that can be added fits there
  pub add_fits : Fits (grown p name) (free_slot p) (new_rec t k name p)
  unfolding with_next with_text new_rec key_at rec_at tree_at
  add_fits =
      let f = free_slot_lem p h.slot in
      let l = length-append p.text name in
      record {
        slot_low = f.0;
        slot_high = f.1;
        free = f.2;
        good = record {
          tree_low = h.tree_low;
          tree_high = h.tree_high;
          key_high = h.key_high;
          stamp_low = w.next_low;
          stamp_high = omega arith;
          len_low = h.len_low;
          len_high = h.len_high;
          name_fits = omega arith;
        };
        new = h.new;
      }

  -- and that pool is well-formed
  pub grown_good : WellFormed (grown p name)
  unfolding with_next with_text rec_at
  grown_good =
      let l = length-append p.text name in
      record {
        slots_low = w.slots_low;
        slots_high = w.slots_high;
        trees_low = w.trees_low;
        trees_high = w.trees_high;
        size_high = w.size_high;
        used_fits = omega (arith, h.text);
        text_bytes = bytes_append p.text name w.text_bytes h.name_bytes;
        next_low = omega arith;
        next_high = omega (arith, h.stamp, w.next_high);
        recs = λ x r e. rec_moves (omega arith) (omega arith) (omega arith) (w.recs x r e);
        trees = (formed_as p (p.text ++ name) (suc p.next) (formed w)).trees;
      }

  -- a pool with a new record is well-formed
  pub add_good : WellFormed (add_rec t k name p)
  unfolding add_rec
  add_good = put_good (free_slot p) (new_rec t k name p) (grown p name) grown_good add_fits

-- ---- empty pools

at_replicate : {A : Type 0} (a : A) (n x : ℕ) → at a (replicate n a) x ≡ a
unfolding at
at_replicate a n zero = refl
at_replicate a n (suc i) = go n i
  where
    go : (n i : ℕ) → get_or (replicate n a) i a ≡ a
    go zero i = refl
    go (suc n) zero = refl
    go (suc n) (suc i) = go n i

-- a pool of free slots, empty trees and no text is well-formed
empty_good : (N T X n : ℕ) → (1 ≤ N) × (N ≤ 1024) × (1 ≤ T) × (T ≤ 8) × (X ≤ 8192) × (1 ≤ n) × (n < 256 ^ 4)
    → WellFormed (record { slots = replicate N none; trees = replicate T leaf; text = []; size = X; next = n })
unfolding rec_at tree_at list count lives_in
empty_good N T X n h =
    let a : length (replicate {A = Option Rec} N none) ≡ N = length-replicate N none in
    let b = length-replicate T leaf in
    record {
      slots_low = omega arith;
      slots_high = omega arith;
      trees_low = omega arith;
      trees_high = omega arith;
      size_high = h.4;
      used_fits = omega arith;
      text_bytes = record { below = λ i. omega arith };
      next_low = h.5;
      next_high = h.6;
      recs = λ x r e. absurd (not_both (at none (replicate N none) x) e (at_replicate none N x));
      trees = λ t i j. record {
        once = λ x. rw (at_replicate leaf T t, at_replicate {A = Option Rec} none N x);
        keys_rise = rw (at_replicate leaf T t) nil;
        balanced = rw (at_replicate leaf T t) Balanced.none;
      };
    }

-- a fresh pool is well-formed
pub fresh_good : (N T X : ℕ) → 1 ≤ N → N ≤ 1024 → 1 ≤ T → T ≤ 8 → X ≤ 8192 → WellFormed (fresh N T X)
unfolding fresh
fresh_good N T X a b c d e = empty_good N T X 1 (a, b, c, d, e, omega arith, omega arith)

map_constant : {A B : Type 0} (b : B) (l : List A) → map (λ _. b) l ≡ replicate (length l) b
map_constant b [] = refl
map_constant b (a ∷ l) = ap (λ (m : List _). b ∷ m) (map_constant b l)

-- emptied, a pool is well-formed still
pub emptied_good : (p : Pool) → WellFormed p → WellFormed (emptied p)
unfolding emptied with_text with_trees
emptied_good p w =
    rw (map_constant {B = Option Rec} none p.slots, map_constant leaf p.trees)
    (empty_good (length p.slots) (length p.trees) p.size p.next
    (w.slots_low, w.slots_high, w.trees_low, w.trees_high, w.size_high, w.next_low, w.next_high))
