-- The empty place beside a record of a well-formed pool is where the search for a key strictly between the record and its neighbour ends.
-- Assumes nothing.
use Rattle.std.proofs.Common.{◌≡◌, ℕ, ◌≤◌, true, List, [], ◌∷◌, ◌++◌, length, sym, ap, ◌∙◌, subst, arith}
use Prim.Native.Nat.{Ordering}
use Rattle.avl.specs.Tree.{Dir, left, flip, Tree, leaf, list}
use Rattle.avl.specs.Way.{above, side, before, after}
use Rattle.avl.specs.Edit.{beside}
use Rattle.avl.specs.Search.{Spot, toward, entry}
use Rattle.avl.specs.Order.{All, more, Sorted, first, LessKey}
use Rattle.avl.proofs.Beside.{Next, last, next, between_entry}
use Rattle.avl.proofs.Keys.{keys, key_exact}
use Rattle.avl.proofs.Sorting.{all_back, all_tail}
use Rattle.tree.specs.Insert.{beside_n}
use Rattle.tree.proofs.Records.{beside_rows}
use Rattle.meaning.specs.Pool.{Pool, rec_at, tree_at, key_at, lives_in}
use Rattle.meaning.specs.Change.{by_key_in}
use Rattle.meaning.specs.Cursor.{beyond}
use Rattle.meaning.specs.Command.{past}
use Rattle.meaning.specs.WellFormed.{WellFormed}
use Rattle.meaning.specs.Places.{Stands}
use Rattle.meaning.proofs.Cursors.{all_slots}
use Rattle.meaning.proofs.Members.{lives}
use Rattle.meaning.proofs.NewKeys.{past_says}
use Rattle.slots.specs.Image.{text_bytes, body_of}
use Rattle.slots.proofs.Bodies.{body_rows}
use Rattle.slots.proofs.Standing.{seat_list, seat_live, seated_body, seat_fits, beyond_seat}

-- where a record beside another goes, if its key lies strictly between the record and its neighbour: there the search for the key ends
pub record Place (p : Pool) (t k : ℕ) (spot : ℕ × Dir) : Type 0 where
  pub vacant : (entry (by_key_in p k) (tree_at p t)).part ≡ leaf
  pub spot_is : spot ≡ (above (entry (by_key_in p k) (tree_at p t)).way, side (entry (by_key_in p k) (tree_at p t)).way)

-- what the first of a list of slots says, if there is one, is what follows next
next_first : (cmp : ℕ → Ordering) (o : Ordering) (l : List ℕ) → All (λ y. y ≡ 0 → ⊥) l → ((first l ≡ 0 → ⊥) → cmp (first l) ≡ o) → Next cmp o l
next_first cmp o [] a h = last
next_first cmp o (n ∷ l) (more f a) h = next (h f)

module _ (p : Pool) (v : WellFormed p) (t : ℕ) (low : 1 ≤ t) (high : t ≤ length p.trees) (d : Dir) (x : ℕ) (w : Stands d x (tree_at p t)) where
  -- no slot beyond the record is 0
  slots_beyond : All (λ y. y ≡ 0 → ⊥) (list (flip d) w.near ++ after (flip d) w.way)
  slots_beyond =
      let e = flip d in
      all_tail (all_back (before e w.way ++ list e w.far) _ (subst (All (λ y. y ≡ 0 → ⊥)) (seat_list d x w) (all_slots p v t low high e)))

  -- the search for a key strictly between ends beside the record
  entry_seat : (k : ℕ) → lives_in t (rec_at p x) ≡ true → past p d x k ≡ true → past p (flip d) (beyond d p t x) k ≡ true
      → entry (by_key_in p k) (tree_at p t) ≡ record { part = leaf; way = beside d w.near x w.bal w.far w.way }
  unfolding by_key_in keys
  entry_seat k h this that =
      let rest = list (flip d) w.near ++ after (flip d) w.way in
      let e : beyond d p t x ≡ first rest = beyond_seat p v t low high d x w in
      ap (entry (by_key_in p k)) w.is
      ∙ between_entry (keys (key_at p)) (by_key_in p k) (key_exact (key_at p) k).follows d w.near x w.bal w.far w.way
      (subst (λ (u : Tree). Sorted (LessKey (key_at p)) (list left u)) w.is (v.trees t low high).keys_rise)
      (past_says p d x k this (λ i. omega (arith, (lives p t x h).low)))
      (next_first (by_key_in p k) (toward (flip d)) rest slots_beyond
      (past_says p (flip d) (first rest) k (subst (λ (y : ℕ). past p (flip d) y k ≡ true) e that)))

  -- and the place that is found beside it is that one
  beside_seat : beside_n 14 (body_of p) x d
      ≡ (above (beside d w.near x w.bal w.far w.way), side (beside d w.near x w.bal w.far w.way))
  beside_seat =
      let f = seat_fits p v t low high d x w in
      ap (λ (m : List ℕ). beside_n 14 m x d) (seated_body p v t low high d x w)
      ∙ beside_rows _ _ (length p.slots) (text_bytes p) (body_rows p v) d w.near x w.bal w.far w.way f.0 f.1

-- The place beside a record is where a key strictly between the record and its neighbour is sought.
pub beside_image : (p : Pool) → WellFormed p → (t : ℕ) → 1 ≤ t → t ≤ length p.trees → (d : Dir) (x k : ℕ) → lives_in t (rec_at p x) ≡ true
    → past p d x k ≡ true → past p (flip d) (beyond d p t x) k ≡ true → Place p t k (beside_n 14 (body_of p) x d)
beside_image p v t low high d x k h this that =
    let w = seat_live p v t low high d x h in
    let e = entry_seat p v t low high d x w k h this that in
    record {
      vacant = ap (λ (s : Spot). s.part) e;
      spot_is = beside_seat p v t low high d x w ∙ sym (ap (λ (s : Spot). (above s.way, side s.way)) e);
    }
