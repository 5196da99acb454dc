-- What the tree's functions do to records that hold a whole tree: the laws that the crates above cite. They speak of trees and never of links.
-- Assumes nothing.
use Rattle.std.proofs.Common.{◌≡◌, ℕ, ◌+◌, ◌≤◌, List, sym, ap, ◌∙◌, subst, arith}
use Prim.Native.Nat.{Ordering}
use Rattle.avl.specs.Tree.{Dir, Bal, Tree, leaf, node, branch, top, single, list, height, Balanced}
use Rattle.avl.specs.Way.{Way, root, step, plug, above, side, depth}
use Rattle.avl.specs.Edit.{insert, beside, insert_here, remove}
use Rattle.avl.specs.Search.{entry, added, add, taking, remove_by_key, walk_dir}
use Rattle.avl.specs.Order.{first}
use Rattle.avl.proofs.Removal.{bottom_first}
use Rattle.avl.proofs.Search.{seek_plug}
use Rattle.avl.proofs.Walks.{beside_plug}
use Rattle.tree.specs.Walk.{levels, bottom_n, walk_n}
use Rattle.tree.specs.Insert.{more_n, insert_n, beside_n, insert_here_n}
use Rattle.tree.specs.Remove.{less_n, remove_n}
use Rattle.tree.specs.Held.{over, times, room, Roomy, Fits, tree_of, held}
use Rattle.tree.proofs.Ways.{Placed, at_plug}
use Rattle.tree.proofs.Neighbour.{times_plug}
use Rattle.tree.proofs.Walking.{bottom_at, walk_at, beside_at}
use Rattle.tree.proofs.Inserting.{Blank, insert_at}
use Rattle.tree.proofs.Removing.{clear}
use Rattle.tree.proofs.Removal.{depth_plug, remove_at}
pub use Rattle.tree.proofs.Seeking.{ending, entry_held}

-- a place in a tree that fits
pub place_in : {N : ℕ} (p : Way) (t : Tree) → Fits N (plug p t) → Placed N p t
place_in p t f = record { once = λ x. omega (arith, f.once x, times_plug x p t) }

-- a slot of the pool that the tree does not have
pub record New (N : ℕ) (t : Tree) (x : ℕ) : Type 0 where
  pub once : (y : ℕ) → times y (single x) + times y t ≤ room N y

new_place : {N : ℕ} (p : Way) (x : ℕ) → New N (plug p leaf) x → Placed N p (single x)
unfolding times
new_place p x h = record { once = λ y. omega (arith, h.once y, times_plug y p leaf) }

module _ {N : ℕ} (m : List ℕ) (r : Roomy N m) where
  -- first, last: the end of the list
  pub end_held : (d : Dir) (t : Tree) → Fits N t → height t ≤ levels → bottom_n levels (over t 0 m) (top t) d ≡ first (list d t)
  unfolding plug
  end_held d t f h =
      ap (λ n. bottom_n levels n (top t) d) (sym (at_plug root t m (place_in root t f))) ∙ bottom_at levels d root t m r (place_in root t f) h ∙ bottom_first d t

  -- walk_dir: the neighbour of a record, wherever it stands
  pub walk_held : (d : Dir) (a : Tree) (s : ℕ) (b : Bal) (z : Tree) (p : Way) → let t = plug p (branch d a s b z) in
      Fits N t → height t ≤ levels → walk_n levels (over t 0 m) s d ≡ walk_dir d a p
  unfolding plug depth
  walk_held d a s b z p f h =
      let q = place_in p (branch d a s b z) f in
      let low : height a ≤ levels = omega (arith, depth_plug (step d s b z p) a, h) in
      let up : depth p ≤ levels = omega (arith, depth_plug p (branch d a s b z), h) in
      ap (λ n. walk_n levels n s d) (sym (at_plug p (branch d a s b z) m q)) ∙ walk_at levels d a s b z p m r q low up

  -- the empty place beside a record of the tree
  pub beside_held : (d : Dir) (a : Tree) (s : ℕ) (b : Bal) (z : Tree) (p : Way) → let t = plug p (branch d a s b z) in
      Fits N t → height t ≤ levels → beside_n levels (over t 0 m) s d ≡ (above (beside d a s b z p), side (beside d a s b z p))
  unfolding plug depth
  beside_held d a s b z p f h =
      let k = place_in p (branch d a s b z) f in
      let low : height a ≤ levels = omega (arith, depth_plug (step d s b z p) a, h) in
      ap (λ y. beside_n levels y s d) (sym (at_plug p (branch d a s b z) m k)) ∙ beside_at levels d a s b z p m r k low

  -- insert: a new record at an empty place
  pub insert_held : (p : Way) (x n : ℕ) → let t = plug p leaf in New N t x → Balanced t → height t ≤ levels → Blank m x
      → insert_n levels (over t 0 m) (tree_of t n) x (above p) (side p) ≡ held (insert p x) (more_n n) m
  insert_held p x n f i h b = insert_at levels p x n m (omega (arith, depth_plug p leaf, h)) r (new_place p x f) i b

  -- add, where the search has found a place
  pub add_held : (cmp : ℕ → Ordering) (t : Tree) (x n : ℕ) → (entry cmp t).part ≡ leaf → New N t x → Balanced t → height t ≤ levels → Blank m x
      → insert_n levels (over t 0 m) (tree_of t n) x (above (entry cmp t).way) (side (entry cmp t).way) ≡ held (add cmp x t) (more_n n) m
  unfolding add entry plug
  add_held cmp t x n vacant f i h b =
      let p = (entry cmp t).way in
      let e : plug p leaf ≡ t = ap (plug p) (sym vacant) ∙ seek_plug cmp t root in
      subst (λ (y : Tree). insert_n levels (over y 0 m) (tree_of y n) x (above p) (side p) ≡ held (insert p x) (more_n n) m) e
      (insert_held p x n (subst (λ (y : Tree). New N y x) (sym e) f) (subst Balanced (sym e) i) (subst (λ (y : Tree). height y ≤ levels) (sym e) h) b)
      ∙ ap (λ (y : Tree). held (added y p x t) (more_n n) m) (sym vacant)

  -- insert_here: a new record beside a record of the tree
  pub insert_here_held : (d : Dir) (a : Tree) (s : ℕ) (b : Bal) (z : Tree) (p : Way) (x n : ℕ) → let t = plug p (branch d a s b z) in
      Fits N t → New N t x → Balanced t → height t ≤ levels → Blank m x → insert_here_n levels (over t 0 m) (tree_of t n) x s d ≡ held (insert_here d a s b z p x) (more_n n) m
  unfolding insert_here_n insert_here
  insert_here_held d a s b z p x n f g i h c =
      let t = plug p (branch d a s b z) in
      let q = beside d a s b z p in
      let e : plug q leaf ≡ t = beside_plug d a s b z p in
      ap (λ (y : ℕ × Dir). insert_n levels (over t 0 m) (tree_of t n) x y.0 y.1) (beside_held d a s b z p f h)
      ∙ subst (λ (y : Tree). insert_n levels (over y 0 m) (tree_of y n) x (above q) (side q) ≡ held (insert q x) (more_n n) m) e
      (insert_held q x n (subst (λ (y : Tree). New N y x) (sym e) g) (subst Balanced (sym e) i) (subst (λ (y : Tree). height y ≤ levels) (sym e) h) c)

  -- remove: a record of the tree
  pub remove_held : (l : Tree) (s : ℕ) (b : Bal) (q : Tree) (p : Way) (n : ℕ) → let t = plug p (node l s b q) in Fits N t → Balanced t → height t ≤ levels
      → remove_n levels (over t 0 m) (tree_of t n) s ≡ held (remove l b q p) (less_n n) (clear m s)
  remove_held l s b q p n f i h =
      let k = place_in p (node l s b q) f in
      ap (λ y. remove_n levels y (tree_of (plug p (node l s b q)) n) s) (sym (at_plug p (node l s b q) m k)) ∙ remove_at levels l s b q p n m h r k i

  -- remove_by_key, where the search has found the record
  pub remove_by_key_held : (cmp : ℕ → Ordering) (t : Tree) (n : ℕ) {l : Tree} {s : ℕ} {b : Bal} {q : Tree} → (entry cmp t).part ≡ node l s b q → Fits N t → Balanced t
      → height t ≤ levels → remove_n levels (over t 0 m) (tree_of t n) s ≡ held (remove_by_key cmp t) (less_n n) (clear m s)
  unfolding remove_by_key entry plug
  remove_by_key_held cmp t n {l} {s} {b} {q} found f i h =
      let p = (entry cmp t).way in
      let e : plug p (node l s b q) ≡ t = ap (plug p) (sym found) ∙ seek_plug cmp t root in
      subst (λ (y : Tree). remove_n levels (over y 0 m) (tree_of y n) s ≡ held (remove l b q p) (less_n n) (clear m s)) e
      (remove_held l s b q p n (subst (Fits N) (sym e) f) (subst Balanced (sym e) i) (subst (λ (y : Tree). height y ≤ levels) (sym e) h))
      ∙ ap (λ (y : Tree). held (taking y p t) (less_n n) (clear m s)) (sym found)
