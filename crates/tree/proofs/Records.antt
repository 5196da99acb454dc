-- The tree's functions on the records of a pool: run on the rows that hold a tree, each gives the rows that hold the new tree. Other trees, keys
-- and every other byte are as they were. These are the laws in the form that the crates above cite. Assumes nothing.
use Rattle.std.proofs.Common.{◌≡◌, ℕ, ◌^◌, ◌<◌, ◌≤◌, List, ◌++◌, sym, refl, ap, ◌∙◌, subst, arith, length-append}
use Prim.Native.Nat.{Ordering, compare}
use Rattle.avl.specs.Tree.{Dir, right, Bal, Tree, leaf, node, branch, top, list, height, Balanced}
use Rattle.avl.specs.Way.{Way, root, plug, above, side}
use Rattle.avl.specs.Links.{Links, unlinked}
use Rattle.avl.specs.Edit.{beside, insert_here}
use Rattle.avl.specs.Search.{entry, compared, add, remove_by_key, walk_dir}
use Rattle.avl.specs.Order.{by_key, first}
use Rattle.avl.proofs.Search.{seek_plug}
use Rattle.tree.specs.Walk.{levels, bottom_n, walk_n}
use Rattle.tree.specs.Search.{seek_n}
use Rattle.tree.specs.Insert.{more_n, link_n, insert_n, beside_n, insert_here_n}
use Rattle.tree.specs.Remove.{less_n, remove_n}
use Rattle.tree.specs.Held.{over, times, Roomy, Fits, tree_of, held}
use Rattle.tree.specs.Section.{Cargo, section, holding}
use Rattle.tree.specs.declared.node.AvlTree.{AvlTree}
use Rattle.tree.proofs.Ways.{room_in, here}
use Rattle.tree.proofs.Neighbour.{times_plug}
use Rattle.tree.proofs.Inserting.{Blank}
use Rattle.tree.proofs.Removing.{clear}
use Rattle.tree.proofs.Sections.{Whole, length_section, section_over, blank_section, key_section}
use Rattle.tree.proofs.Trees.{New, ending, entry_held, end_held, walk_held, beside_held, add_held, insert_here_held, remove_by_key_held}
use Rattle.tree.proofs.Fitting.{fits_add, fits_insert_here, fits_remove_by_key}

-- N slots, each with 32 bytes and a key of 8
pub record Rows (c : ℕ → Cargo) (N : ℕ) : Type 0 where
  pub few : N ≤ 1024
  pub whole : Whole c
  pub keys_high : (x : ℕ) → (c x).key < 256 ^ 8

-- below no record the side does not matter
pub root_side : (k : ℕ) (m : List ℕ) (t : AvlTree) (x : ℕ) (d e : Dir) → insert_n k m t x 0 d ≡ insert_n k m t x 0 e
unfolding insert_n link_n
root_side k m t x d e = refl

-- a record stands in its tree
stands : (l : Tree) (s : ℕ) (b : Bal) (r : Tree) (p : Way) → 1 ≤ times s (plug p (node l s b r))
unfolding times
stands l s b r p = omega (arith, times_plug s p (node l s b r), here s)

module _ (k : ℕ → Links) (c : ℕ → Cargo) (N : ℕ) (tail : List ℕ) (rows : Rows c N) where
  -- the records without the tree
  abbrev bare : List ℕ
  bare = section k c N ++ tail

  pub roomy : Roomy N bare
  roomy = record { slots_high = rows.few; long = omega (arith, length-append (section k c N) tail, length_section k c N rows.whole) }

  -- they are the records that hold it, once its links are written over them
  pub rows_held : (t : Tree) → Fits N t → over t 0 bare ≡ holding t k c N tail
  unfolding holding
  rows_held t f = section_over t 0 k c N tail rows.whole f.once

  slot_in : (t : Tree) (s : ℕ) → Fits N t → 1 ≤ times s t → (1 ≤ s) × (s ≤ N)
  slot_in t s f h = room_in N s (omega (arith, f.once s))

  new_in : (t : Tree) (x : ℕ) → New N t x → (1 ≤ x) × (x ≤ N)
  unfolding times
  new_in t x h = room_in N x (omega (arith, h.once x, here x))

  blank : (t : Tree) (x : ℕ) → New N t x → k x ≡ unlinked → Blank bare x
  blank t x h e = let i = new_in t x h in record { clear = blank_section k c N x tail rows.whole i.0 i.1 e }

  -- an edit of them
  edited : (t u : Tree) (n₂ : ℕ) (g : List ℕ → List ℕ × AvlTree) → Fits N t → Fits N u → g (over t 0 bare) ≡ held u n₂ bare
      → g (holding t k c N tail) ≡ (holding u k c N tail, tree_of u n₂)
  unfolding held
  edited t u n₂ g f h e = ap g (sym (rows_held t f)) ∙ e ∙ ap (λ (y : List ℕ). (y, tree_of u n₂)) (rows_held u h)

  -- entry and get: the search ends where that in the tree does, after as many keys
  pub entry_rows : (key : ℕ) (cmp : ℕ → Ordering) (t : Tree) → Fits N t → height t ≤ levels → ((s : ℕ) → 1 ≤ times s t → by_key (λ x. (c x).key) key s ≡ cmp s)
      → seek_n levels (holding t k c N tail) key (top t) 0 right 0 ≡ ending (entry cmp t) (compared cmp t)
  entry_rows key cmp t f h e =
      ap (λ y. seek_n levels y key (top t) 0 right 0) (sym (rows_held t f))
      ∙ entry_held key cmp t bare roomy f h
      (λ s i. let j = slot_in t s f i in ap (λ (y : ℕ). compare key y) (key_section k c N s tail rows.whole j.0 j.1 (rows.keys_high s)) ∙ e s i)

  -- first and last
  pub end_rows : (d : Dir) (t : Tree) → Fits N t → height t ≤ levels → bottom_n levels (holding t k c N tail) (top t) d ≡ first (list d t)
  end_rows d t f h = ap (λ y. bottom_n levels y (top t) d) (sym (rows_held t f)) ∙ end_held bare roomy d t f h

  -- walk_dir
  pub walk_rows : (d : Dir) (a : Tree) (s : ℕ) (b : Bal) (z : Tree) (p : Way) → let t = plug p (branch d a s b z) in
      Fits N t → height t ≤ levels → walk_n levels (holding t k c N tail) s d ≡ walk_dir d a p
  walk_rows d a s b z p f h = ap (λ y. walk_n levels y s d) (sym (rows_held _ f)) ∙ walk_held bare roomy d a s b z p f h

  -- beside: the empty place next to a record
  pub beside_rows : (d : Dir) (a : Tree) (s : ℕ) (b : Bal) (z : Tree) (p : Way) → let t = plug p (branch d a s b z) in
      Fits N t → height t ≤ levels → beside_n levels (holding t k c N tail) s d ≡ (above (beside d a s b z p), side (beside d a s b z p))
  beside_rows d a s b z p f h = ap (λ y. beside_n levels y s d) (sym (rows_held _ f)) ∙ beside_held bare roomy d a s b z p f h

  -- add, where the search has found a place for a record that is in no tree
  pub add_rows : (cmp : ℕ → Ordering) (t : Tree) (x n : ℕ) → (entry cmp t).part ≡ leaf → Fits N t → New N t x → Balanced t → height t ≤ levels → k x ≡ unlinked
      → insert_n levels (holding t k c N tail) (tree_of t n) x (above (entry cmp t).way) (side (entry cmp t).way)
      ≡ (holding (add cmp x t) k c N tail, tree_of (add cmp x t) (more_n n))
  add_rows cmp t x n vacant f g i h e =
      edited t (add cmp x t) (more_n n) (λ y. insert_n levels y (tree_of t n) x (above (entry cmp t).way) (side (entry cmp t).way)) f (fits_add cmp t x vacant g)
      (add_held bare roomy cmp t x n vacant g i h (blank t x g e))

  -- insert_here
  pub insert_here_rows : (d : Dir) (a : Tree) (s : ℕ) (b : Bal) (z : Tree) (p : Way) (x n : ℕ) → let t = plug p (branch d a s b z) in
      Fits N t → New N t x → Balanced t → height t ≤ levels → k x ≡ unlinked
      → insert_here_n levels (holding t k c N tail) (tree_of t n) x s d ≡ (holding (insert_here d a s b z p x) k c N tail, tree_of (insert_here d a s b z p x) (more_n n))
  insert_here_rows d a s b z p x n f g i h e =
      let t = plug p (branch d a s b z) in
      edited t (insert_here d a s b z p x) (more_n n) (λ y. insert_here_n levels y (tree_of t n) x s d) f (fits_insert_here d a s b z p x g)
      (insert_here_held bare roomy d a s b z p x n f g i h (blank t x g e))

  -- remove: its record's links end as those of a record in no tree
  pub remove_rows : (cmp : ℕ → Ordering) (t : Tree) (n : ℕ) {l : Tree} {s : ℕ} {b : Bal} {r : Tree} → (entry cmp t).part ≡ node l s b r → Fits N t → Balanced t
      → height t ≤ levels → k s ≡ unlinked → remove_n levels (holding t k c N tail) (tree_of t n) s ≡ (holding (remove_by_key cmp t) k c N tail, tree_of (remove_by_key cmp t) (less_n n))
  unfolding entry plug
  remove_rows cmp t n {l} {s} {b} {r} found f i h e =
      let p = (entry cmp t).way in
      let q : plug p (node l s b r) ≡ t = ap (plug p) (sym found) ∙ seek_plug cmp t root in
      let j = slot_in t s f (subst (λ (y : Tree). 1 ≤ times s y) q (stands l s b r p)) in
      let same : clear bare s ≡ bare = blank_section k c N s tail rows.whole j.0 j.1 e in
      edited t (remove_by_key cmp t) (less_n n) (λ y. remove_n levels y (tree_of t n) s) f (fits_remove_by_key cmp t found f)
      (remove_by_key_held bare roomy cmp t n found f i h ∙ ap (held (remove_by_key cmp t) (less_n n)) same)
