-- The walks over record bytes are those of the tree that the records hold: to its end on a side, upwards, to a neighbour, and to the empty place
-- beside a record. Assumes nothing.
use Rattle.std.proofs.Common.{◌≡◌, ℕ, zero, suc, ◌≤◌, List, sym, refl, ap, ◌∙◌, ap₂, arith, ne_eqb}
use Rattle.avl.specs.Tree.{Dir, flip, alike, Bal, Tree, leaf, branch, top, height}
use Rattle.avl.specs.Way.{Way, root, step, above, side, depth}
use Rattle.avl.specs.Edit.{edge, beside, End, end, bottom_child}
use Rattle.avl.specs.Search.{upwards, walk_dir}
use Rattle.avl.proofs.Sides.{Parts, bare, parts, apart, by_side, top_branch, height_branch, edge_branch, end_branch}
use Rattle.avl.proofs.Removal.{bottom_branch}
use Rattle.tree.specs.Node.{child, parent, get_n, side_n}
use Rattle.tree.specs.Walk.{bottom_n, up_n, walk_n}
use Rattle.tree.specs.Insert.{beside_n}
use Rattle.tree.specs.Held.{Roomy}
use Rattle.tree.proofs.Ways.{at, Placed, placed_up, placed_near, at_up}
use Rattle.tree.proofs.Places.{top_near, top_up, above_alone, hung, side_top}

-- ---- the end of a tree on one side, a record at a time

bottom_last : (e : Dir) (s : ℕ) (b : Bal) (z : Tree) → bottom_child e (branch e leaf s b z) ≡ s
unfolding end
bottom_last e s b z = bottom_branch e leaf s b z root

bottom_next : (e : Dir) (a : Tree) (k : ℕ) (c : Bal) (w : Tree) (s : ℕ) (b : Bal) (z : Tree)
    → bottom_child e (branch e (branch e a k c w) s b z) ≡ bottom_child e (branch e a k c w)
bottom_next e a k c w s b z =
    bottom_branch e (branch e a k c w) s b z root
    ∙ ap (λ (o : End). o.slot) (end_branch e a k c w s b z root)
    ∙ sym (bottom_branch e a k c w (step e s b z root))

-- the empty place at the end of a tree hangs below the record that stands there
pub edge_above : (e : Dir) (a : Tree) (s : ℕ) (b : Bal) (z : Tree) (p : Way) → above (edge e (branch e a s b z) p) ≡ bottom_child e (branch e a s b z)
unfolding edge
edge_above e a s b z p = ap above (edge_branch e a s b z p) ∙ by_side e Below none more a s b z p
  where
    Below : Tree → Type 0
    Below a = (s : ℕ) (b : Bal) (z : Tree) (p : Way) → above (edge e a (step e s b z p)) ≡ bottom_child e (branch e a s b z)

    none : Below leaf
    none s b z p = sym (bottom_last e s b z)

    more : (a : Tree) (k : ℕ) (c : Bal) (w : Tree) → Below a → Below w → Below (branch e a k c w)
    more a k c w ih _ s b z p = ap above (edge_branch e a k c w (step e s b z p)) ∙ ih k c w (step e s b z p) ∙ sym (bottom_next e a k c w s b z)

-- and it hangs on the side of that end
pub edge_side : (e : Dir) (a : Tree) (s : ℕ) (b : Bal) (z : Tree) (p : Way) → side (edge e (branch e a s b z) p) ≡ e
unfolding edge
edge_side e a s b z p = ap side (edge_branch e a s b z p) ∙ by_side e Below none more a s b z p
  where
    Below : Tree → Type 0
    Below a = (s : ℕ) (b : Bal) (z : Tree) (p : Way) → side (edge e a (step e s b z p)) ≡ e

    none : Below leaf
    none s b z p = refl

    more : (a : Tree) (k : ℕ) (c : Bal) (w : Tree) → Below a → Below w → Below (branch e a k c w)
    more a k c w ih _ s b z p = ap side (edge_branch e a k c w (step e s b z p)) ∙ ih k c w (step e s b z p)

-- ---- the turns of the loops, over any records

bottom_none : (k : ℕ) (n : List ℕ) (e : Dir) → bottom_n k n 0 e ≡ 0
unfolding bottom_n get_n
bottom_none zero n e = refl
bottom_none (suc k) n e = refl

module _ (k : ℕ) (n : List ℕ) (s : ℕ) (d : Dir) where
  bottom_stop : get_n n s (child d) ≡ 0 → bottom_n (suc k) n s d ≡ s
  unfolding bottom_n
  bottom_stop x = simp x refl

  bottom_on : {c : ℕ} → get_n n s (child d) ≡ c → (c ≡ 0 → ⊥) → bottom_n (suc k) n s d ≡ bottom_n k n c d
  unfolding bottom_n
  bottom_on {c} x o = simp (x, ne_eqb c 0 o) refl

  up_on : {q : ℕ} {f : Dir} (e : Dir) → get_n n s parent ≡ q → side_n n q s ≡ f → (s ≡ 0 → ⊥) → up_n (suc k) n s e d ≡ alike d e (up_n k n q f d) s
  unfolding up_n
  up_on e x y o = simp (x, y, ne_eqb s 0 o) refl

  walk_up : {q : ℕ} {f : Dir} → get_n n s (child d) ≡ 0 → get_n n s parent ≡ q → side_n n q s ≡ f → walk_n k n s d ≡ up_n k n q f d
  unfolding walk_n
  walk_up x y w = simp (x, y, w) refl

  walk_down : {c : ℕ} → get_n n s (child d) ≡ c → (c ≡ 0 → ⊥) → walk_n k n s d ≡ bottom_n k n c (flip d)
  unfolding walk_n
  walk_down {c} x o = simp (x, ne_eqb c 0 o) refl

  beside_stop : get_n n s (child d) ≡ 0 → beside_n k n s d ≡ (s, d)
  unfolding beside_n
  beside_stop x = simp x refl

  beside_on : {c : ℕ} → get_n n s (child d) ≡ c → (c ≡ 0 → ⊥) → beside_n k n s d ≡ (bottom_n k n c (flip d), flip d)
  unfolding beside_n
  beside_on {c} x o = simp (x, ne_eqb c 0 o) refl

-- the link to a record is not 0
some : {N : ℕ} (p : Way) (d : Dir) (a : Tree) (s : ℕ) (b : Bal) (z : Tree) → Placed N p (branch d a s b z) → top (branch d a s b z) ≡ 0 → ⊥
some p d a s b z h e = (above_alone d s b z p a (placed_near d s b z p a h)).0 (sym (top_branch d a s b z) ∙ e)

-- ---- the walks

bottom_turn : {N : ℕ} (k : ℕ) (e : Dir) {a : Tree} (s : ℕ) (b : Bal) (z : Tree) (p : Way) (m : List ℕ) → Roomy N m
    → Placed N p (branch e a s b z) → Parts e a → bottom_n k (at (step e s b z p) a m) (top a) e ≡ bottom_child e a
    → bottom_n (suc k) (at p (branch e a s b z) m) s e ≡ bottom_child e (branch e a s b z)
bottom_turn k e s b z p m r h bare below = bottom_stop k _ s e (top_near p e leaf s b z m r h) ∙ sym (bottom_last e s b z)
bottom_turn k e s b z p m r h (parts a x c w) below =
    let t = branch e a x c w in
    bottom_on k _ s e (top_near p e t s b z m r h) (some (step e s b z p) e a x c w (placed_near e s b z p t h))
    ∙ ap (λ n. bottom_n k n (top t) e) (sym (at_up e s b z p t m h))
    ∙ below
    ∙ sym (bottom_next e a x c w s b z)

-- bottom_child from the top of a tree finds its end on that side
pub bottom_at : {N : ℕ} (k : ℕ) (e : Dir) (p : Way) (t : Tree) (m : List ℕ) → Roomy N m → Placed N p t → height t ≤ k
    → bottom_n k (at p t m) (top t) e ≡ bottom_child e t
unfolding bottom_child
bottom_at {N} k e p t m r = by_side e Found none more t k p
  where
    Found : Tree → Type 0
    Found t = (k : ℕ) (p : Way) → Placed N p t → height t ≤ k → bottom_n k (at p t m) (top t) e ≡ bottom_child e t

    none : Found leaf
    none k p h i = bottom_none k (at p leaf m) e

    more : (a : Tree) (s : ℕ) (b : Bal) (z : Tree) → Found a → Found z → Found (branch e a s b z)
    more a s b z ih _ zero p h i = absurd (omega (arith, height_branch e a s b z))
    more a s b z ih _ (suc k) p h i =
        ap (λ x. bottom_n (suc k) (at p (branch e a s b z) m) x e) (top_branch e a s b z)
        ∙ bottom_turn k e s b z p m r h (apart e a) (ih k (step e s b z p) (placed_near e s b z p a h) (omega (arith, height_branch e a s b z)))

-- the way up finds the nearest record above that lies in the direction d
pub up_at : {N : ℕ} (k : ℕ) (d : Dir) (p : Way) (t : Tree) (m : List ℕ) → Roomy N m → Placed N p t → depth p ≤ k
    → up_n k (at p t m) (above p) (hung p) d ≡ upwards d p
unfolding up_n upwards depth
up_at zero d root t m r h i = refl
up_at (suc k) d root t m r h i = refl
up_at zero d (step e s b z p) t m r h i = absurd (omega arith)
up_at (suc k) d (step e s b z p) t m r h i =
    let q = placed_up h in
    ap (λ n. up_n (suc k) n s e d) (at_up e s b z p t m q)
    ∙ up_on k _ s d e (top_up p e t s b z m r q) (side_top p e t s b z m r q) (above_alone e s b z p t h).0
    ∙ ap (λ x. alike d e x s) (up_at k d p (branch e t s b z) m r q (omega arith))

-- bottom_child from the top of a part of a record
part_bottom : {N : ℕ} (k : ℕ) (e d : Dir) (t : Tree) (s : ℕ) (b : Bal) (z : Tree) (p : Way) (m : List ℕ) → Roomy N m → Placed N p (branch d t s b z)
    → height t ≤ k → bottom_n k (at p (branch d t s b z) m) (top t) e ≡ bottom_child e t
part_bottom k e d t s b z p m r h i =
    ap (λ n. bottom_n k n (top t) e) (sym (at_up d s b z p t m h)) ∙ bottom_at k e (step d s b z p) t m r (placed_near d s b z p t h) i

walk_branch : (d e : Dir) (a : Tree) (s : ℕ) (b : Bal) (z : Tree) (p : Way) → walk_dir d (branch e a s b z) p ≡ bottom_child (flip d) (branch e a s b z)
unfolding walk_dir branch
walk_branch d e a s b z p = refl

-- _walk_dir from a record ends at its neighbour
pub walk_at : {N : ℕ} (k : ℕ) (d : Dir) (a : Tree) (s : ℕ) (b : Bal) (z : Tree) (p : Way) (m : List ℕ) → Roomy N m → Placed N p (branch d a s b z)
    → height a ≤ k → depth p ≤ k → walk_n k (at p (branch d a s b z) m) s d ≡ walk_dir d a p
unfolding walk_dir
walk_at {N} k d a s b z p m r h i j = go (apart (flip d) a) h i
  where
    go : {a : Tree} → Parts (flip d) a → Placed N p (branch d a s b z) → height a ≤ k → walk_n k (at p (branch d a s b z) m) s d ≡ walk_dir d a p
    go bare h i =
        walk_up k _ s d (top_near p d leaf s b z m r h) (top_up p d leaf s b z m r h) (side_top p d leaf s b z m r h)
        ∙ up_at k d p (branch d leaf s b z) m r h j
    go (parts a x c w) h i =
        let t = branch (flip d) a x c w in
        walk_down k _ s d (top_near p d t s b z m r h) (some (step d s b z p) (flip d) a x c w (placed_near d s b z p t h))
        ∙ part_bottom k (flip d) d t s b z p m r h i
        ∙ sym (walk_branch d (flip d) a x c w p)

-- the empty place beside a record is found, and the side on which it hangs
pub beside_at : {N : ℕ} (k : ℕ) (d : Dir) (a : Tree) (s : ℕ) (b : Bal) (z : Tree) (p : Way) (m : List ℕ) → Roomy N m → Placed N p (branch d a s b z)
    → height a ≤ k → beside_n k (at p (branch d a s b z) m) s d ≡ (above (beside d a s b z p), side (beside d a s b z p))
unfolding beside edge
beside_at {N} k d a s b z p m r h i = go (apart (flip d) a) h i
  where
    go : {a : Tree} → Parts (flip d) a → Placed N p (branch d a s b z) → height a ≤ k
        → beside_n k (at p (branch d a s b z) m) s d ≡ (above (beside d a s b z p), side (beside d a s b z p))
    go bare h i = beside_stop k _ s d (top_near p d leaf s b z m r h)
    go (parts a x c w) h i =
        let t = branch (flip d) a x c w in
        let q = step d s b z p in
        beside_on k _ s d (top_near p d t s b z m r h) (some q (flip d) a x c w (placed_near d s b z p t h))
        ∙ ap₂ (λ (n : ℕ) (e : Dir). (n, e)) (part_bottom k (flip d) d t s b z p m r h i ∙ sym (edge_above (flip d) a x c w q))
        (sym (edge_side (flip d) a x c w q))
