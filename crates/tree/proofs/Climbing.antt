-- A climb over records that hold a tree, step by step: what each step does to the records, the whole climb does. Assumes nothing.
use Rattle.std.proofs.Common.{◌≡◌, ℕ, zero, suc, ◌+◌, ◌≤◌, cond, eqb, List, [], ◌∷◌, ◌++◌, sym, refl, ap, ◌∙◌, arith, ne_eqb}
use Rattle.avl.specs.Tree.{Dir, left, Bal, Lean, seen, Tree, leaf, node, branch, top, list, height}
use Rattle.avl.specs.Way.{Way, root, step, plug, above, depth}
use Rattle.avl.specs.Rotate.{Climb, stop, on, tree, climb, then}
use Rattle.avl.proofs.Sides.{top_branch, height_branch}
use Rattle.avl.proofs.Lists.{Keeps}
use Rattle.avl.proofs.Balance.{Room, here, under, Sized, sized, Fit, fits, Outcome, passed, Steps}
use Rattle.tree.specs.Rotate.{Store, rooted}
use Rattle.tree.specs.Held.{one, times, Roomy, tree_of, held as stored}
use Rattle.tree.specs.declared.node.AvlTree.{AvlTree}
use Rattle.tree.proofs.Ways.{around, at, Placed, placed_up, at_plug}
use Rattle.tree.proofs.Places.{above_alone, hung, pointed}

-- ---- trees of the same slots

unfoldable pub occurs : ℕ → List ℕ → ℕ
occurs x [] = 0
occurs x (y ∷ l) = one (eqb x y) + occurs x l

pub occurs_append : (x : ℕ) (l k : List ℕ) → occurs x (l ++ k) ≡ occurs x l + occurs x k
unfolding occurs
occurs_append x [] k = omega arith
occurs_append x (y ∷ l) k = omega (arith, occurs_append x l k)

pub times_occurs : (x : ℕ) (t : Tree) → times x t ≡ occurs x (list left t)
unfolding times list occurs
times_occurs x leaf = refl
times_occurs x (node l s b r) = omega (arith, occurs_append x (list left l) (s ∷ list left r), times_occurs x l, times_occurs x r)

-- A slot stands as often in two trees with one list.
pub times_list : (x : ℕ) (t u : Tree) → list left t ≡ list left u → times x t ≡ times x u
times_list x t u e = times_occurs x t ∙ ap (occurs x) e ∙ sym (times_occurs x u)

-- So one takes the place of the other.
pub placed_list : {N : ℕ} (p : Way) (t u : Tree) → list left t ≡ list left u → Placed N p t → Placed N p u
placed_list p t u e h = record { once = λ x. omega (arith, h.once x, times_list x t u e) }

-- ---- the tree by value

top_plug : (p : Way) (t u : Tree) → top t ≡ top u → top (plug p t) ≡ top (plug p u)
unfolding plug
top_plug root t u e = e
top_plug (step d s b z p) t u e = top_plug p (branch d t s b z) (branch d u s b z) (top_branch d t s b z ∙ sym (top_branch d u s b z))

-- A change below a record leaves the root.
pub tree_same : (p : Way) (t u : Tree) (n : ℕ) → top t ≡ top u → tree_of (plug p t) n ≡ tree_of (plug p u) n
unfolding tree_of
tree_same p t u n e = ap (λ (x : ℕ). record { root = x; count = n }) (top_plug p t u e)

-- Another tree at a place gives the root that is stored for it.
pub pointed_plug : (p : Way) (t u : Tree) (n : ℕ) → pointed p (tree_of (plug p t) n) (top u) ≡ tree_of (plug p u) n
unfolding plug tree_of rooted
pointed_plug root t u n = refl
pointed_plug (step d s b z p) t u n = tree_same p (branch d t s b z) (branch d u s b z) n (top_branch d t s b z ∙ sym (top_branch d u s b z))

-- ---- the climb

-- a loop over records, with its limit: from a record of which one side has changed
abbrev pub Loop : Type 0
Loop = ℕ → List ℕ → AvlTree → ℕ → Dir → Store

-- the records that hold t at a place, and the tree by value
abbrev pub stand : Way → Tree → ℕ → List ℕ → Store
stand p t n m = (at p t m, tree_of (plug p t) n)

-- the loop where it goes on above t
abbrev pub onward : Loop → ℕ → Way → Tree → ℕ → List ℕ → Store
onward f k root t n m = stand root t n m
onward f k (step d s b z p) t n m = f k (at (step d s b z p) t m) (tree_of (plug (step d s b z p) t) n) s d

-- the Rust's test whether there is a record above
pub onward_is : {N : ℕ} (f : Loop) (k : ℕ) (p : Way) (t u : Tree) (n : ℕ) (m : List ℕ) → Placed N p u → top t ≡ top u
    → cond (eqb (above p) 0) (at p u m, tree_of (plug p t) n) (f k (at p u m) (tree_of (plug p t) n) (above p) (hung p)) ≡ onward f k p u n m
onward_is f k root t u n m h e = ap (λ (x : AvlTree). (at root u m, x)) (tree_same root t u n e)
onward_is f k (step d s b z p) t u n m h e =
    let q = step d s b z p in
    simp (ne_eqb s 0 (above_alone d s b z p u h).0) (ap (λ (x : AvlTree). f k (at q u m) x s d) (tree_same q t u n e))

-- the loop after one step
abbrev pub after : Loop → ℕ → Way → Climb → ℕ → List ℕ → Store
after f k p (stop u) n m = stand p u n m
after f k p (on u) n m = onward f k p u n m

-- one turn of the loop is one step of the climb
pub record Turn (Change : ℕ → Tree → Type 0) (f : Loop) (g : Lean → Dir → ℕ → Tree → Tree → Climb) : Type 0 where
  pub turn : {N : ℕ} (k : ℕ) (d : Dir) (s : ℕ) {b : Bal} (z : Tree) (p : Way) (t : Tree) (n : ℕ) (m : List ℕ) {i j h : ℕ} → Roomy N m
      → Placed N (step d s b z p) t → Fit d b i j h → Sized z j → Change i t
      → onward f (suc k) (step d s b z p) t n m ≡ after f k p (g (seen d b) d s z t) n m

-- The climb, from the place of the tree o, with t in its stead.
pub climb_at : {Change : ℕ → Tree → Type 0} {f : Loop} {g : Lean → Dir → ℕ → Tree → Tree → Climb} → Turn Change f g → Steps Change g → Keeps g
    → {N : ℕ} (k : ℕ) (p : Way) (o t : Tree) (n : ℕ) (m : List ℕ) → depth p ≤ k → Roomy N m → Placed N p t → Room p (height o) → Change (height o) t
    → onward f k p t n m ≡ stored (climb g p t) n m
unfolding Keeps climb depth plug stored at around
climb_at w l q k root o t n m fuel r h here c = refl
climb_at w l q zero (step d s b z p) o t n m fuel r h (under j e room) c = absurd (omega arith)
climb_at {Change} {f} {g} w l q {N} (suc k) (step d s b z p) o t n m fuel r h (under j e room) c =
    let above = rw (← height_branch d o s b z) at room in
    let out = rw (← height_branch d o s b z) at (l.next s (fits d b _ _ e) (sized j refl) c) in
    w.turn k d s z p t n m r h (fits d b _ _ e) (sized j refl) c
    ∙ go (g (seen d b) d s z t) (q left d (seen d b) s b z t) out (λ u i x. climb_at w l q k p (branch d o s b z) u n m (omega arith) r i above x)
  where
    go : (c : Climb) → list left (tree c) ≡ list left (branch d t s b z) → Outcome Change (height (branch d o s b z)) c
        → ((u : Tree) → Placed N p u → Change (height (branch d o s b z)) u → onward f k p u n m ≡ stored (climb g p u) n m)
        → after f k p c n m ≡ stored (then c (plug p) (climb g p)) n m
    go (stop u) e x ih = ap (λ (y : List ℕ). (y, tree_of (plug p u) n)) (at_plug p u m (placed_list p (branch d t s b z) u (sym e) (placed_up h)))
    go (on u) e (passed x) ih = ih u (placed_list p (branch d t s b z) u (sym e) (placed_up h)) x
