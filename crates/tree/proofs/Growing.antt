-- One turn of each loop over records is one step of its climb. Assumes nothing.
use Rattle.std.proofs.Common.{◌≡◌, ℕ, suc, true, false, cond, ◌||◌, eqb, List, sym, refl, ap, ◌∙◌, subst}
use Rattle.avl.specs.Tree.{Dir, left, right, flip, to_balance, Bal, even, heavy, code, seen, Tree, branch, top}
use Rattle.avl.specs.Way.{Way, step, plug, above}
use Rattle.avl.specs.Rotate.{Climb, stop, on, tree, rotate, grown, shrunk}
use Rattle.avl.proofs.Sides.{facing, flip_flip, top_branch, branch_flip}
use Rattle.avl.proofs.Lists.{rotate_list}
use Rattle.avl.proofs.Balance.{Sized, Fit, flat, taller, shorter, Cut, split, cut, Higher, Lower, less}
use Rattle.tree.specs.Node.{parent, balance, get_n, put_n, side_n}
use Rattle.tree.specs.Rotate.{Rotated, rotate_n}
use Rattle.tree.specs.Insert.{grow_n}
use Rattle.tree.specs.Remove.{shrink_n}
use Rattle.tree.specs.Held.{Roomy, tree_of}
use Rattle.tree.specs.declared.node.AvlTree.{AvlTree}
use Rattle.tree.proofs.Ways.{at, Placed, placed_up, at_up}
use Rattle.tree.proofs.Places.{top_up, top_bal, placed_bal, set_bal, hung, side_top, pointed}
use Rattle.tree.proofs.Rotating.{Turns, over_level, over_outer, over_inner, stops, rotate_at}
use Rattle.tree.proofs.Climbing.{placed_list, tree_same, pointed_plug, Loop, stand, onward, onward_is, after, Turn}

-- ---- a part that is high enough can be rotated

pub turns : (d : Dir) {t : Tree} {n : ℕ} → Cut d t (suc (suc n)) → Turns d t
turns d (split a c w i j flat) = over_level a c w
turns d (split a c w i j taller) = over_outer a c w
turns d (split a c w i j shorter) = inner (cut d w j)
  where
    inner : {n : ℕ} {w : Tree} → Cut d w (suc n) → Turns d (branch d a c (heavy (flip d)) w)
    inner (split u g {b} v i j f) = over_inner a c u g b v

-- ---- balances as numbers

tilted : (d : Dir) → (eqb (to_balance d) 0 ≡ false) × (eqb (to_balance d) (to_balance d) ≡ true) × (eqb (to_balance (flip d)) (to_balance d) ≡ false)
    × (eqb 0 (to_balance d) ≡ false)
tilted left = (refl, refl, refl, refl)
tilted right = (refl, refl, refl, refl)

-- ---- the turns of the loop of _insert, over any records

module _ (n : List ℕ) (k : AvlTree) (s : ℕ) (d : Dir) (j : ℕ) where
  grow_level : {n₂ : List ℕ} {q : ℕ} {e : Dir} → get_n n s balance ≡ 0 → get_n n s parent ≡ q → put_n n s balance (to_balance d) ≡ n₂ → side_n n₂ q s ≡ e
      → grow_n (suc j) n k s d ≡ cond (eqb q 0) (n₂, k) (grow_n j n₂ k q e)
  unfolding grow_n
  grow_level x y w v = simp (x, y, w, v) refl

  grow_near : {q : ℕ} {e : Dir} {o : List ℕ × Rotated} → get_n n s balance ≡ to_balance d → get_n n s parent ≡ q → side_n n q s ≡ e → rotate_n n k s d q e ≡ o
      → grow_n (suc j) n k s d ≡ (o.0, o.1.tree)
  unfolding grow_n
  grow_near x y w v = simp (x, y, w, v, (tilted d).0, (tilted d).1) refl

  grow_far : {n₂ : List ℕ} → get_n n s balance ≡ to_balance (flip d) → put_n n s balance 0 ≡ n₂ → grow_n (suc j) n k s d ≡ (n₂, k)
  unfolding grow_n
  grow_far x w = simp (x, w, (tilted (flip d)).0, (tilted d).2) refl

-- ---- the record above the place

module _ {N : ℕ} (d : Dir) (s : ℕ) (b : Bal) (z : Tree) (p : Way) (t : Tree) (m : List ℕ) (r : Roomy N m) (h : Placed N (step d s b z p) t) where
  -- the records, seen from it
  same : at (step d s b z p) t m ≡ at p (branch d t s b z) m
  same = at_up d s b z p t m (placed_up h)

  its_bal : get_n (at (step d s b z p) t m) s balance ≡ code b
  its_bal = ap (λ n. get_n n s balance) same ∙ top_bal p d t s b z m r (placed_up h)

  its_up : get_n (at (step d s b z p) t m) s parent ≡ above p
  its_up = ap (λ n. get_n n s parent) same ∙ top_up p d t s b z m r (placed_up h)

  its_side : side_n (at (step d s b z p) t m) (above p) s ≡ hung p
  its_side = ap (λ n. side_n n (above p) s) same ∙ side_top p d t s b z m r (placed_up h)

  set : (c : Bal) → put_n (at (step d s b z p) t m) s balance (code c) ≡ at p (branch d t s c z) m
  set c = ap (λ n. put_n n s balance (code c)) same ∙ set_bal p d t s b c z m r (placed_up h)

  new_side : (c : Bal) → side_n (at p (branch d t s c z) m) (above p) s ≡ hung p
  new_side c = side_top p d t s c z m r (placed_bal p d t s b c z (placed_up h))

  -- with another balance it stands, or the loop goes on above it
  stays : (n : ℕ) (c : Bal) → (at p (branch d t s c z) m, tree_of (plug p (branch d t s b z)) n) ≡ stand p (branch d t s c z) n m
  stays n c = ap (λ (x : AvlTree). (at p (branch d t s c z) m, x)) (tree_same p _ _ n (top_branch d t s b z ∙ sym (top_branch d t s c z)))

  rises : (f : Loop) (k n : ℕ) (c : Bal) → let q = at p (branch d t s c z) m in let o = tree_of (plug p (branch d t s b z)) n in
      cond (eqb (above p) 0) (q, o) (f k q o (above p) (hung p)) ≡ onward f k p (branch d t s c z) n m
  rises f k n c =
      onward_is f k p (branch d t s b z) (branch d t s c z) n m (placed_bal p d t s b c z (placed_up h)) (top_branch d t s b z ∙ sym (top_branch d t s c z))

-- ---- _insert

pub grow_turn : Turn Higher grow_n grown
unfolding grown plug
grow_turn = record { turn = go }
  where
    go : {N : ℕ} (k : ℕ) (d : Dir) (s : ℕ) {b : Bal} (z : Tree) (p : Way) (t : Tree) (n : ℕ) (m : List ℕ) {i j h : ℕ} → Roomy N m
        → Placed N (step d s b z p) t → Fit d b i j h → Sized z j → Higher i t
        → onward grow_n (suc k) (step d s b z p) t n m ≡ after grow_n k p (grown (seen d b) d s z t) n m
    go k d s z p t n m r q flat j c =
        grow_level _ _ s d k (its_bal d s even z p t m r q) (its_up d s even z p t m r q) (set d s even z p t m r q (heavy d)) (new_side d s even z p t m r q (heavy d))
        ∙ rises d s even z p t m r q grow_n k n (heavy d)
    go k d s z p t n m r q taller j c =
        let b = heavy d in
        let o : AvlTree = tree_of (plug p (branch d t s b z)) n in
        let x = ap (λ y. rotate_n y o s d (above p) (hung p)) (same d s b z p t m r q) ∙ rotate_at p d s b z m o r (turns d (cut d t c.more)) (placed_up q) in
        grow_near _ o s d k (its_bal d s b z p t m r q) (its_up d s b z p t m r q) (its_side d s b z p t m r q) x
        ∙ ap (λ (y : AvlTree). (at p (tree (rotate d t s z)) m, y)) (pointed_plug p (branch d t s b z) (tree (rotate d t s z)) n)
        ∙ simp facing refl
    go k d s z p t n m r q shorter j c =
        grow_far _ _ s d k (its_bal d s (heavy (flip d)) z p t m r q) (set d s (heavy (flip d)) z p t m r q even)
        ∙ stays d s (heavy (flip d)) z p t m r q n even
        ∙ simp facing refl

-- ---- the turns of the loop of _post_remove, over any records

module _ (n : List ℕ) (k : AvlTree) (s : ℕ) (d : Dir) (j : ℕ) where
  shrink_level : {n₂ : List ℕ} → get_n n s balance ≡ 0 → put_n n s balance (to_balance (flip d)) ≡ n₂ → shrink_n (suc j) n k s d ≡ (n₂, k)
  unfolding shrink_n
  shrink_level x w = simp (x, w, (tilted (flip d)).3) refl

  shrink_near : {n₂ : List ℕ} {q : ℕ} {e : Dir} → get_n n s balance ≡ to_balance d → get_n n s parent ≡ q → put_n n s balance 0 ≡ n₂ → side_n n₂ q s ≡ e
      → shrink_n (suc j) n k s d ≡ cond (eqb q 0) (n₂, k) (shrink_n j n₂ k q e)
  unfolding shrink_n
  shrink_near x y w v = simp (x, y, w, v, (tilted d).0, near_far) refl
    where
      near_far : eqb (to_balance d) (to_balance (flip d)) ≡ false
      near_far = simp flip_flip at (tilted (flip d)).2

  shrink_far : {q : ℕ} {e : Dir} {o : List ℕ × Rotated} → get_n n s balance ≡ to_balance (flip d) → get_n n s parent ≡ q → side_n n q s ≡ e
      → rotate_n n k s (flip d) q e ≡ o → shrink_n (suc j) n k s d ≡ cond o.1.level (o.0, o.1.tree) (shrink_n j o.0 o.1.tree q e)
  unfolding shrink_n
  shrink_far x y w v = simp (x, y, w, v, (tilted (flip d)).1) refl

-- the loop after a rotation: it stops where the rotation says so
after_turn : {N : ℕ} (p : Way) (t : Tree) (k n : ℕ) (m : List ℕ) (c : Climb) → Placed N p (tree c) → let o = pointed p (tree_of (plug p t) n) (top (tree c)) in
    cond (stops c || eqb (above p) 0) (at p (tree c) m, o) (shrink_n k (at p (tree c) m) o (above p) (hung p)) ≡ after shrink_n k p c n m
after_turn p t k n m (stop u) h = ap (λ (y : AvlTree). (at p u m, y)) (pointed_plug p t u n)
after_turn p t k n m (on u) h =
    ap (λ (o : AvlTree). cond (eqb (above p) 0) (at p u m, o) (shrink_n k (at p u m) o (above p) (hung p))) (pointed_plug p t u n)
    ∙ onward_is shrink_n k p u u n m h refl

-- ---- _post_remove

pub shrink_turn : Turn Lower shrink_n shrunk
unfolding shrunk plug
shrink_turn = record { turn = go }
  where
    go : {N : ℕ} (k : ℕ) (d : Dir) (s : ℕ) {b : Bal} (z : Tree) (p : Way) (t : Tree) (n : ℕ) (m : List ℕ) {i j h : ℕ} → Roomy N m
        → Placed N (step d s b z p) t → Fit d b i j h → Sized z j → Lower i t
        → onward shrink_n (suc k) (step d s b z p) t n m ≡ after shrink_n k p (shrunk (seen d b) d s z t) n m
    go k d s z p t n m r q flat j (less c) =
        shrink_level _ _ s d k (its_bal d s even z p t m r q) (set d s even z p t m r q (heavy (flip d)))
        ∙ stays d s even z p t m r q n (heavy (flip d))
    go k d s z p t n m r q taller j (less c) =
        shrink_near _ _ s d k (its_bal d s (heavy d) z p t m r q) (its_up d s (heavy d) z p t m r q) (set d s (heavy d) z p t m r q even)
        (new_side d s (heavy d) z p t m r q even)
        ∙ rises d s (heavy d) z p t m r q shrink_n k n even
        ∙ simp facing refl
    go k d s z p t n m r q shorter j (less c) =
        let b = heavy (flip d) in
        let e = flip d in
        let o : AvlTree = tree_of (plug p (branch d t s b z)) n in
        let turn = branch_flip d t s b z in
        let w = subst (Placed _ p) turn (placed_up q) in
        let x = ap (λ y. rotate_n y o s e (above p) (hung p)) (same d s b z p t m r q ∙ ap (λ y. at p y m) turn)
        ∙ rotate_at p e s b t m o r (turns e (cut e z j)) w in
        shrink_far _ o s d k (its_bal d s b z p t m r q) (its_up d s b z p t m r q) (its_side d s b z p t m r q) x
        ∙ after_turn p (branch d t s b z) k n m (rotate e z s t) (placed_list p _ _ (sym (rotate_list left e z s t b)) w)
        ∙ simp facing refl
