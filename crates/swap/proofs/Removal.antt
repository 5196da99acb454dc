-- `_remove` in all its cases, in the Rust's way and in the code's, on records that hold a tree; and where in a tree a record stands. Assumes nothing.
use Rattle.std.proofs.Common.{◌≡◌, ℕ, ◌≤◌, eqb, List, sym, refl, ap, ◌∙◌, subst, arith, eqb-true}
use Rattle.std.proofs.lemmas.Bool.{eqb-false}
use Rattle.avl.specs.Tree.{Dir, left, right, Bal, Tree, leaf, node, branch, height, Balanced}
use Rattle.avl.specs.Way.{Way, step, plug, above}
use Rattle.avl.specs.Edit.{remove}
use Rattle.tree.specs.Node.{child, parent, get_n, side_n, detach_n}
use Rattle.tree.specs.Rotate.{hang_n}
use Rattle.tree.specs.Remove.{shrink_n, remove1_n, remove2_n, unlink_n, less_n, remove_n}
use Rattle.tree.specs.Held.{over, one, times, Roomy, Fits, tree_of, held}
use Rattle.tree.specs.declared.node.AvlTree.{AvlTree}
use Rattle.tree.proofs.Ways.{at, at_plug}
use Rattle.tree.proofs.Places.{top_near, top_far, top_up}
use Rattle.tree.proofs.Removal.{remove_at}
use Rattle.tree.proofs.Removing.{clear}
use Rattle.tree.proofs.Trees.{place_in}
use Rattle.swap.specs.Rust.{fewer, leave_n, rust_remove2, rust_remove}
use Rattle.swap.proofs.Counting.{lessened, shrink_less, cond_less}
use Rattle.swap.proofs.Stores.{either}
use Rattle.swap.proofs.Neighbour.{swap2_same}

-- ---- _remove, in all its cases

-- a record with one child at most, on any bytes
one_same : (k : ℕ) (m : List ℕ) (t : AvlTree) (x p : ℕ) (e : Dir) (w : ℕ) → let o = hang_n m t w p e in
    leave_n k o.0 o.1 x p e ≡ lessened (remove1_n k m t x p e w)
unfolding leave_n remove1_n
one_same k m t x p e w =
    let o = hang_n m t w p e in
    let n = detach_n o.0 x in
    cond_less (eqb p 0) (n, o.1) (shrink_n k n o.1 p e) (n, fewer o.1) (shrink_n k n (fewer o.1) p e) refl (shrink_less k n o.1 p e)

remove_turn : (k : ℕ) (m : List ℕ) (t : AvlTree) (x : ℕ) → let l = get_n m x (child left) in let r = get_n m x (child right) in let p = get_n m x parent in
    let e = side_n m p x in
    ((l ≡ 0 → ⊥) → (r ≡ 0 → ⊥) → rust_remove2 k m t x p e ≡ lessened (remove2_n k m t x p e)) → rust_remove k m t x ≡ lessened (unlink_n k m t x)
unfolding rust_remove unlink_n
remove_turn k m t x both =
    let l = get_n m x (child left) in
    let r = get_n m x (child right) in
    let p = get_n m x parent in
    let e = side_n m p x in
    either (eqb l 0)
    (λ v. either (eqb r 0)
    (λ u. simp (v, u) (one_same k m t x p e l ∙ ap (λ (y : ℕ). lessened (remove1_n k m t x p e y)) (eqb-true l 0 v ∙ sym (eqb-true r 0 u))))
    (λ u. simp (v, u) (one_same k m t x p e r)))
    (λ v. either (eqb r 0)
    (λ u. simp (v, u) (one_same k m t x p e l))
    (λ u. simp (v, u) (both (eqb-false l 0 v) (eqb-false r 0 u))))

remove_less : (k : ℕ) (m : List ℕ) (t : AvlTree) (x : ℕ) → remove_n k m t x ≡ lessened (unlink_n k m t x)
unfolding remove_n fewer
remove_less k m t x = refl

-- The Rust's `_remove` and the code's leave the same bytes and the same tree by value, on all records that hold a tree, whatever the balances are.
swap_same : {N : ℕ} (k : ℕ) (l : Tree) (s : ℕ) (b : Bal) (r : Tree) (p : Way) (m : List ℕ) → let t = plug p (node l s b r) in
    Roomy N m → Fits N t → height t ≤ k → (o : AvlTree) → rust_remove k (over t 0 m) o s ≡ remove_n k (over t 0 m) o s
unfolding branch
swap_same {N} k l s b r p m roomy f fuel o =
    let h = place_in p (node l s b r) f in
    let v = at_plug p (node l s b r) m h in
    subst (λ (y : List ℕ). rust_remove k y o s ≡ remove_n k y o s) v
    (remove_turn k (at p (node l s b r) m) o s
    (λ x y. subst (λ (u : ℕ). let e = side_n (at p (node l s b r) m) u s in rust_remove2 k (at p (node l s b r) m) o s u e ≡ lessened (remove2_n k (at p (node l s b r) m) o s u e))
    (sym (top_up p left l s b r m roomy h))
    (swap2_same k l s b r p m (λ u. x (top_near p left l s b r m roomy h ∙ u)) (λ u. y (top_far p left l s b r m roomy h ∙ u)) fuel roomy h o (side_n (at p (node l s b r) m) (above p) s)))
    ∙ sym (remove_less k (at p (node l s b r) m) o s))

-- So the Rust's way gives the links of the tree without the record, with its own cleared, whatever limit from the height on its loops have.
pub swap_held : {N : ℕ} (k : ℕ) (l : Tree) (s : ℕ) (b : Bal) (r : Tree) (p : Way) (n : ℕ) (m : List ℕ) → let t = plug p (node l s b r) in
    Roomy N m → Fits N t → Balanced t → height t ≤ k → rust_remove k (over t 0 m) (tree_of t n) s ≡ held (remove l b r p) (less_n n) (clear m s)
swap_held k l s b r p n m roomy f i fuel =
    let t = plug p (node l s b r) in
    let h = place_in p (node l s b r) f in
    swap_same k l s b r p m roomy f fuel (tree_of t n)
    ∙ ap (λ (y : List ℕ). remove_n k y (tree_of t n) s) (sym (at_plug p (node l s b r) m h))
    ∙ remove_at k l s b r p n m fuel roomy h i

-- ---- any record of a tree

-- where a record stands in a tree
pub data Spot (x : ℕ) : Tree → Type 0 where
  stands_at : (p : Way) (l : Tree) (b : Bal) (r : Tree) → Spot x (plug p (node l x b r))

pub spot : (x : ℕ) (t : Tree) (p : Way) → 1 ≤ times x t → Spot x (plug p t)
unfolding times plug branch
spot x leaf p h = absurd (omega (arith, h))
spot x (node l s b r) p h =
    either (eqb x s) (λ e. subst (λ (y : ℕ). Spot x (plug p (node l y b r))) (eqb-true x s e) (stands_at p l b r))
    (λ e. either (eqb (times x l) 0)
    (λ v. spot x r (step right s b l p) (omega (arith, h, ap one e, eqb-true (times x l) 0 v)))
    (λ v. let o = eqb-false (times x l) 0 v in spot x l (step left s b r p) (omega arith)))
