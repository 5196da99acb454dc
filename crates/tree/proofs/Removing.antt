-- A removal from records that hold a tree: a record with one part at most. Assumes nothing.
use Rattle.std.proofs.Common.{◌≡◌, ℕ, suc, ◌+◌, ◌*◌, ◌≤◌, cond, eqb, List, sym, refl, ap, ◌∙◌, subst, arith}
use Rattle.avl.specs.Tree.{Dir, left, Bal, code, Tree, leaf, branch, top, height, Balanced}
use Rattle.avl.specs.Way.{Way, plug, above, depth}
use Rattle.avl.specs.Rotate.{climb, shrunk}
use Rattle.avl.proofs.Sides.{height_branch, balanced_out}
use Rattle.avl.proofs.Lists.{shrunk_list}
use Rattle.avl.proofs.Balance.{plug_open, sized, Lower, less, shrunk_steps}
use Rattle.tree.specs.Node.{detach_n}
use Rattle.tree.specs.Rotate.{hang_n}
use Rattle.tree.specs.Remove.{shrink_n, remove1_n}
use Rattle.tree.specs.Held.{write, over, one, times, room, Roomy, tree_of, held}
use Rattle.tree.specs.declared.node.AvlTree.{AvlTree}
use Rattle.tree.proofs.Links.{write_again, over_write, times_branch, length_write}
use Rattle.tree.proofs.Ways.{times_w, around, at, Placed, room_low, here, around_write}
use Rattle.tree.proofs.Places.{at_top, hung, pointed, hang_at}
use Rattle.tree.proofs.Climbing.{pointed_plug, onward_is, climb_at}
use Rattle.tree.proofs.Growing.{shrink_turn}

-- the bytes with a record's links cleared
abbrev pub clear : List ℕ → ℕ → List ℕ
clear m s = write m s left 0 0 0 0

pub roomy_write : {N : ℕ} (m : List ℕ) (s : ℕ) (d : Dir) (a z u b : ℕ) → Roomy N m → Roomy N (write m s d a z u b)
roomy_write {N} m s d a z u b r =
    record { slots_high = r.slots_high; long = subst (λ (n : ℕ). 32 * N ≤ n) (sym (length_write m s d a z u b)) r.long }

-- links of another record lie below a place
pub at_write : (p : Way) (t : Tree) (m : List ℕ) (x : ℕ) (d : Dir) (a z u b : ℕ) → times_w x p ≡ 0 → times x t ≡ 0
    → write (at p t m) x d a z u b ≡ at p t (write m x d a z u b)
unfolding at
at_write p t m x d a z u b h i = around_write p (top t) _ x d a z u b h ∙ ap (around p (top t)) (over_write t (above p) m x d a z u b i)

-- detach clears the links
pub detach_at : (p : Way) (t : Tree) (m : List ℕ) (s : ℕ) (d : Dir) (a z u b : ℕ) → times_w s p ≡ 0 → times s t ≡ 0
    → detach_n (at p t (write m s d a z u b)) s ≡ at p t (clear m s)
unfolding detach_n write
detach_at p t m s d a z u b h i = at_write p t (write m s d a z u b) s left 0 0 0 0 h i ∙ ap (at p t) (write_again m s d a z u b left 0 0 0 0)

-- ---- the part of a record takes its place

module _ {N : ℕ} (p : Way) (d : Dir) (s : ℕ) (b : Bal) (t : Tree) (m : List ℕ) (r : Roomy N m) (h : Placed N p (branch d leaf s b t)) where
  all : (x : ℕ) → one (eqb x s) + times x t + times_w x p ≤ room N x
  unfolding times
  all x = omega (arith, h.once x, times_branch x d leaf s b t)

  pub placed_part : Placed N p t
  placed_part = record { once = λ x. omega (arith, all x) }

  -- what the record leaves behind, below the tree
  abbrev pub left_behind : List ℕ
  left_behind = write m s d 0 (top t) (above p) (code b)

  pub hang_part : (k : AvlTree) → hang_n (at p (branch d leaf s b t) m) k (top t) (above p) (hung p) ≡ (at p t left_behind, pointed p k (top t))
  unfolding over
  hang_part k =
      ap (λ n. hang_n n k (top t) (above p) (hung p))
      (at_top p d leaf s b t m r h
      ∙ ap (around p s) (over_write t s m s d 0 (top t) (above p) (code b) (omega (arith, all s, here s, room_low N s))))
      ∙ hang_at p s t s left_behind k placed_part

-- ---- _remove

-- the turn of the code: the part hung, the record detached, and the climb if there is a record above
remove1_turn : (k : ℕ) (n : List ℕ) (o : AvlTree) (x q : ℕ) (e : Dir) (w : ℕ) {n₁ n₂ : List ℕ} {o₁ : AvlTree} → hang_n n o w q e ≡ (n₁, o₁)
    → detach_n n₁ x ≡ n₂ → remove1_n k n o x q e w ≡ cond (eqb q 0) (n₂, o₁) (shrink_n k n₂ o₁ q e)
unfolding remove1_n
remove1_turn k n o x q e w h i = simp (h, i) refl

-- a tree without its top, whose one part is t, is one lower
pub lower_part : (d : Dir) (s : ℕ) (b : Bal) (t : Tree) → Balanced (branch d leaf s b t) → Lower (height (branch d leaf s b t)) t
unfolding height
lower_part d s b t i =
    let e : height (branch d leaf s b t) ≡ suc (height t) = omega (arith, height_branch d leaf s b t) in
    rw e (less (sized (balanced_out d leaf s b t i).two refl))

-- _remove of a record that has at most the part t, on the side other than d: the links of the tree without it, and its own cleared.
pub remove1_at : {N : ℕ} (k : ℕ) (p : Way) (d : Dir) (s : ℕ) (b : Bal) (t : Tree) (n : ℕ) (m : List ℕ) → depth p ≤ k → Roomy N m
    → Placed N p (branch d leaf s b t) → Balanced (plug p (branch d leaf s b t))
    → remove1_n k (at p (branch d leaf s b t) m) (tree_of (plug p (branch d leaf s b t)) n) s (above p) (hung p) (top t) ≡ held (climb shrunk p t) n (clear m s)
remove1_at {N} k p d s b t n m fuel r h i =
    let o = plug_open p (branch d leaf s b t) i in
    let q = placed_part p d s b t m r h in
    let s_p : times_w s p ≡ 0 = omega (arith, all p d s b t m r h s, here s, room_low N s) in
    let s_t : times s t ≡ 0 = omega (arith, all p d s b t m r h s, here s, room_low N s) in
    remove1_turn k _ _ s (above p) (hung p) (top t) (hang_part p d s b t m r h _) (detach_at p t m s d 0 (top t) (above p) (code b) s_p s_t)
    ∙ ap (λ (x : AvlTree). cond (eqb (above p) 0) (at p t (clear m s), x) (shrink_n k (at p t (clear m s)) x (above p) (hung p)))
    (pointed_plug p (branch d leaf s b t) t n)
    ∙ onward_is shrink_n k p t t n (clear m s) q refl
    ∙ climb_at shrink_turn shrunk_steps shrunk_list k p (branch d leaf s b t) t n (clear m s) fuel (roomy_write m s left 0 0 0 0 r) q o.1 (lower_part d s b t o.0)
