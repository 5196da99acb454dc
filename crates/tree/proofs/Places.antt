-- The record at the top of a place: what is read of it and stored in it, and the field that points at it. Assumes nothing.
use Rattle.std.proofs.Common.{◌≡◌, ℕ, ◌+◌, ◌*◌, ◌<◌, ◌≤◌, eqb, List, sym, refl, ap, ◌∙◌, subst, arith, eq-eqb, ne_eqb}
use Rattle.avl.specs.Tree.{Dir, left, right, flip, Bal, code, Tree, leaf, node, branch, top}
use Rattle.avl.specs.Way.{Way, root, step, above}
use Rattle.tree.specs.Node.{Field, child, parent, balance, get_n, put_n, side_of, side_n}
use Rattle.tree.specs.Rotate.{rooted, point_n, hang_n}
use Rattle.tree.specs.Held.{write, over, one, times, room, Roomy}
use Rattle.tree.specs.declared.node.AvlTree.{AvlTree}
use Rattle.tree.proofs.Links.{write_bal, write_near, over_up, over_branch, times_branch, length_over}
use Rattle.tree.proofs.Reading.{Within, read_bal, read_up, read_near, read_far, code_small}
use Rattle.tree.proofs.Ways.{times_w, around, at, Placed, room_low, room_in, here, placed_up, placed_near, placed_far, around_past, around_read, at_up}

-- ---- the slots of a place

-- a record that stands somewhere leaves no room elsewhere
pub top_full : (N : ℕ) (t : Tree) → room N (top t) ≤ times (top t) t
unfolding times room
top_full N leaf = omega arith
top_full N (node l s b r) = omega (arith, room_low N s, here s)

-- a link to a tree is a slot number of the pool
pub top_high : {N : ℕ} (p : Way) (t : Tree) → Placed N p t → top t ≤ N
unfolding times
top_high p leaf h = omega arith
top_high {N} p (node l s b r) h = (room_in N s (omega (arith, h.once s, here s))).1

pub above_high : {N : ℕ} (p : Way) (t : Tree) → Placed N p t → above p ≤ N
unfolding times_w
above_high root t h = omega arith
above_high {N} (step d s b z p) t h = (room_in N s (omega (arith, h.once s, here s))).1

-- ---- the record at the top

module _ {N : ℕ} (p : Way) (d : Dir) (a : Tree) (s : ℕ) (b : Bal) (z : Tree) (m : List ℕ) (roomy : Roomy N m) (h : Placed N p (branch d a s b z)) where
  -- it stands nowhere else
  alone : (times s a ≡ 0) × (times s z ≡ 0) × (times_w s p ≡ 0) × (1 ≤ s) × (s ≤ N)
  alone =
      let o : times s a + one (eqb s s) + times s z + times_w s p ≤ room N s = omega (arith, h.once s, times_branch s d a s b z) in
      let i = room_in N s (omega (arith, o, here s)) in
      (omega (arith, o, here s, room_low N s), omega (arith, o, here s, room_low N s), omega (arith, o, here s, room_low N s), i.0, i.1)

  -- its links as they are written
  pub at_top : at p (branch d a s b z) m ≡ around p s (write (over a s (over z s m)) s d (top a) (top z) (above p) (code b))
  unfolding at branch
  at_top = ap (around p s) (over_branch d a s b z (above p) m (λ x. omega (arith, h.once x, times_branch x d a s b z, room_low N x)))

  inside : Within (over a s (over z s m)) s
  inside =
      record {
        low = alone.3;
        high = subst (λ (n : ℕ). 32 * s ≤ n) (sym (length_over a s _ ∙ length_over z s m)) (omega (arith, alone.4, roomy.long));
      }

  reads : (f : Field) {v : ℕ} → get_n (write (over a s (over z s m)) s d (top a) (top z) (above p) (code b)) s f ≡ v → get_n (at p (branch d a s b z) m) s f ≡ v
  reads f e = ap (λ n. get_n n s f) at_top ∙ around_read p s _ s f alone.2 ∙ e

  near_small : top a < 65_536
  near_small = omega (arith, top_high (step d s b z p) a (placed_near d s b z p a h), roomy.slots_high)

  far_small : top z < 65_536
  far_small = omega (arith, top_high (step (flip d) s b a p) z (placed_far d s b z p a h), roomy.slots_high)

  pub top_near : get_n (at p (branch d a s b z) m) s (child d) ≡ top a
  top_near = reads (child d) (read_near _ s d (top a) (top z) (above p) (code b) inside near_small)

  pub top_far : get_n (at p (branch d a s b z) m) s (child (flip d)) ≡ top z
  top_far = reads (child (flip d)) (read_far _ s d (top a) (top z) (above p) (code b) inside far_small)

  pub top_up : get_n (at p (branch d a s b z) m) s parent ≡ above p
  top_up = reads parent (read_up _ s d (top a) (top z) (above p) (code b) inside (omega (arith, above_high p (branch d a s b z) h, roomy.slots_high)))

  pub top_bal : get_n (at p (branch d a s b z) m) s balance ≡ code b
  top_bal = reads balance (read_bal _ s d (top a) (top z) (above p) (code b) inside (code_small b))

-- another balance in it leaves the place as it is
pub placed_bal : {N : ℕ} (p : Way) (d : Dir) (a : Tree) (s : ℕ) (b c : Bal) (z : Tree) → Placed N p (branch d a s b z) → Placed N p (branch d a s c z)
placed_bal p d a s b c z h = record { once = λ x. omega (arith, h.once x, times_branch x d a s b z, times_branch x d a s c z) }

pub set_bal : {N : ℕ} (p : Way) (d : Dir) (a : Tree) (s : ℕ) (b c : Bal) (z : Tree) (m : List ℕ) → Roomy N m → Placed N p (branch d a s b z)
    → put_n (at p (branch d a s b z) m) s balance (code c) ≡ at p (branch d a s c z) m
set_bal p d a s b c z m r h =
    ap (λ n. put_n n s balance (code c)) (at_top p d a s b z m r h)
    ∙ around_past p s _ s balance (code c) (alone p d a s b z m r h).2
    ∙ ap (around p s) (write_bal _ s d (top a) (top z) (above p) (code b) (code c))
    ∙ sym (at_top p d a s c z m r (placed_bal p d a s b c z h))

-- ---- the side of a place, and the field that points at it

-- left at the root, as parent_direction has it
abbrev pub hung : Way → Dir
hung root = left
hung (step d s b z p) = d

-- different records stand at the tops of two parts
tops_apart : {N : ℕ} (p : Way) (d : Dir) (a : Tree) (s : ℕ) (b : Bal) (z : Tree) → Placed N p (branch d a s b z) → (top a ≡ 0 → ⊥) → top a ≡ top z → ⊥
unfolding times
tops_apart p d leaf s b z h n e = n refl
tops_apart {N} p d (node l x c r) s b z h n e =
    let o = times_branch x d (node l x c r) s b z in
    let k : room N x ≤ times x z = subst (λ (y : ℕ). room N y ≤ times y z) (sym e) (top_full N z) in
    omega (arith, h.once x, o, k, here x)

-- the record above a place is one of the pool's, and stands there only
pub above_alone : {N : ℕ} (d : Dir) (s : ℕ) (b : Bal) (z : Tree) (p : Way) (t : Tree) → Placed N (step d s b z p) t
    → (s ≡ 0 → ⊥) × (times_w s p ≡ 0) × (times s z ≡ 0)
unfolding times_w
above_alone {N} d s b z p t h =
    let i = room_in N s (omega (arith, h.once s, here s)) in
    (λ e. omega (arith, e, i.0), omega (arith, h.once s, here s, room_low N s), omega (arith, h.once s, here s, room_low N s))

-- the side is worked out from the record above
pub side_at : {N : ℕ} (p : Way) (t : Tree) (m : List ℕ) → Roomy N m → Placed N p t → (top t ≡ 0 → ⊥) → side_n (at p t m) (above p) (top t) ≡ hung p
unfolding side_n side_of
side_at root t m r h n = refl
side_at (step right s b z p) t m r h n =
    let q = placed_up h in
    let e : get_n (at (step right s b z p) t m) s (child right) ≡ top t =
    ap (λ k. get_n k s (child right)) (at_up right s b z p t m q) ∙ top_near p right t s b z m r q in
    simp (ne_eqb s 0 (above_alone right s b z p t h).0, e, eq-eqb (top t) (top t) refl) refl
side_at (step left s b z p) t m r h n =
    let q = placed_up h in
    let e : get_n (at (step left s b z p) t m) s (child right) ≡ top z =
    ap (λ k. get_n k s (child right)) (at_up left s b z p t m q) ∙ top_far p left t s b z m r q in
    simp (ne_eqb s 0 (above_alone left s b z p t h).0, e, ne_eqb (top t) (top z) (tops_apart p left t s b z q n)) refl

pub side_top : {N : ℕ} (p : Way) (d : Dir) (a : Tree) (s : ℕ) (b : Bal) (z : Tree) (m : List ℕ) → Roomy N m → Placed N p (branch d a s b z)
    → side_n (at p (branch d a s b z) m) (above p) s ≡ hung p
unfolding branch
side_top p d a s b z m r h = side_at p (branch d a s b z) m r h (λ e. omega (arith, e, (alone p d a s b z m r h).3))

-- the tree by value, whose root y is if it stands at the root
abbrev pub pointed : Way → AvlTree → ℕ → AvlTree
pointed root t y = rooted t y
pointed (step d s b z p) t y = t

-- the record above points at another record
pub child_at : {N : ℕ} (d : Dir) (s : ℕ) (b : Bal) (z : Tree) (p : Way) (t : Tree) (x y : ℕ) (m : List ℕ) → Placed N (step d s b z p) t
    → put_n (around (step d s b z p) x m) s (child d) y ≡ around (step d s b z p) y m
unfolding around
child_at d s b z p t x y m h =
    around_past p s _ s (child d) y (above_alone d s b z p t h).1 ∙ ap (around p s) (write_near _ s d x (top z) (above p) (code b) y)

pub point_at : {N : ℕ} (p : Way) (t : Tree) (x y : ℕ) (m : List ℕ) (k : AvlTree) → Placed N p t
    → point_n (around p x m) k y (above p) (hung p) ≡ (around p y m, pointed p k y)
unfolding point_n around
point_at root t x y m k h = refl
point_at (step d s b z p) t x y m k h = simp (ne_eqb s 0 (above_alone d s b z p t h).0) (ap (λ n. (n, k)) (child_at d s b z p t x y m h))

-- a tree put at a place, whatever stood there
pub hang_at : {N : ℕ} (p : Way) (x : ℕ) (t : Tree) (u : ℕ) (m : List ℕ) (k : AvlTree) → Placed N p t
    → hang_n (around p x (over t u m)) k (top t) (above p) (hung p) ≡ (at p t m, pointed p k (top t))
unfolding hang_n at
hang_at {N} p x t u m k h =
    let free : times_w (top t) p ≡ 0 = omega (arith, h.once (top t), top_full N t) in
    let e : put_n (around p x (over t u m)) (top t) parent (above p) ≡ around p x (over t (above p) m) =
    around_past p x _ (top t) parent (above p) free ∙ ap (around p x) (over_up t u (above p) m) in
    ap (λ n. point_n n k (top t) (above p) (hung p)) e ∙ point_at p t x (top t) _ k h
