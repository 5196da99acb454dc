-- A place in a tree that records hold: the links of the way above it, and of the tree there. Assumes nothing.
use Rattle.std.proofs.Common.{◌≡◌, ℕ, ◌+◌, ◌≤◌, Bool, true, false, ◌&&◌, eqb, leb, List, length, sym, refl, ap, ◌∙◌, subst, arith, eq-eqb, leb-true}
use Rattle.std.proofs.Math.Bool.{and-eq-true_iff}
use Rattle.avl.specs.Tree.{Dir, flip, Bal, code, Tree, branch, top}
use Rattle.avl.specs.Way.{Way, root, step, plug, above}
use Rattle.avl.proofs.Sides.{branch_flip}
use Rattle.tree.specs.Node.{Field, get_n, put_n, key_n}
use Rattle.tree.specs.Held.{write, over, one, times, room}
use Rattle.tree.proofs.Links.{write_past, write_through, over_past, over_swap, over_branch, times_branch, length_write, length_over, key_write, key_over}
use Rattle.tree.proofs.Reading.{read_past, read_over}

-- how often a way has the slot x
unfoldable pub times_w : ℕ → Way → ℕ
times_w x root = 0
times_w x (step d s b z p) = one (eqb x s) + times x z + times_w x p

-- the links of a way, at whose place the record y stands
unfoldable pub around : Way → ℕ → List ℕ → List ℕ
around root y m = m
around (step d s b z p) y m = around p s (write (over z s m) s d y (top z) (above p) (code b))

-- the links of a way and of the tree at its place
unfoldable pub at : Way → Tree → List ℕ → List ℕ
at p t m = around p (top t) (over t (above p) m)

-- a tree at a place: slots from 1 to N, each once
pub record Placed (N : ℕ) (p : Way) (t : Tree) : Type 0 where
  pub once : (x : ℕ) → times x t + times_w x p ≤ room N x

-- ---- counts

pub room_low : (N x : ℕ) → room N x ≤ 1
unfolding room
room_low N x = one_low (leb 1 x && leb x N)
  where
    one_low : (b : Bool) → one b ≤ 1
    one_low true = omega arith
    one_low false = omega arith

pub room_in : (N x : ℕ) → 1 ≤ room N x → (1 ≤ x) × (x ≤ N)
unfolding room
room_in N x h = let k = (and-eq-true_iff (leb 1 x) (leb x N)).0 (one_is (leb 1 x && leb x N) h) in (leb-true 1 x k.0, leb-true x N k.1)
  where
    one_is : (b : Bool) → 1 ≤ one b → b ≡ true
    one_is true h = refl
    one_is false h = absurd (omega arith)

pub here : (x : ℕ) → one (eqb x x) ≡ 1
here x = ap one (eq-eqb x x refl)

pub apart : (x s : ℕ) → one (eqb x s) ≡ 0 → s ≡ x → ⊥
apart x s h e = omega (arith, h, ap one (eq-eqb x s (sym e)))

-- a tree at the place above is a part of it at the place, on either side
pub placed_up : {N : ℕ} {d : Dir} {s : ℕ} {b : Bal} {z : Tree} {p : Way} {t : Tree} → Placed N (step d s b z p) t → Placed N p (branch d t s b z)
unfolding times_w
placed_up {d = d} {s} {b} {z} {p} {t} h = record { once = λ x. omega (arith, h.once x, times_branch x d t s b z) }

module _ {N : ℕ} (d : Dir) (s : ℕ) (b : Bal) (z : Tree) (p : Way) (t : Tree) (h : Placed N p (branch d t s b z)) where
  pub placed_near : Placed N (step d s b z p) t
  unfolding times_w
  placed_near = record { once = λ x. omega (arith, h.once x, times_branch x d t s b z) }

  pub placed_far : Placed N (step (flip d) s b t p) z
  unfolding times_w
  placed_far = record { once = λ x. omega (arith, h.once x, times_branch x d t s b z) }

-- ---- stores and reads go past a way

pub around_past : (p : Way) (y : ℕ) (m : List ℕ) (x : ℕ) (f : Field) (v : ℕ) → times_w x p ≡ 0 → put_n (around p y m) x f v ≡ around p y (put_n m x f v)
unfolding around times_w
around_past root y m x f v h = refl
around_past (step d s b z p) y m x f v h =
    around_past p s _ x f v (omega (arith, h))
    ∙ ap (around p s)
    (write_past _ s d y (top z) (above p) (code b) x f v (apart x s (omega (arith, h)))
    ∙ ap (λ k. write k s d y (top z) (above p) (code b)) (over_past z s m x f v (omega (arith, h))))

pub around_write : (p : Way) (y : ℕ) (m : List ℕ) (x : ℕ) (d : Dir) (a z u b : ℕ) → times_w x p ≡ 0
    → write (around p y m) x d a z u b ≡ around p y (write m x d a z u b)
around_write p y m x d a z u b h = write_through (around p y) m x d a z u b (λ k f v. around_past p y k x f v h)

pub around_read : (p : Way) (y : ℕ) (m : List ℕ) (x : ℕ) (f : Field) → times_w x p ≡ 0 → get_n (around p y m) x f ≡ get_n m x f
unfolding around times_w
around_read root y m x f h = refl
around_read (step d s b z p) y m x f h =
    around_read p s _ x f (omega (arith, h))
    ∙ read_past _ s d y (top z) (above p) (code b) x f (apart x s (omega (arith, h)))
    ∙ read_over z s m x f (omega (arith, h))

pub length_around : (p : Way) (y : ℕ) (m : List ℕ) → length (around p y m) ≡ length m
unfolding around
length_around root y m = refl
length_around (step d s b z p) y m = length_around p s _ ∙ length_write _ s d y (top z) (above p) (code b) ∙ length_over z s m

pub key_around : (p : Way) (y : ℕ) (m : List ℕ) (x : ℕ) → key_n (around p y m) x ≡ key_n m x
unfolding around
key_around root y m x = refl
key_around (step d s b z p) y m x = key_around p s _ x ∙ key_write _ s d y (top z) (above p) (code b) x ∙ key_over z s m x

-- ---- a place and the tree around it

top_branch : (d : Dir) (t : Tree) (s : ℕ) (b : Bal) (z : Tree) → top (branch d t s b z) ≡ s
unfolding branch
top_branch d t s b z = refl

-- a part of the tree at a place is a place itself
pub at_up : {N : ℕ} (d : Dir) (s : ℕ) (b : Bal) (z : Tree) (p : Way) (t : Tree) (m : List ℕ) → Placed N p (branch d t s b z)
    → at (step d s b z p) t m ≡ at p (branch d t s b z) m
unfolding at around
at_up {N} d s b z p t m h =
    let once : (x : ℕ) → times x t + times x z ≤ 1 = λ x. omega (arith, h.once x, times_branch x d t s b z, room_low N x) in
    ap (λ k. around p s (write k s d (top t) (top z) (above p) (code b))) (over_swap z t s s m (λ x. omega (arith, once x)))
    ∙ sym (ap (around p s) (over_branch d t s b z (above p) m once))
    ∙ ap (λ y. around p y (over (branch d t s b z) (above p) m)) (sym (top_branch d t s b z))

-- and so is the part on the other side
pub at_far : {N : ℕ} (d : Dir) (s : ℕ) (b : Bal) (a : Tree) (p : Way) (z : Tree) (m : List ℕ) → Placed N p (branch d a s b z)
    → at (step (flip d) s b a p) z m ≡ at p (branch d a s b z) m
at_far d s b a p z m h =
    at_up (flip d) s b a p z m (subst (Placed _ p) (branch_flip d a s b z) h) ∙ ap (λ t. at p t m) (sym (branch_flip d a s b z))

-- a tree is held as any of its places is
pub at_plug : {N : ℕ} (p : Way) (t : Tree) (m : List ℕ) → Placed N p t → at p t m ≡ over (plug p t) 0 m
unfolding at around plug
at_plug root t m h = refl
at_plug (step d s b z p) t m h = at_up d s b z p t m (placed_up h) ∙ at_plug p (branch d t s b z) m (placed_up h)
