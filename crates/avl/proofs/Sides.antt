-- The small laws of sides, on which all others stand: here, and nowhere above, left and right are told apart. Assumes nothing.
use Rattle.std.proofs.Common.{◌≡◌, ℕ, suc, ◌+◌, max, [], ◌∷◌, ◌++◌, sym, refl, ◌∙◌, arith}
use Rattle.avl.specs.Tree.{Dir, left, right, flip, pick, alike, Bal, even, heavy, seen, Tree, leaf, node, branch, top, list, size, height, tilt, Balanced, both}
use Rattle.avl.specs.Way.{Way, step}
use Rattle.avl.specs.Rotate.{on, child_bal, node_bal, double, turn, rotate}
use Rattle.avl.specs.Edit.{edge, end}

-- ---- directions and balances

pub flip_flip : (d : Dir) → flip (flip d) ≡ d
flip_flip left = refl
flip_flip right = refl

-- either the two sides are the same, or one is the other's reverse
pub data Sides (d : Dir) : Dir → Type 0 where
  same : Sides d d
  opposite : Sides d (flip d)

pub sides : (d e : Dir) → Sides d e
sides left left = same
sides left right = opposite
sides right left = opposite
sides right right = same

pub alike_same {ℓ} : {A : Type ℓ} (d : Dir) (a c : A) → alike d d a c ≡ a
alike_same left a c = refl
alike_same right a c = refl

pub alike_opposite {ℓ} : {A : Type ℓ} (d : Dir) (a c : A) → alike d (flip d) a c ≡ c
alike_opposite left a c = refl
alike_opposite right a c = refl

pub alike_reverse {ℓ} : {A : Type ℓ} (d : Dir) (a c : A) → alike (flip d) d a c ≡ c
alike_reverse left a c = refl
alike_reverse right a c = refl

-- a balance, as it is seen from side d
pub data View (d : Dir) : Bal → Type 0 where
  neither : View d even
  this : View d (heavy d)
  other : View d (heavy (flip d))

pub view : (d : Dir) (b : Bal) → View d b
view d even = neither
view left (heavy left) = this
view left (heavy right) = other
view right (heavy left) = other
view right (heavy right) = this

pub tilt_same : (d : Dir) → tilt d (heavy d) ≡ 1
unfolding tilt
tilt_same left = refl
tilt_same right = refl

pub tilt_opposite : (d : Dir) → tilt d (heavy (flip d)) ≡ 0
unfolding tilt
tilt_opposite left = refl
tilt_opposite right = refl

pub tilt_reverse : (d : Dir) → tilt (flip d) (heavy d) ≡ 0
unfolding tilt
tilt_reverse left = refl
tilt_reverse right = refl

pub tilt_even : (d : Dir) → tilt d even ≡ 0
unfolding tilt
tilt_even d = refl

-- balances and tilts, seen from a side
pub ruleset facing = (flip_flip, alike_same, alike_opposite, alike_reverse, tilt_same, tilt_opposite, tilt_reverse, tilt_even)

-- ---- trees by a side

pub node_branch : (d : Dir) (l : Tree) (s : ℕ) (b : Bal) (r : Tree) → node l s b r ≡ branch d (pick d l r) s b (pick d r l)
unfolding branch
node_branch left l s b r = refl
node_branch right l s b r = refl

pub branch_flip : (d : Dir) (a : Tree) (s : ℕ) (b : Bal) (z : Tree) → branch d a s b z ≡ branch (flip d) z s b a
unfolding branch
branch_flip left a s b z = refl
branch_flip right a s b z = refl

-- a tree is empty, or a branch as seen from side d
pub data Parts (d : Dir) : Tree → Type 0 where
  bare : Parts d leaf
  parts : (a : Tree) (s : ℕ) (b : Bal) (z : Tree) → Parts d (branch d a s b z)

pub apart : (d : Dir) (t : Tree) → Parts d t
unfolding branch
apart d leaf = bare
apart left (node l s b r) = parts l s b r
apart right (node l s b r) = parts r s b l

-- induction over trees as branches on side d
pub by_side {ℓ} : (d : Dir) (P : Tree → Type ℓ) → P leaf → ((a : Tree) (s : ℕ) (b : Bal) (z : Tree) → P a → P z → P (branch d a s b z)) → (t : Tree) → P t
unfolding branch
by_side d P o f leaf = o
by_side left P o f (node l s b r) = f l s b r (by_side left P o f l) (by_side left P o f r)
by_side right P o f (node l s b r) = f r s b l (by_side right P o f r) (by_side right P o f l)

pub list_leaf : (e : Dir) → list e leaf ≡ []
unfolding list
list_leaf e = refl

pub list_branch : (e d : Dir) (a : Tree) (s : ℕ) (b : Bal) (z : Tree)
    → list e (branch d a s b z) ≡ alike e d (list e a ++ (s ∷ list e z)) (list e z ++ (s ∷ list e a))
unfolding branch list
list_branch left left a s b z = refl
list_branch left right a s b z = refl
list_branch right left a s b z = refl
list_branch right right a s b z = refl

pub list_near : (d : Dir) (a : Tree) (s : ℕ) (b : Bal) (z : Tree) → list d (branch d a s b z) ≡ list d a ++ (s ∷ list d z)
list_near d a s b z = list_branch d d a s b z ∙ alike_same d _ _

pub list_far : (d : Dir) (a : Tree) (s : ℕ) (b : Bal) (z : Tree) → list (flip d) (branch d a s b z) ≡ list (flip d) z ++ (s ∷ list (flip d) a)
list_far d a s b z = list_branch (flip d) d a s b z ∙ alike_reverse d _ _

pub top_branch : (d : Dir) (a : Tree) (s : ℕ) (b : Bal) (z : Tree) → top (branch d a s b z) ≡ s
unfolding branch
top_branch d a s b z = refl

pub size_branch : (d : Dir) (a : Tree) (s : ℕ) (b : Bal) (z : Tree) → size (branch d a s b z) ≡ suc (size a + size z)
unfolding branch size
size_branch left a s b z = refl
size_branch right a s b z = omega arith

pub height_branch : (d : Dir) (a : Tree) (s : ℕ) (b : Bal) (z : Tree) → height (branch d a s b z) ≡ suc (max (height a) (height z))
unfolding branch height
height_branch left a s b z = refl
height_branch right a s b z = omega arith

-- ---- balance by a side

pub balanced_in : (d : Dir) (a : Tree) (s : ℕ) (b : Bal) (z : Tree) → Balanced a → Balanced z
    → height a + tilt (flip d) b ≡ height z + tilt d b → Balanced (branch d a s b z)
unfolding branch
balanced_in left a s b z x y e = both x y e
balanced_in right a s b z x y e = both y x (sym e)

pub record Halves (d : Dir) (a : Tree) (b : Bal) (z : Tree) : Type 0 where
  pub one : Balanced a
  pub two : Balanced z
  pub fit : height a + tilt (flip d) b ≡ height z + tilt d b

pub balanced_out : (d : Dir) (a : Tree) (s : ℕ) (b : Bal) (z : Tree) → Balanced (branch d a s b z) → Halves d a b z
unfolding branch
balanced_out left a s b z (both x y e) = record { one = x; two = y; fit = e }
balanced_out right a s b z (both x y e) = record { one = y; two = x; fit = sym e }

-- ---- the definitions by a side

pub rotate_branch : (d : Dir) (a : Tree) (c : ℕ) (b : Bal) (w : Tree) (s : ℕ) (z : Tree) → rotate d (branch d a c b w) s z ≡ turn (seen d b) d a c w s z
unfolding branch rotate
rotate_branch left a c b w s z = refl
rotate_branch right a c b w s z = refl

pub double_branch : (d : Dir) (a : Tree) (c : ℕ) (u : Tree) (g : ℕ) (b : Bal) (v : Tree) (s : ℕ) (z : Tree)
    → double d a c (branch d u g b v) s z ≡ on (branch d (branch d a c (child_bal d b) u) g even (branch d v s (node_bal d b) z))
unfolding branch double
double_branch left a c u g b v s z = refl
double_branch right a c u g b v s z = refl

pub edge_branch : (e : Dir) (a : Tree) (s : ℕ) (b : Bal) (z : Tree) (p : Way) → edge e (branch e a s b z) p ≡ edge e a (step e s b z p)
unfolding branch edge
edge_branch left a s b z p = refl
edge_branch right a s b z p = refl

pub end_branch : (e : Dir) (a : Tree) (k : ℕ) (c : Bal) (w : Tree) (s : ℕ) (b : Bal) (z : Tree) (p : Way)
    → end e (branch e a k c w) s b z p ≡ end e a k c w (step e s b z p)
unfolding branch end
end_branch left a k c w s b z p = refl
end_branch right a k c w s b z p = refl
