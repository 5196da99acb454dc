-- Trees of slot numbers with the balances that records store, and what is read off them: their slots in order, their height, whether they are
-- balanced. Everything is said over a direction, so that left and right are one case. Assumes nothing.
use Rattle.std.specs.Prelude.{List, [], ◌∷◌, ◌++◌, ◌≡◌, ℕ, suc, ◌+◌, max}

-- ---- directions (Dir)

pub data Dir : Type 0 where
  left right : Dir

-- Dir::reverse
abbrev pub flip : Dir → Dir
flip left = right
flip right = left

-- the one of two things that stands on side d, the left one given first
abbrev pub pick {ℓ} : {A : Type ℓ} → Dir → A → A → A
pick left a c = a
pick right a c = c

-- the first of two things if the two sides are the same, else the second
abbrev pub alike {ℓ} : {A : Type ℓ} → Dir → Dir → A → A → A
alike left e a c = pick e a c
alike right e a c = pick e c a

-- ---- balances

-- the two parts have the same height, or the one on a side is one higher
pub data Bal : Type 0 where
  even : Bal
  heavy : Dir → Bal

-- Dir::to_balance: the number that a record stores if that side is higher
abbrev pub to_balance : Dir → ℕ
to_balance d = pick d 2 1

-- the number that a record stores: 0 even, 1 right higher, 2 left higher
abbrev pub code : Bal → ℕ
code even = 0
code (heavy d) = to_balance d

-- a balance seen from a side: level, that side higher, the other side higher
pub data Lean : Type 0 where
  level near far : Lean

abbrev pub seen : Dir → Bal → Lean
seen d even = level
seen d (heavy e) = alike d e near far

abbrev pub lean {ℓ} : {A : Type ℓ} → Lean → A → A → A → A
lean level a b c = a
lean near a b c = b
lean far a b c = c

-- ---- trees

-- left part, slot, balance, right part
pub data Tree : Type 0 where
  leaf : Tree
  node : Tree → ℕ → Bal → Tree → Tree

-- the node with the part `a` on side d and `z` on the other: the one constructor that the laws use
unfoldable pub branch : Dir → Tree → ℕ → Bal → Tree → Tree
branch d a s b z = node (pick d a z) s b (pick d z a)

-- a link to the tree: the slot at its top, 0 for none
abbrev pub top : Tree → ℕ
top leaf = 0
top (node l s b r) = s

-- a tree of one record
abbrev pub single : ℕ → Tree
single s = node leaf s even leaf

-- the slots in order, beginning on side d: `list left` is the in-order list
unfoldable pub list : Dir → Tree → List ℕ
list d leaf = []
list d (node l s b r) = pick d (list d l) (list d r) ++ (s ∷ pick d (list d r) (list d l))

unfoldable pub size : Tree → ℕ
size leaf = 0
size (node l s b r) = suc (size l + size r)

unfoldable pub height : Tree → ℕ
height leaf = 0
height (node l s b r) = suc (max (height l) (height r))

-- 1 if the part on side d is the higher one, else 0
unfoldable pub tilt : Dir → Bal → ℕ
tilt d b = lean (seen d b) 0 1 0

-- every balance says which part is higher, and by one at most: with the part on the lower side counted one up, both are equal
pub data Balanced : Tree → Type 0 where
  none : Balanced leaf
  both : {l : Tree} {s : ℕ} {b : Bal} {r : Tree} → Balanced l → Balanced r → height l + tilt right b ≡ height r + tilt left b → Balanced (node l s b r)
