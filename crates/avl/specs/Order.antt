-- The outside meaning: lists sorted by a strict order on slots, and what a search, an insertion and a removal are on such a list.
-- Assumes nothing.
use Rattle.std.specs.Prelude.{◌≡◌, ℕ, ◌<◌, List, [], ◌∷◌}
use Prim.Native.Nat.{Ordering, compare}
use Rattle.avl.specs.Tree.{Dir, left, right}
use Rattle.avl.specs.Search.{three, toward}

pub data All (P : ℕ → Type 0) : List ℕ → Type 0 where
  nil : All P []
  more : {x : ℕ} {l : List ℕ} → P x → All P l → All P (x ∷ l)

-- each slot comes before every later one
pub data Sorted (less : ℕ → ℕ → Type 0) : List ℕ → Type 0 where
  nil : Sorted less []
  rise : {x : ℕ} {l : List ℕ} → All (less x) l → Sorted less l → Sorted less (x ∷ l)

-- a strict order on slots
pub record Order : Type 1 where
  pub less : ℕ → ℕ → Type 0
  pub trans : (x y z : ℕ) → less x y → less y z → less x z
  pub irrefl : (x : ℕ) → less x x → ⊥

-- x comes before y in a list that begins on side e
abbrev pub From : Dir → (ℕ → ℕ → Type 0) → ℕ → ℕ → Type 0
From left less x y = less x y
From right less x y = less y x

-- a comparison goes by the order: if what is sought lies on side e of x, it lies on side e of whatever comes after x from there
pub record Follows (o : Order) (cmp : ℕ → Ordering) : Type 0 where
  pub on : (e : Dir) (x y : ℕ) → From e o.less x y → cmp x ≡ toward e → cmp y ≡ toward e

-- and meets one slot at most
pub record Exact (o : Order) (cmp : ℕ → Ordering) : Type 0 where
  pub follows : Follows o cmp
  pub once : (e : Dir) (x y : ℕ) → From e o.less x y → cmp x ≡ Ordering.eq → cmp y ≡ toward e

-- the comparison is that of the slot x with the others
pub record Compares (o : Order) (x : ℕ) (cmp : ℕ → Ordering) : Type 0 where
  pub side : (e : Dir) (y : ℕ) → cmp y ≡ toward e → From e o.less x y

-- on sorted lists: x put in, what is sought taken out, the slot that it is (0 for none)
unfoldable pub into : (ℕ → Ordering) → ℕ → List ℕ → List ℕ
into cmp x [] = x ∷ []
into cmp x (y ∷ l) = three (cmp y) (x ∷ y ∷ l) (y ∷ l) (y ∷ into cmp x l)

unfoldable pub out : (ℕ → Ordering) → List ℕ → List ℕ
out cmp [] = []
out cmp (y ∷ l) = three (cmp y) (y ∷ l) l (y ∷ out cmp l)

unfoldable pub sought : (ℕ → Ordering) → List ℕ → ℕ
sought cmp [] = 0
sought cmp (y ∷ l) = three (cmp y) 0 y (sought cmp l)

-- the first of a list, 0 for none
abbrev pub first : List ℕ → ℕ
first [] = 0
first (x ∷ l) = x

-- ---- u64 keys, distinct: the order by key, and the search for a key

abbrev pub LessKey : (ℕ → ℕ) → ℕ → ℕ → Type 0
LessKey key x y = key x < key y

abbrev pub by_key : (ℕ → ℕ) → ℕ → ℕ → Ordering
by_key key k x = compare k (key x)
