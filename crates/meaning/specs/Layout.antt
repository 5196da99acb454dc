-- Rows of fields and lists counted from 1: the words in which the pool's layout is written; and an answer's bytes. Assumes nothing.
use Rattle.std.specs.Prelude.{Bool, true, false, ◌&&◌, cond, List, [], ◌∷◌, ◌++◌, ℕ, zero, suc, ◌+◌, leb, eqb, take, drop, get_or, set}
use Rattle.fields.specs.Number.{digits}
use Rattle.avl.specs.Order.{first}

-- a row of fields, each with its width and its number, as bytes
unfoldable pub pack : List (ℕ × ℕ) → List ℕ
pack [] = []
pack (f ∷ fs) = digits f.0 f.1 ++ pack fs

-- an answer's bytes: code, cursor kind, and the slot, stamp, key, name start and length of what is shown; or zeros
abbrev pub answer_showing : ℕ → ℕ → ℕ → ℕ → ℕ → ℕ → ℕ → List ℕ
answer_showing code k x stamp key start len =
    pack ((1, code) ∷ (1, k) ∷ (2, x) ∷ (4, stamp) ∷ (8, key) ∷ (4, start) ∷ (2, len) ∷ (2, 0) ∷ [])

abbrev pub answer_bare : ℕ → ℕ → List ℕ
answer_bare code k = pack ((1, code) ∷ (1, k) ∷ (22, 0) ∷ [])

-- bytes cut into n rows of `width` each
unfoldable pub rows : ℕ → ℕ → List ℕ → List (List ℕ)
rows zero width bs = []
rows (suc n) width bs = take width bs ∷ rows n width (drop width bs)

-- ---- tests

abbrev pub bit : Bool → ℕ
bit true = 1
bit false = 0

-- n lies from lo to hi
unfoldable pub within : ℕ → ℕ → ℕ → Bool
within lo hi n = leb lo n && leb n hi

-- every clause of a list holds
unfoldable pub all : List Bool → Bool
all [] = true
all (c ∷ cs) = c && all cs

module _ {A : Type 0} where
  unfoldable pub every : (A → Bool) → List A → Bool
  every f [] = true
  every f (x ∷ xs) = f x && every f xs

  -- how many pass a test
  unfoldable pub count : (A → Bool) → List A → ℕ
  count f [] = 0
  count f (x ∷ xs) = bit (f x) + count f xs

  unfoldable pub concat : List (List A) → List A
  concat [] = []
  concat (x ∷ xs) = x ++ concat xs

  -- the element at place i, counted from 1, or d; the list with a there
  unfoldable pub at : A → List A → ℕ → A
  at d xs zero = d
  at d xs (suc i) = get_or xs i d

  unfoldable pub put : List A → ℕ → A → List A
  put xs zero a = xs
  put xs (suc i) a = set xs i a

-- i, i + 1, .. : n numbers
unfoldable pub span : ℕ → ℕ → List ℕ
span i zero = []
span i (suc n) = i ∷ span (suc i) n

-- what follows x in a list of slots, 0 for none
unfoldable pub following : ℕ → List ℕ → ℕ
following x [] = 0
following x (y ∷ ys) = let rest = following x ys in cond (eqb x y) (first ys) rest

-- to unfold this is to unfold all of this file: for claims that compute
unfoldable pub opened : Unit {0}
unfolding pack rows within all every count concat at put span following
opened = tt
