-- Parts of a list of bytes, as the functions of this crate read and write them. Total: a part that does not lie wholly within the list reads as
-- empty, and a store there changes nothing. Assumes nothing.
use Rattle.std.specs.Prelude.{Bool, true, cond, ◌&&◌, List, [], ◌∷◌, ◌++◌, ℕ, ◌+◌, leb, eqb, length, take, drop}

-- the `count` bytes from `at` on
unfoldable pub part : List ℕ → ℕ → ℕ → List ℕ
part bs at count = cond (leb (at + count) (length bs)) (take count (drop at bs)) []

-- bs with as many bytes from `at` on as `new` has replaced by `new`
unfoldable pub splice : List ℕ → ℕ → List ℕ → List ℕ
splice bs at new = cond (leb (at + length new) (length bs)) (take at bs ++ (new ++ drop (at + length new) bs)) bs

-- no byte is other than 0
unfoldable pub zeros : List ℕ → Bool
zeros [] = true
zeros (b ∷ bs) = eqb b 0 && zeros bs
