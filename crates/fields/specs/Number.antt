-- Little-endian numbers at places of a list of bytes: one model for every width. Total, as parts are: out of range reads 0 and a store changes
-- nothing. Assumes nothing.
use Rattle.std.specs.Prelude.{List, [], ◌∷◌, ◌≡◌, ℕ, zero, suc, ◌+◌, ◌*◌, ◌/◌, ◌%◌, ◌<◌, ◌^◌, get_or}
use Rattle.fields.specs.Part.{part, splice}

-- the number that bytes stand for, the least significant byte first
unfoldable pub value : List ℕ → ℕ
value [] = 0
value (b ∷ bs) = b + 256 * value bs

-- the bytes that stand for v in `width` bytes; what does not fit is cut off
unfoldable pub digits : ℕ → ℕ → List ℕ
digits zero v = []
digits (suc width) v = v % 256 ∷ digits width (v / 256)

-- the number in the `width` bytes from `at` on
unfoldable pub get_le : ℕ → List ℕ → ℕ → ℕ
get_le width bs at = value (part bs at width)

-- bs with v stored in the `width` bytes from `at` on
unfoldable pub put_le : ℕ → List ℕ → ℕ → ℕ → List ℕ
put_le width bs at v = splice bs at (digits width v)

-- every element is a byte, as it is in a slice of u8
pub record Bytes (bs : List ℕ) : Type 0 where
  pub below : (i : ℕ) → get_or bs i 0 < 256

-- a number r that is the one in `width` bytes there, and fits its width
pub record Loaded (width : ℕ) (bs : List ℕ) (at r : ℕ) : Type 0 where
  pub is : r ≡ get_le width bs at
  pub fits : r < 256 ^ width
