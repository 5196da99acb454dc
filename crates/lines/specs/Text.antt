-- A model: what the code computes. No door's promise cites it, and it need not be believed.
-- Text written into a list of bytes, and numbers as text. Assumes nothing.
use Rattle.std.specs.Prelude.{cond, List, [], ◌∷◌, ◌++◌, ℕ, ◌+◌, ltb, length}
use Rattle.fields.specs.Part.{splice}
use Rattle.meaning.specs.Listing.{decimal}

-- the list with the text written from `at` on, and the place behind the text
unfoldable pub wrote : List ℕ → ℕ → List ℕ → List ℕ × ℕ
wrote o at text = (splice o at text, at + length text)

-- a number and the byte behind it
unfoldable pub field : ℕ → ℕ → List ℕ
field n end = decimal 20 n ++ (end ∷ [])

-- numbers, each with a space behind it
unfoldable pub fields : List ℕ → List ℕ
fields [] = []
fields (n ∷ ns) = field n 32 ++ fields ns

-- a digit below 16, in lower case
unfoldable pub hex_digit : ℕ → ℕ
hex_digit n = cond (ltb n 10) (48 + n) (87 + n)
