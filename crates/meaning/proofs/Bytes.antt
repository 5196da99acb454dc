-- What is made of bytes is bytes: lists in a row, zeros, digits, packed fields. Assumes nothing.
use Rattle.std.proofs.Common.{ℕ, zero, suc, ◌/◌, ◌<◌, List, [], ◌∷◌, ◌++◌, get_or, replicate, arith}
use Rattle.fields.specs.Number.{digits, Bytes}
use Rattle.meaning.specs.Layout.{pack}

pub bytes_none : Bytes []
bytes_none = record { below = λ i. omega arith }

pub bytes_more : (b : ℕ) (bs : List ℕ) → b < 256 → Bytes bs → Bytes (b ∷ bs)
bytes_more b bs h a = record { below = go }
  where
    go : (i : ℕ) → get_or (b ∷ bs) i 0 < 256
    go zero = h
    go (suc i) = a.below i

-- Bytes and bytes after them are bytes.
pub bytes_append : (a b : List ℕ) → Bytes a → Bytes b → Bytes (a ++ b)
bytes_append [] b h k = k
bytes_append (x ∷ a) b h k = bytes_more x (a ++ b) (h.below 0) (bytes_append a b (record { below = λ i. h.below (suc i) }) k)

-- Zeros are bytes.
pub bytes_zeros : (n : ℕ) → Bytes (replicate n 0)
bytes_zeros zero = bytes_none
bytes_zeros (suc n) = bytes_more 0 (replicate n 0) (omega arith) (bytes_zeros n)

-- The digits of a number are bytes.
pub bytes_digits : (w n : ℕ) → Bytes (digits w n)
unfolding digits
bytes_digits zero n = bytes_none
bytes_digits (suc w) n = bytes_more _ (digits w (n / 256)) (omega arith) (bytes_digits w (n / 256))

-- Packed fields are bytes.
pub bytes_pack : (fs : List (ℕ × ℕ)) → Bytes (pack fs)
unfolding pack
bytes_pack [] = bytes_none
bytes_pack (f ∷ fs) = bytes_append (digits f.0 f.1) (pack fs) (bytes_digits f.0 f.1) (bytes_pack fs)
