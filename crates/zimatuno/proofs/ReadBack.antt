-- What a C program reads back out of the numbers that the doors return. Assumes nothing.
use Rattle.std.proofs.Common.{◌≡◌, ℕ, ◌*◌, ◌/◌, ◌%◌, ◌≤◌, eqb, ltb, List, length, take, drop, ◌∙◌, ap₂, arith}
use Rattle.meaning.specs.Sound.{sound}
use Rattle.meaning.specs.Doors.{n_commands, batch_ok, batch_refusal, carried_out, batch, name, place_of}
use Rattle.meaning.proofs.Facts.{test}
use Rattle.name.proofs.Naming.{place_low, name_at}
use Rattle.zimatuno.specs.Abi.{batch_in_c, name_in_c}

-- a batch is refused with 1, 2 or 3, or not at all
refusal_small : (b w a : List ℕ) → batch_refusal b w a ≤ 3
unfolding batch_refusal
refusal_small b w a =
    test (batch_ok w)
    (λ u. test (ltb (length a) (24 * n_commands w)) (λ v. simp (u, v) (omega arith))
    (λ v. test (sound b) (λ s. simp (u, v, s) (omega arith)) (λ s. simp (u, v, s) (omega arith))))
    (λ u. simp u (omega arith))

code_small : (b w a : List ℕ) → (batch b w a).code ≤ 3
unfolding batch carried_out
code_small b w a =
    test (eqb (batch_refusal b w a) 0) (λ t. simp t (omega arith)) (λ t. simp t (refusal_small b w a))

-- Bits 0 to 7 of what zt_batch returns are the code.
pub code_read_back : (b w a : List ℕ) → (batch_in_c b w a).0 % 256 ≡ (batch b w a).code
unfolding batch_in_c
code_read_back b w a = omega (arith, code_small b w a)

-- The bits above are the number of commands answered.
pub answered_read_back : (b w a : List ℕ) → (batch_in_c b w a).0 / 256 ≡ (batch b w a).answered
unfolding batch_in_c
answered_read_back b w a = omega (arith, code_small b w a)

module _ (b : List ℕ) (t x g : ℕ) where
  offset_read_back : name_in_c b t x g % 4_294_967_296 ≡ (place_of b t x g).at
  unfolding name_in_c
  offset_read_back = omega (arith, place_low b t x g)

  length_read_back : name_in_c b t x g / 4_294_967_296 ≡ (place_of b t x g).len
  unfolding name_in_c
  length_read_back = omega (arith, place_low b t x g)

  -- The part of the pool at the offset and of the length that zt_name returns is the name.
  pub name_read_back : take (name_in_c b t x g / 4_294_967_296) (drop (name_in_c b t x g % 4_294_967_296) b) ≡ name b t x g
  name_read_back = ap₂ (λ (n k : ℕ). take n (drop k b)) length_read_back offset_read_back ∙ name_at b t x g
