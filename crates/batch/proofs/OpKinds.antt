-- The kinds of ops: one that settles a mark or resets adds and removes no record. Assumes nothing.
use Rattle.std.proofs.Common.{◌≡◌, ℕ, true, false, inr, arith, ne_eqb}
use Rattle.meaning.specs.Layout.{within}
use Rattle.meaning.specs.Command.{last_op}
use Rattle.meaning.proofs.Clauses.{within_is}
use Rattle.ops.specs.Perform.{alters, settles}
use Rattle.ops.proofs.Unknown.{outside}

-- An op that settles alters nothing.
pub settles_alters : (n : ℕ) → settles n ≡ true → alters n ≡ false
unfolding alters settles
settles_alters n h =
    let b = within_is 26 last_op n h in
    let past : within 16 25 n ≡ false = outside 16 25 n (inr (omega (arith, b.0))) in
    simp (ne_eqb n 1 (λ e. omega (arith, e, b.0)), ne_eqb n 3 (λ e. omega (arith, e, b.0)), ne_eqb n 4 (λ e. omega (arith, e, b.0)), past)
