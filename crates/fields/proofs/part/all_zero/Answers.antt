-- `all_zero`: outside the slice the part is empty, and within it these are its bytes.
use Rattle.std.proofs.Common.{◌≡◌, ◌+◌, ◌-◌, leb, true, List, ℕ, take, drop, length, sym, ap, ◌∙◌, arith}
use Rattle.fields.specs.Part.{zeros, part}
use Rattle.fields.proofs.Parts.{inside, outside, part_in, part_out}
use Rattle.fields.proofs.part.all_zero.Goals as goal

within_it : (b : List ℕ) (at count : ℕ) {w : _} → w ≡ leb (at + count) (length b) → w ≡ true → zeros (take (at + count - at) (drop at b)) ≡ zeros (part b at count)
within_it b at count said is_so =
    let number : at + count - at ≡ count = omega arith in
    ap (λ n. zeros (take n (drop at b))) number ∙ sym (ap zeros (part_in _ _ _ (inside _ _ said is_so)))

pub returns-then-not-within : goal.returns-then-not-within
unfolding zeros
returns-then-not-within c = sym (ap zeros (part_out _ _ _ (outside _ _ c.within.ensures c.if-not-within.true)))

pub returns-then-count-le-BLOCK : goal.returns-then-count-le-BLOCK
returns-then-count-le-BLOCK c = c.are_zero.ensures ∙ within_it _ _ _ c.within.ensures c.if-not-within.false

pub returns-else-count-le-BLOCK : goal.returns-else-count-le-BLOCK
returns-else-count-le-BLOCK c = c.each_is_zero.ensures ∙ within_it _ _ _ c.within.ensures c.if-not-within.false
