-- `copy_in`: the loop stores the source byte by byte.
use Rattle.std.proofs.Common.{refl, sym}
use Rattle.fields.proofs.Loops.{fill_start, fill_turn, fill_end}
use Rattle.fields.proofs.Parts.{inside, outside, splice_out}
use Rattle.fields.proofs.part.copy_in.Goals as goal

pub loop-i-init : goal.loop-i-init
loop-i-init c = fill_start _ _ _ _ refl (inside _ _ c.within.ensures c.if-within.true)

pub loop-i-preserved : goal.loop-i-preserved
loop-i-preserved c = fill_turn _ c.loop-i.invariant c.loop-i-test.true refl

pub returns-after-loop-i : goal.returns-after-loop-i
returns-after-loop-i c = fill_end c.loop-i.invariant c.loop-i-test.false

pub returns-else-within : goal.returns-else-within
returns-else-within c = sym (splice_out _ _ _ (outside _ _ c.within.ensures c.if-within.false))
