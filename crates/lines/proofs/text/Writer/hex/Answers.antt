-- `hex`: the loop writes the two digits of a byte a turn.
use Rattle.lines.proofs.TextSteps.{byte_turn}
use Rattle.lines.proofs.text.Writer.hex.Goals as goal

pub loop-b-preserved : goal.loop-b-preserved
loop-b-preserved c =
    byte_turn _ _ c.loop-b-test.true c.loop-b.invariant (rw c.hex_digit.ensures at c.byte.ensures)
    (rw c.hex_digit-in-loop-b.ensures at c.byte-in-loop-b.ensures)
