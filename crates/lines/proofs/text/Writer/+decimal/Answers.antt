-- `decimal`: no digit, one digit, or the digits before the last one by its call of itself, and the last one.
use Rattle.std.proofs.Common.{arith}
use Rattle.lines.proofs.Writing.{first_fits, second_fits, both_wrote}
use Rattle.lines.proofs.TextSteps.{no_digit, one_digit, more_digits}
use Rattle.lines.proofs.text.Writer.+decimal.Goals as goal

pub returns-then-digits-eq0 : goal.returns-then-digits-eq0
returns-then-digits-eq0 t c = no_digit _ _ c.if-digits-eq0.true _

pub byte-requires : goal.byte-requires
byte-requires t c = rw (one_digit _ _ c.if-digits-eq0.false c.if-n-lt10.true) at c.requires

pub returns-then-n-lt10 : goal.returns-then-n-lt10
returns-then-n-lt10 t c = rw (one_digit _ _ c.if-digits-eq0.false c.if-n-lt10.true) c.byte.ensures

pub decimal-requires : goal.decimal-requires
decimal-requires t c =
    (omega arith, first_fits c.args.self.now _ _ (rw (more_digits _ _ c.if-digits-eq0.false c.if-n-lt10.false) at c.requires))

pub byte-requires-else-n-lt10 : goal.byte-requires-else-n-lt10
byte-requires-else-n-lt10 t c =
    second_fits _ _ (rw (more_digits _ _ c.if-digits-eq0.false c.if-n-lt10.false) at c.requires) c.decimal.ensures

pub returns-else-n-lt10 : goal.returns-else-n-lt10
returns-else-n-lt10 t c =
    let more = more_digits c.args.digits c.args.n c.if-digits-eq0.false c.if-n-lt10.false in
    rw more (both_wrote _ _ (rw more at c.requires) c.decimal.ensures c.byte-else-n-lt10.ensures)
