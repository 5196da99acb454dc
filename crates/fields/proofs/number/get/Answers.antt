-- Outside, a number of any width is 0.
use Rattle.std.proofs.Common.{sym, ◌∙◌, arith}
use Rattle.fields.proofs.Numbers.{get_out}
use Rattle.fields.proofs.Parts.{outside}
use Rattle.fields.proofs.number.get.Goals as goal

pub returns-else-within : goal.returns-else-within
returns-else-within g c =
    g.met.T.Number.default_is_zero c.default.result c.default.ensures
    ∙ sym (get_out _ _ _ (omega (arith, c.WIDTH.ensures, outside _ _ c.within.ensures c.if-within.false)))
