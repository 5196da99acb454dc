-- `entry_ok`: a row of tests.
use Rattle.std.proofs.Common.{Bool, ◌&&◌, sym, ap, ◌∙◌, arith}
use Rattle.judge.proofs.ClauseSteps.{entry_row}
use Rattle.judge.proofs.rows.entry_ok.Goals as goal

pub returns-then-get-is_empty : goal.returns-then-get-is_empty
returns-then-get-is_empty c =
    ap (λ (same : Bool). same && c.all_zero.result) (sym c.if-get-is_empty.true)
    ∙ entry_row _ (omega arith) c.get.ensures c.get-is_empty.ensures c.all_zero.ensures
