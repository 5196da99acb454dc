-- `check`: the number of the judgement.
use Rattle.std.proofs.lemmas.Result.{err_from_is_err_and}
use Rattle.judge.proofs.CheckAnswers.{judged_number}
use Rattle.judge.proofs.verdict.check.Goals as goal

pub returns-in_err-judge : goal.returns-in_err-judge
returns-in_err-judge c =
    let p = err_from_is_err_and c.from_residual.result c.from_residual.ensures.1 in rw (p.1, p.2) (judged_number _ c.in_err-judge.ensures)

pub returns : goal.returns
returns c = judged_number _ c.in_ok-judge.ensures
