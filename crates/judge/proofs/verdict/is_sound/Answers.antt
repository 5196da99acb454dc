-- `is_sound`: what the judgement says.
use Rattle.std.proofs.Common.{◌∙◌}
use Rattle.judge.proofs.CheckAnswers.{judged_ok}
use Rattle.judge.proofs.verdict.is_sound.Goals as goal

pub returns : goal.returns
returns c = c.is_ok.ensures.value ∙ judged_ok _ c.judge.ensures
