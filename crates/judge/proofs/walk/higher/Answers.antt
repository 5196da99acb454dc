-- `higher`: its two answers, by the balance.
use Rattle.std.proofs.Common.{ap, ◌∙◌}
use Rattle.fields.specs.Number.{get_le}
use Rattle.judge.proofs.WalkSteps.{higher_right, higher_left}
use Rattle.judge.proofs.walk.higher.Goals.{then-get-eq-RIGHT, else-get-eq-RIGHT}
use Rattle.judge.proofs.walk.higher.Goals as goal

pub returns : goal.returns
returns c =
    elim c.if-get-eq-RIGHT.branch [
      | then-get-eq-RIGHT w ↦ higher_right _ c.get.ensures w.if-get-eq-RIGHT.true (c.get-2.ensures ∙ ap (get_le 2 c.args.row.now) w.link-is)
      | else-get-eq-RIGHT w ↦ higher_left _ c.get.ensures w.if-get-eq-RIGHT.false (c.get-2.ensures ∙ ap (get_le 2 c.args.row.now) w.link-is)
    ]
