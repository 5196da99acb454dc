-- `settle_all`: what is asked for is undone.
use Rattle.std.proofs.Common.{refl, ap, ◌∙◌}
use Rattle.std.proofs.lemmas.Result.{err_from_is_err_and}
use Rattle.ops.specs.Given.{ask_number}
use Rattle.batch.proofs.SessionSteps.{mark_used, settle_kept, settle_undone}
use Rattle.batch.proofs.session.settle_all.Goals as goal

pub returns-in_err-s-clause-settled : goal.returns-in_err-s-clause-settled
returns-in_err-s-clause-settled c =
    let p = err_from_is_err_and c.from_residual.result c.from_residual.ensures.1 in rw (p.1, p.2) (settle_kept _ _ _ _ _ _ c.in_err-s.ensures refl refl)

pub returns-in-Nothing-clause-settled : goal.returns-in-Nothing-clause-settled
returns-in-Nothing-clause-settled c = settle_kept _ _ _ _ _ _ c.in_ok-s.ensures (ap ask_number c.in-Nothing.is) refl

pub returns-in-Begin-clause-settled : goal.returns-in-Begin-clause-settled
returns-in-Begin-clause-settled c = settle_kept _ _ _ _ _ _ c.in_ok-s.ensures (ap ask_number c.in-Begin.is) refl

pub returns-in-Undo-clause-settled : goal.returns-in-Undo-clause-settled
returns-in-Undo-clause-settled c = settle_undone _ _ _ _ _ _ c.in_ok-s.ensures (ap ask_number c.in-Undo.is)
    (c.unwrap_or.ensures ∙ mark_used c.args.mark) c.roll_back.ensures.undone
