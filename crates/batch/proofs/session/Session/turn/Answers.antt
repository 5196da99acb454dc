-- `turn`: by the kind of the op, which is parsed once.
use Rattle.std.proofs.Common.{sym, ap, ◌∙◌}
use Rattle.ops.specs.Op.{op_number}
use Rattle.batch.proofs.SessionSteps.{aimed_at, show_turn, alter_turn, settle_turn, unknown_turn}
use Rattle.batch.proofs.session.Session.turn.Goals as goal

pub returns-in-Ok-Show : goal.returns-in-Ok-Show
returns-in-Ok-Show c = show_turn c.args.self.now _ _ _ _ (aimed_at c.args.self.now _ c.tree.ensures c.aimed-c.ensures) c.in-Ok-Show.op
    (ap op_number (sym c.in-Ok-Show.field-0-is) ∙ c.in-Ok-Show.ensures) c.show.ensures

pub returns-in-Ok-Alter : goal.returns-in-Ok-Alter
returns-in-Ok-Alter c = alter_turn c.args.self.now _ _ _ _ (aimed_at c.args.self.now _ c.tree.ensures c.aimed-c.ensures) c.in-Ok-Alter.op
    (ap op_number (sym c.in-Ok-Alter.field-0-is) ∙ c.in-Ok-Alter.ensures) c.alter.ensures

pub returns-in-Ok-Settle : goal.returns-in-Ok-Settle
returns-in-Ok-Settle c = settle_turn c.args.self.now _ _ _ _ (aimed_at c.args.self.now _ c.tree.ensures c.aimed-c.ensures) c.in-Ok-Settle.op
    (ap op_number (sym c.in-Ok-Settle.field-0-is) ∙ c.in-Ok-Settle.ensures) c.settle.ensures

pub returns-in-Err : goal.returns-in-Err
returns-in-Err c = unknown_turn c.args.self.now _ _ _ _ (aimed_at c.args.self.now _ c.tree.ensures c.aimed-c.ensures) c.in-Err.ensures.1
    c.in-Err.ensures.0 c.from.ensures c.refuse.ensures
