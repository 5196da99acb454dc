-- `undo`: the changes that are left give what all of them give.
use Rattle.std.proofs.Common.{◌≡◌, length, rules}
use Rattle.journal.proofs.JournalSteps.{undo_on, undo_end}
use Rattle.journal.proofs.undo.Goals as goal

pub loop-e-preserved : goal.loop-e-preserved
loop-e-preserved c = undo_on _ _ _ _ c.in-Some.ensures.items c.undo_one.ensures c.loop-e.invariant

pub returns-clause-undone : goal.returns-clause-undone
returns-clause-undone c = let none : length c.loop-e.journal.items ≡ 0 = search rules in undo_end _ _ _ none c.loop-e.invariant
