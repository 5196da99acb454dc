-- `undo`: the changes that are left give what all of them give. Its measure is how many are left.
use Rattle.std.proofs.Common.{◌≡◌, length}
use Rattle.journal.specs.Journal.{undo_n}
use Rattle.journal.proofs.undo.Given as goal

abbrev pub invariant-loop-e : goal.invariant-loop-e
invariant-loop-e l = undo_n (length l.journal.items) l.body l.h l.journal.items ≡ undo_n (length l.fn.journal.items) l.fn.body l.fn.h l.fn.journal.items

abbrev pub decreases-loop-e : goal.decreases-loop-e
decreases-loop-e l = length l.journal.items
