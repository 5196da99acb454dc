-- `reset`: zeros all over, and the head of none.
use Rattle.slots.specs.Change.{emptied_n}
use Rattle.slots.proofs.HeadSteps.{no_tree_is}
use Rattle.slots.proofs.change.reset.Goals as goal

pub returns : goal.returns
unfolding emptied_n
returns c = cc (no_tree_is c.default.ensures)
