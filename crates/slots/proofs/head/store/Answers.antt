-- `store`: the three numbers and the eight entries in a row.
use Rattle.std.proofs.Common.{◌∙◌, arith}
use Rattle.slots.proofs.HeadSteps.{put_next, store_end}
use Rattle.slots.proofs.head.store.Goals as goal

pub loop-i-preserved : goal.loop-i-preserved
loop-i-preserved c = put_next _ _ _ _ (omega arith) c.put_entry.ensures ∙ c.loop-i.invariant

pub returns : goal.returns
returns c = store_end _ _ _ (omega arith) c.loop-i-test.false c.put.ensures c.put-2.ensures c.put-3.ensures c.loop-i.invariant
