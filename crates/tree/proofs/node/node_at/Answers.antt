-- `node_at`: none, in part, or as a whole.
use Rattle.tree.proofs.NodeSteps.{no_node, part_node, whole_node}
use Rattle.tree.proofs.node.node_at.Goals as goal

pub returns-then-s-eq0 : goal.returns-then-s-eq0
returns-then-s-eq0 c = no_node _ c.if-s-eq0.true c.default.ensures

pub returns-then-nodes-end : goal.returns-then-nodes-end
returns-then-nodes-end c = part_node _ _ c.if-s-eq0.false c.node_after.ensures

pub returns : goal.returns
returns c = whole_node _ _ c.if-s-eq0.false c.if-nodes-end.false c.node_after-2.ensures
