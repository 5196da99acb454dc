-- `entry`: what is left of the search ends at the same place.
use Rattle.tree.proofs.Loops.{seek_end, seek_none, seek_here, seek_left, seek_right}
use Rattle.tree.proofs.search.entry.Goals as goal
use Rattle.tree.proofs.search.entry.Goals.{then-key-x-2, else-key-x-2}

pub returns-then-at-eq0 : goal.returns-then-at-eq0
returns-then-at-eq0 c = seek_none _ _ _ c.loop-compared.spot _ c.loop-compared.invariant c.loop-compared-test.true c.if-at-eq0.true

pub returns-then-key-x : goal.returns-then-key-x
returns-then-key-x c =
    seek_here _ _ _ c.loop-compared.spot _ c.loop-compared.invariant c.loop-compared-test.true c.if-at-eq0.false c.node_at-x.ensures
    c.if-key-x.true

pub loop-compared-preserved : goal.loop-compared-preserved
loop-compared-preserved c = elim c.if-key-x-2.branch [
  | then-key-x-2 w ↦ seek_left _ _ _ c.loop-compared.spot _ c.loop-compared.invariant c.loop-compared-test.true c.if-at-eq0.false
      c.node_at-x.ensures c.if-key-x.false w.if-key-x-2.true w.side-is c.child-at.ensures
  | else-key-x-2 w ↦ seek_right _ _ _ c.loop-compared.spot _ c.loop-compared.invariant c.loop-compared-test.true c.if-at-eq0.false
      c.node_at-x.ensures c.if-key-x.false w.if-key-x-2.false w.side-is c.child-at.ensures
]

pub returns : goal.returns
returns c = seek_end _ _ _ c.loop-compared.spot _ c.loop-compared.invariant c.loop-compared.auto.compared-end c.loop-compared-test.false
