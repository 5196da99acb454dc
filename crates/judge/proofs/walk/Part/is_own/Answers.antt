-- `is_own`: outside the slots, or a row of tests.
use Rattle.std.proofs.Common.{arith}
use Rattle.judge.proofs.Flat.{row_inside}
use Rattle.judge.proofs.Between.{own_none, own_past, own_row}
use Rattle.judge.proofs.walk.Part.is_own.Goals.{then-x-eq0-via-then-x-eq0, then-x-eq0-via-else-x-eq0+then-tree-x}
use Rattle.judge.proofs.walk.Part.is_own.Goals as goal

pub returns-then-x-eq0 : goal.returns-then-x-eq0
returns-then-x-eq0 c =
    elim c.then-x-eq0.branch [
      | then-x-eq0-via-then-x-eq0 w ↦ own_none _ _ _ _ _ _ _ w.if-x-eq0.true
      | then-x-eq0-via-else-x-eq0+then-tree-x w ↦ own_past _ _ _ _ _ _ _ w.if-x-eq0.false w.if-tree-x.true
    ]

pub returns : goal.returns
returns c =
    own_row _ _ _ _ _ _ _ c.if-x-eq0.false c.if-tree-x.false (row_inside _ c.args.self.tree.records.wide _ (omega arith) c.if-tree-x.false)
    c.row-own.ensures c.get.ensures c.get-2.ensures c.rises.ensures c.rises-2.ensures
