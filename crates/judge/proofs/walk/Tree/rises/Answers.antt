-- `rises`: where one of the two is none, and by their keys.
use Rattle.std.proofs.Common.{◌≤◌, arith}
use Rattle.judge.proofs.Flat.{row_inside}
use Rattle.judge.proofs.Between.{key_is, rises_first, rises_last, rises_keys}
use Rattle.judge.proofs.walk.Tree.rises.Goals.{then-a-eq0-via-then-a-eq0, then-a-eq0-via-else-a-eq0+then-b-eq0}
use Rattle.judge.proofs.walk.Tree.rises.Goals as goal

pub returns-then-a-eq0 : goal.returns-then-a-eq0
returns-then-a-eq0 c =
    elim c.then-a-eq0.branch [
      | then-a-eq0-via-then-a-eq0 w ↦ rises_first _ _ _ w.if-a-eq0.true
      | then-a-eq0-via-else-a-eq0+then-b-eq0 w ↦ rises_last _ _ _ w.if-b-eq0.true
    ]

pub returns : goal.returns
returns c =
    let r = c.args.self.records in
    let a : 1 ≤ c.args.a = omega arith in
    let b : 1 ≤ c.args.b = omega arith in
    rises_keys _ _ _ c.if-a-eq0.false c.if-b-eq0.false
    (key_is _ _ a (row_inside _ r.wide _ a c.requires.0) c.row.ensures c.get.ensures)
    (key_is _ _ b (row_inside _ r.wide _ b c.requires.1) c.row-2.ensures c.get-2.ensures)
