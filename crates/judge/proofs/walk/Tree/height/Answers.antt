-- `height`: the way from here on is the way from the root.
use Rattle.std.proofs.Common.{◌≤◌, arith}
use Rattle.judge.proofs.Flat.{row_inside}
use Rattle.judge.proofs.WalkSteps.{height_end, height_here, height_past, height_on}
use Rattle.judge.proofs.walk.Tree.height.Goals as goal

pub returns-then-x-eq0 : goal.returns-then-x-eq0
returns-then-x-eq0 c = height_here c.loop-height.invariant c.loop-height-test.true c.if-x-eq0.true

pub returns-then-self-x : goal.returns-then-self-x
returns-then-self-x c = height_past c.loop-height.invariant c.loop-height-test.true c.if-x-eq0.false c.if-self-x.true

pub loop-height-preserved : goal.loop-height-preserved
loop-height-preserved c =
    let s : 1 ≤ c.loop-height.x = omega arith in
    height_on c.loop-height.invariant c.loop-height-test.true c.if-x-eq0.false c.if-self-x.false
    (row_inside _ c.args.self.records.wide _ s c.if-self-x.false) c.row.ensures c.higher-x.ensures

pub returns : goal.returns
returns c = height_end c.loop-height.invariant (omega arith)
