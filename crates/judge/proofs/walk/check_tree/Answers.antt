-- `check_tree`: its answers, each by its tests. What is found by bounds is what is found in order, as the keys of a slice have eight bytes.
use Rattle.std.proofs.Common.{◌≤◌, arith}
use Rattle.judge.proofs.Heights.{height_root}
use Rattle.judge.proofs.WalkSteps.{tree_none, tree_lost, tree_many, tree_is}
use Rattle.judge.proofs.walk.check_tree.Goals.{After-check_link}
use Rattle.judge.proofs.walk.check_tree.Goals as goal

-- the height that the way down finds
tall : (c : After-check_link) → (1 ≤ c.in_ok-height.height) × (c.in_ok-height.height ≤ 14)
tall c = height_root _ _ 14 _ (omega (arith, c.if-root-eq0.false)) c.in_ok-height.ensures

pub returns-then-root-eq0 : goal.returns-then-root-eq0
returns-then-root-eq0 c = tree_none _ _ _ _ c.if-root-eq0.true

pub returns-in_err-height : goal.returns-in_err-height
returns-in_err-height c = rw c.from_residual.ensures (tree_lost _ _ _ _ c.args.records.bytes c.in_err-height.ensures)

pub check_link-requires : goal.check_link-requires
check_link-requires c = height_root _ _ 14 _ (omega (arith, c.if-root-eq0.false)) c.in_ok-height.ensures

pub returns-in_err-count : goal.returns-in_err-count
returns-in_err-count c =
    let k = tall (goal.at.returns-in_err-count c).After-check_link in
    rw c.from_residual-in_err-count.ensures
    (tree_is _ _ _ _ c.args.records.bytes c.in_ok-height.ensures k.1 c.in_err-count.ensures (omega arith))

pub returns-then-records-count : goal.returns-then-records-count
returns-then-records-count c =
    let k = tall (goal.at.returns-then-records-count c).After-check_link in
    tree_many _ _ _ _ c.args.records.bytes c.in_ok-height.ensures k.1 c.in_ok-count.ensures (omega (arith, c.if-records-count.true))

pub returns : goal.returns
returns c =
    let k = tall (goal.at.returns c).After-check_link in
    tree_is _ _ _ _ c.args.records.bytes c.in_ok-height.ensures k.1 c.in_ok-count.ensures (omega (arith, c.if-records-count.false))
