-- `handle_ok`: the tests of tree and slot, and those of the record.
use Rattle.std.proofs.Common.{arith}
use Rattle.name.proofs.NameSteps.{handle_none, slot_low, slot_fits, slot_matches}
use Rattle.name.proofs.name.handle_ok.Goals as goal

pub returns-then-not-is_named : goal.returns-then-not-is_named
returns-then-not-is_named c = handle_none _ _ _ _ c.get-trees.ensures c.get-slots.ensures c.if-not-is_named.true

pub overflow_sub-at : goal.overflow_sub-at
overflow_sub-at c = slot_low _ c.args.t c.args.x 0 c.get-trees.ensures c.get-slots.ensures c.if-not-is_named.false

pub slice_bounds-is_match-end : goal.slice_bounds-is_match-end
slice_bounds-is_match-end c =
    omega (arith, slot_fits _ c.args.t c.args.x 0 c.get-trees.ensures c.get-slots.ensures c.if-not-is_named.false c.requires)

pub returns : goal.returns
returns c = slot_matches _ _ _ _ c.get-trees.ensures c.get-slots.ensures c.if-not-is_named.false c.is_match.ensures
