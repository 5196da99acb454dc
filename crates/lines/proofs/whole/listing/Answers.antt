-- `listing`: its answers, each by what was found on the way. That the pool is bytes is known where the function starts.
use Rattle.std.proofs.Common.{refl, arith, rules}
use Rattle.lines.proofs.WholeSteps.{all_bytes, listed_none, refused_short, listed_refused, body_inside, first_long, trees_room, listed_sound}
use Rattle.lines.proofs.whole.listing.Goals as goal

pub returns-then-out-lt-LIMIT : goal.returns-then-out-lt-LIMIT
returns-then-out-lt-LIMIT c = listed_none _ _ c.if-out-lt-LIMIT.true

pub refused-requires : goal.refused-requires
refused-requires c = omega (arith, c.if-out-lt-LIMIT.false, refused_short _ c.in-Err.ensures)

pub returns-in-Err : goal.returns-in-Err
returns-in-Err c = listed_refused _ _ refl c.if-out-lt-LIMIT.false c.in-Err.ensures c.refused.ensures (search rules)

pub slice_bounds-opened-count : goal.slice_bounds-opened-count
slice_bounds-opened-count c = body_inside _ c.in-Ok.ensures c.load-head.ensures

pub slice_bounds-opened-start : goal.slice_bounds-opened-start
slice_bounds-opened-start c = body_inside _ c.in-Ok.ensures c.load-head.ensures

pub first_line-requires : goal.first_line-requires
first_line-requires c = omega (arith, c.if-out-lt-LIMIT.false, first_long _ c.in-Ok.ensures c.load-head.ensures (all_bytes _ c.type_inv.pool))

pub trees-requires : goal.trees-requires
trees-requires c =
    trees_room _ _ refl c.if-out-lt-LIMIT.false c.in-Ok.ensures c.load-head.ensures (all_bytes _ c.type_inv.pool) c.first_line.ensures

pub returns : goal.returns
returns c =
    listed_sound _ _ refl c.if-out-lt-LIMIT.false c.in-Ok.ensures c.load-head.ensures (all_bytes _ c.type_inv.pool) c.first_line.ensures
    c.trees.ensures (search rules)
