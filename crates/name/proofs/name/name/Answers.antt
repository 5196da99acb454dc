-- `name`: the part of the pool at the place of the name.
use Rattle.std.proofs.Common.{arith}
use Rattle.name.proofs.NameSteps.{name_inside, name_part}
use Rattle.name.proofs.name.name.Goals as goal

pub returns-in_default : goal.returns-in_default
returns-in_default c = name_part _ _ _ _ c.in_default.ensures.place

pub slice_bounds-result-end-2 : goal.slice_bounds-result-end-2
slice_bounds-result-end-2 c = omega (arith, name_inside _ _ _ _ c.in-Some.ensures.place)

pub returns : goal.returns
returns c = name_part _ _ _ _ c.in-Some.ensures.place
