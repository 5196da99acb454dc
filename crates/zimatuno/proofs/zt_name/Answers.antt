-- `zt_name`: the place of the name, its two numbers packed; 0 for none.
use Rattle.std.proofs.Common.{ℕ, ◌+◌, ◌*◌, ap}
use Rattle.meaning.specs.Doors.{Place}
use Rattle.zimatuno.specs.Abi.{name_in_c}
use Rattle.zimatuno.proofs.zt_name.Goals as goal

packed : Place → ℕ
packed p = p.at + p.len * 4_294_967_296

pub returns-in-Some : goal.returns-in-Some
unfolding name_in_c packed
returns-in-Some c = ap packed c.in-Some.ensures.place

pub returns-in-None : goal.returns-in-None
unfolding name_in_c packed
returns-in-None c = ap packed c.in-None.ensures.place
