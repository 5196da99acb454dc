-- `lowest`: the loop keeps that the search from here on gives what it gives from the start.
use Rattle.std.proofs.Common.{◌≡◌, ◌-◌}
use Rattle.slots.specs.Record.{lowest_n}
use Rattle.slots.proofs.record.lowest.Given as goal

abbrev pub invariant-loop-at : goal.invariant-loop-at
invariant-loop-at l = lowest_n (l.n - l.at) l.body l.at ≡ lowest_n (l.n - l.from) l.body l.from
