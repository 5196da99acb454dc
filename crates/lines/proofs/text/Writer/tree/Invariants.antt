-- `tree`: the loop keeps what is left to be written.
use Rattle.std.proofs.Common.{◌-◌}
use Rattle.lines.specs.Line.{lines_n}
use Rattle.lines.proofs.Writing.{Writing}
use Rattle.lines.proofs.text.Writer.tree.Given as goal

abbrev pub invariant-loop : goal.invariant-loop
invariant-loop l =
    Writing l.initial.self (lines_n l.end l.pool.body.now l.pool.head.numbers.slots l.t l.initial.x) l.self
    (lines_n (l.end - l.counter) l.pool.body.now l.pool.head.numbers.slots l.t l.x)
