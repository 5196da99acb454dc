-- `trees`: the loop keeps what is left to be written.
use Rattle.std.proofs.Common.{◌-◌}
use Rattle.lines.specs.Line.{trees_n}
use Rattle.lines.proofs.Writing.{Writing}
use Rattle.lines.proofs.text.Writer.trees.Given as goal

abbrev pub invariant-loop-t : goal.invariant-loop-t
invariant-loop-t l = Writing l.initial.self (trees_n 8 l.pool.body.now l.pool.head 1) l.self (trees_n (9 - l.t) l.pool.body.now l.pool.head l.t)
