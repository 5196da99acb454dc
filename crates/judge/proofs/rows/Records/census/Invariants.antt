-- `census`: the loop keeps that the records from here on, after what is counted, give what all of them give.
use Rattle.judge.proofs.RowSteps.{Counting}
use Rattle.judge.proofs.rows.Records.census.Given as goal

abbrev pub invariant-loop-i : goal.invariant-loop-i
invariant-loop-i l = Counting l.used l.next l.self.rows.now l.i l.live l.free
