-- `census`: the loop keeps that the records from here on, after what is counted, give what all of them give.
use Rattle.std.proofs.Common.{arith}
use Rattle.judge.proofs.RowSteps.{count_end, count_stop, count_live, count_first, count_later}
use Rattle.judge.proofs.rows.Records.census.Goals.{then-get-ne0, else-get-ne0+then-free-eq0, else-get-ne0+else-free-eq0}
use Rattle.judge.proofs.rows.Records.census.Goals as goal

pub returns-then-not-record_ok : goal.returns-then-not-record_ok
returns-then-not-record_ok c = count_stop c.loop-i.invariant (omega arith) c.record_ok.ensures c.if-not-record_ok.true

pub loop-i-preserved : goal.loop-i-preserved
loop-i-preserved c =
    elim c.if-get-ne0.branch [
      | then-get-ne0 w ↦ count_live c.loop-i.invariant (omega arith) c.record_ok.ensures c.if-not-record_ok.false
          c.get.ensures w.if-get-ne0.true w.live-is w.free-is
      | else-get-ne0+then-free-eq0 w ↦ count_first c.loop-i.invariant (omega arith) c.record_ok.ensures c.if-not-record_ok.false
          c.get.ensures w.if-get-ne0.false w.if-free-eq0.true w.live-is w.free-is
      | else-get-ne0+else-free-eq0 w ↦ count_later c.loop-i.invariant (omega arith) c.record_ok.ensures c.if-not-record_ok.false
          c.get.ensures w.if-get-ne0.false w.if-free-eq0.false w.live-is w.free-is
    ]

pub returns : goal.returns
returns c = count_end c.loop-i.invariant (omega arith)
