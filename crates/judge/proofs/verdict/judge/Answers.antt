-- `judge`: its answers, each by what was found on the way.
use Rattle.std.proofs.Common.{arith, ◌≡◌}
use Rattle.fields.specs.Number.{Bytes}
use Rattle.meaning.specs.Pool.{entries, records}
use Rattle.judge.proofs.CheckAnswers.{bad_header, Read, have_read, Fits, fits, entries_are, records_are, few_entries, few_records, wide_records, byte_records, bad_entries, bad_records, bad_text, bad_live, bad_trees, all_good}
use Rattle.judge.proofs.verdict.judge.Goals.{then-not-all_zero-via-then-not-all_zero, then-not-all_zero-via-else-not-all_zero+then-get-census, then-not-all_zero-via-else-not-all_zero+else-get-census+then-not-trees_ok}
use Rattle.judge.proofs.verdict.judge.Goals.{After-get-2, After-as_chunks-2}
use Rattle.judge.proofs.verdict.judge.Goals as goal

-- the header's numbers, once they have been read
header_read : (c : After-get-2) → Read c.args.pool.now c.get-2.result c.get.result c.get-used.result c.get-next.result
header_read c =
    have_read _ c.header_ok.ensures c.if-not-header_ok.false c.get-2.ensures c.get.ensures c.get-used.ensures c.get-next.ensures

-- and that the sections lie within the pool
header_fits : (c : After-get-2) → Fits c.args.pool.now c.get-2.result c.get.result c.get-used.result
header_fits c = fits (header_read c)

-- the sections
entry_rows : (c : After-as_chunks-2) → Read c.args.pool.now c.get-2.result c.get.result c.get-used.result c.get-next.result
    → c.as_chunks.result.0.now ≡ entries c.args.pool.now
entry_rows c r = entries_are _ r c.as_chunks.ensures.front

record_rows : (c : After-as_chunks-2) → Read c.args.pool.now c.get-2.result c.get.result c.get-used.result c.get-next.result
    → c.as_chunks-2.result.0.now ≡ records c.args.pool.now
record_rows c r = records_are _ r c.as_chunks-2.ensures.front

all_bytes : (c : After-as_chunks-2) → Bytes c.args.pool.now
all_bytes c = record { below = λ i. omega (arith, c.type_inv.pool i) }

pub returns-then-not-header_ok : goal.returns-then-not-header_ok
returns-then-not-header_ok c = bad_header _ c.header_ok.ensures c.if-not-header_ok.true

pub slice_bounds-as_chunks-end : goal.slice_bounds-as_chunks-end
slice_bounds-as_chunks-end c = omega (arith, (header_fits (goal.at.slice_bounds-as_chunks-end c).After-get-2).inside)

pub slice_bounds-as_chunks-end-2 : goal.slice_bounds-as_chunks-end-2
slice_bounds-as_chunks-end-2 c = omega (arith, (header_fits (goal.at.slice_bounds-as_chunks-end-2 c).After-get-2).inside)

pub returns-then-not-entries_ok : goal.returns-then-not-entries_ok
returns-then-not-entries_ok c =
    let r = header_read (goal.at.returns-then-not-entries_ok c).After-get-2 in
    let s = (goal.at.returns-then-not-entries_ok c).After-as_chunks-2 in
    bad_entries _ r (entry_rows s r) c.entries_ok.ensures c.if-not-entries_ok.true

pub invariant_of-records : goal.invariant_of-records
invariant_of-records c =
    let r = header_read (goal.at.invariant_of-records c).After-get-2 in
    let s = (goal.at.invariant_of-records c).After-as_chunks-2 in
    record { few = few_records _ r (record_rows s r); wide = wide_records _ r (record_rows s r); bytes = byte_records _ r (all_bytes s) (record_rows s r) }

pub returns-in_default : goal.returns-in_default
returns-in_default c =
    let r = header_read (goal.at.returns-in_default c).After-get-2 in
    let s = (goal.at.returns-in_default c).After-as_chunks-2 in
    bad_records _ r (entry_rows s r) c.entries_ok.ensures c.if-not-entries_ok.false
    (record_rows s r) c.in_default.ensures

pub overflow_sub-pool : goal.overflow_sub-pool
overflow_sub-pool c = omega (arith, (header_fits (goal.at.overflow_sub-pool c).After-get-2).inside)

pub trees_ok-requires : goal.trees_ok-requires
trees_ok-requires c =
    let r = header_read (goal.at.trees_ok-requires c).After-get-2 in
    let s = (goal.at.trees_ok-requires c).After-as_chunks-2 in
    few_entries _ r (entry_rows s r)

pub returns-then-not-all_zero : goal.returns-then-not-all_zero
returns-then-not-all_zero c =
    let r = header_read (goal.at.returns-then-not-all_zero c).After-get-2 in
    let s = (goal.at.returns-then-not-all_zero c).After-as_chunks-2 in
    let e = entry_rows s r in
    let q = record_rows s r in
    elim c.then-not-all_zero.branch [
      | then-not-all_zero-via-then-not-all_zero w ↦ bad_text _ r e c.entries_ok.ensures c.if-not-entries_ok.false q c.in-Some.ensures
          c.all_zero.ensures w.if-not-all_zero.true
      | then-not-all_zero-via-else-not-all_zero+then-get-census w ↦ bad_live _ r e c.entries_ok.ensures c.if-not-entries_ok.false q
          c.in-Some.ensures c.all_zero.ensures w.get-else-not-all_zero.ensures w.if-get-census.true
      | then-not-all_zero-via-else-not-all_zero+else-get-census+then-not-trees_ok w ↦ bad_trees _ r e c.entries_ok.ensures c.if-not-entries_ok.false
          q c.in-Some.ensures c.all_zero.ensures w.get-else-not-all_zero.ensures w.trees_ok.ensures w.if-not-trees_ok.true
    ]

pub returns : goal.returns
returns c =
    let r = header_read (goal.at.returns c).After-get-2 in
    let s = (goal.at.returns c).After-as_chunks-2 in
    all_good _ r (entry_rows s r) c.entries_ok.ensures c.if-not-entries_ok.false (record_rows s r)
    c.in-Some.ensures c.all_zero.ensures c.get-else-not-all_zero.ensures c.trees_ok.ensures c.if-not-all_zero.false c.if-get-census.false
    c.if-not-trees_ok.false
