-- `check_link` and `check_record`: each answer is a step of WalkSteps, at the tests and calls on the way to it. What each asks of a call has the
-- measure first: it falls.
use Rattle.std.proofs.Common.{refl, arith}
use Rattle.judge.proofs.Flat.{row_inside}
use Rattle.judge.proofs.Between.{own_in}
use Rattle.judge.proofs.WalkSteps.{link_other, link_twig, link_record, record_tilted, record_left, record_right, record_sum, part_fits}
use Rattle.judge.proofs.walk.+check_link_check_record.Goals as goal

-- ---- check_link

pub Part::check_link-returns-then-not-is_own : goal.Part::check_link-returns-then-not-is_own
Part::check_link-returns-then-not-is_own t c =
    link_other _ c.args.self.tree.records.bytes _ _ _ _ _ _ _ c.requires.0 c.is_own.ensures c.if-not-is_own.true

pub Part::check_link-invariant_of-record : goal.Part::check_link-invariant_of-record
Part::check_link-invariant_of-record t c =
    let i = own_in _ _ _ _ _ _ _ c.is_own.ensures c.if-not-is_own.false in record { some = i.0; inside = i.1 }

pub Part::check_link-check_twig-requires : goal.Part::check_link-check_twig-requires
Part::check_link-check_twig-requires t c =
    let i = own_in _ _ _ _ _ _ _ c.is_own.ensures c.if-not-is_own.false in (c.requires.0, c.if-height-le2.true, i.2)

pub Part::check_link-returns-then-height-le2 : goal.Part::check_link-returns-then-height-le2
Part::check_link-returns-then-height-le2 t c =
    let i = own_in _ _ _ _ _ _ _ c.is_own.ensures c.if-not-is_own.false in
    link_twig _ c.args.self.tree.records.bytes _ _ _ _ _ _ _ c.requires.0 c.is_own.ensures c.if-not-is_own.false i.0
    c.if-height-le2.true c.check_twig.ensures

pub Part::check_link-invariant_of-record-2 : goal.Part::check_link-invariant_of-record-2
Part::check_link-invariant_of-record-2 t c =
    let i = own_in _ _ _ _ _ _ _ c.is_own.ensures c.if-not-is_own.false in record { some = i.0; inside = i.1 }

pub Part::check_link-returns : goal.Part::check_link-returns
Part::check_link-returns t c =
    let i = own_in _ _ _ _ _ _ _ c.is_own.ensures c.if-not-is_own.false in
    link_record _ c.args.self.tree.records.bytes _ _ _ _ _ _ _ c.requires.0 c.is_own.ensures c.if-not-is_own.false i.0 c.check_record.ensures

-- ---- check_record

pub Record::check_record-returns-then-balance-gt-BALANCE : goal.Record::check_record-returns-then-balance-gt-BALANCE
Record::check_record-returns-then-balance-gt-BALANCE t c =
    let r = c.args.self in
    record_tilted _ _ _ _ _ _ _ r.some (row_inside _ r.part.tree.records.wide _ r.some r.inside) c.requires.0 c.requires.1
    c.row-own.ensures c.get-balance.ensures c.if-balance-gt-BALANCE.true

pub Record::check_record-returns-in_err-left_count : goal.Record::check_record-returns-in_err-left_count
Record::check_record-returns-in_err-left_count t c =
    let r = c.args.self in
    rw c.from_residual.ensures
    (record_left _ _ _ _ _ _ _ r.some (row_inside _ r.part.tree.records.wide _ r.some r.inside) c.requires.0 c.requires.1
    c.row-own.ensures c.get-balance.ensures c.if-balance-gt-BALANCE.false c.get-left.ensures c.in_err-left_count.ensures refl)

pub Record::check_record-returns-in_err-right_count : goal.Record::check_record-returns-in_err-right_count
Record::check_record-returns-in_err-right_count t c =
    let r = c.args.self in
    rw c.from_residual-in_err-right_count.ensures
    (record_right _ _ _ _ _ _ _ r.some (row_inside _ r.part.tree.records.wide _ r.some r.inside) c.requires.0 c.requires.1
    c.row-own.ensures c.get-balance.ensures c.if-balance-gt-BALANCE.false c.get-left.ensures c.in_ok-left_count.ensures (λ z. omega arith)
    c.get-right.ensures c.in_err-right_count.ensures refl)

pub Record::check_record-overflow_add-result : goal.Record::check_record-overflow_add-result
Record::check_record-overflow_add-result t c =
    omega (
      arith,
      part_fits _ _ _ _ _ _ _ _ _ (omega (arith, c.requires.1)) c.in_ok-left_count.ensures,
      part_fits _ _ _ _ _ _ _ _ _ (omega (arith, c.requires.1)) c.in_ok-right_count.ensures,
    )

pub Record::check_record-overflow_add-result-2 : goal.Record::check_record-overflow_add-result-2
Record::check_record-overflow_add-result-2 t c =
    omega (
      arith,
      part_fits _ _ _ _ _ _ _ _ _ (omega (arith, c.requires.1)) c.in_ok-left_count.ensures,
      part_fits _ _ _ _ _ _ _ _ _ (omega (arith, c.requires.1)) c.in_ok-right_count.ensures,
    )

pub Record::check_record-returns : goal.Record::check_record-returns
Record::check_record-returns t c =
    let r = c.args.self in
    let whole =
    record_sum _ _ _ _ _ _ _ r.some (row_inside _ r.part.tree.records.wide _ r.some r.inside) c.requires.0 c.requires.1
    c.row-own.ensures c.get-balance.ensures c.if-balance-gt-BALANCE.false c.get-left.ensures c.in_ok-left_count.ensures (λ z. omega arith)
    c.get-right.ensures c.in_ok-right_count.ensures (λ z. omega arith) in
    omega (arith, whole)
