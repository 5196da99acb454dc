-- `batch`: each refusal, the places that it cuts at, and the batch that is carried out.
use Rattle.std.proofs.Common.{arith, rules}
use Rattle.std.proofs.lemmas.Result.{err_from_is_err_and}
use Rattle.batch.proofs.BatchSteps.{bad_header, few, names_fit, no_room, not_sound, records_fit, carried_out_lem}
use Rattle.batch.proofs.door.batch.Goals as goal

pub returns-then-not-batch_ok : goal.returns-then-not-batch_ok
returns-then-not-batch_ok c = bad_header _ _ _ c.batch_ok.ensures c.if-not-batch_ok.true

pub returns-then-answers-count : goal.returns-then-answers-count
returns-then-answers-count c = no_room _ _ _ c.batch_ok.ensures c.if-not-batch_ok.false c.get-count.ensures c.if-answers-count.true

pub returns-in_err-census : goal.returns-in_err-census
returns-in_err-census c =
    let p = err_from_is_err_and c.from_residual.result c.from_residual.ensures.1 in
    rw (p.1, p.2) (not_sound _ _ _ c.batch_ok.ensures c.if-not-batch_ok.false c.get-count.ensures c.if-answers-count.false _ (rw c.in_err-census.was at c.judge.ensures))

pub slice_bounds-run-count : goal.slice_bounds-run-count
slice_bounds-run-count c = records_fit _ (rw c.in_ok-census.was at c.judge.ensures) c.load-h.ensures

pub slice_bounds-run-start : goal.slice_bounds-run-start
slice_bounds-run-start c = records_fit _ (rw c.in_ok-census.was at c.judge.ensures) c.load-h.ensures

pub slice_bounds-run-count-2 : goal.slice_bounds-run-count-2
slice_bounds-run-count-2 c = names_fit _ c.batch_ok.ensures c.if-not-batch_ok.false c.get-count.ensures

pub slice_bounds-run-start-2 : goal.slice_bounds-run-start-2
slice_bounds-run-start-2 c = names_fit _ c.batch_ok.ensures c.if-not-batch_ok.false c.get-count.ensures

pub run-g-requires : goal.run-g-requires
run-g-requires c = (
  few _ c.batch_ok.ensures c.if-not-batch_ok.false c.get-count.ensures,
  names_fit _ c.batch_ok.ensures c.if-not-batch_ok.false c.get-count.ensures,
  c.if-answers-count.false,
)

pub returns : goal.returns
returns c = carried_out_lem _ _ _ c.batch_ok.ensures c.if-not-batch_ok.false c.get-count.ensures c.if-answers-count.false
    (rw c.in_ok-census.was at c.judge.ensures) c.load-h.ensures
    (record { below = λ i. search rules })
    (record { below = λ i. omega (arith, c.type_inv.w i) })
    c.run-g.ensures c.store.ensures
