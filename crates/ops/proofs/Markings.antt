-- The ops on marks and the reset, 26 to 29: done or refused on the body and the state as `meaning` says. A rollback that is done only asks for the
-- journal to be undone. Assumes nothing.
use Rattle.std.proofs.Common.{◌≡◌, ℕ, Bool, true, false, cond, not, eqb, List, sym, refl, ap, ◌∙◌, arith}
use Rattle.std.proofs.Math.Option.{Option, none, some}
use Rattle.meaning.specs.Layout.{within}
use Rattle.meaning.specs.Pool.{Pool}
use Rattle.meaning.specs.Change.{Mark, rollback, rolled_back, opening, emptied}
use Rattle.meaning.specs.Cursor.{Command, nowhere, State, kind, gone}
use Rattle.meaning.specs.Command.{silent, open_mark, roll_back, commit, reset, op◌means◌does◌then◌, ops, op_in, op_of, always, is_open, marked, unmarked, among, unknown, adding, refuse◌at◌if◌, refusals, first_of, refusal, after_refusal, answer, Performed, refused, carried_out, perform}
use Rattle.meaning.specs.WellFormed.{WellFormed}
use Rattle.slots.specs.Change.{Image}
use Rattle.slots.specs.Image.{body_of, head_of, shown_of}
use Rattle.slots.proofs.Texts.{empty_image}
use Rattle.cursor.specs.Work.{placed, begun_n}
use Rattle.ops.specs.Ops.{settled_n, mark_n, rollback_n, commit_n, reset_n}
use Rattle.ops.specs.Perform.{Out, settled_of}
use Rattle.ops.specs.Image.{mark_of, work_in, meant_by}
use Rattle.ops.specs.Given.{Settled}
use Rattle.cursor.specs.declared.command.Command.{Command as CodeCommand}
use Rattle.ops.proofs.Agreeing.{Marks, shut, opens, Agrees}
use Rattle.ops.proofs.Endings.{refused_agrees}
use Rattle.ops.proofs.Views as view

-- ---- what `meaning` says of them

-- done, with no cursor and no record shown
abbrev left_with : Pool → Option Mark → Performed
left_with p m = record { state = record { pool = p; cursor = nowhere; mark = m }; answer = answer 0 0 0 none }

performed : (s : State) (c : Command) (e : ℕ) → refusal s c ≡ e → perform s c ≡ cond (eqb e 0) (carried_out (op_of c) s c) (refused e s c)
unfolding perform
performed s c e h = ap (λ (n : ℕ). cond (eqb n 0) (carried_out (op_of c) s c) (refused n s c)) h

turned : (b : Bool) → ◌≡◌ {A = ℕ} (cond (not b) 23 0) (cond b 0 23)
turned true = refl
turned false = refl

module _ (s : State) (c : Command) where
  -- at a literal op the table of refusals is the one test of the mark
  mark_test : c.op ≡ 26 → refusal s c ≡ cond (is_open s.mark) 24 0
  unfolding refusal first_of refusals refuse◌at◌if◌ within unknown adding among always marked
  mark_test e = ap (λ (n : ℕ). first_of refusals n s c) e

  rollback_test : c.op ≡ 27 → refusal s c ≡ cond (is_open s.mark) 0 23
  unfolding refusal first_of refusals refuse◌at◌if◌ within unknown adding among always unmarked
  rollback_test e = ap (λ (n : ℕ). first_of refusals n s c) e ∙ turned (is_open s.mark)

  commit_test : c.op ≡ 28 → refusal s c ≡ cond (is_open s.mark) 0 23
  unfolding refusal first_of refusals refuse◌at◌if◌ within unknown adding among always unmarked
  commit_test e = ap (λ (n : ℕ). first_of refusals n s c) e ∙ turned (is_open s.mark)

  reset_test : c.op ≡ 29 → refusal s c ≡ cond (is_open s.mark) 24 0
  unfolding refusal first_of refusals refuse◌at◌if◌ within unknown adding among always marked
  reset_test e = ap (λ (n : ℕ). first_of refusals n s c) e

  -- refused by it, each of them loses the cursor
  lost_mark : (e : ℕ) → within 12 25 c.op ≡ false → refusal s c ≡ e → (e ≡ 0 → ⊥)
      → Agrees s (perform s c) (body_of s.pool, view.refusal (placed (work_in s) nowhere) e)
  unfolding after_refusal
  lost_mark e out h z = refused_agrees s c e nowhere h z (simp out refl)

  -- op n done
  done_is : (n : ℕ) → c.op ≡ n → refusal s c ≡ 0 → perform s c ≡ carried_out (op_in ops n) s c
  unfolding op_of
  done_is n e h = performed s c 0 h ∙ ap (λ (i : ℕ). carried_out (op_in ops i) s c) e

-- ---- the same on the body

-- what is done leaves the pool q with the mark k
done_agrees : (s : State) (q : Pool) (k : Option Mark) (change : ℕ) → eqb change 4 ≡ false
    → (let d = settled_of (settled_n (head_of q) (mark_of k) 0 change) in Marks d s.mark k → Agrees s (left_with q k) (body_of q, d))
unfolding work_in begun_n shown_of kind
done_agrees s q k change z f =
    record {
      body = refl;
      work = refl;
      shown = none;
      rec_is = refl;
      slot_none = λ _. refl;
      answer_is = refl;
      goes_on = z;
      marks = f;
    }

as_said : {s : State} {q r : Performed} {o u : Out} → r ≡ q → u ≡ o → Agrees s q o → Agrees s r u
as_said i j a = rw (i, j) a

module _ (s : State) (names : List ℕ) (c : CodeCommand) where
  abbrev meant : Command
  meant = meant_by names c

  -- the test of the mark, once it is known
  at_mark : {k : Option Mark} (a b : ℕ) → s.mark ≡ k → cond (is_open s.mark) a b ≡ cond (is_open k) a b
  at_mark a b i = ap (λ (k : Option Mark). cond (is_open k) a b) i

  -- what is handed back, from the mark
  abbrev handed : (Option Mark → Settled) → Out
  handed f = (body_of s.pool, settled_of (f s.mark))

  known : (f : Option Mark → Settled) {k : Option Mark} → s.mark ≡ k → handed f ≡ (body_of s.pool, settled_of (f k))
  known f i = ap (λ (k : Option Mark). (body_of s.pool, settled_of (f k))) i

  -- what each of them hands back
  abbrev marking : Option Mark → Settled
  marking k = mark_n (head_of s.pool) (mark_of k)

  abbrev committing : Option Mark → Settled
  committing k = commit_n (head_of s.pool) (mark_of k)

  abbrev rolling : Option Mark → Settled
  rolling k = rollback_n (head_of s.pool) (mark_of k)

  -- Op 26 opens a mark, and a new journal.
  pub mark_agrees : c.op ≡ 26 → Agrees s (perform s meant) (handed marking)
  unfolding mark_n work_in begun_n mark_of meant_by within is_open carried_out ops op_in op◌means◌does◌then◌ open_mark silent gone kind opening head_of
  mark_agrees e = go s.mark refl
    where
      go : (k : Option Mark) → s.mark ≡ k → Agrees s (perform s meant) (handed marking)
      go none i =
          as_said (done_is s meant 26 e (mark_test s meant e ∙ at_mark 24 0 i)) (known marking i)
          (done_agrees s s.pool (some (opening s.pool)) 3 refl (opens refl refl))
      go (some m) i =
          as_said refl (known marking i ∙ sym (known (λ k. settled_n (head_of s.pool) (mark_of k) 24 0) i))
          (lost_mark s meant 24 (ap (within 12 25) e) (mark_test s meant e ∙ at_mark 24 0 i) (λ z. omega (arith, z)))

  -- Op 28 shuts it.
  pub commit_agrees : c.op ≡ 28 → Agrees s (perform s meant) (handed committing)
  unfolding commit_n work_in begun_n mark_of meant_by within is_open carried_out ops op_in op◌means◌does◌then◌ commit silent gone kind
  commit_agrees e = go s.mark refl
    where
      go : (k : Option Mark) → s.mark ≡ k → Agrees s (perform s meant) (handed committing)
      go none i =
          as_said refl (known committing i ∙ sym (known (λ k. settled_n (head_of s.pool) (mark_of k) 23 0) i))
          (lost_mark s meant 23 (ap (within 12 25) e) (commit_test s meant e ∙ at_mark 0 23 i) (λ z. omega (arith, z)))
      go (some m) i =
          as_said (done_is s meant 28 e (commit_test s meant e ∙ at_mark 0 23 i)) (known committing i) (done_agrees s s.pool none 0 refl shut)

  -- what a reset leaves and hands back
  abbrev resetting : Option Mark → Out
  resetting k = let o = reset_n (body_of s.pool) (head_of s.pool) (mark_of k) in (o.0, settled_of o.1)

  -- Op 29 empties the pool, if no mark is open.
  pub reset_agrees : WellFormed s.pool → c.op ≡ 29 → Agrees s (perform s meant) (resetting s.mark)
  unfolding reset_n work_in begun_n mark_of meant_by within is_open carried_out ops op_in op◌means◌does◌then◌ reset silent gone kind
  reset_agrees w e = go s.mark refl
    where
      go : (k : Option Mark) → s.mark ≡ k → Agrees s (perform s meant) (resetting s.mark)
      go none i =
          as_said (done_is s meant 29 e (reset_test s meant e ∙ at_mark 24 0 i))
          (ap resetting i ∙ ap (λ (o : Image). (o.0, settled_of (settled_n o.1 (mark_of none) 0 0))) (empty_image s.pool w))
          (done_agrees s (emptied s.pool) none 0 refl shut)
      go (some m) i =
          as_said refl (ap resetting i ∙ sym (known (λ k. settled_n (head_of s.pool) (mark_of k) 24 0) i))
          (lost_mark s meant 24 (ap (within 12 25) e) (reset_test s meant e ∙ at_mark 24 0 i) (λ z. omega (arith, z)))

  -- Op 27 is refused where no mark is open.
  pub rollback_refused : c.op ≡ 27 → s.mark ≡ none → Agrees s (perform s meant) (handed rolling)
  unfolding rollback_n work_in begun_n mark_of meant_by within is_open
  rollback_refused e i =
      as_said refl (known rolling i ∙ sym (known (λ k. settled_n (head_of s.pool) (mark_of k) 23 0) i))
      (lost_mark s meant 23 (ap (within 12 25) e) (rollback_test s meant e ∙ at_mark 0 23 i) (λ z. omega (arith, z)))

  -- Where one is, it asks for the journal to be undone,
  pub rollback_asks : (k : Mark) → s.mark ≡ some k → rolling s.mark ≡ settled_n (head_of s.pool) (mark_of s.mark) 0 4
  unfolding rollback_n mark_of
  rollback_asks k i = ap rolling i ∙ ap (λ (o : Option Mark). settled_n (head_of s.pool) (mark_of o) 0 4) (sym i)

  -- which gives the pool rolled back.
  pub rollback_done : (k : Mark) → c.op ≡ 27 → s.mark ≡ some k
      → perform s meant ≡ record { state = record { pool = rollback k s.pool; cursor = nowhere; mark = none }; answer = answer 0 0 0 none }
  unfolding meant_by is_open carried_out ops op_in op◌means◌does◌then◌ roll_back silent gone kind rolled_back
  rollback_done k e i =
      done_is s meant 27 e (rollback_test s meant e ∙ at_mark 0 23 i) ∙ ap (λ (o : Option Mark). left_with (rolled_back o s.pool) none) i
