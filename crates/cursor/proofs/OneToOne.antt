-- Determinism where a promise speaks of a cursor, a state, a test's or a command's result by a view: two results that such a promise allows are equal.
-- Assumes nothing.
use Rattle.std.specs.Prelude.{eqb, Some, Option, Result, Ok, Err}
use Rattle.std.proofs.Common.{◌≡◌, ℕ, false, cond, List, sym, refl, ap, ◌∙◌, ap₂}
use Rattle.std.specs.declared.option.Option.TheVariants.{None}
use Rattle.format.specs.Refusal.{number}
use Rattle.format.specs.declared.refusal.Refusal.{Refusal}
use Rattle.format.specs.declared.refusal.Refusal.TheVariants as why
use Rattle.tree.specs.declared.dir.Dir.{Dir as CodeDir}
use Rattle.tree.specs.declared.node.AvlTree.{AvlTree}
use Rattle.tree.proofs.OneToOne.{side, side_of_lem}
use Rattle.meaning.specs.Cursor.{Cursor, nowhere, occupied, vacant, first_entry, last_entry}
use Rattle.meaning.proofs.Tables.{never}
use Rattle.cursor.specs.Cursor.{cursor_of}
use Rattle.cursor.specs.Given.{Mark, Sight, Step, tested, mark_in, sight_in, change_number, step_in}
use Rattle.cursor.specs.Work.{Work, work_of}
use Rattle.cursor.specs.declared.cursor.Cursor.{Cursor as CodeCursor}
use Rattle.cursor.specs.declared.cursor.Cursor.TheVariants.{Nowhere, Occupied, Vacant, First, Last}
use Rattle.cursor.specs.declared.result.Change.{Change}
use Rattle.cursor.specs.declared.result.Change.TheVariants.{Added, Removed}
use Rattle.cursor.specs.declared.result.Refused.{Refused}
use Rattle.cursor.specs.declared.result.Sight.{Sight as CodeSight}
use Rattle.cursor.specs.declared.result.Step.{Step as CodeStep}
use Rattle.cursor.specs.declared.state.Batch.{Batch}

-- from a cursor of `meaning` back to the code's
pub back : Cursor → CodeCursor
back nowhere = Nowhere
back (occupied t x) = Occupied t x
back (vacant t x d k) = Vacant t x (side d) k
back (first_entry t x) = First t x
back (last_entry t x) = Last t x

back_of : (k : CodeCursor) → back (cursor_of k) ≡ k
unfolding back
back_of Nowhere = refl
back_of (Occupied t x) = refl
back_of (Vacant t x d k) = ap (λ (e : CodeDir). Vacant t x e k) (side_of_lem d)
back_of (First t x) = refl
back_of (Last t x) = refl

-- `after`: two cursors that its promise allows are equal.
pub cursor_determined : (z : Cursor) (j k : CodeCursor) → cursor_of j ≡ z → cursor_of k ≡ z → j ≡ k
cursor_determined z j k first second = sym (back_of j) ∙ ap back (first ∙ sym second) ∙ back_of k

-- from the mark of the models back to the code's
abbrev pub mark_back : Mark → Option ℕ
mark_back k = cond k.is_open (Some k.used) None

pub mark_back_of : (m : Option ℕ) → mark_back (mark_in m) ≡ m
mark_back_of None = refl
mark_back_of (Some used) = refl

-- `Batch::begun`: two marks of one view are equal.
pub mark_in_determined : (m k : Option ℕ) → mark_in m ≡ mark_in k → m ≡ k
mark_in_determined m k same = sym (mark_back_of m) ∙ ap mark_back same ∙ mark_back_of k

-- from the view of a state back to it
abbrev pub state_of : Work → Batch
state_of w = record { numbers = w.head.numbers; cursor = back w.cursor; mark = mark_back w.mark }

pub state_back : (b : Batch) (table : List AvlTree) → state_of (work_of b table) ≡ b
state_back b table =
    ap₂ (λ (k : CodeCursor) (m : Option ℕ). record { numbers = b.numbers; cursor = k; mark = m }) (back_of b.cursor) (mark_back_of b.mark)

-- `begun`, `seen`, `changed`, `refused`: two states that a promise allows, with one tree table beside both, are equal.
pub state_determined : (z : Work) (table : List AvlTree) (b c : Batch) → work_of b table ≡ z → work_of c table ≡ z → b ≡ c
state_determined z table b c first second = sym (state_back b table) ∙ ap state_of (first ∙ sym second) ∙ state_back c table

-- ---- refusals

-- the refusal of this number
abbrev pub refusal_of : ℕ → Refusal
refusal_of n =
    cond (eqb n 1) why.Damaged (
    cond (eqb n 2) why.BadBatch (
    cond (eqb n 3) why.BadOut (
    cond (eqb n 4) why.BadSize (
    cond (eqb n 10) why.BadOp (
    cond (eqb n 11) why.BadTree (
    cond (eqb n 12) why.BadCursor (
    cond (eqb n 13) why.BadName (
    cond (eqb n 14) why.BadSlot (
    cond (eqb n 15) why.Stale (
    cond (eqb n 16) why.OtherTree (
    cond (eqb n 17) why.Present (
    cond (eqb n 18) why.Order (
    cond (eqb n 19) why.None (
    cond (eqb n 20) why.NoSlot (
    cond (eqb n 21) why.NoText (
    cond (eqb n 22) why.NoStamp (
    cond (eqb n 23) why.NoMark (
    why.MarkOpen))))))))))))))))))

pub refusal_back : (a : Refusal) → refusal_of (number a) ≡ a
refusal_back why.Damaged = refl
refusal_back why.BadBatch = refl
refusal_back why.BadOut = refl
refusal_back why.BadSize = refl
refusal_back why.BadOp = refl
refusal_back why.BadTree = refl
refusal_back why.BadCursor = refl
refusal_back why.BadName = refl
refusal_back why.BadSlot = refl
refusal_back why.Stale = refl
refusal_back why.OtherTree = refl
refusal_back why.Present = refl
refusal_back why.Order = refl
refusal_back why.None = refl
refusal_back why.NoSlot = refl
refusal_back why.NoText = refl
refusal_back why.NoStamp = refl
refusal_back why.NoMark = refl
refusal_back why.MarkOpen = refl

-- Two refusals of one number are equal.
pub number_determined : (a b : Refusal) → number a ≡ number b → a ≡ b
number_determined a b same = sym (refusal_back a) ∙ ap refusal_of same ∙ refusal_back b

pub not_done : (a : Refusal) → eqb (number a) 0 ≡ false
not_done why.Damaged = refl
not_done why.BadBatch = refl
not_done why.BadOut = refl
not_done why.BadSize = refl
not_done why.BadOp = refl
not_done why.BadTree = refl
not_done why.BadCursor = refl
not_done why.BadName = refl
not_done why.BadSlot = refl
not_done why.Stale = refl
not_done why.OtherTree = refl
not_done why.Present = refl
not_done why.Order = refl
not_done why.None = refl
not_done why.NoSlot = refl
not_done why.NoText = refl
not_done why.NoStamp = refl
not_done why.NoMark = refl
not_done why.MarkOpen = refl

-- No refusal has the number of what is done.
pub number_not_done : (a : Refusal) → number a ≡ 0 → ⊥
number_not_done a done = never (ap (λ (n : ℕ). eqb n 0) done) (not_done a)

-- what is done, of the number 0, or else the refusal of the number
abbrev pub result_of : {T : Type 0} → T → ℕ → Result T Refusal
result_of passed n = cond (eqb n 0) (Ok passed) (Err (refusal_of n))

pub refused_back : {T : Type 0} (passed : T) (a : Refusal) → result_of passed (number a) ≡ Err a
refused_back passed a = simp (not_done a, refusal_back a)

-- ---- tests

passed_back : (r : Result (Unit {0}) Refusal) → result_of tt (tested r 0) ≡ r
passed_back (Ok tt) = refl
passed_back (Err a) = refused_back tt a

-- `room`, `named`: two results of a test, by the number of what is refused with 0 after it.
pub tested_at_0_determined : (r q : Result (Unit {0}) Refusal) → tested r 0 ≡ tested q 0 → r ≡ q
tested_at_0_determined r q same = sym (passed_back r) ∙ ap (result_of tt) same ∙ passed_back q

-- `on_tree`, `on_slot`, `handle`: whatever follows the test.
pub tested_determined : (r q : Result (Unit {0}) Refusal) → ((rest : ℕ) → tested r rest ≡ tested q rest) → r ≡ q
tested_determined r q same = tested_at_0_determined r q (same 0)

-- ---- what commands give

-- from the view of what a command shows back to it
abbrev sight_back : Sight → Result CodeSight Refused
sight_back s = cond (eqb s.code 0) (Ok (record { slot = s.slot; then = s.then })) (Err (record { why = refusal_of s.code; then = s.then }))

sight_back_of : (r : Result CodeSight Refused) → sight_back (sight_in r) ≡ r
sight_back_of (Ok s) = refl
sight_back_of (Err e) = simp (not_done e.why, refusal_back e.why)

-- `see` and the ops that show a record: two results of one view are equal.
pub sight_in_determined : (r q : Result CodeSight Refused) → sight_in r ≡ sight_in q → r ≡ q
sight_in_determined r q same = sym (sight_back_of r) ∙ ap sight_back same ∙ sight_back_of q

abbrev change_of : ℕ → Change
change_of n = cond (eqb n 1) Added Removed

change_back : (k : Change) → change_of (change_number k) ≡ k
change_back Added = refl
change_back Removed = refl

-- from the view of an addition or a removal back to it
abbrev step_back : Step → Result CodeStep Refused
step_back s =
    cond (eqb s.code 0)
    (Ok (record {
      key = s.key;
      stamp = s.stamp;
      start = s.start;
      tree = s.tree;
      slot = s.slot;
      free = s.free;
      len = s.len;
      change = change_of s.change;
      then = s.then;
    }))
    (Err (record { why = refusal_of s.code; then = s.then }))

step_back_of : (r : Result CodeStep Refused) → step_back (step_in r) ≡ r
step_back_of (Ok s) = simp (change_back s.change)
step_back_of (Err e) = simp (not_done e.why, refusal_back e.why)

-- `alter` and the ops that add or remove a record: two results of one view are equal.
pub step_in_determined : (r q : Result CodeStep Refused) → step_in r ≡ step_in q → r ≡ q
step_in_determined r q same = sym (step_back_of r) ∙ ap step_back same ∙ step_back_of q
