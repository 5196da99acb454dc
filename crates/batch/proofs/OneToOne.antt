-- Determinism where a promise speaks of a door's result by its code, and of how many commands it answered, of a count by `told`, or of a session by
-- `left_in`: two results that such a promise allows are equal.
-- Assumes nothing.
use Rattle.std.specs.Prelude.{Option, Some, None, Result, Ok, Err}
use Rattle.std.proofs.Common.{◌≡◌, ℕ, arith, List, sym, refl, ap, ◌∙◌, ap₂}
use Rattle.format.specs.Refusal.{code}
use Rattle.format.specs.declared.refusal.Refusal.{Refusal}
use Rattle.judge.specs.Check.{told}
use Rattle.cursor.proofs.OneToOne.{state_of, state_back, result_of, refused_back}
use Rattle.cursor.specs.declared.state.Batch.{Batch}
use Rattle.batch.specs.Answered.{answered}
use Rattle.batch.specs.Turn.{Left, left_in}
use Rattle.batch.specs.declared.session.Session.{Session}

done_back : (r : Result (Unit {0}) Refusal) → result_of tt (code r) ≡ r
done_back (Ok tt) = refl
done_back (Err why) = refused_back tt why

-- `create`, `check`: two results of one code are equal.
pub code_determined : (r q : Result (Unit {0}) Refusal) → code r ≡ code q → r ≡ q
code_determined r q same = sym (done_back r) ∙ ap (result_of tt) same ∙ done_back q

answered_back : (r : Result ℕ Refusal) → result_of (answered r) (code r) ≡ r
answered_back (Ok count) = refl
answered_back (Err why) = refused_back 0 why

-- `batch`: two results of one code that answered as many commands are equal.
pub outcome_determined : (r q : Result ℕ Refusal) → code r ≡ code q → answered r ≡ answered q → r ≡ q
outcome_determined r q codes counts = sym (answered_back r) ∙ ap₂ result_of counts codes ∙ answered_back q

-- `check_tree` of `judge`, and the walk's steps: two counts of one view are equal.
pub told_determined : (r q : Option ℕ) → told r ≡ told q → r ≡ q
told_determined None None same = refl
told_determined None (Some n) same = absurd (omega (arith, same))
told_determined (Some n) None same = absurd (omega (arith, same))
told_determined (Some n) (Some k) same = ap (λ (i : ℕ). Some i) (omega (arith, same))

-- from what a command leaves back to the session
abbrev session_of : Left → Session
session_of z = record { batch = state_of z.0; table = z.0.head.table; journal = record { items = z.1.1 } }

session_back : (s : Session) (row : List ℕ) → session_of (left_in s row) ≡ s
session_back s row = ap (λ (b : Batch). record { batch = b; table = s.table; journal = s.journal }) (state_back s.batch s.table)

-- `Session::turn`: two sessions and two rows of one view are equal.
pub left_in_determined : (s t : Session) (row other : List ℕ) → left_in s row ≡ left_in t other → (s ≡ t) × (row ≡ other)
left_in_determined s t row other same = (sym (session_back s row) ∙ ap session_of same ∙ session_back t other, ap (λ (z : Left). z.1.0) same)
