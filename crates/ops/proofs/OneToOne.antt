-- Determinism where a promise speaks of an op by its number, or of what a command that settles a mark has done by the view `settled_in`: two results
-- that such a promise allows are equal. Assumes nothing.
use Rattle.std.specs.Prelude.{eqb, Option, Result, Ok, Err}
use Rattle.std.proofs.Common.{◌≡◌, ℕ, true, cond, sym, refl, ap, ◌∙◌, ap₂}
use Rattle.format.specs.declared.refusal.Refusal.{Refusal}
use Rattle.tree.specs.declared.dir.Dir.TheVariants.{Left, Right}
use Rattle.meaning.specs.Layout.{within}
use Rattle.meaning.specs.Command.{last_op}
use Rattle.meaning.proofs.Tables.{never}
use Rattle.slots.specs.declared.head.Head.{Head}
use Rattle.cursor.specs.Given.{Mark}
use Rattle.cursor.proofs.OneToOne.{mark_back, mark_back_of, result_of, refused_back}
use Rattle.ops.specs.Given.{Settled, ask_number, settled_in}
use Rattle.ops.specs.Op.{op_number, Parses}
use Rattle.ops.specs.declared.mark.Ask.{Ask}
use Rattle.ops.specs.declared.mark.Ask.TheVariants.{Nothing, Begin, Undo}
use Rattle.ops.specs.declared.mark.Settled.{Settled as CodeSettled}
use Rattle.ops.specs.declared.op.Alter.TheVariants as altering
use Rattle.ops.specs.declared.op.Op.{Op}
use Rattle.ops.specs.declared.op.Op.TheVariants as kind
use Rattle.ops.specs.declared.op.Settle.TheVariants as settling
use Rattle.ops.specs.declared.op.Show.TheVariants as showing

-- ---- what is settled

abbrev ask_of : ℕ → Ask
ask_of n = cond (eqb n 0) Nothing (cond (eqb n 3) Begin Undo)

ask_back : (a : Ask) → ask_of (ask_number a) ≡ a
ask_back Nothing = refl
ask_back Begin = refl
ask_back Undo = refl

-- from the view of what is settled back to it
abbrev settled_back : Settled → Result CodeSettled Refusal
settled_back s = result_of (record { head = s.head; mark = mark_back s.mark; ask = ask_of s.change }) s.code

settled_back_of : (h : Head) (k : Mark) (r : Result CodeSettled Refusal) → settled_back (settled_in h k r) ≡ r
settled_back_of h k (Ok s) = ap₂ (λ (m : Option ℕ) (a : Ask). Ok (record { head = s.head; mark = m; ask = a })) (mark_back_of s.mark) (ask_back s.ask)
settled_back_of h k (Err why) = refused_back (record { head = h; mark = mark_back k; ask = Nothing }) why

-- `settle`, `mark`, `rollback`, `commit`, `reset`: two results of one view, with one head and mark before both, are equal.
pub settled_in_determined : (h : Head) (k : Mark) (r q : Result CodeSettled Refusal) → settled_in h k r ≡ settled_in h k q → r ≡ q
settled_in_determined h k r q same = sym (settled_back_of h k r) ∙ ap settled_back same ∙ settled_back_of h k q

-- ---- ops

-- the op of this number
abbrev op_of : ℕ → Op
op_of n =
    cond (eqb n 1) (kind.Alter altering.Add) (
    cond (eqb n 2) (kind.Show showing.Get) (
    cond (eqb n 3) (kind.Alter altering.RemoveByKey) (
    cond (eqb n 4) (kind.Alter altering.Remove) (
    cond (eqb n 5) (kind.Show (showing.Beside Right)) (
    cond (eqb n 6) (kind.Show (showing.Beside Left)) (
    cond (eqb n 7) (kind.Show (showing.End Left)) (
    cond (eqb n 8) (kind.Show (showing.End Right)) (
    cond (eqb n 9) (kind.Show showing.Entry) (
    cond (eqb n 10) (kind.Show (showing.EndEntry Left)) (
    cond (eqb n 11) (kind.Show (showing.EndEntry Right)) (
    cond (eqb n 12) (kind.Show (showing.Peek Right)) (
    cond (eqb n 13) (kind.Show (showing.Peek Left)) (
    cond (eqb n 14) (kind.Show (showing.Move Right)) (
    cond (eqb n 15) (kind.Show (showing.Move Left)) (
    cond (eqb n 16) (kind.Alter (altering.InsertBeside Left)) (
    cond (eqb n 17) (kind.Alter (altering.InsertBeside Right)) (
    cond (eqb n 18) (kind.Alter (altering.InsertAndMove Left)) (
    cond (eqb n 19) (kind.Alter (altering.InsertAndMove Right)) (
    cond (eqb n 20) (kind.Alter altering.InsertNode) (
    cond (eqb n 21) (kind.Alter altering.RemoveHere) (
    cond (eqb n 22) (kind.Alter (altering.RemoveBeside Left)) (
    cond (eqb n 23) (kind.Alter (altering.RemoveBeside Right)) (
    cond (eqb n 24) (kind.Alter (altering.InsertEnd Right)) (
    cond (eqb n 25) (kind.Alter (altering.InsertEnd Left)) (
    cond (eqb n 26) (kind.Settle settling.Mark) (
    cond (eqb n 27) (kind.Settle settling.Rollback) (
    cond (eqb n 28) (kind.Settle settling.Commit) (
    (kind.Settle settling.Reset)))))))))))))))))))))))))))))

-- the number of an op gives it back, and is in their range
op_back : (op : Op) → (op_of (op_number op) ≡ op) × (within 1 last_op (op_number op) ≡ true)
unfolding within
op_back (kind.Alter altering.Add) = (refl, refl)
op_back (kind.Show showing.Get) = (refl, refl)
op_back (kind.Alter altering.RemoveByKey) = (refl, refl)
op_back (kind.Alter altering.Remove) = (refl, refl)
op_back (kind.Show (showing.Beside Right)) = (refl, refl)
op_back (kind.Show (showing.Beside Left)) = (refl, refl)
op_back (kind.Show (showing.End Left)) = (refl, refl)
op_back (kind.Show (showing.End Right)) = (refl, refl)
op_back (kind.Show showing.Entry) = (refl, refl)
op_back (kind.Show (showing.EndEntry Left)) = (refl, refl)
op_back (kind.Show (showing.EndEntry Right)) = (refl, refl)
op_back (kind.Show (showing.Peek Right)) = (refl, refl)
op_back (kind.Show (showing.Peek Left)) = (refl, refl)
op_back (kind.Show (showing.Move Right)) = (refl, refl)
op_back (kind.Show (showing.Move Left)) = (refl, refl)
op_back (kind.Alter (altering.InsertBeside Left)) = (refl, refl)
op_back (kind.Alter (altering.InsertBeside Right)) = (refl, refl)
op_back (kind.Alter (altering.InsertAndMove Left)) = (refl, refl)
op_back (kind.Alter (altering.InsertAndMove Right)) = (refl, refl)
op_back (kind.Alter altering.InsertNode) = (refl, refl)
op_back (kind.Alter altering.RemoveHere) = (refl, refl)
op_back (kind.Alter (altering.RemoveBeside Left)) = (refl, refl)
op_back (kind.Alter (altering.RemoveBeside Right)) = (refl, refl)
op_back (kind.Alter (altering.InsertEnd Right)) = (refl, refl)
op_back (kind.Alter (altering.InsertEnd Left)) = (refl, refl)
op_back (kind.Settle settling.Mark) = (refl, refl)
op_back (kind.Settle settling.Rollback) = (refl, refl)
op_back (kind.Settle settling.Commit) = (refl, refl)
op_back (kind.Settle settling.Reset) = (refl, refl)

-- Two ops of one number are equal.
pub op_determined : (a b : Op) → op_number a ≡ op_number b → a ≡ b
op_determined a b same = sym (op_back a).0 ∙ ap op_of same ∙ (op_back b).0

-- `Op::try_from`: two results that its promise allows for one number are equal.
pub parses_determined : (n : ℕ) (r q : Result Op Refusal) → Parses n r → Parses n q → r ≡ q
parses_determined n (Ok a) (Ok b) first second = ap (λ (op : Op). Ok op) (op_determined a b (first ∙ sym second))
parses_determined n (Ok a) (Err why) first second = never ((op_back a).1) (ap (within 1 last_op) first ∙ second.1)
parses_determined n (Err why) (Ok b) first second = never ((op_back b).1) (ap (within 1 last_op) second ∙ first.1)
parses_determined n (Err why) (Err other) first second = ap (λ (a : Refusal). Err a) (first.0 ∙ sym second.0)
