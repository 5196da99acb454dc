-- When what a command has done on the body and the state is what `meaning` says of it. Assumes nothing.
use Rattle.std.proofs.Common.{◌≡◌, false, eqb, []}
use Rattle.std.proofs.Math.Option.{Option, none, some}
use Rattle.meaning.specs.Pool.{Rec}
use Rattle.meaning.specs.Change.{Mark, added, removed, noted}
use Rattle.meaning.specs.Cursor.{State, kind}
use Rattle.meaning.specs.Command.{Performed, answer}
use Rattle.slots.specs.Image.{body_of, record_of, shown_of}
use Rattle.cursor.specs.Work.{Did}
use Rattle.ops.specs.Perform.{Out}
use Rattle.ops.specs.Image.{work_in}

-- the mark after a command, by what the command says is to be journalled
pub data Marks (d : Did) : Option Mark → Option Mark → Type 0 where
  same : {k : Option Mark} → d.change ≡ 0 → Marks d k k
  shut : {k : Option Mark} → Marks d k none
  opens : {k : Option Mark} {m : Mark} → d.change ≡ 3 → m.changes ≡ [] → Marks d k (some m)
  adds : {k : Option Mark} → d.change ≡ 1 → Marks d k (noted (added d.slot) k)
  removes : {k : Option Mark} (r : Rec) → d.change ≡ 2 → d.rec ≡ record_of r → Marks d k (noted (removed d.slot r) k)

-- a command that has done what `meaning` says: the body and the state, the answer's fields, and the mark after it
pub record Agrees (s : State) (q : Performed) (o : Out) : Type 0 where
  pub body : o.0 ≡ body_of q.state.pool
  pub work : o.1.work ≡ work_in q.state
  pub shown : Option Rec
  pub rec_is : o.1.rec ≡ shown_of shown
  pub slot_none : shown ≡ none → o.1.slot ≡ 0
  pub answer_is : q.answer ≡ answer o.1.code (kind q.state.cursor) o.1.slot shown
  pub goes_on : eqb o.1.change 4 ≡ false
  pub marks : Marks o.1 s.mark q.state.mark
