-- A model: what the code computes. No door's promise cites it, and it need not be believed.
-- The commands of a batch in turn, on the body, the answers and the state, with the journal of a mark. Assumes nothing.
use Rattle.std.specs.Prelude.{cond, List, ℕ, zero, suc, ◌+◌, eqb, set, replicate}
use Rattle.meaning.specs.Cursor.{kind, cursor_tree}
use Rattle.slots.specs.Change.{Image}
use Rattle.slots.specs.Answer.{put_answer_n}
use Rattle.slots.specs.declared.head.Head.{Head}
use Rattle.journal.specs.Journal.{no_entry, roll_back_n}
use Rattle.journal.specs.declared.Entry.{Entry}
use Rattle.journal.specs.declared.Noted.TheVariants.{Added, Removed}
use Rattle.cursor.specs.Tests.{command_n, aimed_n}
use Rattle.cursor.specs.Given.{Step, Mark}
use Rattle.cursor.specs.Work.{no_mark, Work, begun_n, noted, Did, step_rec}
use Rattle.cursor.specs.declared.command.Command.{Command}
use Rattle.ops.specs.Ops.{settled_n}
use Rattle.ops.specs.Perform.{settles, settle_n, Out, settled_of, at_op}
use Rattle.ops.specs.Given.{Settled}

-- ---- the journal

-- what a change by the command c leaves in it
abbrev pub entry_n : Command → Step → Entry
entry_n c s = record { slot = s.slot; change = cond (eqb s.change 1) Added (Removed (step_rec c s)) }

-- the same from what a command has done
abbrev pub entry_of : Did → Entry
entry_of d = record { slot = d.slot; change = cond (eqb d.change 1) Added (Removed d.rec) }

-- how many changes it has after a command, and the journal then: a change stands behind the n that are there
unfoldable pub count_n : ℕ → ℕ → ℕ
count_n n change = cond (eqb change 1) (n + 1) (cond (eqb change 2) (n + 1) (cond (eqb change 3) 0 n))

unfoldable pub noted_n : List Entry → ℕ → Did → List Entry
noted_n es n d = cond (noted d.change) (set es n (entry_of d)) es

-- an op that settles, with the rollback that it asks for: a new journal begins after that
unfoldable pub settle_all_n : List ℕ → Head → Mark → List Entry → ℕ → ℕ → List ℕ × Settled
settle_all_n m h k es n op =
    let r = settle_n m h k op in
    let back = roll_back_n n r.0 h k.used es in
    cond {A = List ℕ × Settled} (eqb r.1.change 4) (back.0, settled_n back.1 no_mark 0 3) r

-- at the end a mark that is open is rolled back
unfoldable pub end_n : List ℕ → Head → Mark → List Entry → ℕ → Image
end_n m h k es n = cond {A = Image} k.is_open (roll_back_n n m h k.used es) (m, h)

-- ---- the commands in turn

-- a command with what it asks of the journal
unfoldable pub turn_n : List ℕ → List ℕ → Work → List Entry → ℕ → Command → Out
turn_n m names w es n c =
    let r = settle_all_n m w.head w.mark es n c.op in
    let settled : Out = (r.0, settled_of r.1) in
    cond (settles c.op) settled (at_op m names w (aimed_n c (cursor_tree w.cursor)) c.op)

unfoldable pub answered_n : List ℕ → ℕ → Did → List ℕ
answered_n o k d = put_answer_n o k d.code (kind d.work.cursor) d.slot d.rec

-- the body, the answers and the head
abbrev pub Ran : Type 0
Ran = List ℕ × (List ℕ × Head)

-- so many commands of the batch b from command k on, with n changes in the journal es; o are the answers
unfoldable pub run_n : ℕ → List ℕ → List ℕ → List ℕ → List ℕ → Work → List Entry → ℕ → ℕ → Ran
run_n zero m b names o w es n k = let u = end_n m w.head w.mark es n in (u.0, (o, u.1))
run_n (suc f) m b names o w es n k =
    let r = turn_n m names w es n (command_n b k) in
    let d = r.1 in
    run_n f r.0 b names (answered_n o k d) d.work (noted_n es n d) (count_n n d.change) (k + 1)

-- the commands of a batch, from the head and the body of its pool
unfoldable pub ran_n : ℕ → List ℕ → List ℕ → List ℕ → List ℕ → Head → Ran
ran_n count m b names o h = run_n count m b names o (begun_n h no_mark) (replicate 256 no_entry) 0 0
