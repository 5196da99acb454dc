-- A model: what the code computes. No door's promise cites it, and it need not be believed.
-- A command in its turn as the code has it: on the session, on the row of its answer, and with a journal that has its changes and nothing else. Assumes nothing.
use Rattle.std.specs.Prelude.{cond, List, [], ◌∷◌, ◌++◌, ℕ, eqb, length}
use Rattle.format.specs.Refusal.{number}
use Rattle.slots.specs.Record.{no_record}
use Rattle.slots.specs.Head.{tree_n}
use Rattle.journal.specs.declared.Entry.{Entry}
use Rattle.cursor.specs.Cursor.{after_n}
use Rattle.cursor.specs.Work.{Work, work_of, placed, noted, Did, sight_of, step_of}
use Rattle.cursor.specs.declared.command.Command.{Command}
use Rattle.cursor.specs.declared.result.Refused.{Refused}
use Rattle.ops.specs.Perform.{see_n, alter_n, Out, settled_of}
use Rattle.batch.specs.Run.{entry_of, settle_all_n, answered_n}
use Rattle.batch.specs.declared.session.Session.{Session}

-- what the session stands for
abbrev pub session_work : Session → Work
session_work s = work_of s.batch s.table

-- ---- what a command leaves

-- the journal after what asks for this of it, and after a command
abbrev pub begun_journal : List Entry → ℕ → List Entry
begun_journal es change = cond (eqb change 3) [] es

unfoldable pub journal_n : List Entry → Did → List Entry
journal_n es d = cond (noted d.change) (es ++ entry_of d ∷ []) (begun_journal es d.change)

-- the state, the row of the answer, and the journal
abbrev pub Left : Type 0
Left = Work × (List ℕ × List Entry)

abbrev pub left_in : Session → List ℕ → Left
left_in s row = (session_work s, (row, s.journal.items))

unfoldable pub left_n : Session → List ℕ → Did → Left
left_n s row d = (d.work, (answered_n row 0 d, journal_n s.journal.items d))

-- and the body
abbrev pub turned : Session → List ℕ → Out → List ℕ × Left
turned s row r = (r.0, left_n s row r.1)

-- ---- what a command has done, by its kind

abbrev pub refused_did : Work → Command → Refused → Did
refused_did w c r = record { work = placed w (after_n w.cursor c r.then 0); code = number r.why; slot = 0; rec = no_record; change = 0 }

abbrev pub seen_did : List ℕ → Work → Command → ℕ → Did
seen_did m w c op = sight_of m w c (see_n m w.head.numbers w.cursor (tree_n w.head.table c.tree) c op)

abbrev pub altered_out : List ℕ → List ℕ → Work → Command → ℕ → Out
altered_out m names w c op = let a = alter_n m names w.head.numbers w.cursor (tree_n w.head.table c.tree) c op in (a.0, step_of w c a.1)

abbrev pub settled_out : List ℕ → Work → List Entry → ℕ → Out
settled_out m w es op = let r = settle_all_n m w.head w.mark es (length es) op in (r.0, settled_of r.1)
