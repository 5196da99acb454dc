-- A model: what the code computes. No door's promise cites it, and it need not be believed.
-- What a batch carries from one command to the next, and that state after a command. Assumes nothing.
use Rattle.std.specs.Prelude.{Bool, false, cond, List, ℕ, eqb}
use Rattle.tree.specs.Insert.{more_n}
use Rattle.tree.specs.Remove.{less_n}
use Rattle.tree.specs.declared.node.AvlTree.{AvlTree}
use Rattle.meaning.specs.Layout.{within}
use Rattle.meaning.specs.Cursor.{Cursor, nowhere}
use Rattle.slots.specs.Record.{record_n}
use Rattle.slots.specs.Head.{with_numbers, set_tree_n}
use Rattle.slots.specs.Change.{plus_n, rise_n}
use Rattle.slots.specs.declared.head.Head.{Head}
use Rattle.slots.specs.declared.head.Numbers.{Numbers}
use Rattle.slots.specs.declared.record.Record.{Record}
use Rattle.cursor.specs.Cursor.{cursor_of, after_n}
use Rattle.cursor.specs.Given.{Mark, mark_in, Sight, Step}
use Rattle.cursor.specs.declared.command.Command.{Command}
use Rattle.cursor.specs.declared.state.Batch.{Batch}

-- ---- the state

abbrev pub no_mark : Mark
no_mark = record { used = 0; is_open = false }

-- the head, the cursor, and the mark: whether one is open, and text used when it was opened
pub record Work : Type 0 where
  pub head : Head
  pub cursor : Cursor
  pub mark : Mark

-- what the code's state and the tree table beside it stand for
abbrev pub head_of : Batch → List AvlTree → Head
head_of b ts = record { numbers = b.numbers; table = ts }

abbrev pub work_of : Batch → List AvlTree → Work
work_of b ts = record { head = head_of b ts; cursor = cursor_of b.cursor; mark = mark_in b.mark }

unfoldable pub begun_n : Head → Mark → Work
begun_n h k = record { head = h; cursor = nowhere; mark = k }

-- ---- the state after a command

abbrev pub placed : Work → Cursor → Work
placed w k = record { head = w.head; cursor = k; mark = w.mark }

-- after one that showed a record
abbrev pub seen_n : Work → Command → Sight → Work
seen_n w c s = placed w (after_n w.cursor c s.then s.slot)

-- whether a record was added or removed
unfoldable pub noted : ℕ → Bool
noted change = within 1 2 change

-- the numbers after an addition, a removal or a refusal
unfoldable pub numbers_after : Numbers → Step → Numbers
numbers_after n s =
    let added = with_numbers n (more_n n.live) s.free (plus_n n.used s.len) (rise_n n.next) in
    let removed = with_numbers n (less_n n.live) s.free n.used n.next in
    cond (eqb s.change 1) added (cond (eqb s.change 2) removed n)

-- the table after it
unfoldable pub table_after : List AvlTree → Command → Step → List AvlTree
table_after ts c s = cond (noted s.change) (set_tree_n ts c.tree s.tree) ts

abbrev pub stepped : Work → Command → Step → Work
stepped w c s =
    record {
      head = record { numbers = numbers_after w.head.numbers s; table = table_after w.head.table c s };
      cursor = after_n w.cursor c s.then s.slot;
      mark = w.mark;
    }

-- ---- what a command has done

-- the state after it; code, slot and record of its answer; what is to be journalled: 0 nothing, 1 the record was added, 2 it was removed, 3 a
-- new journal begins, 4 the changes in the journal are to be undone
pub record Did : Type 0 where
  pub work : Work
  pub code : ℕ
  pub slot : ℕ
  pub rec : Record
  pub change : ℕ

-- a command that shows the record of a slot
abbrev pub sight_of : List ℕ → Work → Command → Sight → Did
sight_of m w c s = record { work = seen_n w c s; code = s.code; slot = s.slot; rec = record_n m s.slot; change = 0 }

-- the record that a step of the command c is about; none where it is refused
abbrev pub step_rec : Command → Step → Record
step_rec c s = record { key = s.key; stamp = s.stamp; start = s.start; len = s.len; tree = cond (noted s.change) c.tree 0 }

-- a command that adds or removes a record
abbrev pub step_of : Work → Command → Step → Did
step_of w c s = record { work = stepped w c s; code = s.code; slot = s.slot; rec = step_rec c s; change = s.change }
