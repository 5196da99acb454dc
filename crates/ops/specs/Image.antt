-- A model: the form in which the code holds what `meaning` and `avl` speak of. No door's promise cites it, and it need not be believed.
-- What a batch works on, read off a state of `meaning`, and what a command of the code stands for there. Assumes nothing.
use Rattle.std.specs.Prelude.{true, List, ℕ}
use Rattle.std.proofs.Math.Option.{Option, none, some}
use Rattle.fields.specs.Part.{part}
use Rattle.meaning.specs.Change.{Mark}
use Rattle.meaning.specs.Cursor.{Command, State}
use Rattle.slots.specs.Image.{head_of}
use Rattle.cursor.specs.Tests.{named_n}
use Rattle.cursor.specs.Work.{no_mark, Work}
use Rattle.cursor.specs.declared.command.Command.{Command as CodeCommand}
use Rattle.cursor.specs.Given.{Mark as CodeMark}

unfoldable pub mark_of : Option Mark → CodeMark
mark_of none = no_mark
mark_of (some m) = record { used = m.used; is_open = true }

unfoldable pub work_in : State → Work
work_in s = record { head = head_of s.pool; cursor = s.cursor; mark = mark_of s.mark }

-- a command with its name, a part of the names
unfoldable pub meant_by : List ℕ → CodeCommand → Command
meant_by names c =
    record {
      op = c.op;
      tree = c.tree;
      slot = c.slot;
      stamp = c.stamp;
      key = c.key;
      name = part names c.at c.len;
      named = named_n names c.at c.len;
    }
