-- A model: what the code computes. No door's promise cites it, and it need not be believed.
-- One command by its op, on the body and the state: what shows a record, what adds or removes one, what settles a mark. Assumes nothing.
use Rattle.std.specs.Prelude.{Bool, cond, ◌||◌, List, ℕ, eqb}
use Rattle.avl.specs.Tree.{left, right}
use Rattle.tree.specs.declared.node.AvlTree.{AvlTree}
use Rattle.meaning.specs.Layout.{within}
use Rattle.meaning.specs.Cursor.{Cursor, cursor_tree}
use Rattle.meaning.specs.Command.{last_op}
use Rattle.slots.specs.Record.{no_record}
use Rattle.slots.specs.Head.{tree_n}
use Rattle.slots.specs.declared.head.Head.{Head}
use Rattle.slots.specs.declared.head.Numbers.{Numbers}
use Rattle.cursor.specs.Tests.{aimed_n}
use Rattle.cursor.specs.Work.{Work, begun_n, Did, sight_of, step_of}
use Rattle.cursor.specs.declared.command.Command.{Command}
use Rattle.cursor.specs.declared.cursor.Next.TheVariants.{Gone, Shown, Stood}
use Rattle.cursor.specs.Given.{Sight, Mark}
use Rattle.ops.specs.Ending.{look_n, refused_n, Changed}
use Rattle.ops.specs.Ops.{code_dir, get_n, beside_handle_n, first_n, entry_n, end_entry_n, peek_n, move_n, remove_by_key_n, remove_handle_n, remove_here_n, remove_beside_n, add_n, insert_beside_n, insert_node_n, insert_end_n, settled_n, mark_n, rollback_n, commit_n, reset_n}
use Rattle.ops.specs.Given.{Settled}

-- the ops that add or remove a record, and those that settle a mark or reset
unfoldable pub alters : ℕ → Bool
alters op = eqb op 1 || (eqb op 3 || (eqb op 4 || within 16 25 op))

unfoldable pub settles : ℕ → Bool
settles op = within 26 last_op op

-- an op that shows a record
unfoldable pub see_n : List ℕ → Numbers → Cursor → AvlTree → Command → ℕ → Sight
see_n m n k u c op =
    cond (eqb op 2) (get_n m n u c) (
    cond (eqb op 5) (beside_handle_n m n c right) (
    cond (eqb op 6) (beside_handle_n m n c left) (
    cond (eqb op 7) (first_n m n u c left) (
    cond (eqb op 8) (first_n m n u c right) (
    cond (eqb op 9) (entry_n m n u c) (
    cond (eqb op 10) (end_entry_n m n u c (code_dir left)) (
    cond (eqb op 11) (end_entry_n m n u c (code_dir right)) (
    cond (eqb op 12) (peek_n m k right) (
    cond (eqb op 13) (peek_n m k left) (
    cond (eqb op 14) (move_n m k right) (
    cond (eqb op 15) (move_n m k left) (look_n 10 0 Gone))))))))))))

-- an op that adds or removes one
unfoldable pub alter_n : List ℕ → List ℕ → Numbers → Cursor → AvlTree → Command → ℕ → Changed
alter_n m names n k u c op =
    let unknown : Changed = (m, refused_n 10 Gone) in
    cond (eqb op 1) (add_n m names n u c) (
    cond (eqb op 3) (remove_by_key_n m n u c) (
    cond (eqb op 4) (remove_handle_n m n u c) (
    cond (eqb op 16) (insert_beside_n m names n k u c left Stood) (
    cond (eqb op 17) (insert_beside_n m names n k u c right Stood) (
    cond (eqb op 18) (insert_beside_n m names n k u c left Shown) (
    cond (eqb op 19) (insert_beside_n m names n k u c right Shown) (
    cond (eqb op 20) (insert_node_n m names n k u c) (
    cond (eqb op 21) (remove_here_n m n k u) (
    cond (eqb op 22) (remove_beside_n m n k u left) (
    cond (eqb op 23) (remove_beside_n m n k u right) (
    cond (eqb op 24) (insert_end_n m names n k u c (code_dir right)) (
    cond (eqb op 25) (insert_end_n m names n k u c (code_dir left)) unknown))))))))))))

-- an op that settles a mark, or reset
unfoldable pub settle_n : List ℕ → Head → Mark → ℕ → List ℕ × Settled
settle_n m h k op =
    let unknown : List ℕ × Settled = (m, settled_n h k 10 0) in
    let on : Settled → List ℕ × Settled = λ s. (m, s) in
    cond (eqb op 26) (on (mark_n h k)) (
    cond (eqb op 27) (on (rollback_n h k)) (
    cond (eqb op 28) (on (commit_n h k)) (
    cond (eqb op 29) (reset_n m h k) unknown)))

-- ---- one command

-- the body after a command, and what it has done
abbrev pub Out : Type 0
Out = List ℕ × Did

-- a command that settles a mark or resets: no record, no cursor
abbrev pub settled_of : Settled → Did
settled_of s = record { work = begun_n s.head s.mark; code = s.code; slot = 0; rec = no_record; change = s.change }

module _ (m names : List ℕ) (w : Work) (c : Command) where
  abbrev tree : AvlTree
  tree = tree_n w.head.table c.tree

  -- the command, which is on its tree, at its op's number
  unfoldable pub at_op : ℕ → Out
  at_op op =
      let a = alter_n m names w.head.numbers w.cursor tree c op in
      let b = settle_n m w.head w.mark op in
      let altered : Out = (a.0, step_of w c a.1) in
      let settled : Out = (b.0, settled_of b.1) in
      let seen : Out = (m, sight_of m w c (see_n m w.head.numbers w.cursor tree c op)) in
      cond (alters op) altered (cond (settles op) settled seen)

-- a command of a batch
unfoldable pub perform_n : List ℕ → List ℕ → Work → Command → Out
perform_n m names w c = at_op m names w (aimed_n c (cursor_tree w.cursor)) c.op
