-- A model: what the code computes. No door's promise cites it, and it need not be believed.
-- A command as it stands in a batch, and the tests that commands share, on the body and the head's numbers. Assumes nothing.
use Rattle.std.specs.Prelude.{Bool, true, cond, not, ◌&&◌, List, ℕ, ◌+◌, ◌*◌, eqb, ltb, leb, length}
use Rattle.fields.specs.Number.{get_le}
use Rattle.avl.specs.Tree.{Dir, left, right, flip}
use Rattle.tree.specs.Node.{key_n}
use Rattle.meaning.specs.Layout.{within}
use Rattle.slots.specs.declared.head.Numbers.{Numbers}
use Rattle.slots.specs.declared.record.Record.{Record}
use Rattle.cursor.specs.declared.command.Command.{Command}

-- command k of the batch w
unfoldable pub command_n : List ℕ → ℕ → Command
command_n w k =
    let at = 16 + 24 * k in
    record {
      key = get_le 8 w (at + 8);
      stamp = get_le 4 w (at + 4);
      at = get_le 4 w (at + 16);
      len = get_le 2 w (at + 20);
      slot = get_le 2 w (at + 2);
      op = get_le 1 w at;
      tree = get_le 1 w (at + 1);
    }

-- a command on the tree that it works on: its own up to op 11, then the cursor's, t
unfoldable pub aimed_n : Command → ℕ → Command
aimed_n c t =
    record {
      key = c.key;
      stamp = c.stamp;
      at = c.at;
      len = c.len;
      slot = c.slot;
      op = c.op;
      tree = cond (ltb 11 c.op) t c.tree;
    }

-- BAD_TREE, or what follows; BAD_SLOT, or what follows
unfoldable pub tree_test : Numbers → Command → ℕ → ℕ
tree_test n c rest = cond (not (within 1 n.trees c.tree)) 11 rest

unfoldable pub slot_test : Numbers → Command → ℕ → ℕ
slot_test n c rest = cond (not (within 1 n.slots c.slot)) 14 rest

-- STALE, OTHER_TREE, or what follows
unfoldable pub handle_n : Record → Command → ℕ → ℕ
handle_n v c rest =
    cond (eqb v.tree 0) 15 (cond (not (eqb v.stamp c.stamp)) 15 (cond (not (eqb v.tree c.tree)) 16 rest))

-- NO_SLOT, NO_TEXT, NO_STAMP
unfoldable pub room_n : Numbers → ℕ → ℕ
room_n n len = cond (eqb n.free 0) 20 (cond (ltb n.size (n.used + len)) 21 (cond (eqb n.next 4_294_967_295) 22 0))

-- a name of 1 to 255 bytes within the names
unfoldable pub named_n : List ℕ → ℕ → ℕ → Bool
named_n names at len = within 1 255 len && leb (at + len) (length names)

-- the key lies strictly on side d of the record x, if there is one
unfoldable pub past_n : List ℕ → Dir → ℕ → ℕ → Bool
past_n m left x key = cond (eqb x 0) true (ltb key (key_n m x))
past_n m right x key = cond (eqb x 0) true (ltb (key_n m x) key)

-- strictly between the record x and the record y on side d of it
unfoldable pub between_n : List ℕ → Dir → ℕ → ℕ → ℕ → Bool
between_n m d x y key = past_n m d x key && past_n m (flip d) y key
