-- A model: what the code computes. No door's promise cites it, and it need not be believed.
-- What the cases of the code's cursor stand for, the record and the place beside it by the links, and the next cursor. The cursor's cases are those
-- of `meaning`. Assumes nothing.
use Rattle.std.specs.Prelude.{List, ℕ}
use Rattle.avl.specs.Tree.{Dir, left, right, alike}
use Rattle.tree.specs.Node.{way}
use Rattle.tree.specs.Walk.{walk_n}
use Rattle.meaning.specs.Cursor.{Cursor, nowhere, occupied, vacant, first_entry, last_entry, standing}
use Rattle.cursor.specs.declared.command.Command.{Command}
use Rattle.cursor.specs.declared.cursor.Cursor.{Cursor as CodeCursor}
use Rattle.cursor.specs.declared.cursor.Cursor.TheVariants.{Nowhere, Occupied, Vacant, First, Last}
use Rattle.cursor.specs.declared.cursor.Next.{Next}
use Rattle.cursor.specs.declared.cursor.Next.TheVariants.{Gone, Kept, Shown, Stood, End, Below}

abbrev pub cursor_of : CodeCursor → Cursor
cursor_of Nowhere = nowhere
cursor_of (Occupied t x) = occupied t x
cursor_of (Vacant t x d k) = vacant t x (way d) k
cursor_of (First t x) = first_entry t x
cursor_of (Last t x) = last_entry t x

-- the record on side d of the cursor, by the links
unfoldable pub beside_n : List ℕ → Dir → Cursor → ℕ
beside_n m d nowhere = 0
beside_n m d (occupied t x) = walk_n 14 m x d
beside_n m d (vacant t x e k) = alike d e (walk_n 14 m x d) x
beside_n m d (first_entry t x) = walk_n 14 m x d
beside_n m d (last_entry t x) = walk_n 14 m x d

-- the place of a vacant entry
unfoldable pub hung_n : Cursor → ℕ × Dir
hung_n nowhere = (0, right)
hung_n (occupied t x) = (0, right)
hung_n (vacant t x d k) = (x, d)
hung_n (first_entry t x) = (0, right)
hung_n (last_entry t x) = (0, right)

-- the first entry of tree t on the left, the last on the right
abbrev pub end_at : Dir → ℕ → ℕ → Cursor
end_at left t x = first_entry t x
end_at right t x = last_entry t x

-- the next cursor: after the command c, which showed the record x
abbrev pub after_n : Cursor → Command → Next → ℕ → Cursor
after_n k c Gone x = nowhere
after_n k c Kept x = k
after_n k c Shown x = occupied c.tree x
after_n k c Stood x = occupied c.tree (standing k)
after_n k c (End d) x = end_at (way d) c.tree x
after_n k c (Below d) x = vacant c.tree x (way d) c.key
