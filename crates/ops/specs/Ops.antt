-- A model: what the code computes. No door's promise cites it, and it need not be believed.
-- The commands op by op, on the body, the head's numbers, the cursor and the command's tree u: which record, the first test that is met, and how
-- the command ends. Assumes nothing.
use Rattle.std.specs.Prelude.{Bool, true, cond, not, List, ℕ, eqb}
use Rattle.avl.specs.Tree.{Dir, left, right}
use Rattle.tree.specs.Node.{way}
use Rattle.tree.specs.Walk.{bottom_n, walk_n}
use Rattle.tree.specs.Search.{Ending, seek_n}
use Rattle.tree.specs.Insert as insertion
use Rattle.tree.specs.declared.dir.Dir.{Dir as CodeDir}
use Rattle.tree.specs.declared.dir.Dir.TheVariants.{Left, Right}
use Rattle.tree.specs.declared.node.AvlTree.{AvlTree}
use Rattle.meaning.specs.Cursor.{Cursor, kind, standing, entry_key}
use Rattle.meaning.specs.Command.{is_other}
use Rattle.slots.specs.Record.{record_n}
use Rattle.slots.specs.Change.{emptied_n}
use Rattle.slots.specs.declared.head.Head.{Head}
use Rattle.slots.specs.declared.head.Numbers.{Numbers}
use Rattle.cursor.specs.Cursor.{beside_n, hung_n}
use Rattle.cursor.specs.Tests.{tree_test, slot_test, handle_n, room_n, named_n, between_n}
use Rattle.cursor.specs.Work.{no_mark}
use Rattle.cursor.specs.declared.command.Command.{Command}
use Rattle.cursor.specs.declared.cursor.Next.{Next}
use Rattle.cursor.specs.declared.cursor.Next.TheVariants.{Gone, Kept, Shown, Stood, End, Below}
use Rattle.cursor.specs.Given.{Sight, Mark}
use Rattle.ops.specs.Ending.{either_n, look_n, Changed, take_out_n, add_new_n}
use Rattle.ops.specs.Given.{Settled}

-- ---- the records meant, and the tests

-- where the search for the command's key ends
unfoldable pub sought_n : List ℕ → AvlTree → Command → Ending
sought_n m u c = seek_n 14 m c.key u.root 0 right 0

-- the record at the end of the tree on side d
unfoldable pub end_n : List ℕ → AvlTree → Dir → ℕ
end_n m u d = bottom_n 14 m u.root d

-- NONE, where there is no record
abbrev pub none_n : ℕ → ℕ
none_n x = cond (eqb x 0) 19 0

-- of a handle, then what follows
unfoldable pub handle_tests_n : List ℕ → Numbers → Command → ℕ → ℕ
handle_tests_n m n c rest = tree_test n c (slot_test n c (handle_n (record_n m c.slot) c rest))

-- BAD_NAME, then the op's own test with its number, then the tests of room
unfoldable pub name_test : List ℕ → Numbers → Command → ℕ → Bool → ℕ
name_test names n c number own = cond (not (named_n names c.at c.len)) 13 (cond own number (room_n n c.len))

-- refused with e the cursor is kept, unless e is this number
abbrev pub kept_unless : ℕ → ℕ → Next
kept_unless e losing = cond (eqb e losing) Gone Kept

-- ---- ops that show

unfoldable pub get_n : List ℕ → Numbers → AvlTree → Command → Sight
get_n m n u c = let x = (sought_n m u c).slot in look_n (tree_test n c (none_n x)) x Gone

unfoldable pub beside_handle_n : List ℕ → Numbers → Command → Dir → Sight
beside_handle_n m n c d = let x = walk_n 14 m c.slot d in look_n (handle_tests_n m n c (none_n x)) x Gone

unfoldable pub first_n : List ℕ → Numbers → AvlTree → Command → Dir → Sight
first_n m n u c d = let x = end_n m u d in look_n (tree_test n c (none_n x)) x Gone

unfoldable pub nearest_n : ℕ → ℕ → ℕ
nearest_n x p = cond (eqb x 0) p x

-- the code's side
abbrev pub code_dir : Dir → CodeDir
code_dir left = Left
code_dir right = Right

unfoldable pub entered_n : ℕ → Dir → Next
entered_n x d = cond (eqb x 0) (Below (code_dir d)) Shown

unfoldable pub entry_n : List ℕ → Numbers → AvlTree → Command → Sight
entry_n m n u c =
    let s = sought_n m u c in let e = tree_test n c 0 in
    look_n e (nearest_n s.slot s.above) (either_n e (entered_n s.slot s.side) Gone)

unfoldable pub end_entry_n : List ℕ → Numbers → AvlTree → Command → CodeDir → Sight
end_entry_n m n u c d =
    let x = end_n m u (way d) in let e = tree_test n c 0 in
    look_n e x (either_n e (End d) Gone)

-- BAD_CURSOR where there is none, then NONE
unfoldable pub cursor_test : Cursor → ℕ → ℕ
cursor_test k x = cond (eqb (kind k) 0) 12 (none_n x)

unfoldable pub peek_n : List ℕ → Cursor → Dir → Sight
peek_n m k d = let x = beside_n m d k in look_n (cursor_test k x) x Kept

unfoldable pub move_n : List ℕ → Cursor → Dir → Sight
move_n m k d =
    let x = beside_n m d k in let e = cursor_test k x in
    look_n e x (either_n e Shown (kept_unless e 19))

-- ---- ops that remove

unfoldable pub remove_by_key_n : List ℕ → Numbers → AvlTree → Command → Changed
remove_by_key_n m n u c = let x = (sought_n m u c).slot in take_out_n m n.free u x (tree_test n c (none_n x)) Gone

unfoldable pub remove_handle_n : List ℕ → Numbers → AvlTree → Command → Changed
remove_handle_n m n u c = take_out_n m n.free u c.slot (handle_tests_n m n c 0) Gone

unfoldable pub remove_here_n : List ℕ → Numbers → Cursor → AvlTree → Changed
remove_here_n m n k u =
    let x = standing k in let e : ℕ = cond (eqb x 0) 12 0 in
    take_out_n m n.free u x e (either_n e Gone Kept)

unfoldable pub remove_beside_n : List ℕ → Numbers → Cursor → AvlTree → Dir → Changed
remove_beside_n m n k u d =
    let x = beside_n m d k in let e : ℕ = cond (eqb (standing k) 0) 12 (none_n x) in
    take_out_n m n.free u x e (either_n e Stood Kept)

-- ---- ops that add

unfoldable pub add_n : List ℕ → List ℕ → Numbers → AvlTree → Command → Changed
add_n m names n u c =
    let s = sought_n m u c in
    add_new_n m names n u c (s.above, s.side) (tree_test n c (name_test names n c 17 (not (eqb s.slot 0)))) Gone

unfoldable pub insert_beside_n : List ℕ → List ℕ → Numbers → Cursor → AvlTree → Command → Dir → Next → Changed
insert_beside_n m names n k u c d done =
    let x = standing k in
    let e : ℕ = cond (eqb x 0) 12 (name_test names n c 18 (not (between_n m d x (beside_n m d k) c.key))) in
    add_new_n m names n u c (insertion.beside_n 14 m x d) e (either_n e done Kept)

unfoldable pub insert_node_n : List ℕ → List ℕ → Numbers → Cursor → AvlTree → Command → Changed
insert_node_n m names n k u c =
    let e : ℕ = cond (not (eqb (kind k) 2)) 12 (name_test names n c 18 (is_other c.key (entry_key k))) in
    add_new_n m names n u c (hung_n k) e (either_n e Shown Kept)

abbrev pub kind_at : Dir → ℕ
kind_at left = 3
kind_at right = 4

unfoldable pub insert_end_n : List ℕ → List ℕ → Numbers → Cursor → AvlTree → Command → CodeDir → Changed
insert_end_n m names n k u c d =
    let side = way d in let x = standing k in
    let e : ℕ = cond (not (eqb (kind k) (kind_at side))) 12 (name_test names n c 18 (not (between_n m side x 0 c.key))) in
    add_new_n m names n u c (insertion.beside_n 14 m x side) e (either_n e (End d) (kept_unless e 18))

-- ---- marks and reset

abbrev pub settled_n : Head → Mark → ℕ → ℕ → Settled
settled_n h k code change = record { head = h; mark = k; code = code; change = change }

unfoldable pub mark_n : Head → Mark → Settled
mark_n h k = cond k.is_open (settled_n h k 24 0) (settled_n h (record { used = h.numbers.used; is_open = true }) 0 3)

unfoldable pub rollback_n : Head → Mark → Settled
rollback_n h k = cond k.is_open (settled_n h k 0 4) (settled_n h k 23 0)

unfoldable pub commit_n : Head → Mark → Settled
commit_n h k = cond k.is_open (settled_n h no_mark 0 0) (settled_n h k 23 0)

unfoldable pub reset_n : List ℕ → Head → Mark → List ℕ × Settled
reset_n m h k =
    let o = emptied_n m h in
    let refused : List ℕ × Settled = (m, settled_n h k 24 0) in
    cond k.is_open refused (o.0, settled_n o.1 no_mark 0 0)
