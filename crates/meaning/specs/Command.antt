-- One command: the ops as one table, the refusals as one ordered table, and what a command answers and leaves. Assumes nothing.
use Rattle.std.specs.Prelude.{Bool, true, false, not, ◌&&◌, ◌||◌, cond, List, [], ◌∷◌, ℕ, zero, suc, ◌+◌, ltb, eqb, length}
use Rattle.std.proofs.Math.Option.{Option, none, some}
use Rattle.avl.specs.Tree.{Dir, left, right, flip}
use Rattle.meaning.specs.Layout.{answer_showing, answer_bare, within}
use Rattle.meaning.specs.Pool.{Rec, Pool, rec_at, key_at}
use Rattle.meaning.specs.Change.{Mark, added, removed, free_slot, add_rec, drop_rec, emptied, opening, noted, rolled_back}
use Rattle.meaning.specs.Cursor.{Command, Cursor, nowhere, State, kind, standing, entry_key, tree_of, Meant, no_record, with_key, of_handle, at_cursor, nearest, first_from, next_of_handle, next_of_cursor, Then, gone, kept, at_shown, where_it_stood, at_first, at_last, entered}

-- ---- what a command does with the record meant: the pool and the mark after it, and the record shown

pub record Done : Type 0 where
  pub pool : Pool
  pub mark : Option Mark
  pub shown : ℕ
  pub rec : Option Rec

abbrev pub Act : Type 0
Act = State → Command → ℕ → Done

unfoldable pub show : Act
show s c x = record { pool = s.pool; mark = s.mark; shown = x; rec = rec_at s.pool x }

-- the record is shown as it was
unfoldable pub taken_out : State → ℕ → Option Rec → Done
taken_out s x none = record { pool = s.pool; mark = s.mark; shown = 0; rec = none }
taken_out s x (some r) = record { pool = drop_rec x r s.pool; mark = noted (removed x r) s.mark; shown = x; rec = some r }

unfoldable pub take_out : Act
take_out s c x = taken_out s x (rec_at s.pool x)

unfoldable pub add_new : Act
add_new s c _ =
    let x = free_slot s.pool in let p = add_rec (tree_of s c) c.key c.name s.pool in
    record { pool = p; mark = noted (added x) s.mark; shown = x; rec = rec_at p x }

-- ops 26 to 29 show no record
unfoldable pub silent : Pool → Option Mark → Done
silent p m = record { pool = p; mark = m; shown = 0; rec = none }

unfoldable pub open_mark : Act
open_mark s c _ = silent s.pool (some (opening s.pool))

unfoldable pub roll_back : Act
roll_back s c _ = silent (rolled_back s.mark s.pool) none

unfoldable pub commit : Act
commit s c _ = silent s.pool none

unfoldable pub reset : Act
reset s c _ = silent (emptied s.pool) none

-- ---- the ops

pub record Op : Type 0 where
  pub number : ℕ
  pub means : Meant
  pub does : Act
  pub then : Then

infix 70 op◌means◌does◌then◌
unfoldable pub op◌means◌does◌then◌ : ℕ → Meant → Act → Then → Op
op n means m does a then t = record { number = n; means = m; does = a; then = t }

unfoldable pub ops : List Op
ops =
    op 1 means no_record does add_new then gone  -- add
    ∷ op 2 means with_key does show then gone  -- get
    ∷ op 3 means with_key does take_out then gone  -- remove_by_key
    ∷ op 4 means of_handle does take_out then gone  -- remove by handle
    ∷ op 5 means (next_of_handle right) does show then gone  -- next of a handle
    ∷ op 6 means (next_of_handle left) does show then gone  -- prev of a handle
    ∷ op 7 means (first_from left) does show then gone  -- first
    ∷ op 8 means (first_from right) does show then gone  -- last
    ∷ op 9 means nearest does show then entered  -- entry
    ∷ op 10 means (first_from left) does show then at_first  -- first_entry
    ∷ op 11 means (first_from right) does show then at_last  -- last_entry
    ∷ op 12 means (next_of_cursor right) does show then kept  -- peek_next
    ∷ op 13 means (next_of_cursor left) does show then kept  -- peek_prev
    ∷ op 14 means (next_of_cursor right) does show then at_shown  -- move_next
    ∷ op 15 means (next_of_cursor left) does show then at_shown  -- move_prev
    ∷ op 16 means no_record does add_new then where_it_stood  -- insert before
    ∷ op 17 means no_record does add_new then where_it_stood  -- insert after
    ∷ op 18 means no_record does add_new then at_shown  -- insert before, and move to it
    ∷ op 19 means no_record does add_new then at_shown  -- insert after, and move to it
    ∷ op 20 means no_record does add_new then at_shown  -- insert_node
    ∷ op 21 means at_cursor does take_out then gone  -- remove at the cursor
    ∷ op 22 means (next_of_cursor left) does take_out then where_it_stood  -- remove_prev
    ∷ op 23 means (next_of_cursor right) does take_out then where_it_stood  -- remove_next
    ∷ op 24 means no_record does add_new then at_last  -- append
    ∷ op 25 means no_record does add_new then at_first  -- prepend
    ∷ op 26 means no_record does open_mark then gone  -- mark
    ∷ op 27 means no_record does roll_back then gone  -- rollback
    ∷ op 28 means no_record does commit then gone  -- commit
    ∷ op 29 means no_record does reset then gone  -- reset
    ∷ []

-- the number of the last op: they are counted from 1
abbrev pub last_op : ℕ
last_op = 29

-- the op of a number; any for the others, which are refused
unfoldable pub op_in : List Op → ℕ → Op
op_in [] n = op n means no_record does show then gone
op_in (o ∷ os) n = let rest = op_in os n in cond (eqb o.number n) o rest

unfoldable pub op_of : Command → Op
op_of c = op_in ops c.op

unfoldable pub meant : Meant
meant s c = (op_of c).means s c

-- ---- the conditions under which a command is refused

abbrev pub Test : Type 0
Test = State → Command → Bool

unfoldable pub always : Test
always s c = true

unfoldable pub bad_tree : Test
bad_tree s c = not (within 1 (length s.pool.trees) c.tree)

unfoldable pub no_cursor : Test
no_cursor s c = eqb (kind s.cursor) 0

unfoldable pub not_at_record : Test
not_at_record s c = eqb (standing s.cursor) 0

unfoldable pub not_kind : ℕ → Test
not_kind n s c = not (eqb (kind s.cursor) n)

unfoldable pub is_open : Option Mark → Bool
is_open none = false
is_open (some m) = true

unfoldable pub marked : Test
marked s c = is_open s.mark

unfoldable pub unmarked : Test
unmarked s c = not (is_open s.mark)

unfoldable pub bad_name : Test
bad_name s c = not c.named

unfoldable pub bad_slot : Test
bad_slot s c = not (within 1 (length s.pool.slots) c.slot)

-- the slot is free, or the stamp another
unfoldable pub is_stale : ℕ → Option Rec → Bool
is_stale g none = true
is_stale g (some r) = not (eqb r.stamp g)

unfoldable pub stale : Test
stale s c = is_stale c.stamp (rec_at s.pool c.slot)

unfoldable pub is_elsewhere : ℕ → Option Rec → Bool
is_elsewhere t none = false
is_elsewhere t (some r) = not (eqb r.tree t)

unfoldable pub other_tree : Test
other_tree s c = is_elsewhere c.tree (rec_at s.pool c.slot)

unfoldable pub present : Test
present s c = not (eqb (with_key s c) 0)

-- key j lies beyond key k in the direction d
unfoldable pub key_beyond : Dir → ℕ → ℕ → Bool
key_beyond left k j = ltb j k
key_beyond right k j = ltb k j

-- the key k lies strictly on side d of the record x, if there is one
unfoldable pub past : Pool → Dir → ℕ → ℕ → Bool
past p d zero k = true
past p d (suc x) k = key_beyond d (key_at p (suc x)) k

-- the key is not strictly between the cursor's record and the record on side d of it, if any
unfoldable pub not_between : Dir → Test
not_between d s c = not (past s.pool d (standing s.cursor) c.key && past s.pool (flip d) (next_of_cursor d s c) c.key)

unfoldable pub is_other : ℕ → Option ℕ → Bool
is_other k none = true
is_other k (some j) = not (eqb j k)

unfoldable pub not_the_entrys : Test
not_the_entrys s c = is_other c.key (entry_key s.cursor)

unfoldable pub none_there : Test
none_there s c = eqb (meant s c) 0

unfoldable pub no_slot : Test
no_slot s c = eqb (free_slot s.pool) 0

unfoldable pub no_text : Test
no_text s c = ltb s.pool.size (length s.pool.text + length c.name)

unfoldable pub no_stamp : Test
no_stamp s c = eqb s.pool.next 4_294_967_295

-- ---- the refusals: docs/REFERENCE.md, section 8, in the order of its tests

-- the ops within these bounds
unfoldable pub among : List (ℕ × ℕ) → ℕ → Bool
among [] n = false
among (r ∷ rs) n = within r.0 r.1 n || among rs n

unfoldable pub unknown : ℕ → Bool
unknown n = not (within 1 last_op n)

unfoldable pub adding : ℕ → Bool
adding = among ((1, 1) ∷ (16, 20) ∷ (24, 25) ∷ [])

pub record Refusal : Type 0 where
  pub number : ℕ
  pub ops : ℕ → Bool
  pub given : Test

infix 70 refuse◌at◌if◌
unfoldable pub refuse◌at◌if◌ : ℕ → (ℕ → Bool) → Test → Refusal
refuse n at o if t = record { number = n; ops = o; given = t }

unfoldable pub refusals : List Refusal
refusals =
    refuse 10 at unknown if always  -- BAD_OP
    ∷ refuse 11 at (within 1 11) if bad_tree  -- BAD_TREE
    ∷ refuse 12 at (within 12 15) if no_cursor  -- BAD_CURSOR
    ∷ refuse 12 at (among ((16, 19) ∷ (21, 23) ∷ [])) if not_at_record
    ∷ refuse 12 at (eqb 20) if (not_kind 2)
    ∷ refuse 12 at (eqb 24) if (not_kind 4)
    ∷ refuse 12 at (eqb 25) if (not_kind 3)
    ∷ refuse 23 at (within 27 28) if unmarked  -- NO_MARK
    ∷ refuse 24 at (among ((26, 26) ∷ (29, 29) ∷ [])) if marked  -- MARK_OPEN
    ∷ refuse 13 at adding if bad_name  -- BAD_NAME
    ∷ refuse 14 at (within 4 6) if bad_slot  -- BAD_SLOT
    ∷ refuse 15 at (within 4 6) if stale  -- STALE
    ∷ refuse 16 at (within 4 6) if other_tree  -- OTHER_TREE
    ∷ refuse 17 at (eqb 1) if present  -- PRESENT
    ∷ refuse 18 at (among ((16, 16) ∷ (18, 18) ∷ (25, 25) ∷ [])) if (not_between left)  -- ORDER
    ∷ refuse 18 at (among ((17, 17) ∷ (19, 19) ∷ (24, 24) ∷ [])) if (not_between right)
    ∷ refuse 18 at (eqb 20) if not_the_entrys
    ∷ refuse 19 at (among ((2, 3) ∷ (5, 8) ∷ (12, 15) ∷ (22, 23) ∷ [])) if none_there  -- NONE
    ∷ refuse 20 at adding if no_slot  -- NO_SLOT
    ∷ refuse 21 at adding if no_text  -- NO_TEXT
    ∷ refuse 22 at adding if no_stamp  -- NO_STAMP
    ∷ []

-- the number of the first refusal that is given at op o, 0 for none
unfoldable pub first_of : List Refusal → ℕ → State → Command → ℕ
first_of [] o s c = 0
first_of (r ∷ rs) o s c = let rest = first_of rs o s c in cond (r.ops o && r.given s c) r.number rest

unfoldable pub refusal : State → Command → ℕ
refusal s c = first_of refusals c.op s c

-- the cursor after a refusal: ops 12 to 25 keep it, but a move that finds nothing, and an append or prepend refused for order, lose it
unfoldable pub after_refusal : ℕ → ℕ → Cursor → Cursor
after_refusal o e k = cond (within 12 25 o && not (within 14 15 o && eqb e 19 || within 24 25 o && eqb e 18)) k nowhere

-- ---- one command

-- code, cursor kind, and the record r in slot x, if one is shown
unfoldable pub answer : ℕ → ℕ → ℕ → Option Rec → List ℕ
answer code k x none = answer_bare code k
answer code k x (some r) = answer_showing code k x r.stamp r.key r.start r.len

pub record Performed : Type 0 where
  pub state : State
  pub answer : List ℕ

unfoldable pub refused : ℕ → State → Command → Performed
refused e s c =
    let k = after_refusal c.op e s.cursor in
    record { state = record { pool = s.pool; cursor = k; mark = s.mark }; answer = answer e (kind k) 0 none }

unfoldable pub carried_out : Op → State → Command → Performed
carried_out o s c =
    let d = o.does s c (o.means s c) in
    let k = o.then s c d.shown in
    record { state = record { pool = d.pool; cursor = k; mark = d.mark }; answer = answer 0 (kind k) d.shown d.rec }

unfoldable pub perform : State → Command → Performed
perform s c =
    let e = refusal s c in
    let done = carried_out (op_of c) s c in
    let not_done = refused e s c in
    cond (eqb e 0) done not_done

-- to unfold this is to unfold all of this file: for claims that compute
unfoldable pub opened : Unit {0}
unfolding show taken_out take_out add_new silent open_mark roll_back commit reset op◌means◌does◌then◌ ops op_in op_of meant always bad_tree no_cursor not_at_record not_kind is_open marked unmarked bad_name bad_slot is_stale stale is_elsewhere other_tree present key_beyond past not_between is_other not_the_entrys none_there no_slot no_text no_stamp among unknown adding refuse◌at◌if◌ refusals first_of refusal after_refusal answer refused carried_out perform
opened = tt
