-- The numbers 10 to 24, the order in which they are tested, and the rules of "One cursor": one table of batches, one claim. Assumes nothing.
use Rattle.std.proofs.Common.{◌≡◌, ℕ, suc, ◌-◌, ◌*◌, Bool, true, eqb, List, [], ◌∷◌, ◌++◌, map, length, take, drop, replicate, refl}
use Rattle.std.proofs.Math.Option.{Option, none, some}
use Rattle.avl.specs.Tree.{left, list}
use Rattle.meaning.specs.Layout.{all, every, concat, span}
use Rattle.meaning.specs.Pool.{read, tree_at, key_at}
use Rattle.meaning.proofs.Lines
use Rattle.meaning.proofs.Lines.{Line, ◌⇒◌, op, ◌in_tree◌, ◌named◌long◌, add, adds, get, remove_by_key, remove_handle, next, prev, first, last, entry, first_entry, last_entry, peek_next, peek_prev, move_next, move_prev, insert_before, insert_after, insert_before_move, insert_after_move, insert_node, remove, remove_prev, remove_next, append, prepend, mark, rollback, commit, reset, refused◌kind◌, kind◌nothing, kind◌slot◌stamp◌key◌text◌long◌, kind◌slot◌stamp◌key◌text◌, replies, batch_of, letters, fresh, outcome, same}

-- ---- the words of the table

-- a pool to which these keys were added, in this order
held : ℕ → ℕ → ℕ → List ℕ → List ℕ
held N T X ks = (outcome (fresh N T X) (batch_of (adds ks) (letters (adds ks)))).pool

-- with 4,294,967,040 + b for its next stamp
late : ℕ → List ℕ → List ℕ
late b pool = take 28 pool ++ (b ∷ 255 ∷ 255 ∷ 255 ∷ drop 32 pool)

-- the keys of tree 1, in order
keys_of : List ℕ → List ℕ
keys_of b = let p = read b in map (key_at p) (list left (tree_at p 1))

-- record x of those held, if their keys are 10, 20, 30, ..
infix 70 kind◌shows◌
abbrev kind◌shows◌ : ℕ → ℕ → List ℕ
kind k shows x = kind k slot x stamp x key 10 * x text (x - 1)

-- ops by number, on tree t, with one answer
infix 71 from◌to◌
abbrev from◌to◌ : ℕ → ℕ → List ℕ
from a to b = span a (suc b - a)

infix 70 ops◌on_tree◌are◌
abbrev ops◌on_tree◌are◌ : List ℕ → ℕ → List ℕ → List Line
ops os on_tree t are r = map (λ o. op o in_tree t ⇒ r) os

-- the line runs at a first entry, and no cursor is left after it
abbrev dropping : Line → List Line
dropping l = first_entry ⇒ kind 3 shows 1 ∷ l ∷ peek_next ⇒ refused 12 kind 0 ∷ []

-- a pool, the lines of a batch, and the keys of tree 1 after it, or none if every byte of the pool is as before; the names of the batch are a
-- letter for each line and then 500 bytes
record Row : Type 0 where
  pool : List ℕ
  lines : List Line
  keys : Option (List ℕ)

infix 70 on◌run◌leave◌
abbrev on◌run◌leave◌ : List ℕ → List Line → List ℕ → Row
on b run ls leave ks = record { pool = b; lines = ls; keys = some ks }

infix 70 on◌run◌unchanged
abbrev on◌run◌unchanged : List ℕ → List Line → Row
on b run ls unchanged = record { pool = b; lines = ls; keys = none }

-- ops that add, each where it may and with a good key and name, all refused with one number; the cursor stays
abbrev adds_refused : ℕ → List Line
adds_refused e =
    add 40 ⇒ refused e kind 0 ∷ entry 20 ⇒ kind 1 shows 2 ∷ insert_before 15 ⇒ refused e kind 1 ∷ insert_after 25 ⇒ refused e kind 1
    ∷ insert_before_move 15 ⇒ refused e kind 1 ∷ insert_after_move 25 ⇒ refused e kind 1 ∷ entry 15 ⇒ kind 2 shows 1
    ∷ insert_node 15 ⇒ refused e kind 2 ∷ first_entry ⇒ kind 3 shows 1 ∷ prepend 5 ⇒ refused e kind 3 ∷ last_entry ⇒ kind 4 shows 3
    ∷ append 35 ⇒ refused e kind 4 ∷ []

-- ---- the numbers 10 to 24, in the order of their tests

numbers : List Row
numbers =
    -- 10 BAD_OP: op 0 and every op above 29, before BAD_TREE
    on held 2 1 8 (10 ∷ []) run op 0 ⇒ refused 10 kind 0 ∷ op 30 ⇒ refused 10 kind 0 ∷ op 255 ⇒ refused 10 kind 0 ∷ [] unchanged
    -- 11 BAD_TREE: ops 1 to 11 on tree 0 or above T, before BAD_NAME, BAD_SLOT and NONE
    ∷ on held 2 2 8 (10 ∷ [])
    run ops from 1 to 11 on_tree 0 are (refused 11 kind 0) ++ ops from 1 to 11 on_tree 3 are (refused 11 kind 0) unchanged
    -- 12 BAD_CURSOR, before BAD_NAME: no cursor
    ∷ on held 3 1 8 (10 ∷ 20 ∷ 30 ∷ []) run ops from 12 to 25 on_tree 1 are (refused 12 kind 0) unchanged
    -- 12 at kind 1: 20, 24, 25
    ∷ on held 3 1 8 (10 ∷ 20 ∷ 30 ∷ []) run entry 20 ⇒ kind 1 shows 2 ∷ ops 20 ∷ 24 ∷ 25 ∷ [] on_tree 1 are (refused 12 kind 1) unchanged
    -- 12 at kind 2: 16 to 19, 21 to 25
    ∷ on held 3 1 8 (10 ∷ 20 ∷ 30 ∷ [])
    run entry 15 ⇒ kind 2 shows 1 ∷ ops from 16 to 19 on_tree 1 are (refused 12 kind 2)
    ++ ops from 21 to 25 on_tree 1 are (refused 12 kind 2) unchanged
    -- 12 at kind 3: 20, 24; at kind 4: 20, 25
    ∷ on held 3 1 8 (10 ∷ 20 ∷ 30 ∷ [])
    run (first_entry ⇒ kind 3 shows 1 ∷ ops 20 ∷ 24 ∷ [] on_tree 1 are (refused 12 kind 3))
    ++ (last_entry ⇒ kind 4 shows 3 ∷ ops 20 ∷ 25 ∷ [] on_tree 1 are (refused 12 kind 4)) unchanged
    -- 12 on an empty tree: kinds 3 and 4 are at no record
    ∷ on fresh 2 1 8
    run (first_entry ⇒ kind 3 nothing ∷ ops from 16 to 24 on_tree 1 are (refused 12 kind 3))
    ++ (last_entry ⇒ kind 4 nothing ∷ ops from 16 to 23 on_tree 1 are (refused 12 kind 4)) unchanged
    -- 13 BAD_NAME, before PRESENT and ORDER: length 0, length 256, past the names; the sum of offset and length does not wrap
    ∷ on held 4 1 8 (10 ∷ 20 ∷ 30 ∷ [])
    run add 40 named 0 long 0 ⇒ refused 13 kind 0 ∷ add 40 named 0 long 256 ⇒ refused 13 kind 0 ∷ add 10 named 0 long 0 ⇒ refused 13 kind 0
    ∷ add 40 named 65_536 long 1 ⇒ refused 13 kind 0 ∷ add 40 named 4_294_967_295 long 1 ⇒ refused 13 kind 0
    ∷ add 40 named 4_294_967_295 long 0 ⇒ refused 13 kind 0
    ∷ entry 20 ⇒ kind 1 shows 2 ∷ ops from 16 to 19 on_tree 1 are (refused 13 kind 1)
    ++ (entry 15 ⇒ kind 2 shows 1 ∷ insert_node 16 named 0 long 256 ⇒ refused 13 kind 2 ∷ first_entry ⇒ kind 3 shows 1
    ∷ prepend 10 named 0 long 0 ⇒ refused 13 kind 3 ∷ last_entry ⇒ kind 4 shows 3 ∷ append 30 named 0 long 256 ⇒ refused 13 kind 4 ∷ [])
    unchanged
    -- 13 at the end of the names, which are 503 bytes here: 255 from 248 on fit, 255 from 249 on do not, nor does one from 503 on
    ∷ on held 2 1 256 (10 ∷ [])
    run add 20 named 249 long 255 ⇒ refused 13 kind 0 ∷ add 20 named 503 long 1 ⇒ refused 13 kind 0
    ∷ add 20 named 248 long 255 ⇒ kind 0 slot 2 stamp 2 key 20 text 1 long 255 ∷ []
    leave (10 ∷ 20 ∷ [])
    -- 14 BAD_SLOT for ops 4 to 6: slot 0 or above N. 15 STALE: a free slot, or another stamp, in another tree too. 16 OTHER_TREE, before NONE
    ∷ on held 3 2 8 (10 ∷ [])
    run add 20 in_tree 2 ⇒ kind 0 shows 2 ∷ remove_handle 0 1 ⇒ refused 14 kind 0 ∷ next 4 1 ⇒ refused 14 kind 0
    ∷ prev 257 1 ⇒ refused 14 kind 0 ∷ remove_handle 3 0 ⇒ refused 15 kind 0 ∷ next 3 3 ⇒ refused 15 kind 0 ∷ prev 1 2 ⇒ refused 15 kind 0
    ∷ next 1 65_537 ⇒ refused 15 kind 0 ∷ remove_handle 2 1 ⇒ refused 15 kind 0 ∷ remove_handle 2 2 ⇒ refused 16 kind 0 ∷ next 2 2 ⇒ refused 16 kind 0
    ∷ prev 1 1 in_tree 2 ⇒ refused 16 kind 0 ∷ []
    leave (10 ∷ [])
    -- 17 PRESENT, before NO_SLOT, NO_TEXT and NO_STAMP
    ∷ on late 255 (held 1 1 1 (10 ∷ [])) run add 10 ⇒ refused 17 kind 0 ∷ add 20 ⇒ refused 20 kind 0 ∷ [] unchanged
    -- 17 is of the tree: the same key may be in two
    ∷ on held 2 2 8 (10 ∷ []) run add 10 in_tree 2 ⇒ kind 0 slot 2 stamp 2 key 10 text 1 ∷ add 10 ⇒ refused 17 kind 0 ∷ [] leave (10 ∷ [])
    -- 18 ORDER, before NO_SLOT: 16 to 19 strictly between the cursor's record and the next on that side; the cursor stays
    ∷ on held 3 1 8 (10 ∷ 20 ∷ 30 ∷ [])
    run entry 20 ⇒ kind 1 shows 2 ∷ insert_before 20 ⇒ refused 18 kind 1 ∷ insert_before 10 ⇒ refused 18 kind 1 ∷ insert_before 9 ⇒ refused 18 kind 1
    ∷ insert_before 21 ⇒ refused 18 kind 1 ∷ insert_before 11 ⇒ refused 20 kind 1 ∷ insert_before 19 ⇒ refused 20 kind 1
    ∷ insert_before_move 20 ⇒ refused 18 kind 1 ∷ insert_before_move 10 ⇒ refused 18 kind 1 ∷ insert_before_move 19 ⇒ refused 20 kind 1
    ∷ insert_after 20 ⇒ refused 18 kind 1 ∷ insert_after 30 ⇒ refused 18 kind 1 ∷ insert_after 31 ⇒ refused 18 kind 1
    ∷ insert_after 19 ⇒ refused 18 kind 1 ∷ insert_after 29 ⇒ refused 20 kind 1 ∷ insert_after 21 ⇒ refused 20 kind 1
    ∷ insert_after_move 20 ⇒ refused 18 kind 1 ∷ insert_after_move 30 ⇒ refused 18 kind 1 ∷ insert_after_move 21 ⇒ refused 20 kind 1 ∷ []
    unchanged
    -- 18 at the ends: no record on that side; 20 asks for the entry's key; 24 and 25 lose the cursor
    ∷ on held 3 1 8 (10 ∷ 20 ∷ 30 ∷ [])
    run first_entry ⇒ kind 3 shows 1 ∷ insert_before 0 ⇒ refused 20 kind 3 ∷ insert_before 10 ⇒ refused 18 kind 3
    ∷ insert_after 20 ⇒ refused 18 kind 3 ∷ last_entry ⇒ kind 4 shows 3 ∷ insert_after_move 31 ⇒ refused 20 kind 4
    ∷ insert_before_move 30 ⇒ refused 18 kind 4 ∷ entry 15 ⇒ kind 2 shows 1 ∷ insert_node 16 ⇒ refused 18 kind 2
    ∷ insert_node 14 ⇒ refused 18 kind 2 ∷ insert_node 15 ⇒ refused 20 kind 2
    ∷ last_entry ⇒ kind 4 shows 3 ∷ append 31 ⇒ refused 20 kind 4 ∷ append 30 ⇒ refused 18 kind 0 ∷ append 31 ⇒ refused 12 kind 0
    ∷ first_entry ⇒ kind 3 shows 1 ∷ prepend 9 ⇒ refused 20 kind 3 ∷ prepend 10 ⇒ refused 18 kind 0 ∷ prepend 9 ⇒ refused 12 kind 0 ∷ []
    unchanged
    -- 18 at the least and the greatest key: no room on that side
    ∷ on held 4 1 8 (0 ∷ 18_446_744_073_709_551_615 ∷ [])
    run entry 0 ⇒ kind 1 slot 1 stamp 1 key 0 text 0 ∷ insert_before 0 ⇒ refused 18 kind 1 ∷ insert_before 1 ⇒ refused 18 kind 1
    ∷ last_entry ⇒ kind 4 slot 2 stamp 2 key 18_446_744_073_709_551_615 text 1 ∷ insert_after 18_446_744_073_709_551_615 ⇒ refused 18 kind 4
    ∷ insert_after 0 ⇒ refused 18 kind 4 ∷ append 18_446_744_073_709_551_615 ⇒ refused 18 kind 0 ∷ []
    unchanged
    -- 19 NONE in an empty tree
    ∷ on fresh 2 1 8 run ops 2 ∷ 3 ∷ 7 ∷ 8 ∷ [] on_tree 1 are (refused 19 kind 0) unchanged
    -- 19 for 2, 3: key not in the tree; 5, 6, 12 to 15, 22, 23: no record on that side
    ∷ on held 3 1 8 (10 ∷ 20 ∷ 30 ∷ [])
    run get 15 ⇒ refused 19 kind 0 ∷ remove_by_key 15 ⇒ refused 19 kind 0 ∷ next 3 3 ⇒ refused 19 kind 0 ∷ prev 1 1 ⇒ refused 19 kind 0
    ∷ last_entry ⇒ kind 4 shows 3 ∷ peek_next ⇒ refused 19 kind 4 ∷ remove_next ⇒ refused 19 kind 4 ∷ move_next ⇒ refused 19 kind 0
    ∷ first_entry ⇒ kind 3 shows 1 ∷ peek_prev ⇒ refused 19 kind 3 ∷ remove_prev ⇒ refused 19 kind 3 ∷ move_prev ⇒ refused 19 kind 0 ∷ []
    unchanged
    -- ops that read, done: nothing changes
    ∷ on held 3 1 8 (10 ∷ 20 ∷ 30 ∷ [])
    run get 20 ⇒ kind 0 shows 2 ∷ next 1 1 ⇒ kind 0 shows 2 ∷ prev 3 3 ⇒ kind 0 shows 2 ∷ first ⇒ kind 0 shows 1 ∷ last ⇒ kind 0 shows 3 ∷ []
    unchanged
    -- 20 NO_SLOT, before NO_TEXT and NO_STAMP; 21 NO_TEXT, before NO_STAMP; 22 NO_STAMP
    ∷ on late 255 (held 3 1 3 (10 ∷ 20 ∷ 30 ∷ [])) run adds_refused 20 unchanged
    ∷ on late 255 (held 4 1 3 (10 ∷ 20 ∷ 30 ∷ [])) run adds_refused 21 unchanged
    ∷ on late 255 (held 4 1 4 (10 ∷ 20 ∷ 30 ∷ [])) run adds_refused 22 unchanged
    -- 20 is of the pool: tree 2 is empty; a slot freed is taken, with a new stamp and new text
    ∷ on held 2 2 8 (10 ∷ 20 ∷ [])
    run add 5 in_tree 2 ⇒ refused 20 kind 0 ∷ remove_by_key 10 ⇒ kind 0 shows 1 ∷ add 30 ⇒ kind 0 slot 1 stamp 3 key 30 text 2
    ∷ add 40 ⇒ refused 20 kind 0 ∷ []
    leave (20 ∷ 30 ∷ [])
    -- 21 by the length of the name: one byte is used of 3; a removal leaves the text
    ∷ on held 2 1 3 (10 ∷ [])
    run add 20 named 0 long 3 ⇒ refused 21 kind 0 ∷ add 20 named 0 long 2 ⇒ kind 0 slot 2 stamp 2 key 20 text 1 long 2
    ∷ remove_by_key 10 ⇒ kind 0 shows 1 ∷ add 30 ⇒ refused 21 kind 0 ∷ []
    leave (20 ∷ [])
    -- 21 for every well-formed add if X is 0
    ∷ on fresh 2 1 0
    run add 10 ⇒ refused 21 kind 0 ∷ entry 10 ⇒ kind 2 nothing ∷ insert_node 10 ⇒ refused 21 kind 2 ∷ first_entry ⇒ kind 3 nothing
    ∷ prepend 10 ⇒ refused 21 kind 3 ∷ last_entry ⇒ kind 4 nothing ∷ append 10 ⇒ refused 21 kind 4 ∷ add 10 named 0 long 0 ⇒ refused 13 kind 0 ∷ []
    unchanged
    -- 22: the last stamp handed out is 4,294,967,294; removal, mark and rollback still work then
    ∷ on late 254 (held 4 1 8 (10 ∷ []))
    run add 20 ⇒ kind 0 slot 2 stamp 4_294_967_294 key 20 text 1 ∷ add 30 ⇒ refused 22 kind 0 ∷ mark ⇒ kind 0 nothing
    ∷ remove_by_key 10 ⇒ kind 0 shows 1 ∷ rollback ⇒ kind 0 nothing ∷ get 10 ⇒ kind 0 shows 1 ∷ add 30 ⇒ refused 22 kind 0 ∷ []
    leave (10 ∷ 20 ∷ [])
    -- 23 NO_MARK: none opened, one rolled back, one committed
    ∷ on held 2 1 8 (10 ∷ [])
    run rollback ⇒ refused 23 kind 0 ∷ commit ⇒ refused 23 kind 0 ∷ mark ⇒ kind 0 nothing ∷ rollback ⇒ kind 0 nothing ∷ rollback ⇒ refused 23 kind 0
    ∷ mark ⇒ kind 0 nothing ∷ commit ⇒ kind 0 nothing ∷ commit ⇒ refused 23 kind 0 ∷ []
    unchanged
    -- 24 MARK_OPEN: 26, 29; after the commit reset empties the trees and the text and keeps the next stamp
    ∷ on held 3 1 8 (10 ∷ 20 ∷ [])
    run mark ⇒ kind 0 nothing ∷ mark ⇒ refused 24 kind 0 ∷ reset ⇒ refused 24 kind 0 ∷ get 20 ⇒ kind 0 shows 2 ∷ commit ⇒ kind 0 nothing
    ∷ reset ⇒ kind 0 nothing ∷ next 1 1 ⇒ refused 15 kind 0 ∷ first ⇒ refused 19 kind 0 ∷ add 7 ⇒ kind 0 slot 1 stamp 3 key 7 text 0 ∷ []
    leave (7 ∷ [])
    ∷ []

-- ---- one cursor

cursors : List Row
cursors =
    -- ops 1 to 8 and 26 to 29 drop it when they are done
    on held 4 1 8 (10 ∷ 20 ∷ 30 ∷ [])
    run concat (dropping (add 40 ⇒ kind 0 slot 4 stamp 4 key 40 text 3) ∷ dropping (get 20 ⇒ kind 0 shows 2)
    ∷ dropping (remove_by_key 40 ⇒ kind 0 slot 4 stamp 4 key 40 text 3) ∷ dropping (remove_handle 3 3 ⇒ kind 0 shows 3)
    ∷ dropping (next 1 1 ⇒ kind 0 shows 2) ∷ dropping (prev 2 2 ⇒ kind 0 shows 1) ∷ dropping (first ⇒ kind 0 shows 1)
    ∷ dropping (last ⇒ kind 0 shows 2) ∷ dropping (mark ⇒ kind 0 nothing) ∷ dropping (rollback ⇒ kind 0 nothing)
    ∷ dropping (mark ⇒ kind 0 nothing) ∷ dropping (commit ⇒ kind 0 nothing) ∷ dropping (reset ⇒ kind 0 nothing) ∷ [])
    leave []
    -- and when they are refused; so do unknown ops, and 9 to 11
    ∷ on held 4 1 8 (10 ∷ 20 ∷ 30 ∷ [])
    run concat (map (λ o. dropping (op o in_tree 2 ⇒ refused 11 kind 0)) (from 1 to 11)
    ++ (dropping (rollback ⇒ refused 23 kind 0) ∷ dropping (commit ⇒ refused 23 kind 0) ∷ dropping (op 0 ⇒ refused 10 kind 0)
    ∷ dropping (op 30 ⇒ refused 10 kind 0) ∷ dropping (mark ⇒ kind 0 nothing) ∷ dropping (mark ⇒ refused 24 kind 0)
    ∷ dropping (reset ⇒ refused 24 kind 0) ∷ dropping (commit ⇒ kind 0 nothing) ∷ []))
    unchanged
    -- a vacant entry hung to the right: the node is the previous record, and need not have the closest key; a peek keeps the entry
    ∷ on held 3 1 8 (10 ∷ 20 ∷ 30 ∷ [])
    run entry 19 ⇒ kind 2 shows 1 ∷ peek_prev ⇒ kind 2 shows 1 ∷ peek_next ⇒ kind 2 shows 2 ∷ move_prev ⇒ kind 1 shows 1
    ∷ entry 19 ⇒ kind 2 shows 1 ∷ move_next ⇒ kind 1 shows 2 ∷ entry 35 ⇒ kind 2 shows 3 ∷ peek_next ⇒ refused 19 kind 2
    ∷ peek_prev ⇒ kind 2 shows 3 ∷ move_next ⇒ refused 19 kind 0 ∷ peek_prev ⇒ refused 12 kind 0 ∷ []
    unchanged
    -- hung to the left: the node is the next record
    ∷ on held 3 1 8 (10 ∷ 20 ∷ 30 ∷ [])
    run entry 21 ⇒ kind 2 shows 3 ∷ peek_next ⇒ kind 2 shows 3 ∷ peek_prev ⇒ kind 2 shows 2 ∷ move_next ⇒ kind 1 shows 3
    ∷ entry 21 ⇒ kind 2 shows 3 ∷ move_prev ⇒ kind 1 shows 2 ∷ entry 5 ⇒ kind 2 shows 1 ∷ peek_prev ⇒ refused 19 kind 2
    ∷ peek_next ⇒ kind 2 shows 1 ∷ move_prev ⇒ refused 19 kind 0 ∷ peek_next ⇒ refused 12 kind 0 ∷ []
    unchanged
    -- moves from a first and a last entry give kind 1, peeks keep the kind
    ∷ on held 3 1 8 (10 ∷ 20 ∷ 30 ∷ [])
    run first_entry ⇒ kind 3 shows 1 ∷ peek_next ⇒ kind 3 shows 2 ∷ move_next ⇒ kind 1 shows 2 ∷ move_prev ⇒ kind 1 shows 1
    ∷ peek_prev ⇒ refused 19 kind 1 ∷ move_prev ⇒ refused 19 kind 0 ∷ last_entry ⇒ kind 4 shows 3 ∷ peek_prev ⇒ kind 4 shows 2
    ∷ move_prev ⇒ kind 1 shows 2 ∷ move_next ⇒ kind 1 shows 3 ∷ move_next ⇒ refused 19 kind 0 ∷ move_next ⇒ refused 12 kind 0 ∷ []
    unchanged
    -- on an empty tree peek and move find NONE, and a move loses the cursor
    ∷ on fresh 3 1 8
    run entry 5 ⇒ kind 2 nothing ∷ peek_next ⇒ refused 19 kind 2 ∷ peek_prev ⇒ refused 19 kind 2 ∷ move_next ⇒ refused 19 kind 0
    ∷ first_entry ⇒ kind 3 nothing ∷ peek_next ⇒ refused 19 kind 3 ∷ peek_prev ⇒ refused 19 kind 3 ∷ move_prev ⇒ refused 19 kind 0
    ∷ last_entry ⇒ kind 4 nothing ∷ peek_prev ⇒ refused 19 kind 4 ∷ move_next ⇒ refused 19 kind 0 ∷ move_next ⇒ refused 12 kind 0 ∷ []
    unchanged
    -- insert_node gives kind 1 at its record, on an empty tree too; 20 is then BAD_CURSOR
    ∷ on fresh 3 1 8
    run entry 10 ⇒ kind 2 nothing ∷ insert_node 10 ⇒ kind 1 shows 1 ∷ insert_node 10 ⇒ refused 12 kind 1 ∷ entry 20 ⇒ kind 2 shows 1
    ∷ insert_node 20 ⇒ kind 1 shows 2 ∷ peek_prev ⇒ kind 1 shows 1 ∷ []
    leave (10 ∷ 20 ∷ [])
    -- 24 and 25 keep their kind at the new record, from an empty tree on
    ∷ on fresh 4 1 8
    run last_entry ⇒ kind 4 nothing ∷ append 10 ⇒ kind 4 shows 1 ∷ append 20 ⇒ kind 4 shows 2 ∷ peek_prev ⇒ kind 4 shows 1
    ∷ first_entry ⇒ kind 3 shows 1 ∷ prepend 5 ⇒ kind 3 slot 3 stamp 3 key 5 text 2 ∷ prepend 4 ⇒ kind 3 slot 4 stamp 4 key 4 text 3
    ∷ peek_next ⇒ kind 3 slot 3 stamp 3 key 5 text 2 ∷ []
    leave (4 ∷ 5 ∷ 10 ∷ 20 ∷ [])
    -- 16 and 17 show the new record and give kind 1 where the cursor stood; 24 and 25 are then BAD_CURSOR
    ∷ on held 4 1 8 (10 ∷ 20 ∷ [])
    run last_entry ⇒ kind 4 shows 2 ∷ insert_before 15 ⇒ kind 1 slot 3 stamp 3 key 15 text 2 ∷ append 30 ⇒ refused 12 kind 1
    ∷ peek_prev ⇒ kind 1 slot 3 stamp 3 key 15 text 2 ∷ first_entry ⇒ kind 3 shows 1 ∷ insert_after 12 ⇒ kind 1 slot 4 stamp 4 key 12 text 3
    ∷ prepend 5 ⇒ refused 12 kind 1 ∷ peek_next ⇒ kind 1 slot 4 stamp 4 key 12 text 3 ∷ []
    leave (10 ∷ 12 ∷ 15 ∷ 20 ∷ [])
    -- 18 and 19 give kind 1 at the new record
    ∷ on held 4 1 8 (10 ∷ 20 ∷ [])
    run last_entry ⇒ kind 4 shows 2 ∷ insert_after_move 30 ⇒ kind 1 shows 3 ∷ peek_next ⇒ refused 19 kind 1 ∷ peek_prev ⇒ kind 1 shows 2
    ∷ append 40 ⇒ refused 12 kind 1 ∷ first_entry ⇒ kind 3 shows 1 ∷ insert_before_move 5 ⇒ kind 1 slot 4 stamp 4 key 5 text 3
    ∷ prepend 4 ⇒ refused 12 kind 1 ∷ peek_next ⇒ kind 1 shows 1 ∷ []
    leave (5 ∷ 10 ∷ 20 ∷ 30 ∷ [])
    -- 22 and 23 show the removed record as it was and give kind 1 where the cursor stood; 21 gives none
    ∷ on held 4 1 8 (10 ∷ 20 ∷ 30 ∷ 40 ∷ [])
    run last_entry ⇒ kind 4 shows 4 ∷ remove_prev ⇒ kind 1 shows 3 ∷ append 50 ⇒ refused 12 kind 1 ∷ peek_prev ⇒ kind 1 shows 2
    ∷ first_entry ⇒ kind 3 shows 1 ∷ remove_next ⇒ kind 1 shows 2 ∷ prepend 5 ⇒ refused 12 kind 1 ∷ peek_next ⇒ kind 1 shows 4
    ∷ remove ⇒ kind 0 shows 1 ∷ remove ⇒ refused 12 kind 0 ∷ last_entry ⇒ kind 4 shows 4 ∷ remove ⇒ kind 0 shows 4 ∷ []
    leave []
    -- the cursor stays at its record while others are put in and taken out beside it, and the tree turns
    ∷ on held 5 1 8 (10 ∷ 20 ∷ 30 ∷ [])
    run entry 10 ⇒ kind 1 shows 1 ∷ insert_before 5 ⇒ kind 1 slot 4 stamp 4 key 5 text 3 ∷ remove_next ⇒ kind 1 shows 2
    ∷ peek_next ⇒ kind 1 shows 3 ∷ remove_prev ⇒ kind 1 slot 4 stamp 4 key 5 text 3 ∷ remove_next ⇒ kind 1 shows 3
    ∷ remove_next ⇒ refused 19 kind 1 ∷ remove ⇒ kind 0 shows 1 ∷ []
    leave []
    -- the cursor carries its tree: ops 12 to 25 do not look at the command's
    ∷ on held 3 2 8 (10 ∷ [])
    run last_entry in_tree 2 ⇒ kind 4 nothing ∷ append 20 ⇒ kind 4 shows 2 ∷ append 30 in_tree 0 ⇒ kind 4 shows 3
    ∷ peek_prev in_tree 1 ⇒ kind 4 shows 2 ∷ get 30 ⇒ refused 19 kind 0 ∷ get 30 in_tree 2 ⇒ kind 0 shows 3 ∷ []
    leave (10 ∷ [])
    ∷ []

-- ---- the claim

table : List Row
table = numbers ++ cursors

leaves : Option (List ℕ) → List ℕ → List ℕ → Bool
leaves none before after = same after before
leaves (some ks) before after = same (keys_of after) ks

-- the batch is done, every command is answered, every byte of the answers is as the lines say, and so is the pool
holds : Row → Bool
holds r =
    let o = outcome r.pool (batch_of r.lines (letters r.lines ++ replicate 500 120)) in
    all (eqb o.code 0 ∷ eqb o.answered (length r.lines) ∷ same o.answers (replies r.lines) ∷ leaves r.keys r.pool o.pool ∷ [])

opened : Unit {0}
unfolding Lines.opened held late numbers cursors table keys_of leaves holds
opened = tt

refusals : every holds table ≡ true
unfolding opened
refusals = refl
