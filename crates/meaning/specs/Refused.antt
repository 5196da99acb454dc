-- The words in which demand 1 is stated: by which row of the table a command is refused, the tests of each op in their order, and what a refused
-- command leaves. Assumes nothing.
use Rattle.std.specs.Prelude.{Bool, true, not, ◌&&◌, cond, List, [], ◌∷◌, ◌≡◌, ℕ, suc, ◌+◌, eqb, take}
use Rattle.avl.specs.Tree.{left, right}
use Rattle.meaning.specs.Layout.{answer_bare, within, every}
use Rattle.meaning.specs.Pool.{bytes}
use Rattle.meaning.specs.Cursor.{Command, State, kind}
use Rattle.meaning.specs.Command.{Test, always, bad_tree, no_cursor, not_at_record, not_kind, marked, unmarked, bad_name, bad_slot, stale, other_tree, present, not_between, not_the_entrys, none_there, no_slot, no_text, no_stamp, among, Refusal, refusals, after_refusal, Performed}

-- A holds exactly if B does
infix 5 ◌exactly_if◌
abbrev pub ◌exactly_if◌ : Type 0 → Type 0 → Type 0
A exactly_if B = (A → B) × (B → A)

-- ---- the row of the table `refusals` that refuses

-- a row applies at op o: the op is among those that it names, and its condition holds
unfoldable pub applies : ℕ → State → Command → Refusal → Bool
applies o s c r = r.ops o && r.given s c

-- none of these rows applies
unfoldable pub none_of : List Refusal → ℕ → State → Command → Bool
none_of rs o s c = every (λ r. not (applies o s c r)) rs

-- none of the first i rows of the table applies to the command
unfoldable pub none_before : ℕ → State → Command → Bool
none_before i s c = none_of (take i refusals) c.op s c

-- the op is one of these, the condition holds, and none of the first i rows of the table applies
pub record RefusedBy (ops : ℕ → Bool) (given : Test) (i : ℕ) (s : State) (c : Command) : Type 0 where
  pub asked : ops c.op ≡ true
  pub holds : given s c ≡ true
  pub first : none_before i s c ≡ true

-- where a table has the number n first
unfoldable pub place_in : List Refusal → ℕ → ℕ
place_in [] n = 0
place_in (r ∷ rs) n = let rest = place_in rs n in cond (eqb r.number n) 0 (suc rest)

-- the first row of the table that has the number n, counted from 0
abbrev pub row_of : ℕ → ℕ
row_of n = place_in refusals n

-- the rows of BAD_CURSOR, by what the cursor must be at
abbrev pub at_cursor_row : ℕ
at_cursor_row = row_of 12

abbrev pub at_record_row : ℕ
at_record_row = row_of 12 + 1

abbrev pub at_vacant_row : ℕ
at_vacant_row = row_of 12 + 2

abbrev pub at_last_row : ℕ
at_last_row = row_of 12 + 3

abbrev pub at_first_row : ℕ
at_first_row = row_of 12 + 4

-- and of ORDER, by where the key must be
abbrev pub key_before_row : ℕ
key_before_row = row_of 18

abbrev pub key_behind_row : ℕ
key_behind_row = row_of 18 + 1

abbrev pub key_vacant_row : ℕ
key_vacant_row = row_of 18 + 2

-- 12 is given by one of five rows
pub data BadCursor (s : State) (c : Command) : Type 0 where
  needs_cursor : RefusedBy (within 12 15) no_cursor at_cursor_row s c → BadCursor s c
  needs_record : RefusedBy (among ((16, 19) ∷ (21, 23) ∷ [])) not_at_record at_record_row s c → BadCursor s c
  needs_vacant : RefusedBy (eqb 20) (not_kind 2) at_vacant_row s c → BadCursor s c
  needs_last : RefusedBy (eqb 24) (not_kind 4) at_last_row s c → BadCursor s c
  needs_first : RefusedBy (eqb 25) (not_kind 3) at_first_row s c → BadCursor s c

-- 18 by one of three
pub data BadOrder (s : State) (c : Command) : Type 0 where
  put_before : RefusedBy (among ((16, 16) ∷ (18, 18) ∷ (25, 25) ∷ [])) (not_between left) key_before_row s c → BadOrder s c
  put_behind : RefusedBy (among ((17, 17) ∷ (19, 19) ∷ (24, 24) ∷ [])) (not_between right) key_behind_row s c → BadOrder s c
  put_at_entry : RefusedBy (eqb 20) not_the_entrys key_vacant_row s c → BadOrder s c

-- ---- the tests made at each op

-- the number of the first test that is met, 0 if none is
unfoldable pub first_met : List (Test × ℕ) → State → Command → ℕ
first_met [] s c = 0
first_met (t ∷ ts) s c = let rest = first_met ts s c in cond (t.0 s c) t.1 rest

-- the last tests of every op that adds
abbrev pub room_tests : List (Test × ℕ)
room_tests = (no_slot, 20) ∷ (no_text, 21) ∷ (no_stamp, 22) ∷ []

-- the tests of each op, in their order, with the number that each gives
unfoldable pub tests_of : List (ℕ × List (Test × ℕ))
tests_of =
    (1, (bad_tree, 11) ∷ (bad_name, 13) ∷ (present, 17) ∷ room_tests)  -- add
    ∷ (2, (bad_tree, 11) ∷ (none_there, 19) ∷ [])  -- get
    ∷ (3, (bad_tree, 11) ∷ (none_there, 19) ∷ [])  -- remove_by_key
    ∷ (4, (bad_tree, 11) ∷ (bad_slot, 14) ∷ (stale, 15) ∷ (other_tree, 16) ∷ [])  -- remove by handle
    ∷ (5, (bad_tree, 11) ∷ (bad_slot, 14) ∷ (stale, 15) ∷ (other_tree, 16) ∷ (none_there, 19) ∷ [])  -- next of a handle
    ∷ (6, (bad_tree, 11) ∷ (bad_slot, 14) ∷ (stale, 15) ∷ (other_tree, 16) ∷ (none_there, 19) ∷ [])  -- prev of a handle
    ∷ (7, (bad_tree, 11) ∷ (none_there, 19) ∷ [])  -- first
    ∷ (8, (bad_tree, 11) ∷ (none_there, 19) ∷ [])  -- last
    ∷ (9, (bad_tree, 11) ∷ [])  -- entry
    ∷ (10, (bad_tree, 11) ∷ [])  -- first_entry
    ∷ (11, (bad_tree, 11) ∷ [])  -- last_entry
    ∷ (12, (no_cursor, 12) ∷ (none_there, 19) ∷ [])  -- peek_next
    ∷ (13, (no_cursor, 12) ∷ (none_there, 19) ∷ [])  -- peek_prev
    ∷ (14, (no_cursor, 12) ∷ (none_there, 19) ∷ [])  -- move_next
    ∷ (15, (no_cursor, 12) ∷ (none_there, 19) ∷ [])  -- move_prev
    ∷ (16, (not_at_record, 12) ∷ (bad_name, 13) ∷ (not_between left, 18) ∷ room_tests)  -- insert before
    ∷ (17, (not_at_record, 12) ∷ (bad_name, 13) ∷ (not_between right, 18) ∷ room_tests)  -- insert after
    ∷ (18, (not_at_record, 12) ∷ (bad_name, 13) ∷ (not_between left, 18) ∷ room_tests)  -- insert before, and move to it
    ∷ (19, (not_at_record, 12) ∷ (bad_name, 13) ∷ (not_between right, 18) ∷ room_tests)  -- insert after, and move to it
    ∷ (20, (not_kind 2, 12) ∷ (bad_name, 13) ∷ (not_the_entrys, 18) ∷ room_tests)  -- insert_node
    ∷ (21, (not_at_record, 12) ∷ [])  -- remove at the cursor
    ∷ (22, (not_at_record, 12) ∷ (none_there, 19) ∷ [])  -- remove_prev
    ∷ (23, (not_at_record, 12) ∷ (none_there, 19) ∷ [])  -- remove_next
    ∷ (24, (not_kind 4, 12) ∷ (bad_name, 13) ∷ (not_between right, 18) ∷ room_tests)  -- append
    ∷ (25, (not_kind 3, 12) ∷ (bad_name, 13) ∷ (not_between left, 18) ∷ room_tests)  -- prepend
    ∷ (26, (marked, 24) ∷ [])  -- mark
    ∷ (27, (unmarked, 23) ∷ [])  -- rollback
    ∷ (28, (unmarked, 23) ∷ [])  -- commit
    ∷ (29, (marked, 24) ∷ [])  -- reset
    ∷ []

-- those of op n; an unknown op has the one test that is always met
unfoldable pub tests_in : List (ℕ × List (Test × ℕ)) → ℕ → List (Test × ℕ)
tests_in [] n = (always, 10) ∷ []
tests_in (o ∷ os) n = let rest = tests_in os n in cond (eqb o.0 n) o.1 rest

-- ---- what a refused command leaves

-- what a command refused with number e leaves: the pool, the mark, the cursor kept or lost, and an answer of the number, the kind and zeros
pub record Left (e : ℕ) (s : State) (c : Command) (d : Performed) : Type 0 where
  pub pool : d.state.pool ≡ s.pool
  pub pool_bytes : bytes d.state.pool ≡ bytes s.pool
  pub mark : d.state.mark ≡ s.mark
  pub cursor : d.state.cursor ≡ after_refusal c.op e s.cursor
  pub answer : d.answer ≡ answer_bare e (kind d.state.cursor)
