-- The ops that show a record or take one out: what the tables of `meaning` say of each at its number, which they compute. Assumes nothing.
use Rattle.std.proofs.Common.{◌≡◌, ℕ, Bool, true, false, cond, not, ◌||◌, eqb, refl}
use Rattle.avl.specs.Tree.{left, right}
use Rattle.meaning.specs.Layout.{within}
use Rattle.meaning.specs.Cursor.{Command, Cursor, nowhere, State, with_key, of_handle, at_cursor, nearest, first_from, next_of_handle, next_of_cursor, gone, kept, at_shown, where_it_stood, at_first, at_last, entered}
use Rattle.meaning.specs.Command.{show, take_out, op◌means◌does◌then◌, ops, op_in, always, bad_tree, no_cursor, not_at_record, bad_slot, stale, other_tree, none_there, among, unknown, adding, refuse◌at◌if◌, refusals, first_of, after_refusal}
use Rattle.ops.proofs.Rows.{Row, row_at, lost_at}

-- ---- the chains of tests

-- NONE
abbrev pub none_test : State → Command → ℕ
none_test s c = cond (none_there s c) 19 0

-- of a record that is sought in a named tree
abbrev pub found_tests : State → Command → ℕ
found_tests s c = cond (bad_tree s c) 11 (none_test s c)

-- of a handle, then what follows
abbrev pub handle_tests : State → Command → ℕ → ℕ
handle_tests s c rest = cond (bad_tree s c) 11 (cond (bad_slot s c) 14 (cond (stale s c) 15 (cond (other_tree s c) 16 rest)))

-- ---- each op

-- to unfold this is to unfold the two tables and the cursor after a refusal
tables : Unit {0}
unfolding ops op_in op◌means◌does◌then◌ first_of refusals refuse◌at◌if◌ within unknown adding among always after_refusal
tables = tt

-- a move that finds nothing loses the cursor
move_lost : (b : Bool) (k : Cursor) → cond b nowhere k ≡ cond (not (b || false)) k nowhere
move_lost true k = refl
move_lost false k = refl

module _ (s : State) (c : Command) where
  -- get
  pub get_row : c.op ≡ 2 → Row s c with_key show gone (found_tests s c) (λ _. nowhere)
  unfolding tables
  get_row i = row_at 2 i refl refl (λ _. refl)

  -- remove_by_key
  pub remove_by_key_row : c.op ≡ 3 → Row s c with_key take_out gone (found_tests s c) (λ _. nowhere)
  unfolding tables
  remove_by_key_row i = row_at 3 i refl refl (λ _. refl)

  -- remove by handle
  pub remove_handle_row : c.op ≡ 4 → Row s c of_handle take_out gone (handle_tests s c 0) (λ _. nowhere)
  unfolding tables
  remove_handle_row i = row_at 4 i refl refl (λ _. refl)

  -- next of a handle
  pub next_row : c.op ≡ 5 → Row s c (next_of_handle right) show gone (handle_tests s c (none_test s c)) (λ _. nowhere)
  unfolding tables
  next_row i = row_at 5 i refl refl (λ _. refl)

  -- prev of a handle
  pub prev_row : c.op ≡ 6 → Row s c (next_of_handle left) show gone (handle_tests s c (none_test s c)) (λ _. nowhere)
  unfolding tables
  prev_row i = row_at 6 i refl refl (λ _. refl)

  -- first
  pub first_row : c.op ≡ 7 → Row s c (first_from left) show gone (found_tests s c) (λ _. nowhere)
  unfolding tables
  first_row i = row_at 7 i refl refl (λ _. refl)

  -- last
  pub last_row : c.op ≡ 8 → Row s c (first_from right) show gone (found_tests s c) (λ _. nowhere)
  unfolding tables
  last_row i = row_at 8 i refl refl (λ _. refl)

  -- entry
  pub entry_row : c.op ≡ 9 → Row s c nearest show entered (cond (bad_tree s c) 11 0) (λ _. nowhere)
  unfolding tables
  entry_row i = row_at 9 i refl refl (λ _. refl)

  -- first_entry
  pub first_entry_row : c.op ≡ 10 → Row s c (first_from left) show at_first (cond (bad_tree s c) 11 0) (λ _. nowhere)
  unfolding tables
  first_entry_row i = row_at 10 i refl refl (λ _. refl)

  -- last_entry
  pub last_entry_row : c.op ≡ 11 → Row s c (first_from right) show at_last (cond (bad_tree s c) 11 0) (λ _. nowhere)
  unfolding tables
  last_entry_row i = row_at 11 i refl refl (λ _. refl)

  -- peek_next
  pub peek_next_row : c.op ≡ 12 → Row s c (next_of_cursor right) show kept (cond (no_cursor s c) 12 (none_test s c)) (λ _. s.cursor)
  unfolding tables
  peek_next_row i = row_at 12 i refl refl (λ _. refl)

  -- peek_prev
  pub peek_prev_row : c.op ≡ 13 → Row s c (next_of_cursor left) show kept (cond (no_cursor s c) 12 (none_test s c)) (λ _. s.cursor)
  unfolding tables
  peek_prev_row i = row_at 13 i refl refl (λ _. refl)

  -- move_next
  pub move_next_row : c.op ≡ 14 → Row s c (next_of_cursor right) show at_shown (cond (no_cursor s c) 12 (none_test s c)) (lost_at 19 s.cursor)
  unfolding tables
  move_next_row i = row_at 14 i refl refl (λ e. move_lost (eqb e 19) s.cursor)

  -- move_prev
  pub move_prev_row : c.op ≡ 15 → Row s c (next_of_cursor left) show at_shown (cond (no_cursor s c) 12 (none_test s c)) (lost_at 19 s.cursor)
  unfolding tables
  move_prev_row i = row_at 15 i refl refl (λ e. move_lost (eqb e 19) s.cursor)

  -- remove at the cursor
  pub remove_here_row : c.op ≡ 21 → Row s c at_cursor take_out gone (cond (not_at_record s c) 12 0) (λ _. s.cursor)
  unfolding tables
  remove_here_row i = row_at 21 i refl refl (λ _. refl)

  -- remove_prev
  pub remove_prev_row : c.op ≡ 22 → Row s c (next_of_cursor left) take_out where_it_stood (cond (not_at_record s c) 12 (none_test s c)) (λ _. s.cursor)
  unfolding tables
  remove_prev_row i = row_at 22 i refl refl (λ _. refl)

  -- remove_next
  pub remove_next_row : c.op ≡ 23 → Row s c (next_of_cursor right) take_out where_it_stood (cond (not_at_record s c) 12 (none_test s c)) (λ _. s.cursor)
  unfolding tables
  remove_next_row i = row_at 23 i refl refl (λ _. refl)
