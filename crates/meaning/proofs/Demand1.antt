-- Demand 1, the commands. A refused command returns its number and zeroed record fields and changes no byte of the pool; and which refusals there are,
-- each with its exact condition. Assumes nothing.
use Rattle.std.proofs.Common.{◌≡◌, ℕ, ◌<◌, ◌≤◌, Bool, true, cond, eqb, [], ◌∷◌, length, sym, refl, ap, ◌∙◌, subst, arith, ne_eqb}
use Rattle.avl.specs.Order.{nil, more}
use Rattle.meaning.specs.Layout.{within, every, span}
use Rattle.meaning.specs.Cursor.{Command, State}
use Rattle.meaning.specs.Command.{always, bad_tree, marked, unmarked, bad_name, bad_slot, stale, other_tree, present, none_there, no_slot, no_text, no_stamp, among, unknown, adding, refuse◌at◌if◌, refusals, first_of, refusal, last_op, op_of, answer, refused, carried_out, perform}
use Rattle.meaning.specs.Refused.{RefusedBy, first_met, tests_of, tests_in, place_in, row_of, at_cursor_row, at_record_row, at_vacant_row, at_last_row, at_first_row, key_before_row, key_behind_row, key_vacant_row, ◌exactly_if◌, BadCursor, needs_cursor, needs_record, needs_vacant, needs_last, needs_first, BadOrder, put_before, put_behind, put_at_entry, Left}
use Rattle.meaning.proofs.Among.{all_span, among_all}
use Rattle.meaning.proofs.Chains.{Refuses, RefusesOneOf, HaveNumber, number_rows, row_numbers, tests_at}
use Rattle.meaning.proofs.Tables.{row_in}

-- ---- a refused command

-- A refused command returns its number and zeroed record fields and changes no byte of the pool.
pub refused_command : (s : State) (c : Command) (e : ℕ) → refusal s c ≡ e → (e ≡ 0 → ⊥) → Left e s c (perform s c)
unfolding perform refused answer
refused_command s c e i n =
    let q : perform s c ≡ refused e s c =
    ap (λ (b : Bool). cond b (carried_out (op_of c) s c) (refused (refusal s c) s c)) (ne_eqb (refusal s c) 0 (λ z. n (sym i ∙ z))) ∙ ap (λ (m : ℕ). refused m s c) i in
    rw q (record { pool = refl; pool_bytes = refl; mark = refl; cursor = refl; answer = refl })

-- ---- which numbers a command is refused with, and exactly when

-- Each op has its own tests, in the order of the table `tests_of`: the number given is that of the first one that is met, 0 if none is.
pub tests_of_op : (s : State) (c : Command) → within 1 last_op c.op ≡ true → refusal s c ≡ first_met (tests_in tests_of c.op) s c
unfolding refusal among span
tests_of_op s c h = among_all (λ n. first_of refusals n s c ≡ first_met (tests_in tests_of n) s c) ((1, last_op) ∷ []) c.op (rw h) (tests_at s c)

-- A number is given exactly if a row of the table `refusals` that has it applies, that is, the op is one of the row's and the row's condition
-- holds, and no row before it applies. Below, `RefusedBy ops condition i` says so of row i; `row_of n` is the row of number n.

table_opened : Unit {0}
unfolding row_in place_in refusals refuse◌at◌if◌ within every span
table_opened = tt

module _ (s : State) (c : Command) where
  row : {lo hi : ℕ} (i : ℕ) → lo ≤ i → i ≤ hi → Refuses i s c → RefusesOneOf lo hi s c
  row i l h r = record { row = i; low = l; high = h; refuses = r }

  -- a number that only one row has
  one_row : (n : ℕ) → 1 ≤ n → row_of n < length refusals → HaveNumber (row_of n) (row_of n) n → (refusal s c ≡ n) exactly_if Refuses (row_of n) s c
  one_row n l b k =
      let i = row_of n in
      let h = number_rows n i i l b k s c in
      (λ e. only (h.0 e), λ r. h.1 (row i (omega arith) (omega arith) r))
    where
      only : RefusesOneOf (row_of n) (row_of n) s c → Refuses (row_of n) s c
      only r = let e : r.row ≡ row_of n = omega (arith, r.low, r.high) in subst (λ (j : ℕ). Refuses j s c) e r.refuses

  -- BAD_OP, 10: the op is 0 or above the last.
  pub bad_op : (refusal s c ≡ 10) exactly_if RefusedBy unknown always (row_of 10) s c
  unfolding table_opened
  bad_op = one_row 10 (omega arith) (omega arith) refl

  -- BAD_TREE, 11: ops 1 to 11: the tree is 0 or above T.
  pub bad_tree_lem : (refusal s c ≡ 11) exactly_if RefusedBy (within 1 11) bad_tree (row_of 11) s c
  unfolding table_opened
  bad_tree_lem = one_row 11 (omega arith) (omega arith) refl

  -- BAD_CURSOR, 12: not the cursor that the op needs.
  pub bad_cursor : (refusal s c ≡ 12) exactly_if BadCursor s c
  unfolding table_opened span
  bad_cursor = let k = number_rows 12 at_cursor_row at_first_row (omega arith) (omega arith) refl s c in (λ e. there (k.0 e), λ h. k.1 (back h))
    where
      there : RefusesOneOf at_cursor_row at_first_row s c → BadCursor s c
      there r =
          all_span (λ i. Refuses i s c → BadCursor s c) at_cursor_row 5 r.row r.low (omega (arith, r.high))
          (more needs_cursor (more needs_record (more needs_vacant (more needs_last (more needs_first nil))))) r.refuses

      back : BadCursor s c → RefusesOneOf at_cursor_row at_first_row s c
      back (needs_cursor r) = row at_cursor_row (omega arith) (omega arith) r
      back (needs_record r) = row at_record_row (omega arith) (omega arith) r
      back (needs_vacant r) = row at_vacant_row (omega arith) (omega arith) r
      back (needs_last r) = row at_last_row (omega arith) (omega arith) r
      back (needs_first r) = row at_first_row (omega arith) (omega arith) r

  -- BAD_NAME, 13: ops that add: the name is empty or longer than 255, or not within the names.
  pub bad_name_lem : (refusal s c ≡ 13) exactly_if RefusedBy adding bad_name (row_of 13) s c
  unfolding table_opened
  bad_name_lem = one_row 13 (omega arith) (omega arith) refl

  -- BAD_SLOT, 14: ops 4 to 6: the slot is 0 or above N.
  pub bad_slot_lem : (refusal s c ≡ 14) exactly_if RefusedBy (within 4 6) bad_slot (row_of 14) s c
  unfolding table_opened
  bad_slot_lem = one_row 14 (omega arith) (omega arith) refl

  -- STALE, 15: ops 4 to 6: the slot is free, or has another stamp.
  pub stale_handle : (refusal s c ≡ 15) exactly_if RefusedBy (within 4 6) stale (row_of 15) s c
  unfolding table_opened
  stale_handle = one_row 15 (omega arith) (omega arith) refl

  -- OTHER_TREE, 16: ops 4 to 6: the record lives in another tree.
  pub other_tree_lem : (refusal s c ≡ 16) exactly_if RefusedBy (within 4 6) other_tree (row_of 16) s c
  unfolding table_opened
  other_tree_lem = one_row 16 (omega arith) (omega arith) refl

  -- PRESENT, 17: op 1: the key is in the tree.
  pub key_present : (refusal s c ≡ 17) exactly_if RefusedBy (eqb 1) present (row_of 17) s c
  unfolding table_opened
  key_present = one_row 17 (omega arith) (omega arith) refl

  -- ORDER, 18: the key is not strictly between the records around its place, or not the entry's.
  pub bad_order : (refusal s c ≡ 18) exactly_if BadOrder s c
  unfolding table_opened span
  bad_order = let k = number_rows 18 key_before_row key_vacant_row (omega arith) (omega arith) refl s c in (λ e. there (k.0 e), λ h. k.1 (back h))
    where
      there : RefusesOneOf key_before_row key_vacant_row s c → BadOrder s c
      there r =
          all_span (λ i. Refuses i s c → BadOrder s c) key_before_row 3 r.row r.low (omega (arith, r.high))
          (more put_before (more put_behind (more put_at_entry nil))) r.refuses

      back : BadOrder s c → RefusesOneOf key_before_row key_vacant_row s c
      back (put_before r) = row key_before_row (omega arith) (omega arith) r
      back (put_behind r) = row key_behind_row (omega arith) (omega arith) r
      back (put_at_entry r) = row key_vacant_row (omega arith) (omega arith) r

  -- NONE, 19: there is no record with the key, at that end, or on that side.
  pub none_there_lem : (refusal s c ≡ 19) exactly_if RefusedBy (among ((2, 3) ∷ (5, 8) ∷ (12, 15) ∷ (22, 23) ∷ [])) none_there (row_of 19) s c
  unfolding table_opened
  none_there_lem = one_row 19 (omega arith) (omega arith) refl

  -- NO_SLOT, 20: ops that add: no slot is free.
  pub no_slot_lem : (refusal s c ≡ 20) exactly_if RefusedBy adding no_slot (row_of 20) s c
  unfolding table_opened
  no_slot_lem = one_row 20 (omega arith) (omega arith) refl

  -- NO_TEXT, 21: ops that add: text used and the name together are longer than X.
  pub no_text_lem : (refusal s c ≡ 21) exactly_if RefusedBy adding no_text (row_of 21) s c
  unfolding table_opened
  no_text_lem = one_row 21 (omega arith) (omega arith) refl

  -- NO_STAMP, 22: ops that add: the next stamp is 4,294,967,295.
  pub no_stamp_lem : (refusal s c ≡ 22) exactly_if RefusedBy adding no_stamp (row_of 22) s c
  unfolding table_opened
  no_stamp_lem = one_row 22 (omega arith) (omega arith) refl

  -- NO_MARK, 23: ops 27 and 28: no mark is open.
  pub no_mark : (refusal s c ≡ 23) exactly_if RefusedBy (within 27 28) unmarked (row_of 23) s c
  unfolding table_opened
  no_mark = one_row 23 (omega arith) (omega arith) refl

  -- MARK_OPEN, 24: ops 26 and 29: a mark is open.
  pub mark_open : (refusal s c ≡ 24) exactly_if RefusedBy (among ((26, 26) ∷ (29, 29) ∷ [])) marked (row_of 24) s c
  unfolding table_opened
  mark_open = one_row 24 (omega arith) (omega arith) refl

  -- There are no other refusals of commands: a number that is not 0 is one of these, from 10 to 24.
  pub no_others : (refusal s c ≡ 0 → ⊥) → (10 ≤ refusal s c) × (refusal s c ≤ 24)
  unfolding table_opened
  no_others n = row_numbers 10 24 refl s c n
