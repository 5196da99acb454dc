-- The ops that add a record, row by row of the tables of `meaning`: the tests that each makes, its tree, and the cursor after it. On the body they
-- make the same tests; so each agrees with its row if its place is where the search for its key ends. Assumes nothing.
use Rattle.std.proofs.Common.{◌≡◌, ℕ, ◌+◌, ◌≤◌, Bool, true, false, cond, not, eqb, ltb, List, length, sym, refl, ap, ◌∙◌, ap₂, arith}
use Rattle.std.proofs.Math.Option.{Option}
use Rattle.std.proofs.lemmas.Bool.{not-false}
use Rattle.avl.specs.Tree.{Dir, left, right}
use Rattle.meaning.specs.Layout.{within}
use Rattle.meaning.specs.Pool.{Pool}
use Rattle.meaning.specs.Change.{free_slot}
use Rattle.meaning.specs.Cursor.{Command, Cursor, nowhere, State, cursor_tree, tree_of, no_record, Then, gone, at_shown, where_it_stood, at_first, at_last}
use Rattle.meaning.specs.Command.{add_new, op◌means◌does◌then◌, ops, op_in, always, bad_tree, not_at_record, not_kind, bad_name, present, not_between, not_the_entrys, no_slot, no_text, no_stamp, among, unknown, adding, refuse◌at◌if◌, refusals, first_of, after_refusal, perform}
use Rattle.meaning.specs.States.{GoodState, Parsed}
use Rattle.slots.specs.Image.{body_of, head_of}
use Rattle.slots.specs.Head.{tree_n}
use Rattle.cursor.specs.Cursor.{after_n}
use Rattle.cursor.specs.Tests.{named_n, room_n}
use Rattle.cursor.specs.declared.cursor.Next.{Next}
use Rattle.cursor.specs.declared.cursor.Next.TheVariants.{Shown, Stood}
use Rattle.ops.specs.Ending.{add_new_n}
use Rattle.ops.specs.Ops.{name_test, kind_at}
use Rattle.ops.specs.Image.{work_in, meant_by}
use Rattle.cursor.specs.declared.command.Command.{Command as CodeCommand}
use Rattle.ops.proofs.Agreeing.{Agrees}
use Rattle.ops.proofs.Rows.{Row, row_at, lost_at, tree_at_lem, then_same, passed_test}
use Rattle.ops.proofs.Additions.{Hangs, name_long, add_new_agrees}
use Rattle.ops.proofs.Nexts.{on}
use Rattle.ops.proofs.Views as view

-- ---- what the tables say

-- the tests in their order: the first with its number, BAD_NAME, the op's own with its number, and those of room
unfoldable pub tests : State → Command → Bool → ℕ → Bool → ℕ → ℕ
tests s c first k own n = cond first k (cond (bad_name s c) 13 (cond own n (cond (no_slot s c) 20 (cond (no_text s c) 21 (cond (no_stamp s c) 22 0)))))

-- a command that adds: its row of the tables, and its tree
pub record AddRow (s : State) (c : Command) (first : Bool) (k : ℕ) (own : Bool) (n : ℕ) (T : Then) (t : ℕ) (lost : ℕ → Cursor) : Type 0 where
  pub row : Row s c no_record add_new T (tests s c first k own n) lost
  pub adds : adding c.op ≡ true
  pub tree_is : tree_of s c ≡ t

-- read off at the op's number
add_at : {s : State} {c : Command} {first : Bool} {k : ℕ} {own : Bool} {n : ℕ} {T : Then} {t : ℕ} {lost : ℕ → Cursor} (m : ℕ) → c.op ≡ m
    → op_in ops m ≡ (op m means no_record does add_new then T) → first_of refusals m s c ≡ tests s c first k own n
    → ((e : ℕ) → lost e ≡ after_refusal m e s.cursor) → adding m ≡ true → cond (within 1 11 m) c.tree (cursor_tree s.cursor) ≡ t
    → AddRow s c first k own n T t lost
add_at {s} {c} m i o r l a t = record { row = row_at m i o r l; adds = ap adding i ∙ a; tree_is = tree_at_lem s c m i ∙ t }

-- the inserts on a side of the cursor's record, which move to the new record or do not
abbrev pub beside_op : Dir → Bool → ℕ
beside_op left false = 16
beside_op right false = 17
beside_op left true = 18
beside_op right true = 19

-- what comes of the cursor by them
abbrev pub beside_next : Bool → Next
beside_next true = Shown
beside_next false = Stood

-- where it is after them
abbrev pub beside_then : Bool → Then
beside_then true = at_shown
beside_then false = where_it_stood

-- prepend and append
abbrev pub end_op : Dir → ℕ
end_op left = 25
end_op right = 24

-- where the cursor is after them
abbrev pub end_then : Dir → Then
end_then left = at_first
end_then right = at_last

-- an append or prepend that is refused loses the cursor at one number
lost_at_lem : (b : Bool) (k : Cursor) → cond b nowhere k ≡ cond (not b) k nowhere
lost_at_lem true k = refl
lost_at_lem false k = refl

-- to unfold this is to unfold the tables
unfoldable tables : Unit {0}
unfolding tests ops op_in op◌means◌does◌then◌ first_of refusals refuse◌at◌if◌ unknown adding among always within after_refusal
tables = tt

module _ (s : State) (c : Command) where
  -- The row of `add`.
  pub add_row : c.op ≡ 1 → AddRow s c (bad_tree s c) 11 (present s c) 17 gone c.tree (λ _. nowhere)
  unfolding tables
  add_row i = add_at 1 i refl refl (λ e. refl) refl refl

  -- The rows of the inserts beside the cursor's record.
  pub beside_row : (d : Dir) (moves : Bool) → c.op ≡ beside_op d moves
      → AddRow s c (not_at_record s c) 12 (not_between d s c) 18 (beside_then moves) (cursor_tree s.cursor) (λ _. s.cursor)
  unfolding tables
  beside_row left false i = add_at 16 i refl refl (λ e. refl) refl refl
  beside_row right false i = add_at 17 i refl refl (λ e. refl) refl refl
  beside_row left true i = add_at 18 i refl refl (λ e. refl) refl refl
  beside_row right true i = add_at 19 i refl refl (λ e. refl) refl refl

  -- The row of `insert_node`.
  pub node_row : c.op ≡ 20 → AddRow s c (not_kind 2 s c) 12 (not_the_entrys s c) 18 at_shown (cursor_tree s.cursor) (λ _. s.cursor)
  unfolding tables
  node_row i = add_at 20 i refl refl (λ e. refl) refl refl

  -- The rows of prepend and append.
  pub end_row : (d : Dir) → c.op ≡ end_op d
      → AddRow s c (not_kind (kind_at d) s c) 12 (not_between d s c) 18 (end_then d) (cursor_tree s.cursor) (lost_at 18 s.cursor)
  unfolding tables
  end_row left i = add_at 25 i refl refl (λ e. lost_at_lem (eqb e 18) s.cursor) refl refl
  end_row right i = add_at 24 i refl refl (λ e. lost_at_lem (eqb e 18) s.cursor) refl refl

-- ---- the tests, on the body

module _ (s : State) (names : List ℕ) (c : CodeCommand) where
  -- the tests of room go by the name's length as the command has it
  room_same : named_n names c.at c.len ≡ true
      → room_n (head_of s.pool).numbers c.len
      ≡ cond (no_slot s (meant_by names c)) 20 (cond (no_text s (meant_by names c)) 21 (cond (no_stamp s (meant_by names c)) 22 0))
  unfolding room_n head_of no_slot no_text no_stamp meant_by
  room_same h =
      let p = s.pool in
      ap (λ (n : ℕ). cond (eqb (free_slot p) 0) 20 (cond (ltb p.size (length p.text + n)) 21 (cond (eqb p.next 4_294_967_295) 22 0)))
      (sym (name_long names c h))

  -- the tests are the same, if the op's own is where the first is not met
  tests_same : (first : Bool) (k : ℕ) (given own : Bool) (n : ℕ) → (first ≡ false → given ≡ own)
      → cond first k (name_test names (head_of s.pool).numbers c n given) ≡ tests s (meant_by names c) first k own n
  unfolding tests name_test bad_name meant_by
  tests_same first k given own n same =
      let named = named_n names c.at c.len in
      then_same first k (λ f. then_same (not named) 13 (λ h. ap₂ (λ (b : Bool) (r : ℕ). cond b n r) (same f) (room_same (not-false named h))))

module _ (w : Option Pool) (s : State) (g : GoodState w s) (names : List ℕ) (c : CodeCommand) (f : Parsed (meant_by names c)) where
  -- An op that adds to tree t agrees with its row if its own test on the body is that of the row, where the first is not met, and if its place is
  -- where the search for its key ends, where neither is met.
  pub add_row_agrees : {first : Bool} {k : ℕ} {own : Bool} {n : ℕ} {T : Then} {t : ℕ} {lost : ℕ → Cursor}
      → AddRow s (meant_by names c) first k own n T t lost → 1 ≤ k → 1 ≤ n → (given : Bool) → (first ≡ false → given ≡ own)
      → (x : ℕ) (d : Dir) → (first ≡ false → own ≡ false → Hangs s.pool t c.key x d)
      → (let h = head_of s.pool in let e = cond first k (name_test names h.numbers c n given) in
      (comes : Next) → (e ≡ 0 → after_n s.cursor (on c t) comes (free_slot s.pool) ≡ T s (meant_by names c) (free_slot s.pool))
      → ((e ≡ 0 → ⊥) → after_n s.cursor (on c t) comes 0 ≡ lost e)
      → Agrees s (perform s (meant_by names c))
      (view.stepped_by (work_in s) (on c t) (add_new_n (body_of s.pool) names h.numbers (tree_n h.table t) (on c t) (x, d) e comes)))
  unfolding meant_by tests
  add_row_agrees {first} {k} {own} {n} {T} {t} {lost} r i j given same x d place comes done_is lost_is =
      let e = cond first k (name_test names (head_of s.pool).numbers c n given) in
      let e_is : e ≡ tests s (meant_by names c) first k own n = tests_same s names c first k given own n same in
      add_new_agrees w s g names c f r.row r.adds e t x d comes e_is
      (λ z. let a = passed_test first k i (sym e_is ∙ z) in
      let b = passed_test (bad_name s (meant_by names c)) 13 (omega arith) a.1 in
      let o = passed_test own n j b.1 in
      record { tree_is = sym r.tree_is; hangs = place a.0 o.0; done_is = done_is z }) lost_is
