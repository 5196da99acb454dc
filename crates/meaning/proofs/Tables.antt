-- The two tables of commands: a command that is not refused has passed every test of its op, and what holds at every number of a list of ops holds
-- at the command's. Assumes nothing.
use Rattle.std.proofs.Common.{◌≡◌, ℕ, zero, suc, ◌≤◌, Bool, true, false, cond, not, ◌&&◌, eqb, leb, List, [], ◌∷◌, get_or, refl, ap, arith, leb-true}
use Rattle.avl.specs.Tree.{left, right}
use Rattle.avl.specs.Order.{All}
use Rattle.meaning.specs.Layout.{bit, within, every, count, span}
use Rattle.meaning.specs.Cursor.{Command, State, cursor_tree, tree_of}
use Rattle.meaning.specs.Command.{always, bad_tree, no_cursor, not_at_record, not_kind, marked, unmarked, bad_name, bad_slot, stale, other_tree, present, not_between, not_the_entrys, none_there, no_slot, no_text, no_stamp, among, unknown, adding, Refusal, refuse◌at◌if◌, refusals, first_of, refusal, last_op, ops, op_in, op_of, meant}
use Rattle.meaning.specs.Refused.{place_in, row_of, at_cursor_row, at_record_row, at_vacant_row, at_last_row, at_first_row, key_before_row, key_behind_row, key_vacant_row}
use Rattle.meaning.proofs.Facts.{test, both, every_span}
use Rattle.meaning.proofs.Clauses.{within_is}
use Rattle.meaning.proofs.Neighbours.{counted}

-- ---- the refusals

-- No test is passed and not passed.
pub never {ℓ} : {A : Type ℓ} {b : Bool} → b ≡ true → b ≡ false → A
never {b = b} h k = let z : ◌≡◌ {A = ℕ} 0 1 = cc in absurd (omega arith)

-- a row beyond the table, which refuses nothing
abbrev no_row : Refusal
no_row = refuse 0 at (λ _. false) if always

-- row i of a table, counted from 0
unfoldable pub row_in : List Refusal → ℕ → Refusal
row_in rs i = get_or rs i no_row

module _ (n : ℕ) (s : State) (c : Command) where
  -- where no row refuses, the first one does not, and none after it does
  first_clear : (r : Refusal) (rs : List Refusal) → 1 ≤ r.number → first_of (r ∷ rs) n s c ≡ 0
      → (r.ops n ≡ true → r.given s c ≡ false) × (first_of rs n s c ≡ 0)
  unfolding first_of
  first_clear r rs l z = go (r.ops n) (r.given s c) z
    where
      go : (a b : Bool) → cond (a && b) r.number (first_of rs n s c) ≡ 0 → (a ≡ true → b ≡ false) × (first_of rs n s c ≡ 0)
      go true true z = absurd (omega arith)
      go true false z = (λ _. refl, z)
      go false b z = (λ k. never k refl, z)

  clear : (rs : List Refusal) → every (λ r. leb 1 r.number) rs ≡ true → first_of rs n s c ≡ 0
      → (i : ℕ) → (row_in rs i).ops n ≡ true → (row_in rs i).given s c ≡ false
  unfolding every row_in refuse◌at◌if◌
  clear [] h z i k = never k refl
  clear (r ∷ rs) h z zero k =
      (first_clear r rs (leb-true 1 r.number (both (leb 1 r.number) (every (λ r. leb 1 r.number) rs) h).0) z).0 k
  clear (r ∷ rs) h z (suc i) k =
      let e = both (leb 1 r.number) (every (λ r. leb 1 r.number) rs) h in
      clear rs e.1 (first_clear r rs (leb-true 1 r.number e.0) z).1 i k

-- what a command of op n that is not refused has passed, test by test
pub record Passed (n : ℕ) (s : State) (c : Command) : Type 0 where
  pub op_is : c.op ≡ n
  pub op_known : unknown n ≡ true → ⊥
  pub tree_good : within 1 11 n ≡ true → bad_tree s c ≡ false
  pub has_cursor : within 12 15 n ≡ true → no_cursor s c ≡ false
  pub at_record : among ((16, 19) ∷ (21, 23) ∷ []) n ≡ true → not_at_record s c ≡ false
  pub at_vacant : eqb 20 n ≡ true → not_kind 2 s c ≡ false
  pub at_last : eqb 24 n ≡ true → not_kind 4 s c ≡ false
  pub at_first : eqb 25 n ≡ true → not_kind 3 s c ≡ false
  pub mark_open : within 27 28 n ≡ true → unmarked s c ≡ false
  pub no_mark : among ((26, 26) ∷ (29, 29) ∷ []) n ≡ true → marked s c ≡ false
  pub name_good : adding n ≡ true → bad_name s c ≡ false
  pub slot_good : within 4 6 n ≡ true → bad_slot s c ≡ false
  pub not_stale : within 4 6 n ≡ true → stale s c ≡ false
  pub in_tree : within 4 6 n ≡ true → other_tree s c ≡ false
  pub key_absent : eqb 1 n ≡ true → present s c ≡ false
  pub key_before : among ((16, 16) ∷ (18, 18) ∷ (25, 25) ∷ []) n ≡ true → not_between left s c ≡ false
  pub key_behind : among ((17, 17) ∷ (19, 19) ∷ (24, 24) ∷ []) n ≡ true → not_between right s c ≡ false
  pub key_vacant : eqb 20 n ≡ true → not_the_entrys s c ≡ false
  pub one_there : among ((2, 3) ∷ (5, 8) ∷ (12, 15) ∷ (22, 23) ∷ []) n ≡ true → none_there s c ≡ false
  pub slot_free : adding n ≡ true → no_slot s c ≡ false
  pub text_fits : adding n ≡ true → no_text s c ≡ false
  pub stamp_left : adding n ≡ true → no_stamp s c ≡ false

-- A command that is not refused has passed the tests of its op.
pub passed : (s : State) (c : Command) → refusal s c ≡ 0 → Passed c.op s c
unfolding refusal refusals refuse◌at◌if◌ always every row_in place_in
passed s c z =
    let by : (i : ℕ) → (row_in refusals i).ops c.op ≡ true → (row_in refusals i).given s c ≡ false = clear c.op s c refusals refl z in
    record {
      op_is = refl;
      op_known = λ h. never refl (by (row_of 10) h);
      tree_good = by (row_of 11);
      has_cursor = by at_cursor_row;
      at_record = by at_record_row;
      at_vacant = by at_vacant_row;
      at_last = by at_last_row;
      at_first = by at_first_row;
      mark_open = by (row_of 23);
      no_mark = by (row_of 24);
      name_good = by (row_of 13);
      slot_good = by (row_of 14);
      not_stale = by (row_of 15);
      in_tree = by (row_of 16);
      key_absent = by (row_of 17);
      key_before = by key_before_row;
      key_behind = by key_behind_row;
      key_vacant = by key_vacant_row;
      one_there = by (row_of 19);
      slot_free = by (row_of 20);
      text_fits = by (row_of 21);
      stamp_left = by (row_of 22);
    }

-- ---- the ops

module _ {n : ℕ} {s : State} {c : Command} (t : Passed n s c) where
  -- Ops 1 to 11 name their tree, the others use the cursor's.
  pub tree_is : tree_of s c ≡ cond (within 1 11 n) c.tree (cursor_tree s.cursor)
  unfolding tree_of
  tree_is = ap (λ (o : ℕ). cond (within 1 11 o) c.tree (cursor_tree s.cursor)) t.op_is

  -- The record meant is that of the op's row.
  pub meant_is : meant s c ≡ (op_in ops n).means s c
  unfolding meant op_of
  meant_is = ap (λ (o : ℕ). (op_in ops o).means s c) t.op_is

-- the numbers of the ops
abbrev pub every_op : List ℕ
every_op = span 1 last_op

-- A command that is not refused has one of them.
known : (s : State) (c : Command) → refusal s c ≡ 0 → (1 ≤ c.op) × (c.op ≤ last_op)
unfolding unknown
known s c z = test (within 1 last_op c.op) (λ h. within_is 1 last_op c.op h) (λ h. absurd ((passed s c z).op_known (ap not h)))

-- What holds of the ops of a list, for a command that passed their tests, holds of a command whose op has a property, if the list has all such ops.
pub at_ops : (P : ℕ → Type 0) (t : ℕ → Bool) (l : List ℕ) → every (λ n. leb (bit (t n)) (count (eqb n) l)) every_op ≡ true
    → (s : State) (c : Command) → refusal s c ≡ 0 → t c.op ≡ true → All (λ n. Passed n s c → P n) l → P c.op
at_ops P t l e s c z h a =
    let k = known s c z in
    let m = every_span (λ n. leb (bit (t n)) (count (eqb n) l)) 1 last_op c.op k.0 (omega (arith, k.1)) e in
    counted c.op l a (omega (arith, leb-true (bit (t c.op)) (count (eqb c.op) l) m, ap bit h)) (passed s c z)

-- So with all ops.
pub at_every_op : (P : ℕ → Type 0) (s : State) (c : Command) → refusal s c ≡ 0 → All (λ n. Passed n s c → P n) every_op → P c.op
unfolding every count span
at_every_op P s c z a = at_ops P (λ _. true) every_op refl s c z refl a
