-- The tests that commands share, on the head and the body, are those of `meaning`; and what a command may rely on where they have passed.
-- Assumes nothing.
use Rattle.std.proofs.Common.{◌≡◌, ℕ, ◌≤◌, Bool, true, false, cond, not, eqb, List, length, refl, ap, ◌∙◌, arith, ne_eqb}
use Rattle.std.proofs.Math.Option.{Option, none, some}
use Rattle.std.proofs.lemmas.Bool.{eqb-false, not-false}
use Rattle.meaning.specs.Layout.{within}
use Rattle.meaning.specs.Pool.{Rec, Pool, rec_at, lives_in}
use Rattle.meaning.specs.Cursor.{State}
use Rattle.meaning.specs.Command.{bad_tree, bad_slot, is_stale, stale, is_elsewhere, other_tree}
use Rattle.meaning.specs.WellFormed.{WellFormed}
use Rattle.meaning.proofs.Clauses.{within_is}
use Rattle.meaning.proofs.Tables.{never}
use Rattle.slots.specs.Record.{record_n}
use Rattle.slots.specs.Image.{body_of, head_of, record_of, shown_of}
use Rattle.slots.specs.declared.record.Record.{Record}
use Rattle.slots.proofs.Looking.{record_image}
use Rattle.cursor.specs.Tests.{tree_test, slot_test, handle_n}
use Rattle.ops.specs.Ops.{handle_tests_n}
use Rattle.ops.specs.Image.{meant_by}
use Rattle.cursor.specs.declared.command.Command.{Command as CodeCommand}
use Rattle.ops.proofs.Rows.{then_same, passed_test}
use Rattle.ops.proofs.Table.{handle_tests}

-- A test for NONE that has passed: there is a record.
pub none_passed : (x : ℕ) → cond {A = ℕ} (eqb x 0) 19 0 ≡ 0 → x ≡ 0 → ⊥
none_passed x z = eqb-false x 0 (passed_test (eqb x 0) 19 (omega arith) z).0

-- ---- the tree

module _ (s : State) (names : List ℕ) (c : CodeCommand) where
  -- The test of the tree, before what need be the same only where it has passed.
  pub tree_same : {r t : ℕ} → (bad_tree s (meant_by names c) ≡ false → r ≡ t) → tree_test (head_of s.pool).numbers c r ≡ cond (bad_tree s (meant_by names c)) 11 t
  unfolding tree_test bad_tree head_of meant_by
  tree_same f = then_same (bad_tree s (meant_by names c)) 11 f

  -- Where nothing is refused it has passed.
  pub tree_passed : {r : ℕ} → tree_test (head_of s.pool).numbers c r ≡ 0 → (bad_tree s (meant_by names c) ≡ false) × (r ≡ 0)
  unfolding tree_test bad_tree head_of meant_by
  tree_passed z = passed_test (bad_tree s (meant_by names c)) 11 (omega arith) z

-- ---- the handle

vacated : (c : CodeCommand) (r t : ℕ) → handle_n (shown_of none) c r ≡ cond (is_stale c.stamp none) 15 (cond (is_elsewhere c.tree none) 16 t)
unfolding handle_n shown_of is_stale
vacated c r t = refl

held : (c : CodeCommand) (v : Rec) (r t : ℕ) → (v.tree ≡ 0 → ⊥) → (lives_in c.tree (some v) ≡ true → r ≡ t)
    → handle_n (shown_of (some v)) c r ≡ cond (is_stale c.stamp (some v)) 15 (cond (is_elsewhere c.tree (some v)) 16 t)
unfolding handle_n shown_of record_of is_stale is_elsewhere lives_in
held c v r t n f =
    let this = not (eqb v.stamp c.stamp) in
    let that = not (eqb v.tree c.tree) in
    ap (λ (b : Bool). cond b 15 (cond this 15 (cond that 16 r))) (ne_eqb v.tree 0 n)
    ∙ then_same this 15 (λ _. then_same that 16 (λ h. f (not-false (eqb v.tree c.tree) h)))

-- The tests of a handle; what follows them need be the same only where the slot holds a record of the tree.
handle_same : (p : Pool) (c : CodeCommand) → WellFormed p → c.slot ≤ length p.slots → (r t : ℕ)
    → (lives_in c.tree (rec_at p c.slot) ≡ true → r ≡ t)
    → handle_n (record_n (body_of p) c.slot) c r
    ≡ cond (is_stale c.stamp (rec_at p c.slot)) 15 (cond (is_elsewhere c.tree (rec_at p c.slot)) 16 t)
handle_same p c good high r t same = ap (λ (v : Record). handle_n v c r) (record_image p good c.slot high) ∙ go (rec_at p c.slot) refl same
  where
    go : (o : Option Rec) → rec_at p c.slot ≡ o → (lives_in c.tree o ≡ true → r ≡ t)
        → handle_n (shown_of o) c r ≡ cond (is_stale c.stamp o) 15 (cond (is_elsewhere c.tree o) 16 t)
    go none e f = vacated c r t
    go (some v) e f = held c v r t (λ z. omega (arith, z, (good.recs c.slot v e).tree_low)) f

-- a record that is neither stale nor elsewhere lives in the tree
handle_lives : (t g : ℕ) (o : Option Rec) → is_stale g o ≡ false → is_elsewhere t o ≡ false → lives_in t o ≡ true
unfolding is_stale is_elsewhere lives_in
handle_lives t g none h k = never refl h
handle_lives t g (some v) h k = not-false (eqb v.tree t) k

module _ (s : State) (good : WellFormed s.pool) (names : List ℕ) (c : CodeCommand) where
  slot_same : {r t : ℕ} → (c.slot ≤ length s.pool.slots → r ≡ t) → slot_test (head_of s.pool).numbers c r ≡ cond (bad_slot s (meant_by names c)) 14 t
  unfolding slot_test bad_slot head_of meant_by
  slot_same f =
      let n = length s.pool.slots in
      then_same (bad_slot s (meant_by names c)) 14 (λ h. f (within_is 1 n c.slot (not-false (within 1 n c.slot) h)).1)

  -- The tests of a handle, before what need be the same only where they have passed.
  pub handles_same : (r t : ℕ) → (bad_tree s (meant_by names c) ≡ false → lives_in c.tree (rec_at s.pool c.slot) ≡ true → r ≡ t)
      → handle_tests_n (body_of s.pool) (head_of s.pool).numbers c r ≡ handle_tests s (meant_by names c) t
  unfolding handle_tests_n stale other_tree meant_by
  handles_same r t f = tree_same s names c (λ h. slot_same (λ high. handle_same s.pool c good high r t (f h)))

  -- Where nothing is refused the slot holds a record of the tree.
  pub handles_passed : {t : ℕ} → handle_tests s (meant_by names c) t ≡ 0
      → (bad_tree s (meant_by names c) ≡ false) × (lives_in c.tree (rec_at s.pool c.slot) ≡ true) × (t ≡ 0)
  unfolding stale other_tree meant_by
  handles_passed z =
      let a = passed_test (bad_tree s (meant_by names c)) 11 (omega arith) z in
      let b = passed_test (bad_slot s (meant_by names c)) 14 (omega arith) a.1 in
      let d = passed_test (stale s (meant_by names c)) 15 (omega arith) b.1 in
      let e = passed_test (other_tree s (meant_by names c)) 16 (omega arith) d.1 in
      (a.0, handle_lives c.tree c.stamp (rec_at s.pool c.slot) d.0 e.0, e.1)
