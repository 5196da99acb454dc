-- What the two tables of `meaning` say of a command by its op's number, and chains of tests compared test by test. Assumes nothing.
use Rattle.std.proofs.Common.{◌≡◌, ℕ, ◌≤◌, Bool, true, false, cond, eqb, sym, refl, ap, ◌∙◌, arith}
use Rattle.meaning.specs.Layout.{within}
use Rattle.meaning.specs.Cursor.{Command, Cursor, nowhere, State, cursor_tree, tree_of, Meant, Then}
use Rattle.meaning.specs.Command.{Act, Op, op◌means◌does◌then◌, ops, op_in, op_of, meant, none_there, refusals, first_of, refusal, after_refusal}

-- ---- the tables

-- the command's op: what it means, does and leaves, its tests, and the cursor after a refusal with a number
pub record Row (s : State) (c : Command) (M : Meant) (A : Act) (T : Then) (tests : ℕ) (lost : ℕ → Cursor) : Type 0 where
  pub number : ℕ
  pub op_is : op_of c ≡ (op number means M does A then T)
  pub tests_are : refusal s c ≡ tests
  pub lost_is : (e : ℕ) → lost e ≡ after_refusal c.op e s.cursor

-- What the tables say at a number holds of a command with that number.
pub row_at : {s : State} {c : Command} {M : Meant} {A : Act} {T : Then} {tests : ℕ} {lost : ℕ → Cursor} (n : ℕ) → c.op ≡ n
    → op_in ops n ≡ (op n means M does A then T) → first_of refusals n s c ≡ tests → ((e : ℕ) → lost e ≡ after_refusal n e s.cursor)
    → Row s c M A T tests lost
unfolding op_of refusal
row_at {s} {c} n i o r l =
    record {
      number = n;
      op_is = ap (op_in ops) i ∙ o;
      tests_are = ap (λ (j : ℕ). first_of refusals j s c) i ∙ r;
      lost_is = λ e. l e ∙ sym (ap (λ (j : ℕ). after_refusal j e s.cursor) i);
    }

-- Ops 1 to 11 name their tree, the others use the cursor's.
pub tree_at_lem : (s : State) (c : Command) (n : ℕ) → c.op ≡ n → tree_of s c ≡ cond (within 1 11 n) c.tree (cursor_tree s.cursor)
unfolding tree_of
tree_at_lem s c n i = ap (λ (o : ℕ). cond (within 1 11 o) c.tree (cursor_tree s.cursor)) i

-- the cursor after a refusal with e: one number loses it
abbrev pub lost_at : ℕ → Cursor → ℕ → Cursor
lost_at n k e = cond (eqb e n) nowhere k

-- ---- chains of tests

-- What follows a test need be the same only where the test is not met.
pub then_same : (b : Bool) (k : ℕ) {r t : ℕ} → (b ≡ false → r ≡ t) → cond b k r ≡ cond b k t
then_same true k h = refl
then_same false k h = h refl

-- A chain that gives 0 has passed its first test, and what follows it gives 0.
pub passed_test : (b : Bool) (k : ℕ) {r : ℕ} → 1 ≤ k → cond b k r ≡ 0 → (b ≡ false) × (r ≡ 0)
passed_test true k l h = absurd (omega arith)
passed_test false k l h = (refl, h)

-- The test for NONE is that of the record which the op means.
pub none_same : {s : State} {c : Command} {M : Meant} {A : Act} {T : Then} {tests : ℕ} {lost : ℕ → Cursor} → Row s c M A T tests lost → (x : ℕ)
    → x ≡ M s c → cond {A = ℕ} (eqb x 0) 19 0 ≡ cond {A = ℕ} (none_there s c) 19 0
unfolding none_there meant op◌means◌does◌then◌
none_same {s} {c} r x i = ap (λ (y : ℕ). cond {A = ℕ} (eqb y 0) 19 0) (i ∙ sym (ap (λ (o : Op). o.means s c) r.op_is))
