-- The numbers of the ops: what each kind of op does, and a number that is no op's. Assumes nothing.
use Rattle.std.specs.Prelude.{Err}
use Rattle.std.proofs.Common.{◌≡◌, ℕ, zero, suc, ◌<◌, ◌≤◌, true, false, eqb, ◌⊎◌, List, [], ◌∷◌, sym, refl, ap, subst, inl, inr, ◌∙◌, arith, eqb-true, le-leb}
use Rattle.format.specs.declared.refusal.Refusal.TheVariants.{BadOp}
use Rattle.tree.specs.declared.dir.Dir.{Dir}
use Rattle.tree.specs.declared.dir.Dir.TheVariants.{Left, Right}
use Rattle.tree.specs.declared.node.AvlTree.{AvlTree}
use Rattle.meaning.specs.Layout.{within}
use Rattle.meaning.specs.Command.{last_op}
use Rattle.meaning.specs.Cursor.{Cursor}
use Rattle.meaning.proofs.Facts.{test}
use Rattle.meaning.proofs.Clauses.{within_is}
use Rattle.meaning.proofs.Tables.{never}
use Rattle.slots.specs.declared.head.Head.{Head}
use Rattle.slots.specs.declared.head.Numbers.{Numbers}
use Rattle.cursor.specs.Given.{Mark as GivenMark, sight_in, step_in}
use Rattle.cursor.specs.declared.command.Command.{Command}
use Rattle.cursor.specs.declared.cursor.Next.TheVariants.{Gone}
use Rattle.cursor.specs.declared.result.Refused.{Refused}
use Rattle.ops.specs.Ending.{look_n}
use Rattle.ops.specs.Given.{settled_in}
use Rattle.ops.specs.Op.{by_side, show_number, alter_number, settle_number, op_number}
use Rattle.ops.specs.Perform.{alters, settles, see_n, alter_n, settle_n}
use Rattle.ops.specs.declared.op.Alter.{Alter}
use Rattle.ops.specs.declared.op.Alter.TheVariants.{Add, RemoveByKey, Remove, InsertBeside, InsertAndMove, InsertNode, RemoveHere, RemoveBeside, InsertEnd}
use Rattle.ops.specs.declared.op.Op.{Op}
use Rattle.ops.specs.declared.op.Settle.{Settle}
use Rattle.ops.specs.declared.op.Settle.TheVariants.{Mark, Rollback, Commit, Reset}
use Rattle.ops.specs.declared.op.Show.{Show}
use Rattle.ops.specs.declared.op.Show.TheVariants.{Get, Beside, End, Entry, EndEntry, Peek, Move}

-- ---- the last arm of a match over all ops

-- n is none of these numbers, last first, as a match over them leaves it
abbrev pub NoneOf : ℕ → List ℕ → Type 0
NoneOf n [] = Unit {0}
NoneOf n (k ∷ ks) = NoneOf n ks × (n ≡ k → ⊥)

-- the numbers from k down to 1
abbrev down : ℕ → List ℕ
down zero = []
down (suc k) = suc k ∷ down k

above : (n k : ℕ) → NoneOf n (down k) → 1 ≤ n → k < n
above n zero h low = low
above n (suc k) h low = omega (arith, above n k h.0 low, h.1)

-- What is none of the ops' numbers is beyond them.
pub none_of_all : (n : ℕ) → NoneOf n (down last_op) → within 1 last_op n ≡ false
none_of_all n h = test (within 1 last_op n) (λ t. let b = within_is 1 last_op n t in absurd (omega (arith, above n last_op h b.0, b.1))) (λ t. t)

-- ---- a number that is no op's

in_range : (lo hi n : ℕ) → lo ≤ n → n ≤ hi → within lo hi n ≡ true
unfolding within
in_range lo hi n g h = simp (le-leb lo n g, le-leb n hi h)

module _ (n : ℕ) (out : within 1 last_op n ≡ false) where
  -- It is not the number of one.
  other_number : (k : ℕ) → within 1 last_op k ≡ true → eqb n k ≡ false
  other_number k known = test (eqb n k) (λ e. never known (subst (λ (i : ℕ). within 1 last_op i ≡ false) (eqb-true n k e) out)) (λ e. e)

  -- Nor is it in a part of their range.
  not_within : (lo hi : ℕ) → 1 ≤ lo → hi ≤ last_op → within lo hi n ≡ false
  not_within lo hi low high =
      test (within lo hi n) (λ t. let b = within_is lo hi n t in never (in_range 1 last_op n (omega (arith, b.0, low)) (omega (arith, b.1, high))) out) (λ t. t)

  -- It alters nothing, and settles no mark.
  pub no_alter : alters n ≡ false
  unfolding alters within
  no_alter = simp (other_number 1 refl, other_number 3 refl, other_number 4 refl, not_within 16 25 (omega arith) (omega arith))

  pub no_settle : settles n ≡ false
  unfolding settles
  no_settle = not_within 26 last_op (omega arith) (omega arith)

  -- It is refused, and the cursor is lost.
  pub no_show : (m : List ℕ) (numbers : Numbers) (k : Cursor) (u : AvlTree) (c : Command)
      → sight_in (Err (record { why = BadOp; then = Gone })) ≡ see_n m numbers k u c n
  unfolding see_n look_n within
  no_show m numbers k u c =
      simp (
        other_number 2 refl,
        other_number 5 refl,
        other_number 6 refl,
        other_number 7 refl,
        other_number 8 refl,
        other_number 9 refl,
        other_number 10 refl,
        other_number 11 refl,
        other_number 12 refl,
        other_number 13 refl,
        other_number 14 refl,
        other_number 15 refl,
      )

-- ---- what each kind of op does

-- what holds on both sides
on_both : (P : ℕ → Type 0) (d : Dir) {l r : ℕ} → P l → P r → P (by_side d l r)
on_both P Left on_left on_right = on_left
on_both P Right on_left on_right = on_right

abbrev Alters : ℕ → Type 0
Alters n = (alters n ≡ true) × (settles n ≡ false)

abbrev Shows : ℕ → Type 0
Shows n = (alters n ≡ false) × (settles n ≡ false)

abbrev Settles : ℕ → Type 0
Settles n = (alters n ≡ false) × (settles n ≡ true)

pub show_only : (op : Show) → Shows (show_number op)
unfolding alters settles within
show_only Get = (refl, refl)
show_only (Beside d) = on_both Shows d (refl, refl) (refl, refl)
show_only (End d) = on_both Shows d (refl, refl) (refl, refl)
show_only Entry = (refl, refl)
show_only (EndEntry d) = on_both Shows d (refl, refl) (refl, refl)
show_only (Peek d) = on_both Shows d (refl, refl) (refl, refl)
show_only (Move d) = on_both Shows d (refl, refl) (refl, refl)

pub alter_only : (op : Alter) → Alters (alter_number op)
unfolding alters settles within
alter_only Add = (refl, refl)
alter_only RemoveByKey = (refl, refl)
alter_only Remove = (refl, refl)
alter_only (InsertBeside d) = on_both Alters d (refl, refl) (refl, refl)
alter_only (InsertAndMove d) = on_both Alters d (refl, refl) (refl, refl)
alter_only InsertNode = (refl, refl)
alter_only RemoveHere = (refl, refl)
alter_only (RemoveBeside d) = on_both Alters d (refl, refl) (refl, refl)
alter_only (InsertEnd d) = on_both Alters d (refl, refl) (refl, refl)

pub settle_only : (op : Settle) → Settles (settle_number op)
unfolding alters settles within
settle_only Mark = (refl, refl)
settle_only Rollback = (refl, refl)
settle_only Commit = (refl, refl)
settle_only Reset = (refl, refl)

-- ---- an op of another kind than is asked for, or of none: refused, and the cursor is lost

abbrev unknown : Refused
unknown = record { why = BadOp; then = Gone }

module _ (m : List ℕ) (numbers : Numbers) (k : Cursor) (u : AvlTree) (c : Command) where
  abbrev pub NotShown : ℕ → Type 0
  NotShown n = sight_in (Err unknown) ≡ see_n m numbers k u c n

  pub alter_not_shown : (op : Alter) → NotShown (alter_number op)
  unfolding see_n look_n
  alter_not_shown Add = refl
  alter_not_shown RemoveByKey = refl
  alter_not_shown Remove = refl
  alter_not_shown (InsertBeside d) = on_both NotShown d refl refl
  alter_not_shown (InsertAndMove d) = on_both NotShown d refl refl
  alter_not_shown InsertNode = refl
  alter_not_shown RemoveHere = refl
  alter_not_shown (RemoveBeside d) = on_both NotShown d refl refl
  alter_not_shown (InsertEnd d) = on_both NotShown d refl refl

  pub settle_not_shown : (op : Settle) → NotShown (settle_number op)
  unfolding see_n look_n
  settle_not_shown Mark = refl
  settle_not_shown Rollback = refl
  settle_not_shown Commit = refl
  settle_not_shown Reset = refl

  module _ (names : List ℕ) where
    abbrev pub NotAltered : ℕ → Type 0
    NotAltered n = (m, step_in (Err unknown)) ≡ alter_n m names numbers k u c n

    pub show_not_altered : (op : Show) → NotAltered (show_number op)
    unfolding alter_n
    show_not_altered Get = refl
    show_not_altered (Beside d) = on_both NotAltered d refl refl
    show_not_altered (End d) = on_both NotAltered d refl refl
    show_not_altered Entry = refl
    show_not_altered (EndEntry d) = on_both NotAltered d refl refl
    show_not_altered (Peek d) = on_both NotAltered d refl refl
    show_not_altered (Move d) = on_both NotAltered d refl refl

    pub settle_not_altered : (op : Settle) → NotAltered (settle_number op)
    unfolding alter_n
    settle_not_altered Mark = refl
    settle_not_altered Rollback = refl
    settle_not_altered Commit = refl
    settle_not_altered Reset = refl

    pub not_altered : (n : ℕ) → within 1 last_op n ≡ false → NotAltered n
    unfolding alter_n within
    not_altered n out =
        simp (
          other_number n out 1 refl,
          other_number n out 3 refl,
          other_number n out 4 refl,
          other_number n out 16 refl,
          other_number n out 17 refl,
          other_number n out 18 refl,
          other_number n out 19 refl,
          other_number n out 20 refl,
          other_number n out 21 refl,
          other_number n out 22 refl,
          other_number n out 23 refl,
          other_number n out 24 refl,
          other_number n out 25 refl,
        )

module _ (m : List ℕ) (h : Head) (k : GivenMark) where
  abbrev pub NotSettled : ℕ → Type 0
  NotSettled n = (m, settled_in h k (Err BadOp)) ≡ settle_n m h k n

  pub show_not_settled : (op : Show) → NotSettled (show_number op)
  unfolding settle_n
  show_not_settled Get = refl
  show_not_settled (Beside d) = on_both NotSettled d refl refl
  show_not_settled (End d) = on_both NotSettled d refl refl
  show_not_settled Entry = refl
  show_not_settled (EndEntry d) = on_both NotSettled d refl refl
  show_not_settled (Peek d) = on_both NotSettled d refl refl
  show_not_settled (Move d) = on_both NotSettled d refl refl

  pub alter_not_settled : (op : Alter) → NotSettled (alter_number op)
  unfolding settle_n
  alter_not_settled Add = refl
  alter_not_settled RemoveByKey = refl
  alter_not_settled Remove = refl
  alter_not_settled (InsertBeside d) = on_both NotSettled d refl refl
  alter_not_settled (InsertAndMove d) = on_both NotSettled d refl refl
  alter_not_settled InsertNode = refl
  alter_not_settled RemoveHere = refl
  alter_not_settled (RemoveBeside d) = on_both NotSettled d refl refl
  alter_not_settled (InsertEnd d) = on_both NotSettled d refl refl

  pub not_settled : (n : ℕ) → within 1 last_op n ≡ false → NotSettled n
  unfolding settle_n within
  not_settled n out = simp (other_number n out 26 refl, other_number n out 27 refl, other_number n out 28 refl, other_number n out 29 refl)

-- What both other kinds say says the op that is one of them.
pub of_others : (P : ℕ → Type 0) {A B : Type 0} (a : A → Op) (b : B → Op) {n : ℕ} (op : Op) → op_number op ≡ n
    → ((x : A) → P (op_number (a x))) → ((x : B) → P (op_number (b x)))
    → ((x : A) × (op ≡ a x)) ⊎ ((x : B) × (op ≡ b x)) → P n
of_others P a b op k f g (inl e) = subst P (sym (ap op_number e.1) ∙ k) (f e.0)
of_others P a b op k f g (inr e) = subst P (sym (ap op_number e.1) ∙ k) (g e.0)
