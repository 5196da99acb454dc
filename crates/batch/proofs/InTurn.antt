-- A command in its turn, with what it asks of the journal, does what `meaning` says: every op, a rollback too. Assumes nothing.
use Rattle.std.proofs.Common.{◌≡◌, ℕ, true, false, cond, eqb, List, sym, refl, ap, ◌∙◌, subst}
use Rattle.std.proofs.Math.Decide.{ℕ_discrete}
use Rattle.std.proofs.Math.Option.{Option, none, some}
use Rattle.meaning.specs.Layout.{within}
use Rattle.meaning.specs.Pool.{Pool}
use Rattle.meaning.specs.Change.{Mark, rollback}
use Rattle.meaning.specs.Cursor.{State, nowhere, kind, cursor_tree}
use Rattle.meaning.specs.Command.{answer, Performed, perform}
use Rattle.meaning.specs.States.{GoodState, Parsed}
use Rattle.meaning.proofs.Facts.{test}
use Rattle.slots.specs.Change.{Image}
use Rattle.slots.specs.Image.{body_of, head_of, shown_of}
use Rattle.journal.specs.declared.Entry.{Entry}
use Rattle.journal.proofs.Unrolling.{roll_state}
use Rattle.cursor.specs.Tests.{aimed_n}
use Rattle.cursor.specs.Work.{no_mark, Work, begun_n}
use Rattle.cursor.specs.declared.command.Command.{Command}
use Rattle.ops.specs.Ops.{settled_n, rollback_n}
use Rattle.ops.specs.Perform.{settles, settle_n, Out, settled_of, at_op, perform_n}
use Rattle.ops.specs.Image.{mark_of, work_in, meant_by}
use Rattle.ops.specs.Given.{Settled}
use Rattle.ops.proofs.Agreeing.{Agrees, shut}
use Rattle.ops.proofs.Markings.{rollback_refused, rollback_done}
use Rattle.ops.proofs.Performing.{perform_agrees}
use Rattle.batch.specs.Run.{settle_all_n, turn_n}
use Rattle.batch.proofs.Noting.{Notes, kept_changes}
use Rattle.batch.proofs.OpKinds.{settles_alters}

-- ---- a command that asks for no rollback

module _ (m names : List ℕ) (w : Work) (es : List Entry) (n : ℕ) (c : Command) where
  abbrev settled : List ℕ × Settled
  settled = settle_n m w.head w.mark c.op

  asks_none : eqb settled.1.change 4 ≡ false → settle_all_n m w.head w.mark es n c.op ≡ settled
  unfolding settle_all_n
  asks_none h = simp h

  settles_so : settles c.op ≡ true → perform_n m names w c ≡ (settled.0, settled_of settled.1)
  unfolding perform_n at_op
  settles_so h = simp (settles_alters c.op h, h)

  turn_settles : settles c.op ≡ true → eqb settled.1.change 4 ≡ false → turn_n m names w es n c ≡ (settled.0, settled_of settled.1)
  unfolding turn_n
  turn_settles h z = simp h (ap (λ (r : List ℕ × Settled). (r.0, settled_of r.1)) (asks_none z))

  turn_other : settles c.op ≡ false → turn_n m names w es n c ≡ perform_n m names w c
  unfolding turn_n perform_n
  turn_other h = simp h

  -- it is what the command does
  turn_same : eqb (perform_n m names w c).1.change 4 ≡ false → turn_n m names w es n c ≡ perform_n m names w c
  turn_same z =
      test (settles c.op)
      (λ h. let i = settles_so h in turn_settles h (sym (ap (λ (o : Out). eqb o.1.change 4) i) ∙ z) ∙ sym i) turn_other

-- ---- a rollback that is done

-- what it leaves agrees
rolled_agrees : (s : State) (p : Pool)
    → Agrees s (record { state = record { pool = p; cursor = nowhere; mark = none }; answer = answer 0 0 0 none })
    (body_of p, settled_of (settled_n (head_of p) (mark_of none) 0 3))
unfolding work_in begun_n shown_of kind
rolled_agrees s p =
    record {
      body = refl;
      work = refl;
      shown = none;
      rec_is = refl;
      slot_none = λ _. refl;
      answer_is = refl;
      goes_on = refl;
      marks = shut;
    }

module _ (w : Option Pool) (s : State) (g : GoodState w s) (names : List ℕ) (c : Command) (n : ℕ) (es : List Entry) (l : Notes s.mark n es)
    (is : c.op ≡ 27) where
  abbrev m : List ℕ
  m = body_of s.pool

  -- at its number
  rolls : turn_n m names (work_in s) es n c
      ≡ (let r = settle_all_n m (head_of s.pool) (mark_of s.mark) es n 27 in (r.0, settled_of r.1))
  unfolding turn_n settles within work_in
  rolls = ap (λ (op : ℕ).
      let r = settle_all_n m (head_of s.pool) (mark_of s.mark) es n op in
      cond {A = Out} (settles op) (r.0, settled_of r.1) (at_op m names (work_in s) (aimed_n c (cursor_tree s.cursor)) op)) is

  -- the journal undone
  undone : (k : Mark) → s.mark ≡ some k → (let p = rollback k s.pool in
      settle_all_n m (head_of s.pool) (mark_of s.mark) es n 27 ≡ (body_of p, settled_n (head_of p) (mark_of none) 0 3))
  unfolding settle_all_n settle_n rollback_n mark_of
  undone k i =
      ap (λ (o : Option Mark). settle_all_n m (head_of s.pool) (mark_of o) es n 27) i
      ∙ ap (λ (o : Image). (o.0, settled_n o.1 no_mark 0 3)) (roll_state w s g k i n es (kept_changes k l i))

  -- none is open: it is refused
  refused : s.mark ≡ none → settle_all_n m (head_of s.pool) (mark_of s.mark) es n 27 ≡ (m, rollback_n (head_of s.pool) (mark_of s.mark))
  unfolding settle_all_n settle_n rollback_n mark_of
  refused i =
      ap (λ (o : Option Mark). settle_all_n m (head_of s.pool) (mark_of o) es n 27) i
      ∙ sym (ap (λ (o : Option Mark). (m, rollback_n (head_of s.pool) (mark_of o))) i)

  rollback_agrees : (o : Option Mark) → s.mark ≡ o → Agrees s (perform s (meant_by names c)) (turn_n m names (work_in s) es n c)
  rollback_agrees none i =
      subst (Agrees s (perform s (meant_by names c))) (sym (rolls ∙ ap (λ (r : List ℕ × Settled). (r.0, settled_of r.1)) (refused i)))
      (rollback_refused s names c is i)
  rollback_agrees (some k) i =
      subst (Agrees s (perform s (meant_by names c))) (sym (rolls ∙ ap (λ (r : List ℕ × Settled). (r.0, settled_of r.1)) (undone k i)))
      (subst (λ (q : Performed). Agrees s q (body_of (rollback k s.pool), settled_of (settled_n (head_of (rollback k s.pool)) (mark_of none) 0 3)))
      (sym (rollback_done s names c k is i)) (rolled_agrees s (rollback k s.pool)))

-- Every command in its turn does what `meaning` says, if the journal keeps the changes of an open mark.
pub turn_agrees : (w : Option Pool) (s : State) → GoodState w s → (names : List ℕ) (c : Command) → Parsed (meant_by names c) → (n : ℕ) (es : List Entry)
    → Notes s.mark n es → Agrees s (perform s (meant_by names c)) (turn_n (body_of s.pool) names (work_in s) es n c)
turn_agrees w s g names c parsed n es l = go (ℕ_discrete c.op 27)
  where
    go : Dec (c.op ≡ 27) → Agrees s (perform s (meant_by names c)) (turn_n (body_of s.pool) names (work_in s) es n c)
    go (yes e) = rollback_agrees w s g names c n es l e s.mark refl
    go (no d) =
        let a = perform_agrees w s g names c parsed d in
        subst (Agrees s (perform s (meant_by names c))) (sym (turn_same (body_of s.pool) names (work_in s) es n c a.goes_on)) a
