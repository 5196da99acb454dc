-- One command: what it does on the body and the state of a good state is what `meaning` says, for every op but a rollback, which asks for the journal
-- (crate `batch`). Assumes nothing.
use Rattle.std.proofs.Common.{◌≡◌, ℕ, ◌<◌, ◌≤◌, true, false, eqb, ltb, List, sym, refl, subst, inl, inr, arith, ltb-false, ltb-true, ne_eqb, eqb-true}
use Rattle.std.proofs.Math.Option.{Option}
use Rattle.std.proofs.lemmas.Bool.{eqb-false}
use Rattle.avl.specs.Order.{All, nil, more}
use Rattle.avl.specs.Tree.{left, right}
use Rattle.meaning.specs.Layout.{span, within}
use Rattle.meaning.specs.Pool.{Pool}
use Rattle.meaning.specs.Cursor.{nowhere, State, cursor_tree}
use Rattle.meaning.specs.Command.{last_op, Performed, perform}
use Rattle.meaning.specs.States.{GoodState, Parsed}
use Rattle.meaning.proofs.Among.{all_span}
use Rattle.meaning.proofs.Facts.{test}
use Rattle.slots.specs.Image.{body_of}
use Rattle.slots.specs.Record.{record_n}
use Rattle.cursor.specs.Tests.{aimed_n}
use Rattle.cursor.specs.Work.{Work, placed}
use Rattle.ops.specs.Ending.{look_n}
use Rattle.ops.specs.Perform.{alters, settles, see_n, alter_n, settle_n, at_op, perform_n}
use Rattle.ops.specs.Image.{work_in, meant_by}
use Rattle.cursor.specs.declared.command.Command.{Command}
use Rattle.ops.proofs.Agreeing.{Agrees}
use Rattle.ops.proofs.Sights.{get_agrees, next_agrees, prev_agrees, first_agrees, last_agrees, entry_agrees, first_entry_agrees, last_entry_agrees, peek_next_agrees, peek_prev_agrees, move_next_agrees, move_prev_agrees}
use Rattle.ops.proofs.Removals.{remove_by_key_agrees, remove_handle_agrees, remove_here_agrees, remove_prev_agrees, remove_next_agrees}
use Rattle.ops.proofs.Insertions.{add_agrees, insert_beside_agrees, insert_node_agrees, insert_end_agrees}
use Rattle.ops.proofs.Markings.{mark_agrees, commit_agrees, reset_agrees}
use Rattle.ops.proofs.Unknown.{outside, unknown_agrees}
use Rattle.ops.proofs.Nexts.{on, aimed_own, aimed_on}
use Rattle.ops.proofs.Views as view

-- a number above all ops' numbers
above_all : (m names : List ℕ) (u : Work) (c : Command) (n : ℕ) → last_op < n → at_op m names u c n ≡ (m, view.refusal (placed u nowhere) 10)
unfolding at_op alters settles see_n look_n record_n
above_all m names u c n h =
    let other : (k : ℕ) → k < 30 → eqb n k ≡ false = λ k l. ne_eqb n k (λ e. omega (arith, e, h, l)) in
    let altering : within 16 25 n ≡ false = outside 16 25 n (inr (omega (arith, h))) in
    let settling : within 26 last_op n ≡ false = outside 26 last_op n (inr h) in
    simp (altering, settling, other 1 (omega arith), other 2 (omega arith), other 3 (omega arith), other 4 (omega arith), other 5 (omega arith), other 6 (omega arith), other 7 (omega arith), other 8 (omega arith), other 9 (omega arith), other 10 (omega arith), other 11 (omega arith), other 12 (omega arith), other 13 (omega arith), other 14 (omega arith), other 15 (omega arith))

module _ (w : Option Pool) (s : State) (g : GoodState w s) (names : List ℕ) (c : Command) (f : Parsed (meant_by names c)) where
  abbrev m : List ℕ
  m = body_of s.pool

  -- the cursor's tree
  abbrev t : ℕ
  t = cursor_tree s.cursor

  abbrev q : Performed
  q = perform s (meant_by names c)

  -- the command agrees at op n, if that is its own
  abbrev AgreesAt : ℕ → Type 0
  AgreesAt n = c.op ≡ n → (c.op ≡ 27 → ⊥) → Agrees s q (at_op m names (work_in s) (aimed_n c t) n)

  -- an op on the tree that it names, and one on the cursor's
  named : (n : ℕ) → c.op ≡ n → ltb 11 n ≡ false → Agrees s q (at_op m names (work_in s) c n) → Agrees s q (at_op m names (work_in s) (aimed_n c t) n)
  named n e h a = subst (λ (b : Command). Agrees s q (at_op m names (work_in s) b n)) (sym (aimed_own c t n e h)) a

  pointed : (n : ℕ) → c.op ≡ n → ltb 11 n ≡ true → Agrees s q (at_op m names (work_in s) (on c t) n) → Agrees s q (at_op m names (work_in s) (aimed_n c t) n)
  pointed n e h a = subst (λ (b : Command). Agrees s q (at_op m names (work_in s) b n)) (sym (aimed_on c t n e h)) a

  -- the ops, each by its kind's law
  all_agree : All AgreesAt (span 1 last_op)
  unfolding span at_op alters settles within see_n alter_n settle_n work_in
  all_agree =
      more (λ e _. named 1 e refl (add_agrees w s g names c f e))
      (more (λ e _. named 2 e refl (get_agrees s g names c e))
      (more (λ e _. named 3 e refl (remove_by_key_agrees s g names c e))
      (more (λ e _. named 4 e refl (remove_handle_agrees s g names c e))
      (more (λ e _. named 5 e refl (next_agrees s g names c e))
      (more (λ e _. named 6 e refl (prev_agrees s g names c e))
      (more (λ e _. named 7 e refl (first_agrees s g names c e))
      (more (λ e _. named 8 e refl (last_agrees s g names c e))
      (more (λ e _. named 9 e refl (entry_agrees s g names c f e))
      (more (λ e _. named 10 e refl (first_entry_agrees s g names c e))
      (more (λ e _. named 11 e refl (last_entry_agrees s g names c e))
      (more (λ e _. pointed 12 e refl (peek_next_agrees s g names c e))
      (more (λ e _. pointed 13 e refl (peek_prev_agrees s g names c e))
      (more (λ e _. pointed 14 e refl (move_next_agrees s g names c e))
      (more (λ e _. pointed 15 e refl (move_prev_agrees s g names c e))
      (more (λ e _. pointed 16 e refl (insert_beside_agrees w s g names c f left false e))
      (more (λ e _. pointed 17 e refl (insert_beside_agrees w s g names c f right false e))
      (more (λ e _. pointed 18 e refl (insert_beside_agrees w s g names c f left true e))
      (more (λ e _. pointed 19 e refl (insert_beside_agrees w s g names c f right true e))
      (more (λ e _. pointed 20 e refl (insert_node_agrees w s g names c f e))
      (more (λ e _. pointed 21 e refl (remove_here_agrees s g names c e))
      (more (λ e _. pointed 22 e refl (remove_prev_agrees s g names c e))
      (more (λ e _. pointed 23 e refl (remove_next_agrees s g names c e))
      (more (λ e _. pointed 24 e refl (insert_end_agrees w s g names c f right e))
      (more (λ e _. pointed 25 e refl (insert_end_agrees w s g names c f left e))
      (more (λ e _. mark_agrees s names c e)
      (more (λ e n. absurd (n e))
      (more (λ e _. commit_agrees s names c e)
      (more (λ e _. reset_agrees s names c g.pool e)
      nil))))))))))))))))))))))))))))

  -- 0 is no op's number
  none : c.op ≡ 0 → Agrees s q (at_op m names (work_in s) (aimed_n c t) 0)
  unfolding at_op alters settles within see_n look_n record_n
  none e = unknown_agrees s names c (inl e)

  -- Every command but a rollback does what `meaning` says.
  pub perform_agrees : (c.op ≡ 27 → ⊥) → Agrees s q (perform_n m names (work_in s) c)
  unfolding perform_n work_in
  perform_agrees n =
      test (eqb c.op 0)
      (λ z. let e = eqb-true c.op 0 z in
      subst (λ (i : ℕ). Agrees s q (at_op m names (work_in s) (aimed_n c t) i)) (sym e) (none e))
      (λ z. test (ltb last_op c.op)
      (λ h. let l = ltb-true last_op c.op h in
      subst (Agrees s q) (sym (above_all m names (work_in s) (aimed_n c t) c.op l)) (unknown_agrees s names c (inr l)))
      (λ h. all_span AgreesAt 1 last_op c.op (known z) (omega (arith, ltb-false last_op c.op h)) all_agree refl n))
    where
      known : eqb c.op 0 ≡ false → 1 ≤ c.op
      known z = let d = eqb-false c.op 0 z in omega (arith, d)
