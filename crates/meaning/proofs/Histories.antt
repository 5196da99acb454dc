-- What every act on a pool keeps is kept by every command, by every row of commands and by a batch's end: one induction over the table of ops, for
-- any property of the pool and the pool at the open mark. Assumes nothing.
use Rattle.std.proofs.Common.{◌≡◌, ℕ, Bool, true, false, cond, eqb, List, [], ◌∷◌, refl, eqb-true}
use Rattle.std.proofs.Math.Option.{Option, none, some}
use Rattle.avl.specs.Order.{All, nil, more}
use Rattle.meaning.specs.Layout.{within, span}
use Rattle.meaning.specs.Pool.{Rec, Pool, rec_at}
use Rattle.meaning.specs.Change.{with_text, drop_rec, add_rec, emptied, Mark, rollback, rolled_back}
use Rattle.meaning.specs.Cursor.{Command, State, tree_of}
use Rattle.meaning.specs.Command.{show, taken_out, take_out, add_new, silent, open_mark, roll_back, commit, reset, op◌means◌does◌then◌, ops, op_in, op_of, among, adding, refusal, refused, carried_out, perform}
use Rattle.meaning.specs.Doors.{run, ended}
use Rattle.meaning.specs.WellFormed.{WellFormed}
use Rattle.meaning.specs.Calls.{Inside, none_more, one_more}
use Rattle.meaning.specs.States.{Journal, shut, begun, GoodState, Parsed}
use Rattle.meaning.proofs.Good.{Addable, Restored}
use Rattle.meaning.proofs.Undoing.{undo_keeps}
use Rattle.meaning.proofs.Journals.{restored}
use Rattle.meaning.proofs.Adding.{adding_ok}
use Rattle.meaning.proofs.Tables.{Passed, every_op, at_every_op}
use Rattle.meaning.proofs.Commands.{after_op, marked_at, perform_good}
use Rattle.meaning.proofs.Batches.{AllParsed, none_left, and_then}

-- a property of the pool at the open mark, if there is one, and of the pool, which every act but a rollback keeps
pub record Forward (Q : Option Pool → Pool → Type 0) : Type 0 where
  pub takes : (w : Option Pool) (p : Pool) (x : ℕ) (r : Rec) → WellFormed p → rec_at p x ≡ some r → Q w p → Q w (drop_rec x r p)
  pub adds : (w : Option Pool) (p : Pool) (t k : ℕ) (name : List ℕ) → WellFormed p → Addable p t k name → Q w p → Q w (add_rec t k name p)
  pub opens : (w : Option Pool) (p : Pool) → WellFormed p → Q w p → Q (some p) p
  pub shuts : (w : Option Pool) (p : Pool) → Q w p → Q none p
  pub empties : (w : Option Pool) (p : Pool) → Q w p → Q none (emptied p)

-- and which a rollback keeps too
pub record Keeps (Q : Option Pool → Pool → Type 0) : Type 0 where
  pub forward : Forward Q
  pub restores : (p₀ p q : Pool) → Restored p₀ q → q.next ≡ p.next → Q (some p₀) p → Q none q

-- A rollback keeps the next stamp.
rolled_next : (m : Mark) (p : Pool) → (rollback m p).next ≡ p.next
unfolding rollback with_text
rolled_next m p = (undo_keeps m.changes p).next

-- Rolled back, or left where no mark is open, a pool has the property.
rolled_keeps : {Q : Option Pool → Pool → Type 0} → Keeps Q → (w : Option Pool) (m : Option Mark) (p : Pool) → WellFormed p → Journal w m p → Q w p
    → Q none (rolled_back m p)
unfolding rolled_back
rolled_keeps k w m p g shut q = k.forward.shuts none p q
rolled_keeps k w m p g (begun {p₀ = p₀} {m = n} g₀ h) q = k.restores p₀ p (rollback n p) (restored p₀ n p g (begun g₀ h)) (rolled_next n p) q

-- ---- one command

module _ {Q : Option Pool → Pool → Type 0} (k : Forward Q) (w : Option Pool) (s : State) (c : Command) (g : GoodState w s) (q : Q w s.pool)
    (roll : c.op ≡ 27 → Q none (rolled_back s.mark s.pool)) where
  taken : (x : ℕ) → Q w (take_out s c x).pool
  unfolding take_out taken_out
  taken x = go (rec_at s.pool x) refl
    where
      go : (o : Option Rec) → rec_at s.pool x ≡ o → Q w (taken_out s x o).pool
      go none e = q
      go (some r) e = k.takes w s.pool x r g.pool e q

  table : Parsed c → refusal s c ≡ 0 → All (λ n. Passed n s c → Q (after_op n w s) (carried_out (op_in ops n) s c).state.pool) every_op
  unfolding after_op ops op_in op◌means◌does◌then◌ span within among adding carried_out show add_new silent open_mark roll_back commit reset
  table parsed z =
      let new : (n : ℕ) → Passed n s c → adding n ≡ true → Q w (add_rec (tree_of s c) c.key c.name s.pool) =
      λ n t h. k.adds w s.pool (tree_of s c) c.key c.name g.pool (adding_ok w s c parsed g (rw t.op_is h) z) q in
      more (λ t. new _ t refl)
      (more (λ t. q)
      (more (λ t. taken _)
      (more (λ t. taken _)
      (more (λ t. q)
      (more (λ t. q)
      (more (λ t. q)
      (more (λ t. q)
      (more (λ t. q)
      (more (λ t. q)
      (more (λ t. q)
      (more (λ t. q)
      (more (λ t. q)
      (more (λ t. q)
      (more (λ t. q)
      (more (λ t. new _ t refl)
      (more (λ t. new _ t refl)
      (more (λ t. new _ t refl)
      (more (λ t. new _ t refl)
      (more (λ t. new _ t refl)
      (more (λ t. taken _)
      (more (λ t. taken _)
      (more (λ t. taken _)
      (more (λ t. new _ t refl)
      (more (λ t. new _ t refl)
      (more (λ t. k.opens w s.pool g.pool q)
      (more (λ t. roll t.op_is)
      (more (λ t. k.shuts w s.pool q)
      (more (λ t. k.empties w s.pool q)
      nil))))))))))))))))))))))))))))

  -- Every command keeps it, if a rollback does.
  perform_forward : Parsed c → Q (marked_at w s c) (perform s c).state.pool
  unfolding marked_at perform op_of refused
  perform_forward parsed = go (eqb (refusal s c) 0) refl
    where
      go : (b : Bool) → eqb (refusal s c) 0 ≡ b
          → Q (cond b (after_op c.op w s) w) (cond b (carried_out (op_in ops c.op) s c) (refused (refusal s c) s c)).state.pool
      go true t =
          let z = eqb-true (refusal s c) 0 t in
          at_every_op (λ n. Q (after_op n w s) (carried_out (op_in ops n) s c).state.pool) s c z (table parsed z)
      go false t = q

-- a good state with the property, whatever pool is at its open mark
pub record With (Q : Option Pool → Pool → Type 0) (s : State) : Type 0 where
  pub at_mark : Option Pool
  pub good : GoodState at_mark s
  pub has : Q at_mark s.pool

-- ---- rows of commands

performed_with : {Q : Option Pool → Pool → Type 0} → Forward Q → (s : State) (c : Command) → Parsed c → (h : With Q s)
    → (c.op ≡ 27 → Q none (rolled_back s.mark s.pool)) → With Q (perform s c).state
performed_with k s c p h roll = record {
  at_mark = marked_at h.at_mark s c;
  good = perform_good h.at_mark s c p h.good;
  has = perform_forward k h.at_mark s c h.good h.has roll p;
}

rolls_with : {Q : Option Pool → Pool → Type 0} → Keeps Q → (s : State) → With Q s → Q none (rolled_back s.mark s.pool)
rolls_with k s h = rolled_keeps k h.at_mark s.mark s.pool h.good.pool h.good.journal h.has

-- Every row of commands keeps it.
pub run_keeps : {Q : Option Pool → Pool → Type 0} → Keeps Q → (s : State) (cs : List Command) → AllParsed cs → With Q s → With Q (run s cs).state
unfolding run
run_keeps k s [] none_left h = h
run_keeps k s (c ∷ cs) (and_then p ps) h = run_keeps k (perform s c).state cs ps (performed_with k.forward s c p h (λ _. rolls_with k s h))

-- A row without a rollback keeps what every other act keeps.
pub inside_keeps : {Q : Option Pool → Pool → Type 0} → Forward Q → (s : State) (cs : List Command) → AllParsed cs → Inside cs → With Q s
    → With Q (run s cs).state
unfolding run
inside_keeps k s [] none_left none_more h = h
inside_keeps k s (c ∷ cs) (and_then p ps) (one_more n m i) h =
    inside_keeps k (perform s c).state cs ps i (performed_with k s c p h (λ e. absurd (n e)))

-- The batch's end keeps it.
pub ended_keeps : {Q : Option Pool → Pool → Type 0} → Keeps Q → (s : State) → With Q s → Q none (ended s)
unfolding ended
ended_keeps k s h = rolls_with k s h
