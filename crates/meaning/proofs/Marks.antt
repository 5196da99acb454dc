-- Marks: between a mark that is done and its close the state stays one that leads back to the pool at the mark, and the rollback that closes it, by
-- command or at the batch's end, gives back that pool's contents. Assumes nothing.
use Rattle.std.proofs.Common.{◌≡◌, ℕ, Bool, true, false, cond, eqb, List, [], ◌∷◌, sym, refl, subst, arith, eq-eqb, eqb-true}
use Rattle.std.proofs.Math.Option.{Option, none, some}
use Rattle.meaning.specs.Layout.{within}
use Rattle.meaning.specs.Pool.{Pool, rec_at}
use Rattle.meaning.specs.Change.{Mark, rolled_back}
use Rattle.meaning.specs.Cursor.{Command, State}
use Rattle.meaning.specs.Command.{always, is_open, marked, unmarked, among, unknown, adding, refuse◌at◌if◌, refusals, first_of, refusal, perform}
use Rattle.meaning.specs.Doors.{run, ended}
use Rattle.meaning.specs.WellFormed.{WellFormed}
use Rattle.meaning.specs.Meant.{entries_of}
use Rattle.meaning.specs.Calls.{Inside, none_more, one_more, SameContents}
use Rattle.meaning.specs.States.{Journal, begun, GoodState, Parsed}
use Rattle.meaning.proofs.Facts.{test}
use Rattle.meaning.proofs.Clauses.{within_is}
use Rattle.meaning.proofs.Good.{Restored}
use Rattle.meaning.proofs.Journals.{restored}
use Rattle.meaning.proofs.Tables.{never, passed}
use Rattle.meaning.proofs.Commands.{after_op, marked_at, perform_good}
use Rattle.meaning.proofs.Batches.{AllParsed, none_left, and_then}

-- ---- the same contents

-- A pool restored to one has its contents.
pub restored_same : {p q : Pool} → Restored p q → SameContents p q
unfolding entries_of rec_at
restored_same {p} {q} r = record {
  lists = λ t. sym (rw (r.alike.lists t, r.alike.slots, r.text));
  slots = sym r.alike.slots;
  text = sym r.text;
  trees = sym r.alike.trees;
  size = sym r.alike.size;
  next = r.next;
}

-- ---- while a mark is open

journal_open : {p₀ p : Pool} {m : Option Mark} → Journal (some p₀) m p → is_open m ≡ true
unfolding is_open
journal_open (begun w h) = refl

-- A mark that is done is at the pool that stands.
pub mark_good : (w : Option Pool) (s : State) (m : Command) → Parsed m → GoodState w s → m.op ≡ 26 → refusal s m ≡ 0
    → GoodState (some s.pool) (perform s m).state
unfolding marked_at after_op
mark_good w s m h g e z = subst (λ (v : Option Pool). GoodState v (perform s m).state) (rw (eq-eqb (refusal s m) 0 z, e)) (perform_good w s m h g)

module _ (p₀ : Pool) (s : State) (g : GoodState (some p₀) s) where
  -- While it is open, neither a mark nor a reset is done.
  not_again : (c : Command) → refusal s c ≡ 0 → among ((26, 26) ∷ (29, 29) ∷ []) c.op ≡ true → ⊥
  unfolding marked
  not_again c z h = never (journal_open g.journal) ((passed s c z).no_mark h)

  -- A command that does not close it leaves it where it was.
  stays : (c : Command) → (c.op ≡ 27 → ⊥) → (c.op ≡ 28 → ⊥) → marked_at (some p₀) s c ≡ some p₀
  unfolding marked_at after_op
  stays c no_rollback no_commit = go (eqb (refusal s c) 0) refl
    where
      after : refusal s c ≡ 0 → cond (eqb c.op 26) (some s.pool) (cond (within 27 29 c.op) none (some p₀)) ≡ some p₀
      after z =
          test (eqb c.op 26) (λ t. absurd (not_again c z (again 26 (eqb-true c.op 26 t) (unfold among within in refl))))
          (λ t. test (within 27 29 c.op)
          (λ u. absurd (let l = within_is 27 29 c.op u in
          not_again c z (again 29 (omega (arith, l.0, l.1, no_rollback, no_commit)) (unfold among within in refl)))) (λ u. rw (t, u)))
        where
          again : (n : ℕ) → c.op ≡ n → among ((26, 26) ∷ (29, 29) ∷ []) n ≡ true → among ((26, 26) ∷ (29, 29) ∷ []) c.op ≡ true
          again n e h = rw e h

      go : (b : Bool) → eqb (refusal s c) 0 ≡ b
          → cond b (cond (eqb c.op 26) (some s.pool) (cond (within 27 29 c.op) none (some p₀))) (some p₀) ≡ some p₀
      go true t = after (eqb-true (refusal s c) 0 t)
      go false t = refl

-- Nor do commands none of which closes it.
pub inside_good : (p₀ : Pool) (s : State) (cs : List Command) → AllParsed cs → Inside cs → GoodState (some p₀) s
    → GoodState (some p₀) (run s cs).state
unfolding run
inside_good p₀ s [] none_left none_more g = g
inside_good p₀ s (c ∷ cs) (and_then h hs) (one_more r k i) g =
    inside_good p₀ (perform s c).state cs hs i
    (subst (λ (v : Option Pool). GoodState v (perform s c).state) (stays p₀ s g c r k) (perform_good (some p₀) s c h g))

-- ---- its close

journal_restored : {p₀ p : Pool} {m : Option Mark} → WellFormed p → Journal (some p₀) m p → Restored p₀ (rolled_back m p)
unfolding rolled_back
journal_restored {p₀} {p} g (begun {m = m} g₀ h) = restored p₀ m p g (begun g₀ h)

-- The batch's end restores the pool at the open mark.
pub ended_restored : (p₀ : Pool) (u : State) → GoodState (some p₀) u → Restored p₀ (ended u)
unfolding ended
ended_restored p₀ u g = journal_restored g.pool g.journal

-- A rollback is done, if a mark is open.
pub rollback_done : (p₀ : Pool) (u : State) (c : Command) → GoodState (some p₀) u → c.op ≡ 27 → refusal u c ≡ 0
unfolding refusal refusals first_of refuse◌at◌if◌ always unknown within among adding unmarked
rollback_done p₀ u c g e = rw (e, journal_open g.journal)
