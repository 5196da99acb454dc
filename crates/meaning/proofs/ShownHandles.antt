-- The handles that answers give: a command that is done shows no record, one that is in its slot before it (shown or removed), or one that is in its
-- slot after it (added); its answer has that record's slot and stamp. Assumes nothing.
use Rattle.std.proofs.Common.{◌≡◌, ℕ, ◌^◌, ◌<◌, ◌⊎◌, sym, refl, ap, ◌∙◌, inl, inr, arith}
use Rattle.std.proofs.Math.Option.{Option, none, some}
use Rattle.fields.specs.Number.{value, digits, get_le}
use Rattle.fields.specs.Part.{part}
use Rattle.avl.specs.Order.{All, nil, more}
use Rattle.meaning.specs.Layout.{pack, span}
use Rattle.meaning.specs.Pool.{Rec, Pool, rec_at}
use Rattle.meaning.specs.Cursor.{Command, State, kind}
use Rattle.meaning.specs.Command.{Done, show, taken_out, take_out, add_new, silent, open_mark, roll_back, commit, reset, op◌means◌does◌then◌, ops, op_in, op_of, refusal, answer, carried_out, perform}
use Rattle.meaning.specs.WellFormed.{WellFormed}
use Rattle.meaning.specs.Calls.{shown_slot, shown_stamp}
use Rattle.meaning.proofs.Members.{slot_in}
use Rattle.meaning.proofs.ReadBack.{on_slot}
use Rattle.meaning.proofs.Tables.{Passed, every_op, at_every_op}
use Rattle.meaning.proofs.Doing.{performed, answer_shows}

-- what is shown
data Shows (s : State) (d : Done) : Type 0 where
  nothing : d.rec ≡ none → Shows s d
  held : (r : Rec) → d.rec ≡ some r → rec_at s.pool d.shown ≡ some r → Shows s d
  new : (r : Rec) → d.rec ≡ some r → rec_at d.pool d.shown ≡ some r → Shows s d

module _ (s : State) (c : Command) where
  looked : (x : ℕ) → Shows s (show s c x)
  unfolding show
  looked x = on_slot (rec_at s.pool x) (λ e. nothing e) (λ r e. held r e e)

  taken : (x : ℕ) → Shows s (take_out s c x)
  unfolding take_out taken_out
  taken x = go (rec_at s.pool x) refl
    where
      go : (o : Option Rec) → rec_at s.pool x ≡ o → Shows s (taken_out s x o)
      go none e = nothing refl
      go (some r) e = held r refl e

  added : (x : ℕ) → Shows s (add_new s c x)
  unfolding add_new
  added x = let d = add_new s c x in on_slot (rec_at d.pool d.shown) (λ e. nothing e) (λ r e. new r e e)

  table : All (λ n. Passed n s c → Shows s ((op_in ops n).does s c ((op_in ops n).means s c))) every_op
  unfolding ops op_in op◌means◌does◌then◌ span open_mark roll_back commit reset silent
  table =
      more (λ _. added _)
      (more (λ _. looked _)
      (more (λ _. taken _)
      (more (λ _. taken _)
      (more (λ _. looked _)
      (more (λ _. looked _)
      (more (λ _. looked _)
      (more (λ _. looked _)
      (more (λ _. looked _)
      (more (λ _. looked _)
      (more (λ _. looked _)
      (more (λ _. looked _)
      (more (λ _. looked _)
      (more (λ _. looked _)
      (more (λ _. looked _)
      (more (λ _. added _)
      (more (λ _. added _)
      (more (λ _. added _)
      (more (λ _. added _)
      (more (λ _. added _)
      (more (λ _. taken _)
      (more (λ _. taken _)
      (more (λ _. taken _)
      (more (λ _. added _)
      (more (λ _. added _)
      (more (λ _. nothing refl)
      (more (λ _. nothing refl)
      (more (λ _. nothing refl)
      (more (λ _. nothing refl)
      nil))))))))))))))))))))))))))))

-- ---- the answer

-- an answer that shows no record shows slot 0
shows_none : (k x : ℕ) → shown_slot (answer 0 k x none) ≡ 0
unfolding shown_slot answer pack digits get_le value part
shows_none k x = refl

-- the record that an answer gives a handle of: it is in the slot before the command or after it
pub record Given (s : State) (c : Command) : Type 0 where
  pub rec : Rec
  pub stamp : rec.stamp ≡ shown_stamp (perform s c).answer
  pub held : (rec_at s.pool (shown_slot (perform s c).answer) ≡ some rec)
      ⊎ (rec_at (perform s c).state.pool (shown_slot (perform s c).answer) ≡ some rec)

-- the slot and stamp of a live record of a well-formed pool fit their fields
fits : (p : Pool) (x : ℕ) (r : Rec) → WellFormed p → rec_at p x ≡ some r → (x < 256 ^ 2) × (r.stamp < 256 ^ 4)
fits p x r w e =
    let i = slot_in p x r e in
    (omega (arith, i.1, w.slots_high), omega (arith, (w.recs x r e).stamp_high, w.next_high))

-- An answer that shows a slot gives the handle of such a record.
pub answer_given : (s : State) (c : Command) → refusal s c ≡ 0 → WellFormed s.pool → WellFormed (perform s c).state.pool
    → (shown_slot (perform s c).answer ≡ 0 → ⊥) → Given s c
unfolding op_of carried_out
answer_given s c z w v n = go (at_every_op (λ n. Shows s ((op_in ops n).does s c ((op_in ops n).means s c))) s c z (table s c))
  where
    d : Done
    d = (op_in ops c.op).does s c ((op_in ops c.op).means s c)

    k : ℕ
    k = kind ((op_in ops c.op).then s c d.shown)

    is : (perform s c).answer ≡ answer 0 k d.shown d.rec
    is = rw (performed s c z)

    pool : (perform s c).state.pool ≡ d.pool
    pool = rw (performed s c z)

    gives : (r : Rec) → d.rec ≡ some r → (rec_at s.pool d.shown ≡ some r) ⊎ (rec_at (perform s c).state.pool d.shown ≡ some r)
        → (d.shown < 256 ^ 2) × (r.stamp < 256 ^ 4) → Given s c
    gives r e h f =
        let shows = answer_shows k d.shown r f.0 f.1 in
        let same : (perform s c).answer ≡ answer 0 k d.shown (some r) = is ∙ ap (answer 0 k d.shown) e in
        let slot : shown_slot (perform s c).answer ≡ d.shown = ap shown_slot same ∙ shows.0 in
        record { rec = r; stamp = sym (ap shown_stamp same ∙ shows.1); held = rw slot h }

    go : Shows s d → Given s c
    go (nothing e) = absurd (n (ap shown_slot (is ∙ ap (answer 0 k d.shown) e) ∙ shows_none k d.shown))
    go (held r e h) = gives r e (inl h) (fits s.pool d.shown r w h)
    go (new r e h) =
        let there : rec_at (perform s c).state.pool d.shown ≡ some r = rw pool h in
        gives r e (inr there) (fits (perform s c).state.pool d.shown r v there)
