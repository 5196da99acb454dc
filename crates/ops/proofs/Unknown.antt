-- A command whose number is no op's is refused, on the body and the state as in `meaning`. Assumes nothing.
use Rattle.std.proofs.Common.{◌≡◌, ℕ, ◌<◌, Bool, true, false, cond, not, ◌&&◌, ◌||◌, leb, ◌⊎◌, List, ◌∷◌, sym, refl, ap, inl, inr, arith}
use Rattle.std.proofs.lemmas.Bool.{lt-leb}
use Rattle.meaning.specs.Layout.{within}
use Rattle.meaning.specs.Cursor.{Command, nowhere, State}
use Rattle.meaning.specs.Command.{last_op, always, unknown, Refusal, refuse◌at◌if◌, refusals, first_of, refusal, after_refusal, perform}
use Rattle.slots.specs.Image.{body_of}
use Rattle.cursor.specs.Work.{placed}
use Rattle.ops.specs.Image.{work_in, meant_by}
use Rattle.cursor.specs.declared.command.Command.{Command as CodeCommand}
use Rattle.ops.proofs.Agreeing.{Agrees}
use Rattle.ops.proofs.Endings.{refused_agrees}
use Rattle.ops.proofs.Views as view

-- A number beyond bounds.
pub outside : (lo hi n : ℕ) → (n < lo) ⊎ (hi < n) → within lo hi n ≡ false
unfolding within
outside lo hi n (inl h) = ap (λ (b : Bool). b && leb n hi) (lt-leb lo n h)
outside lo hi n (inr h) = rw (lt-leb n hi h) (go (leb lo n))
  where
    go : (b : Bool) → (b && false) ≡ false
    go true = refl
    go false = refl

-- the first row of a table, if it applies
first_met_lem : (n : ℕ) (s : State) (c : Command) (r : Refusal) (rs : List Refusal) → (r.ops n && r.given s c) ≡ true → first_of (r ∷ rs) n s c ≡ r.number
unfolding first_of
first_met_lem n s c r rs h = ap (λ (b : Bool). cond b r.number (first_of rs n s c)) h

unknown_so : (s : State) (c : Command) → within 1 last_op c.op ≡ false → within 12 25 c.op ≡ false
    → Agrees s (perform s c) (body_of s.pool, view.refusal (placed (work_in s) nowhere) 10)
unfolding refusal refusals refuse◌at◌if◌ unknown always after_refusal
unknown_so s c none_of_all none_of_those =
    refused_agrees s c 10 nowhere (first_met_lem c.op s c _ _ (ap (λ (b : Bool). not b && true) none_of_all)) (λ z. omega (arith, z))
    (sym (ap (λ (b : Bool). cond (b && not (within 14 15 c.op && false || within 24 25 c.op && false)) s.cursor nowhere) none_of_those))

-- A command whose number is no op's.
pub unknown_agrees : (s : State) (names : List ℕ) (c : CodeCommand) → (c.op ≡ 0) ⊎ (last_op < c.op)
    → Agrees s (perform s (meant_by names c)) (body_of s.pool, view.refusal (placed (work_in s) nowhere) 10)
unfolding meant_by
unknown_agrees s names c (inl z) =
    unknown_so s (meant_by names c) (outside 1 last_op c.op (inl (omega (arith, z)))) (outside 12 25 c.op (inl (omega (arith, z))))
unknown_agrees s names c (inr h) = unknown_so s (meant_by names c) (outside 1 last_op c.op (inr h)) (outside 12 25 c.op (inr (omega (arith, h))))
