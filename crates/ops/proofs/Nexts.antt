-- What comes of the cursor where a command is done, and where it is refused; and the command on the tree that it works on. Assumes nothing.
use Rattle.std.proofs.Common.{◌≡◌, ℕ, Bool, true, false, cond, eqb, ltb, refl, ap, ◌∙◌, eq-eqb, ne_eqb}
use Rattle.meaning.specs.Cursor.{Cursor, nowhere}
use Rattle.cursor.specs.Cursor.{after_n}
use Rattle.cursor.specs.Tests.{aimed_n}
use Rattle.cursor.specs.declared.command.Command.{Command as CodeCommand}
use Rattle.cursor.specs.declared.cursor.Next.{Next}
use Rattle.cursor.specs.declared.cursor.Next.TheVariants.{Gone, Kept}
use Rattle.ops.specs.Ending.{either_n}
use Rattle.ops.specs.Ops.{kept_unless}
use Rattle.ops.proofs.Rows.{lost_at}

module _ (k : Cursor) (c : CodeCommand) (e x : ℕ) (done lost : Next) {r : Cursor} where
  pub where_done : e ≡ 0 → after_n k c done x ≡ r → after_n k c (either_n e done lost) x ≡ r
  where_done z h = ap (λ (b : Bool). after_n k c (cond b done lost) x) (eq-eqb e 0 z) ∙ h

  pub where_lost : (e ≡ 0 → ⊥) → after_n k c lost x ≡ r → after_n k c (either_n e done lost) x ≡ r
  where_lost z h = ap (λ (b : Bool). after_n k c (cond b done lost) x) (ne_eqb e 0 z) ∙ h

-- One number loses the cursor.
pub where_kept : (k : Cursor) (c : CodeCommand) (e n x : ℕ) → after_n k c (kept_unless e n) x ≡ lost_at n k e
where_kept k c e n x = go (eqb e n)
  where
    go : (b : Bool) → after_n k c (cond b Gone Kept) x ≡ cond b nowhere k
    go true = refl
    go false = refl

-- ---- the command on the tree that it works on

-- the command on tree t
abbrev pub on : CodeCommand → ℕ → CodeCommand
on c t = record { key = c.key; stamp = c.stamp; at = c.at; len = c.len; slot = c.slot; op = c.op; tree = t }

-- Up to op 11 it is the command itself.
pub aimed_own : (c : CodeCommand) (t n : ℕ) → c.op ≡ n → ltb 11 n ≡ false → aimed_n c t ≡ c
unfolding aimed_n
aimed_own c t n i h = ap (λ (b : Bool). on c (cond b t c.tree)) (ap (ltb 11) i ∙ h)

-- From op 12 on it is on the cursor's.
pub aimed_on : (c : CodeCommand) (t n : ℕ) → c.op ≡ n → ltb 11 n ≡ true → aimed_n c t ≡ on c t
unfolding aimed_n
aimed_on c t n i h = ap (λ (b : Bool). on c (cond b t c.tree)) (ap (ltb 11) i ∙ h)
