-- The answers of the functions of `create`, each from what its tests and callees say. Assumes nothing.
use Rattle.std.proofs.Common.{◌≡◌, ℕ, ◌+◌, ◌*◌, ◌≤◌, Bool, true, false, leb, List, length, replicate, sym, ap, ◌∙◌, eqb-true, leb-true}
use Rattle.fields.specs.Part.{splice}
use Rattle.meaning.specs.Layout.{within}
use Rattle.meaning.specs.Pool.{bytes}
use Rattle.meaning.specs.Doors.{fresh, sizes_ok, create}
use Rattle.meaning.proofs.Facts.{facts, both}
use Rattle.create.specs.Create.{headed}
use Rattle.create.proofs.Fresh.{fresh_stored}

-- ---- the sizes

-- what the limits say
pub record Limits (N T X : ℕ) (b : List ℕ) : Type 0 where
  pub slots : N ≤ 1024
  pub trees : T ≤ 8
  pub long : length b ≡ 32 + 8 * T + 32 * N + X

pub limits : (N T X : ℕ) (b : List ℕ) {ok : Bool} → ok ≡ sizes_ok N T X b → ok ≡ true → Limits N T X b
unfolding sizes_ok within
limits N T X b ensured passed =
    let k = facts _ (sym ensured ∙ passed) in
    record {
      slots = leb-true N 1024 (both (leb 1 N) (leb N 1024) k.0).1;
      trees = leb-true T 8 (both (leb 1 T) (leb T 8) k.1.0).1;
      long = eqb-true (length b) (32 + 8 * T + 32 * N + X) k.1.1.1.0;
    }

-- ---- the answers of `create`

pub refused : (N T X : ℕ) (b : List ℕ) {ok : Bool} → ok ≡ sizes_ok N T X b → ok ≡ false → record { code = 4; buffer = b } ≡ create N T X b
unfolding create
refused N T X b ensured failed = rw (sym ensured ∙ failed)

pub created : (N T X : ℕ) (b : List ℕ) {ok : Bool} {blank last : List ℕ} → ok ≡ sizes_ok N T X b → ok ≡ true
    → blank ≡ splice b 0 (replicate (length b) 0) → last ≡ headed blank N T X → record { code = 0; buffer = last } ≡ create N T X b
unfolding create
created N T X b {last = last} ensured passed zeroed stored =
    let h = sym ensured ∙ passed in
    let e : last ≡ bytes (fresh N T X) =
    stored ∙ ap (λ (l : List ℕ). headed l N T X) zeroed ∙ fresh_stored N T X b (limits N T X b ensured passed).long in
    rw (h, e)
