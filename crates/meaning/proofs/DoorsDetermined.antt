-- Determinism, door by door: two results with their final buffers that a door's promise allows on the same inputs are equal. The promise of each door is
-- the equation that is the premise here, taken twice. Assumes nothing.
use Rattle.std.proofs.Common.{◌≡◌, ℕ, List, ap}
use Rattle.meaning.specs.Doors.{Created, create, check, Outcome, batch, name, Place, place_of}
use Rattle.meaning.specs.Listing.{listed}
use Rattle.meaning.proofs.Determined.{determined}

-- Two runs of create on the same sizes and the same buffer return the same code and leave the same bytes in the buffer.
pub create_determined : (slots trees size : ℕ) (buffer : List ℕ) (code₁ code₂ : ℕ) (left₁ left₂ : List ℕ)
    → record { code = code₁; buffer = left₁ } ≡ create slots trees size buffer
    → record { code = code₂; buffer = left₂ } ≡ create slots trees size buffer
    → (code₁ ≡ code₂) × (left₁ ≡ left₂)
create_determined slots trees size buffer code₁ code₂ left₁ left₂ first second =
    let same = determined (create slots trees size) buffer (record { code = code₁; buffer = left₁ }) (record { code = code₂; buffer = left₂ }) first second in
    (ap (λ (c : Created). c.code) same, ap (λ (c : Created). c.buffer) same)

-- Two runs of check on the same pool return the same code; it writes nothing.
pub check_determined : (pool : List ℕ) (code₁ code₂ : ℕ) → code₁ ≡ check pool → code₂ ≡ check pool → code₁ ≡ code₂
check_determined pool code₁ code₂ first second = determined check pool code₁ code₂ first second

-- Two runs of batch on the same pool, request and answers return the same code and number answered, and leave the same bytes in the pool and in the
-- answers.
pub batch_determined : (pool request answers : List ℕ) (code₁ code₂ answered₁ answered₂ : ℕ) (pool₁ pool₂ answers₁ answers₂ : List ℕ)
    → record { code = code₁; answered = answered₁; pool = pool₁; answers = answers₁ } ≡ batch pool request answers
    → record { code = code₂; answered = answered₂; pool = pool₂; answers = answers₂ } ≡ batch pool request answers
    → (code₁ ≡ code₂) × (answered₁ ≡ answered₂) × (pool₁ ≡ pool₂) × (answers₁ ≡ answers₂)
batch_determined pool request answers code₁ code₂ answered₁ answered₂ pool₁ pool₂ answers₁ answers₂ first second =
    let same =
    determined (batch pool request) answers (record { code = code₁; answered = answered₁; pool = pool₁; answers = answers₁ })
    (record { code = code₂; answered = answered₂; pool = pool₂; answers = answers₂ }) first second in (
      ap (λ (o : Outcome). o.code) same,
      ap (λ (o : Outcome). o.answered) same,
      ap (λ (o : Outcome). o.pool) same,
      ap (λ (o : Outcome). o.answers) same,
    )

-- Two runs of name on the same pool and handle hand back parts with the same bytes; it writes nothing.
pub name_determined : (pool : List ℕ) (tree slot stamp : ℕ) (part₁ part₂ : List ℕ)
    → part₁ ≡ name pool tree slot stamp → part₂ ≡ name pool tree slot stamp → part₁ ≡ part₂
name_determined pool tree slot stamp part₁ part₂ first second = determined (name pool tree slot) stamp part₁ part₂ first second

-- Two runs of place_of on the same pool and handle return the same offset and the same length; it writes nothing.
pub place_determined : (pool : List ℕ) (tree slot stamp at₁ at₂ len₁ len₂ : ℕ)
    → record { at = at₁; len = len₁ } ≡ place_of pool tree slot stamp
    → record { at = at₂; len = len₂ } ≡ place_of pool tree slot stamp
    → (at₁ ≡ at₂) × (len₁ ≡ len₂)
place_determined pool tree slot stamp at₁ at₂ len₁ len₂ first second =
    let same = determined (place_of pool tree slot) stamp (record { at = at₁; len = len₁ }) (record { at = at₂; len = len₂ }) first second in
    (ap (λ (p : Place). p.at) same, ap (λ (p : Place). p.len) same)

-- Two runs of listing on the same pool and the same buffer return the same length and leave the same bytes in the buffer.
pub listing_determined : (pool out : List ℕ) (length₁ length₂ : ℕ) (out₁ out₂ : List ℕ)
    → (out₁, length₁) ≡ listed pool out → (out₂, length₂) ≡ listed pool out → (length₁ ≡ length₂) × (out₁ ≡ out₂)
listing_determined pool out length₁ length₂ out₁ out₂ first second =
    let same = determined (listed pool) out (out₁, length₁) (out₂, length₂) first second in
    (ap (λ (z : List ℕ × ℕ). z.1) same, ap (λ (z : List ℕ × ℕ). z.0) same)
