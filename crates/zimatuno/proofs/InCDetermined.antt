-- Determinism of the C functions that pack two numbers into one; `zt_create` and `zt_check` promise what the doors do. Assumes nothing.
use Rattle.std.proofs.Common.{◌≡◌, ℕ, List, ap}
use Rattle.meaning.proofs.Determined.{determined}
use Rattle.zimatuno.specs.Abi.{batch_in_c, name_in_c}

-- Two runs of zt_batch on the same pool, request and answers return the same number, and leave the same bytes in the pool and in the answers.
pub batch_in_c_determined : (pool request answers : List ℕ) (returned₁ returned₂ : ℕ) (pool₁ pool₂ answers₁ answers₂ : List ℕ)
    → (returned₁, (pool₁, answers₁)) ≡ batch_in_c pool request answers
    → (returned₂, (pool₂, answers₂)) ≡ batch_in_c pool request answers
    → (returned₁ ≡ returned₂) × (pool₁ ≡ pool₂) × (answers₁ ≡ answers₂)
batch_in_c_determined pool request answers returned₁ returned₂ pool₁ pool₂ answers₁ answers₂ first second =
    let same = determined (batch_in_c pool request) answers (returned₁, (pool₁, answers₁)) (returned₂, (pool₂, answers₂)) first second in (
      ap (λ (z : ℕ × (List ℕ × List ℕ)). z.0) same,
      ap (λ (z : ℕ × (List ℕ × List ℕ)). z.1.0) same,
      ap (λ (z : ℕ × (List ℕ × List ℕ)). z.1.1) same,
    )

-- Two runs of zt_name on the same pool and handle return the same number; it writes nothing.
pub name_in_c_determined : (pool : List ℕ) (tree slot stamp returned₁ returned₂ : ℕ)
    → returned₁ ≡ name_in_c pool tree slot stamp → returned₂ ≡ name_in_c pool tree slot stamp → returned₁ ≡ returned₂
name_in_c_determined pool tree slot stamp returned₁ returned₂ first second = determined (name_in_c pool tree slot) stamp returned₁ returned₂ first second
