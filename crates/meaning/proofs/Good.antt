-- What can be added to a pool, and what a rollback gives back. Assumes nothing.
use Rattle.std.proofs.Common.{◌≡◌, ℕ, ◌+◌, ◌^◌, ◌<◌, ◌≤◌, List, length}
use Rattle.fields.specs.Number.{Bytes}
use Rattle.meaning.specs.Pool.{Pool}
use Rattle.meaning.specs.Change.{free_slot}
use Rattle.meaning.specs.States.{NewKey, Alike}

-- a record of tree t with the key k and this name can be added
pub record Addable (p : Pool) (t k : ℕ) (name : List ℕ) : Type 0 where
  pub tree_low : 1 ≤ t
  pub tree_high : t ≤ length p.trees
  pub key_high : k < 256 ^ 8
  pub name_bytes : Bytes name
  pub len_low : 1 ≤ length name
  pub len_high : length name ≤ 255
  pub slot : free_slot p ≡ 0 → ⊥
  pub text : length p.text + length name ≤ p.size
  pub stamp : p.next ≡ 4_294_967_295 → ⊥
  pub new : NewKey p t k

-- what a rollback gives back: only shapes and the next stamp may differ
pub record Restored (p q : Pool) : Type 0 where
  pub alike : Alike p q
  pub text : p.text ≡ q.text
  pub next : p.next ≤ q.next
