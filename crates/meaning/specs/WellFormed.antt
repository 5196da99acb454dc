-- What is true of the state of every sound pool, as a record of named facts. Assumes nothing.
use Rattle.std.proofs.Math.Option.{some}
use Rattle.std.specs.Prelude.{◌≡◌, ℕ, ◌+◌, ◌≤◌, ◌<◌, ◌^◌, eqb, length}
use Rattle.fields.specs.Number.{Bytes}
use Rattle.avl.specs.Tree.{left, list, Balanced}
use Rattle.avl.specs.Order.{Sorted, LessKey}
use Rattle.meaning.specs.Layout.{bit, count}
use Rattle.meaning.specs.Pool.{Rec, Pool, rec_at, tree_at, key_at, lives_in}

-- a live record: its tree is one of the pool's, its numbers fit their fields, its stamp was handed out, its name lies within the text in use
pub record GoodRec (p : Pool) (r : Rec) : Type 0 where
  pub tree_low : 1 ≤ r.tree
  pub tree_high : r.tree ≤ length p.trees
  pub key_high : r.key < 256 ^ 8
  pub stamp_low : 1 ≤ r.stamp
  pub stamp_high : r.stamp < p.next
  pub len_low : 1 ≤ r.len
  pub len_high : r.len ≤ 255
  pub name_fits : r.start + r.len ≤ length p.text

-- a tree lists exactly the live slots of its number, each once, with rising keys, and is balanced
pub record GoodTree (p : Pool) (t : ℕ) : Type 0 where
  pub once : (x : ℕ) → count (eqb x) (list left (tree_at p t)) ≡ bit (lives_in t (rec_at p x))
  pub keys_rise : Sorted (LessKey (key_at p)) (list left (tree_at p t))
  pub balanced : Balanced (tree_at p t)

pub record WellFormed (p : Pool) : Type 0 where
  pub slots_low : 1 ≤ length p.slots
  pub slots_high : length p.slots ≤ 1024
  pub trees_low : 1 ≤ length p.trees
  pub trees_high : length p.trees ≤ 8
  pub size_high : p.size ≤ 8192
  pub used_fits : length p.text ≤ p.size
  pub text_bytes : Bytes p.text
  pub next_low : 1 ≤ p.next
  pub next_high : p.next < 256 ^ 4
  pub recs : (x : ℕ) (r : Rec) → rec_at p x ≡ some r → GoodRec p r
  pub trees : (t : ℕ) → 1 ≤ t → t ≤ length p.trees → GoodTree p t
