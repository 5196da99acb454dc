-- What the loop of `copy_in` keeps: a store that has come to byte i of what is to be stored. Assumes nothing.
use Rattle.std.proofs.Common.{◌≡◌, ℕ, ◌+◌, ◌<◌, ◌≤◌, List, ◌++◌, length, get_or, take, drop, set, sym, refl, ap, ◌∙◌, ap₂, append_assoc, add-one, arith, length-set}
use Rattle.std.proofs.Math.Seq.{paste, paste-zero, paste-suc, take-length}
use Rattle.fields.specs.Part.{splice}
use Rattle.fields.proofs.Parts.{splice_in}

-- ---- a store byte by byte

-- the first i of the n bytes of `new` are in place, and nothing else has changed
pub record Filling (b₀ : List ℕ) (at n : ℕ) (new b : List ℕ) (i : ℕ) : Type 0 where
  pub size : length new ≡ n
  pub room : at + n ≤ length b₀
  pub come : i ≤ n
  pub left : b ≡ paste b₀ at new i
  pub same : length b ≡ length b₀

pub fill_start : (b₀ : List ℕ) (at n : ℕ) (new : List ℕ) → length new ≡ n → at + n ≤ length b₀ → Filling b₀ at n new b₀ 0
fill_start b₀ at n new s h = record { size = s; room = h; come = omega arith; left = paste-zero b₀ at new; same = refl }

pub fill_turn : {b₀ : List ℕ} {at n : ℕ} {new b : List ℕ} {i : ℕ} (v : ℕ) → Filling b₀ at n new b i → i < n → v ≡ get_or new i 0
    → Filling b₀ at n new (set b (at + i) v) (i + 1)
fill_turn {b₀} {at} {n} {new} {b} {i} v f h e =
    record {
      size = f.size;
      room = f.room;
      come = omega arith;
      left =
          ap₂ (λ (l : List ℕ) (x : ℕ). set l (at + i) x) f.left e
          ∙ paste-suc b₀ at new i 0 (omega arith) (omega arith)
          ∙ ap (paste b₀ at new) (sym (add-one i));
      same = length-set b (at + i) v ∙ f.same;
    }

pub fill_end : {b₀ : List ℕ} {at n : ℕ} {new b : List ℕ} {i : ℕ} → Filling b₀ at n new b i → n ≤ i → b ≡ splice b₀ at new
fill_end {b₀} {at} {n} {new} {b} {i} f h =
    let e : i ≡ length new = omega arith in
    f.left
    ∙ ap (paste b₀ at new) e
    ∙ ap (λ (l : List ℕ). take at b₀ ++ l ++ drop (at + length new) b₀) (take-length new)
    ∙ append_assoc (take at b₀) new (drop (at + length new) b₀)
    ∙ sym (splice_in b₀ at new (omega arith))
