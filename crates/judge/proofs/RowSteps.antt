-- The pass over the entries of a pool, and one turn of that over its records: what the records from here on give is what all of them give. Assumes nothing.
use Rattle.std.specs.Prelude.{Some, None}
use Rattle.std.proofs.Common.{◌≡◌, ℕ, suc, ◌+◌, ◌<◌, ◌≤◌, Bool, true, false, ◌&&◌, List, [], ◌∷◌, length, get_or, drop, sym, refl, ap, ◌∙◌, arith, eq-eqb, ne_eqb}
use Rattle.std.proofs.lemmas.List.{at_drop_more, at_drop_all}
use Rattle.std.specs.List.{list_all}
use Rattle.fields.specs.Number.{get_le}
use Rattle.meaning.specs.Layout.{every}
use Rattle.meaning.specs.Pool.{tree_in}
use Rattle.judge.specs.Rows.{record_in, counted}

-- ---- the entries

pub all_every : (f : List ℕ → Bool) (rs : List (List ℕ)) → list_all f rs ≡ every f rs
unfolding every
all_every f [] = refl
all_every f (r ∷ rs) = ap (λ (b : Bool). f r && b) (all_every f rs)

-- ---- the records

next_slot : (i : ℕ) → suc (i + 1) ≡ i + 1 + 1
next_slot i = omega arith

-- the records from i on, after `live` and `free`, give what all of them give
pub record Counting (used next : ℕ) (rs : List (List ℕ)) (i live free : ℕ) : Type 0 where
  pub few : live ≤ i
  pub same : counted used next (i + 1) live free (drop i rs) ≡ counted used next 1 0 0 rs

pub count_end : {used next : ℕ} {rs : List (List ℕ)} {i live free : ℕ} → Counting used next rs i live free → length rs ≤ i
    → Some (record { live = live; free = free }) ≡ counted used next 1 0 0 rs
unfolding counted
count_end {used} {next} {rs} {i} {live} {free} s h = sym (at_drop_all (counted used next (i + 1) live free) rs i h) ∙ s.same

module _ {used next : ℕ} {rs : List (List ℕ)} {i live free : ℕ} (s : Counting used next rs i live free) (h : i < length rs) where
  on : counted used next (i + 1) live free (get_or rs i [] ∷ drop (i + 1) rs) ≡ counted used next 1 0 0 rs
  on = sym (at_drop_more (counted used next (i + 1) live free) rs i [] h) ∙ s.same

  module _ {o : Bool} (e : o ≡ record_in used next (get_or rs i [])) where
    pub count_stop : o ≡ false → None ≡ counted used next 1 0 0 rs
    unfolding counted
    count_stop f = simp (← e, f) at on

    module _ (f : o ≡ true) {tree : ℕ} (g : tree ≡ get_le 1 (get_or rs i []) 15) {live' free' : ℕ} where
      pub count_live : (tree ≡ 0 → ⊥) → live' ≡ live + 1 → free' ≡ free → Counting used next rs (i + 1) live' free'
      unfolding counted tree_in
      count_live t p q =
          record {
            few = omega (arith, s.few);
            same = simp (p, q) (simp (← e, f, ← g, ne_eqb tree 0 t, next_slot i) at on);
          }

      module _ (t : tree ≡ 0) where
        pub count_first : free ≡ 0 → live' ≡ live → free' ≡ i + 1 → Counting used next rs (i + 1) live' free'
        unfolding counted tree_in
        count_first z p q =
            record {
              few = omega (arith, s.few);
              same = simp (p, q) (simp (← e, f, ← g, eq-eqb tree 0 t, eq-eqb free 0 z, next_slot i) at on);
            }

        pub count_later : (free ≡ 0 → ⊥) → live' ≡ live → free' ≡ free → Counting used next rs (i + 1) live' free'
        unfolding counted tree_in
        count_later z p q =
            record {
              few = omega (arith, s.few);
              same = simp (p, q) (simp (← e, f, ← g, eq-eqb tree 0 t, ne_eqb free 0 z, next_slot i) at on);
            }
