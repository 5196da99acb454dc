-- Keys that rise along a walk, which remembers how many keys it has met and the last of them. Assumes nothing.
use Rattle.std.proofs.Common.{◌≡◌, ℕ, suc, ◌+◌, Bool, true, false, ◌&&◌, ◌||◌, eqb, ltb, List, [], ◌∷◌, ◌++◌, length, sym, refl, ◌∙◌, add-zero, add-suc, suc-add, arith, ne_eqb}
use Rattle.meaning.specs.Sound.{rising}
use Rattle.meaning.proofs.Facts.{both, both_true}

-- keys rise, after n keys of which the last is k
unfoldable pub rising_from : ℕ → ℕ → List ℕ → Bool
rising_from n k [] = true
rising_from n k (j ∷ js) = (eqb n 0 || ltb k j) && rising_from (suc n) j js

-- the last key, k if there is no other
unfoldable pub last_of : ℕ → List ℕ → ℕ
last_of k [] = k
last_of k (j ∷ js) = last_of j js

rising_suc : (n j : ℕ) (js : List ℕ) → rising_from (suc n) j js ≡ rising (j ∷ js)
unfolding rising rising_from
rising_suc n j [] = refl
rising_suc n j (i ∷ js) = rw (ne_eqb (suc n) 0 (omega arith), rising_suc (suc n) i js)

-- From the start it is that keys rise.
pub rising_zero : (k : ℕ) (js : List ℕ) → rising_from 0 k js ≡ rising js
unfolding rising_from rising
rising_zero k [] = refl
rising_zero k (j ∷ js) = rising_suc 0 j js

and_assoc : (a b c : Bool) → (a && b) && c ≡ a && (b && c)
and_assoc true b c = refl
and_assoc false b c = refl

rising_append : (n k : ℕ) (xs ys : List ℕ) → rising_from n k (xs ++ ys) ≡ rising_from n k xs && rising_from (n + length xs) (last_of k xs) ys
unfolding rising_from last_of
rising_append n k [] ys = rw add-zero
rising_append n k (x ∷ xs) ys =
    rw (rising_append (suc n) x xs ys, suc-add, ← add-suc n (length xs))
    (sym (and_assoc (eqb n 0 || ltb k x) (rising_from (suc n) x xs) (rising_from (n + suc (length xs)) (last_of x xs) ys)))

-- The last key of a row that ends in others is theirs.
pub last_append : (k : ℕ) (xs : List ℕ) (y : ℕ) (ys : List ℕ) → last_of k (xs ++ (y ∷ ys)) ≡ last_of y ys
unfolding last_of
last_append k [] y ys = refl
last_append k (x ∷ xs) y ys = last_append x xs y ys

module _ (n k : ℕ) (ks : List ℕ) (j : ℕ) (js : List ℕ) where
  -- Keys that rise do so before a key, at it and after it.
  pub rising_parts : rising_from n k (ks ++ (j ∷ js)) ≡ true
      → (rising_from n k ks ≡ true) × ((eqb (n + length ks) 0 || ltb (last_of k ks) j) ≡ true) × (rising_from (n + length ks + 1) j js ≡ true)
  unfolding rising_from
  rising_parts h =
      let b = eqb (n + length ks) 0 || ltb (last_of k ks) j in let c = rising_from (suc (n + length ks)) j js in
      let u = both (rising_from n k ks) (b && c) (sym (rising_append n k ks (j ∷ js)) ∙ h) in
      let v = both b c u.1 in
      let e : n + length ks + 1 ≡ suc (n + length ks) = omega arith in
      (u.0, v.0, rw e v.1)

  -- And keys that do so there rise.
  pub parts_rising : rising_from n k ks ≡ true → (eqb (n + length ks) 0 || ltb (last_of k ks) j) ≡ true → rising_from (n + length ks + 1) j js ≡ true
      → rising_from n k (ks ++ (j ∷ js)) ≡ true
  unfolding rising_from
  parts_rising a b c =
      let e : n + length ks + 1 ≡ suc (n + length ks) = omega arith in
      let B = eqb (n + length ks) 0 || ltb (last_of k ks) j in let C = rising_from (suc (n + length ks)) j js in
      rising_append n k ks (j ∷ js) ∙ both_true (rising_from n k ks) (B && C) a (both_true B C b (rw e at c))
