-- The loop over a pool's trees: each of its answers, by its tests and calls in the code's order. Assumes nothing.
use Rattle.std.specs.Prelude.{Some, None, Option}
use Rattle.std.proofs.Common.{◌≡◌, ℕ, ◌+◌, ◌*◌, ◌<◌, ◌≤◌, true, false, not, eqb, List, [], ◌∷◌, length, get_or, drop, sym, refl, ◌∙◌, add-one, arith, eq-eqb, eqb-true}
use Rattle.std.proofs.lemmas.Bool.{false≢true, not-true, not-false}
use Rattle.std.proofs.lemmas.List.{at_drop_more, at_drop_all}
use Rattle.std.specs.Option.{option_eq}
use Rattle.fields.specs.Number.{get_le}
use Rattle.meaning.specs.Pool.{root_of, count_of}
use Rattle.meaning.proofs.Facts.{test}
use Rattle.judge.specs.Check.{Walk, link_n, trees_n, told, found}

-- what the number of a tree says of its walk
found_none : (f : Walk) → 0 ≡ found f → f.ok ≡ false
unfolding found
found_none f e = test f.ok (λ t. absurd (omega (arith, rw t at e))) (λ t. t)

found_some : (f : Walk) (n : ℕ) → n + 1 ≡ found f → (f.ok ≡ true) × (f.seen ≡ n)
unfolding found
found_some f n e = test f.ok (λ t. (t, omega (arith, rw t at e))) (λ t. absurd (omega (arith, rw t at e)))

-- i trees have passed, with so many records: the check of the others is the check of all
pub record Passed (m : List ℕ) (N live : ℕ) (es : List (List ℕ)) (i total : ℕ) : Type 0 where
  pub most : total ≤ i * 65535
  pub same : trees_n m N live (i + 1) total (drop i es) ≡ trees_n m N live 1 0 es

module _ {m : List ℕ} {N live : ℕ} {es : List (List ℕ)} {i total : ℕ} (s : Passed m N live es i total) where
  pub pass_end : length es ≤ i → eqb total live ≡ trees_n m N live 1 0 es
  unfolding trees_n
  pass_end h = sym (at_drop_all (trees_n m N live (i + 1) total) es i h) ∙ s.same

  module _ (h : i < length es) {x : ℕ} (e : x ≡ get_le 2 (get_or es i []) 0) {c : ℕ} (k : c ≡ get_le 2 (get_or es i []) 2) where
    turn : trees_n m N live (i + 1) total (get_or es i [] ∷ drop (i + 1) es) ≡ trees_n m N live 1 0 es
    turn = sym (at_drop_more (trees_n m N live (i + 1) total) es i [] h) ∙ s.same

    -- another number of records than the entry says, or none
    pub pass_other : (w : Option ℕ) → told w ≡ found (link_n m N (i + 1) 14 0 x 0 0) → not (option_eq eqb w (Some c)) ≡ true → false ≡ trees_n m N live 1 0 es
    unfolding trees_n root_of count_of
    pass_other None f n = simp (← e, found_none (link_n m N (i + 1) 14 0 x 0 0) f) at turn
    pass_other (Some a) f n =
        let g = found_some (link_n m N (i + 1) 14 0 x 0 0) a f in simp (← e, g.0, g.1, ← k, not-true (eqb a c) n) at turn

    pub pass_on : (w : Option ℕ) → told w ≡ found (link_n m N (i + 1) 14 0 x 0 0) → not (option_eq eqb w (Some c)) ≡ false → c ≤ 65535
        → Passed m N live es (i + 1) (total + c)
    unfolding trees_n root_of count_of
    pass_on None f n l = absurd (false≢true (sym n))
    pass_on (Some a) f n l =
        let g = found_some (link_n m N (i + 1) 14 0 x 0 0) a f in
        let same : a ≡ c = eqb-true a c (not-false (eqb a c) n) in
        record {
          most = omega (arith, s.most);
          same = rw (add-one (i + 1)) (simp (← e, g.0, g.1, same, ← k, eq-eqb c c refl) at turn);
        }
