-- A tree of slots from 1 to N, each once, has at most N records; so, balanced, it has at most as many levels as our loops take turns. Assumes nothing.
use Rattle.std.proofs.Common.{◌≡◌, ℕ, zero, suc, ◌+◌, ◌≤◌, eqb, refl, ap, arith}
use Rattle.std.proofs.lemmas.Bool.{eqb-false}
use Rattle.avl.specs.Tree.{Bal, Tree, leaf, node, height, size, Balanced}
use Rattle.avl.proofs.Height.{levels_14}
use Rattle.tree.specs.Walk.{levels}
use Rattle.tree.specs.Held.{one, times, room, Fits}
use Rattle.tree.proofs.Ways.{room_low, room_in, here}
use Rattle.swap.proofs.Stores.{either}

-- how often a tree has the slots 1 to n, together
total : Tree → ℕ → ℕ
total t zero = 0
total t (suc n) = times (suc n) t + total t n

-- 1 if s is one of them
among : ℕ → ℕ → ℕ
among s zero = 0
among s (suc n) = one (eqb (suc n) s) + among s n

total_node : (l : Tree) (s : ℕ) (b : Bal) (r : Tree) (n : ℕ) → total (node l s b r) n ≡ total l n + among s n + total r n
unfolding total among times
total_node l s b r zero = refl
total_node l s b r (suc n) = omega (arith, total_node l s b r n)

among_in : (s n : ℕ) → 1 ≤ s → s ≤ n → 1 ≤ among s n
unfolding among
among_in s zero low high = absurd (omega (arith, low, high))
among_in s (suc n) low high =
    either (eqb (suc n) s) (λ e. omega (arith, ap one e))
    (λ e. let h = eqb-false (suc n) s e in omega (arith, among_in s n low (omega (arith, high, h))))

total_low : (t : Tree) (n : ℕ) → ((x : ℕ) → times x t ≤ 1) → total t n ≤ n
unfolding total
total_low t zero h = omega arith
total_low t (suc n) h = omega (arith, h (suc n), total_low t n h)

size_total : (N : ℕ) (t : Tree) → ((x : ℕ) → times x t ≤ room N x) → size t ≤ total t N
unfolding size times
size_total N leaf h = omega arith
size_total N (node l s b r) h =
    let i = room_in N s (omega (arith, h s, here s)) in
    omega
    (arith, total_node l s b r N, among_in s N i.0 i.1, size_total N l (λ x. omega (arith, h x)), size_total N r (λ x. omega (arith, h x)))

-- No more records than slots.
pub size_fits : {N : ℕ} (t : Tree) → Fits N t → size t ≤ N
size_fits {N} t f = omega (arith, size_total N t f.once, total_low t N (λ x. omega (arith, f.once x, room_low N x)))

-- So our loops take enough turns.
pub levels_enough : {N : ℕ} (t : Tree) → Fits N t → N ≤ 1024 → Balanced t → height t ≤ levels
levels_enough t f few i = levels_14 t i (omega (arith, size_fits t f, few))
