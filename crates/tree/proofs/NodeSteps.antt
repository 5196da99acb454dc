-- A record read as a whole: what its 32 bytes hold is what is read of its slot. Assumes nothing.
use Rattle.std.proofs.Common.{◌≡◌, ℕ, ◌+◌, ◌-◌, ◌*◌, ◌≤◌, List, length, take, drop, ap, ◌∙◌, ap₂, arith, eq-eqb, ne_eqb}
use Rattle.fields.specs.Number.{get_le}
use Rattle.fields.proofs.Spans.{get_part}
use Rattle.tree.specs.Node.{get_n, key_n, node_n}
use Rattle.tree.specs.declared.node.Node.{Node}

-- slot s, as the code lends it
abbrev row : List ℕ → ℕ → List ℕ
row m s = take (32 * s - (32 * s - 32)) (drop (32 * s - 32) m)

-- what is read of the record that stands after so many others
abbrev pub after : List ℕ → ℕ → Node
after m n = record { key = get_le 8 m (32 * n); left = get_le 2 m (32 * n + 8); right = get_le 2 m (32 * n + 10) }

pub no_node : (m : List ℕ) {s : ℕ} → s ≡ 0 → {k a z : ℕ} → (k ≡ 0) × ((a ≡ 0) × (z ≡ 0))
    → ◌≡◌ {A = Node} (record { key = k; left = a; right = z }) (node_n m s)
unfolding node_n key_n get_n
no_node m {s} none e = simp (eq-eqb s 0 none, e.0, e.1.0, e.1.1)

module _ (m : List ℕ) (s : ℕ) (some : s ≡ 0 → ⊥) where
  pub part_node : {y : Node} → y ≡ after m (s - 1) → y ≡ node_n m s
  unfolding node_n key_n get_n
  part_node e = simp (ne_eqb s 0 some) e

  module _ (long : 32 * s ≤ length m) where
    in_place : (f w : ℕ) → f + w ≤ 32 → get_le w (row m s) (32 * 0 + f) ≡ get_le w m (32 * (s - 1) + f)
    in_place f w h =
        let n : 32 * s - (32 * s - 32) ≡ 32 = omega arith in
        let i : 32 * s - 32 ≡ 32 * (s - 1) = omega arith in
        let j : 32 * 0 + f ≡ f = omega arith in
        ap (get_le w (row m s)) j ∙ ap₂ (λ (n i : ℕ). get_le w (take n (drop i m)) f) n i ∙ get_part m (32 * (s - 1)) 32 f w h (omega arith)

    pub whole_node : {y : Node} → y ≡ after (row m s) 0 → y ≡ node_n m s
    whole_node e =
        let a : 32 * 0 ≡ 32 * 0 + 0 = omega arith in
        let o : 32 * (s - 1) + 0 ≡ 32 * (s - 1) = omega arith in
        let k = ap (get_le 8 (row m s)) a ∙ in_place 0 8 (omega arith) ∙ ap (get_le 8 m) o in
        part_node (e ∙ simp (k, in_place 8 2 (omega arith), in_place 10 2 (omega arith)))
