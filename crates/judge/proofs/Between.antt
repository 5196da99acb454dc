-- The fields of a record in its row, and bounds as slots: what the tests of a record say of its key. Assumes nothing.
use Rattle.std.proofs.Common.{◌≡◌, ℕ, suc, ◌+◌, ◌-◌, ◌*◌, ◌<◌, ◌≤◌, Bool, true, false, cond, ◌&&◌, eqb, ltb, leb, List, length, sym, refl, ap, ◌∙◌, arith, ltb-false, ltb-true, lt-ltb, eq-eqb, ne_eqb, le-leb, leb-true}
use Rattle.std.proofs.Math.Bool.{and_assoc}
use Rattle.std.proofs.lemmas.Bool.{false≢true, lt-leb, eqb-false}
use Rattle.fields.specs.Number.{get_le, Bytes}
use Rattle.fields.proofs.Spans.{get_part}
use Rattle.avl.specs.Tree.{left, right}
use Rattle.tree.specs.Node.{child, parent, balance, get_n, key_n}
use Rattle.meaning.proofs.Facts.{test, both}
use Rattle.judge.specs.Check.{tree_n, weighed, bound_n, parts_n, row_n, from, below, rises_n, own_n}
use Rattle.judge.proofs.SameWalk.{key_low, bound_turn}

-- ---- the fields of a record, and the row that holds them

module _ (m : List ℕ) (x : ℕ) (s : 1 ≤ x) (h : 32 * x ≤ length m) where
  pub row_get : (w f : ℕ) → f + w ≤ 32 → get_le w (row_n m x) f ≡ get_le w m (32 * (x - 1) + f)
  unfolding row_n
  row_get w f e = get_part m (32 * (x - 1)) 32 f w e (omega arith)

  some : eqb x 0 ≡ false
  some = ne_eqb x 0 (omega arith)

  pub row_tree : get_le 1 (row_n m x) 15 ≡ tree_n m x
  unfolding tree_n
  row_tree = rw some (row_get 1 15 (omega arith))

  pub row_parent : get_le 2 (row_n m x) 12 ≡ get_n m x parent
  unfolding get_n
  row_parent = rw some (row_get 2 12 (omega arith))

  pub row_balance : get_le 1 (row_n m x) 14 ≡ get_n m x balance
  unfolding get_n
  row_balance = rw some (row_get 1 14 (omega arith))

  pub row_left : get_le 2 (row_n m x) 8 ≡ get_n m x (child left)
  unfolding get_n
  row_left = rw some (row_get 2 8 (omega arith))

  pub row_right : get_le 2 (row_n m x) 10 ≡ get_n m x (child right)
  unfolding get_n
  row_right = rw some (row_get 2 10 (omega arith))

  row_key : get_le 8 (row_n m x) 0 ≡ key_n m x
  unfolding key_n
  row_key = let e : 32 * (x - 1) + 0 ≡ 32 * (x - 1) = omega arith in rw some (row_get 8 0 (omega arith) ∙ ap (get_le 8 m) e)

pub key_is : (m : List ℕ) (x : ℕ) → 1 ≤ x → 32 * x ≤ length m → {r : List ℕ} → r ≡ row_n m x → {k : ℕ} → k ≡ get_le 8 r 0 → k ≡ key_n m x
key_is m x s h re ke = ke ∙ ap (λ (r : List ℕ). get_le 8 r 0) re ∙ row_key m x s h

-- ---- bounds as slots

module _ (m : List ℕ) (a b : ℕ) where
  pub rises_first : a ≡ 0 → true ≡ rises_n m a b
  unfolding rises_n
  rises_first e = simp (eq-eqb a 0 e)

  pub rises_last : b ≡ 0 → true ≡ rises_n m a b
  unfolding rises_n
  rises_last e = simp (eq-eqb b 0 e) (test (eqb a 0) (λ t. rw t refl) (λ t. rw t refl))

  pub rises_keys : (a ≡ 0 → ⊥) → (b ≡ 0 → ⊥) → {k j : ℕ} → k ≡ key_n m a → j ≡ key_n m b → ltb k j ≡ rises_n m a b
  unfolding rises_n
  rises_keys p q e f = simp (ne_eqb a 0 p, ne_eqb b 0 q, ← e, ← f)

one_more : (k j : ℕ) → leb (k + 1) j ≡ ltb k j
one_more k j =
    test (ltb k j) (λ t. rw (t, le-leb (k + 1) j (omega (arith, ltb-true k j t))) refl)
    (λ t. rw (t, lt-leb (k + 1) j (omega (arith, ltb-false k j t))) refl)

-- a record between two others has a key between theirs
module _ (m : List ℕ) (x : ℕ) (s : 1 ≤ x) where
  rises_from : (lo : ℕ) → leb (from m lo) (key_n m x) ≡ rises_n m lo x
  unfolding from rises_n
  rises_from lo =
      test (eqb lo 0) (λ e. rw (e, le-leb 0 (key_n m x) (omega arith)) refl)
      (λ e. rw (e, ne_eqb x 0 (omega arith)) (one_more (key_n m lo) (key_n m x)))

  rises_below : Bytes m → (hi : ℕ) → ltb (key_n m x) (below m hi) ≡ rises_n m x hi
  unfolding below rises_n
  rises_below all hi =
      rw (ne_eqb x 0 (omega arith))
      (test (eqb hi 0) (λ e. rw (e, lt-ltb (key_n m x) 18_446_744_073_709_551_616 (key_low m all x)) refl) (λ e. rw e refl))

module _ (m : List ℕ) (N t u x lo hi : ℕ) where
  pub own_none : x ≡ 0 → false ≡ own_n m N t u x lo hi
  unfolding own_n
  own_none e = simp (eq-eqb x 0 e)

  pub own_past : (x ≡ 0 → ⊥) → N < x → false ≡ own_n m N t u x lo hi
  unfolding own_n
  own_past s h = simp (ne_eqb x 0 s, lt-leb x N h)

  pub own_row : (x ≡ 0 → ⊥) → x ≤ N → 32 * x ≤ length m → {r : List ℕ} → r ≡ row_n m x → {v p : ℕ} → v ≡ get_le 1 r 15 → p ≡ get_le 2 r 12
      → {c d : Bool} → c ≡ rises_n m lo x → d ≡ rises_n m x hi → (((eqb v t && eqb p u) && c) && d) ≡ own_n m N t u x lo hi
  unfolding own_n
  own_row s h room re ve pe c d =
      let i : 1 ≤ x = omega arith in
      let tree_is = ve ∙ ap (λ (r : List ℕ). get_le 1 r 15) re ∙ row_tree m x i room in
      let parent_is = pe ∙ ap (λ (r : List ℕ). get_le 2 r 12) re ∙ row_parent m x i room in
      simp (ne_eqb x 0 s, le-leb x N h, ← tree_is, ← parent_is, ← c, ← d, and_assoc) refl

  -- a record that passes is one of the slots, and lies between the bounds
  pub own_in : {o : Bool} → o ≡ own_n m N t u x lo hi → o ≡ true → (1 ≤ x) × (x ≤ N) × ((rises_n m lo x && rises_n m x hi) ≡ true)
  unfolding own_n
  own_in e h =
      let g : own_n m N t u x lo hi ≡ true = sym e ∙ h in
      test (eqb x 0) (λ z. absurd (false≢true (rw z at g)))
      (λ z.
      let a = both (leb x N) _ (rw z at g) in
      let c = both (eqb (tree_n m x) t) _ a.1 in
      (omega (arith, eqb-false x 0 z), leb-true x N a.0, (both (eqb (get_n m x parent) u) _ c.1).1))

own_opened : (m : List ℕ) (N t u x lo hi : ℕ) → (x ≡ 0 → ⊥) → Bytes m → own_n m N t u x lo hi
    ≡ ((leb x N && (eqb (tree_n m x) t && eqb (get_n m x parent) u)) && (leb (from m lo) (key_n m x) && ltb (key_n m x) (below m hi)))
unfolding own_n
own_opened m N t u x lo hi s all =
    let i : 1 ≤ x = omega arith in
    simp (rises_from m x i lo, rises_below m x i all hi, ne_eqb x 0 s, and_assoc) refl

-- One turn of the walk by bounds: the record that the link leads to, then its parts.
pub link_turn : (m : List ℕ) (N t level u x lo hi : ℕ) → (x ≡ 0 → ⊥) → Bytes m
    → bound_n m N t (suc level) u x (from m lo) (below m hi) ≡ cond (own_n m N t u x lo hi) (parts_n m N t level x (from m lo) (below m hi)) 0
unfolding parts_n
link_turn m N t level u x lo hi s all = rw (bound_turn m N t level u x (from m lo) (below m hi) (omega arith), own_opened m N t u x lo hi s all)

-- ---- the fields of a record, read off the row that is lent

module _ (m : List ℕ) (x : ℕ) (s : 1 ≤ x) (h : 32 * x ≤ length m) {row : List ℕ} (re : row ≡ row_n m x) where
  pub left_is : {l : ℕ} → l ≡ get_le 2 row 8 → l ≡ get_n m x (child left)
  left_is e = e ∙ ap (λ (k : List ℕ). get_le 2 k 8) re ∙ row_left m x s h

  pub right_is : {r : ℕ} → r ≡ get_le 2 row 10 → r ≡ get_n m x (child right)
  right_is e = e ∙ ap (λ (k : List ℕ). get_le 2 k 10) re ∙ row_right m x s h

  pub balance_is : {b : ℕ} → b ≡ get_le 1 row 14 → b ≡ get_n m x balance
  balance_is e = e ∙ ap (λ (k : List ℕ). get_le 1 k 14) re ∙ row_balance m x s h

  -- its parts lie between the record and its own bounds
  pub parts_are : (N t level lo hi : ℕ) {l r b : ℕ} → l ≡ get_le 2 row 8 → r ≡ get_le 2 row 10 → b ≡ get_le 1 row 14
      → parts_n m N t level x (from m lo) (below m hi)
      ≡ weighed b (bound_n m N t level x l (from m lo) (below m x)) (bound_n m N t level x r (from m x) (below m hi))
  unfolding parts_n from below
  parts_are N t level lo hi le ue be = simp (← left_is le, ← right_is ue, ← balance_is be, ne_eqb x 0 (omega arith)) refl
