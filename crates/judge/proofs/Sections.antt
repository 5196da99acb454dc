-- The sections of a pool as the check sees them: the records counted, their fields read in place, the unused text. Assumes nothing.
use Rattle.std.specs.Prelude.{Some, None, Option}
use Rattle.std.proofs.Common.{◌≡◌, ℕ, zero, suc, ◌+◌, ◌-◌, ◌*◌, ◌<◌, ◌≤◌, cond, not, eqb, List, [], ◌∷◌, map, length, get_or, take, drop, sym, refl, ap, ◌∙◌, ap₂, arith, ne_eqb, eqb-true}
use Rattle.std.proofs.Math.Dec.{eqb-suc-zero}
use Rattle.std.proofs.lemmas.Bool.{eqb-false}
use Rattle.fields.specs.Number.{get_le}
use Rattle.avl.specs.Tree.{left, right}
use Rattle.tree.specs.Node.{child, parent, balance, get_n, key_n}
use Rattle.meaning.specs.Layout.{rows, every, count, at}
use Rattle.meaning.specs.Pool.{key_in, left_in, right_in, parent_in, balance_in, tree_in, read_rec}
use Rattle.meaning.specs.Change.{free_from}
use Rattle.meaning.proofs.Facts.{test, length_rows}
use Rattle.meaning.proofs.Contents.{read_free, read_live}
use Rattle.fields.proofs.Spans.{get_part}
use Rattle.meaning.proofs.Sections.{row_field}
use Rattle.judge.specs.Check.{tree_n}
use Rattle.judge.specs.Rows.{record_in, counted}
use Rattle.judge.specs.declared.verdict.Census.{Census}
use Rattle.judge.proofs.Passing.{Agree}

-- ---- the records counted

-- a census, and none
abbrev of : ℕ → ℕ → Option Census
of live free = Some (record { live = live; free = free })

-- The pass tells how many are live and the lowest free slot, if there was none before, exactly where every record is good.
pub counted_is : (used next x n f : ℕ) (rs : List (List ℕ)) → 1 ≤ x
    → counted used next x n f rs
    ≡ cond (every (record_in used next) rs) (of (n + count (λ r. not (eqb (tree_in r) 0)) rs) (cond (eqb f 0) (free_from x (map read_rec rs)) f)) None
unfolding counted every count free_from
counted_is used next x n f [] low =
    ap₂ of (omega arith) (test (eqb f 0) (λ z. rw z (eqb-true f 0 z)) (λ z. rw z refl))
counted_is used next x n f (r ∷ rs) low =
    test (record_in used next r)
    (λ t. test (eqb (tree_in r) 0)
    (λ u. rw (t, u, read_free r (eqb-true (tree_in r) 0 u))
    (counted_is used next (suc x) n (cond (eqb f 0) x f) rs (omega arith)
    ∙ ap₂ (λ (i j : ℕ). cond (every (record_in used next) rs) (of i j) None) (omega arith)
    (test (eqb f 0) (λ z. rw (z, ne_eqb x 0 (omega arith)) refl) (λ z. rw (z, z) refl))))
    (λ u. rw (t, u, read_live r (omega (arith, eqb-false (tree_in r) 0 u)))
    (counted_is used next (suc x) (n + 1) f rs (omega arith)
    ∙ ap (λ (i : ℕ). cond (every (record_in used next) rs) (of i (cond (eqb f 0) (free_from (suc x) (map read_rec rs)) f)) None) (omega arith))))
    (λ t. rw t refl)

-- ---- the fields of records, read in place

-- a field of slot x in the record bytes is that of its row
in_place : (b : List ℕ) (start n i k w : ℕ) → i < n → k + w ≤ 32 → start + 32 * n ≤ length b
    → cond (eqb (suc i) 0) 0 (get_le w (take (32 * n) (drop start b)) (32 * (suc i - 1) + k)) ≡ get_le w (get_or (rows n 32 (drop start b)) i []) k
in_place b start n i k w low fit long =
    let e : 32 * (suc i - 1) + k ≡ 32 * i + k = omega arith in
    simp eqb-suc-zero
    (ap (get_le w (take (32 * n) (drop start b))) e
    ∙ get_part b start (32 * n) (32 * i + k) w (omega arith) long
    ∙ ap (get_le w b) (omega arith)
    ∙ sym (row_field b start n 32 i k w low fit long))

in_place_key : (b : List ℕ) (start n i : ℕ) → i < n → start + 32 * n ≤ length b
    → cond (eqb (suc i) 0) 0 (get_le 8 (take (32 * n) (drop start b)) (32 * (suc i - 1))) ≡ get_le 8 (get_or (rows n 32 (drop start b)) i []) 0
in_place_key b start n i low long =
    ap (λ (y : ℕ). cond (eqb (suc i) 0) 0 (get_le 8 (take (32 * n) (drop start b)) y)) (omega arith) ∙ in_place b start n i 0 8 low (omega arith) long

-- a statement about the slots of n rows, by the rows
by_rows : (n : ℕ) (bs : List ℕ) (P : ℕ → Type 0) → ((i : ℕ) → i < n → P (suc i)) → (x : ℕ) → 1 ≤ x → x ≤ length (rows n 32 bs) → P x
by_rows n bs P f zero low high = absurd (omega arith)
by_rows n bs P f (suc i) low high = f i (omega (arith, high, length_rows n 32 bs))

-- The record bytes of a pool read as its rows do.
pub agree : (b : List ℕ) (start n : ℕ) → start + 32 * n ≤ length b → Agree (take (32 * n) (drop start b)) (rows n 32 (drop start b))
unfolding get_n key_n tree_n left_in right_in parent_in balance_in key_in tree_in at
agree b start n h =
    let m = take (32 * n) (drop start b) in
    let bs = drop start b in
    let rs = rows n 32 bs in
    record {
      left_is = by_rows n bs (λ x. get_n m x (child left) ≡ left_in (at [] rs x)) (λ i l. in_place b start n i 8 2 l (omega arith) h);
      right_is = by_rows n bs (λ x. get_n m x (child right) ≡ right_in (at [] rs x)) (λ i l. in_place b start n i 10 2 l (omega arith) h);
      parent_is = by_rows n bs (λ x. get_n m x parent ≡ parent_in (at [] rs x)) (λ i l. in_place b start n i 12 2 l (omega arith) h);
      balance_is = by_rows n bs (λ x. get_n m x balance ≡ balance_in (at [] rs x)) (λ i l. in_place b start n i 14 1 l (omega arith) h);
      key_is = by_rows n bs (λ x. key_n m x ≡ key_in (at [] rs x)) (λ i l. in_place_key b start n i l h);
      tree_is = by_rows n bs (λ x. tree_n m x ≡ tree_in (at [] rs x)) (λ i l. in_place b start n i 15 1 l (omega arith) h);
    }
