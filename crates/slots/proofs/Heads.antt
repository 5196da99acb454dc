-- The head after a change: the table of trees, how many records are live, and the lowest free slot. Assumes nothing.
use Rattle.std.proofs.Common.{◌≡◌, ℕ, zero, suc, ◌+◌, ◌-◌, ◌<◌, ◌≤◌, Bool, cond, eqb, ltb, List, [], ◌∷◌, length, get_or, drop, set, sym, refl, ap, ◌∙◌, arith, le-ltb, lt-ltb, eq-eqb, ne_eqb}
use Rattle.std.proofs.Math.Option.{Option, none, some}
use Rattle.std.proofs.lemmas.Bool.{eqb-false}
use Rattle.avl.specs.Tree.{left, Tree, list}
use Rattle.tree.specs.Held.{tree_of}
use Rattle.tree.specs.Insert.{more_n}
use Rattle.tree.specs.Remove.{less_n}
use Rattle.tree.specs.declared.node.AvlTree.{AvlTree}
use Rattle.meaning.specs.Layout.{bit, count, at, put}
use Rattle.meaning.specs.Pool.{Rec, Pool, live_count}
use Rattle.meaning.specs.Change.{free_from, free_slot}
use Rattle.meaning.proofs.Facts.{test}
use Rattle.meaning.proofs.Formed.{not_both}
use Rattle.slots.specs.Head.{set_tree_n, with_numbers}
use Rattle.slots.specs.Change.{freed_n}
use Rattle.slots.specs.Image.{table_of, head_of}

-- The head of the pool q, from that of p, whose sizes are the same, and what a change computes anew.
pub head_as : (p q : Pool) (live free : ℕ) (table : List AvlTree) → length p.slots ≡ length q.slots → length p.trees ≡ length q.trees
    → p.size ≡ q.size → live ≡ live_count q → free ≡ free_slot q → table ≡ table_of 8 q.trees
    → record { numbers = with_numbers (head_of p).numbers live free (length q.text) q.next; table = table } ≡ head_of q
unfolding head_of
head_as p q live free table a b c d e f = rw (a, b, c, d, e, f)

-- ---- the table

-- a tree by value, with how many records it has
abbrev pub table_entry : Tree → AvlTree
table_entry t = tree_of t (length (list left t))

set_table : (n : ℕ) (ts : List Tree) (i : ℕ) (u : Tree) → i < length ts → set (table_of n ts) i (table_entry u) ≡ table_of n (set ts i u)
unfolding table_of
set_table zero ts i u h = refl
set_table (suc n) [] i u h = absurd (omega arith)
set_table (suc n) (t ∷ ts) zero u h = refl
set_table (suc n) (t ∷ ts) (suc i) u h = ap (λ (l : List AvlTree). table_entry t ∷ l) (set_table n ts i u (omega arith))

-- A tree stored in the table of 8 is one of the trees changed.
pub table_put : (ts : List Tree) (t : ℕ) (u : Tree) → 1 ≤ t → t ≤ length ts → length ts ≤ 8 → set_tree_n (table_of 8 ts) t (table_entry u) ≡ table_of 8 (put ts t u)
unfolding set_tree_n put
table_put ts zero u a b c = absurd (omega arith)
table_put ts (suc i) u a b c =
    let table = table_of 8 ts in
    let e : suc i - 1 ≡ i = omega arith in
    ap (λ (t : Bool). cond t table (cond (ltb 8 (suc i)) table (set table (suc i - 1) (table_entry u)))) (ne_eqb (suc i) 0 (omega arith))
    ∙ ap (λ (t : Bool). cond t table (set table (suc i - 1) (table_entry u))) (le-ltb 8 (suc i) (omega arith))
    ∙ ap (λ (j : ℕ). set table j (table_entry u)) e
    ∙ set_table 8 ts i u (omega arith)

-- ---- counts

-- A count that is far from its limit goes up by one, and one that is not 0 goes down by one.
pub more_one : (n : ℕ) → n ≤ 1024 → more_n n ≡ suc n
unfolding more_n
more_one n h = ap (λ (t : Bool). cond t n (n + 1)) (ne_eqb n 65_535 (omega arith)) ∙ omega arith

pub less_one : (n : ℕ) → less_n (suc n) ≡ n
unfolding less_n
less_one n = ap (λ (t : Bool). cond t (suc n) (suc n - 1)) (ne_eqb (suc n) 0 (omega arith)) ∙ omega arith

count_set : {A : Type 0} (d : A) (f : A → Bool) (xs : List A) (i : ℕ) (a : A) → i < length xs
    → count f (set xs i a) + bit (f (get_or xs i d)) ≡ count f xs + bit (f a)
unfolding count
count_set d f [] i a h = absurd (omega arith)
count_set d f (x ∷ xs) zero a h = omega arith
count_set d f (x ∷ xs) (suc i) a h = omega (arith, count_set d f xs i a (omega arith))

-- One element changed changes a count by that element.
pub count_put : {A : Type 0} (d : A) (f : A → Bool) (xs : List A) (i : ℕ) (a : A) → 1 ≤ i → i ≤ length xs
    → count f (put xs i a) + bit (f (at d xs i)) ≡ count f xs + bit (f a)
unfolding put at
count_put d f xs zero a h k = absurd (omega arith)
count_put d f xs (suc i) a h k = count_set d f xs i a (omega arith)

-- ---- the lowest free slot

-- it is one of those looked at
free_low : (i : ℕ) (s : List (Option Rec)) → (free_from i s ≡ 0 → ⊥) → i ≤ free_from i s
unfolding free_from
free_low i [] n = absurd (n refl)
free_low i (none ∷ s) n = omega arith
free_low i (some r ∷ s) n = omega (arith, free_low (suc i) s n)

-- slot i + j, which was free, is taken: it was the lowest one, or the lowest one stays
free_set : (i : ℕ) (s : List (Option Rec)) (j : ℕ) (r : Rec) → j < length s → get_or s j none ≡ none
    → free_from i (set s j (some r)) ≡ cond (eqb (i + j) (free_from i s)) (free_from (suc (i + j)) (drop (suc j) (set s j (some r)))) (free_from i s)
unfolding free_from
free_set i [] j r h e = absurd (omega arith)
free_set i (none ∷ s) zero r h e =
    let at : i + 0 ≡ i = omega arith in
    rw (at, eq-eqb i i refl)
free_set i (none ∷ s) (suc j) r h e = rw (ne_eqb (i + suc j) i (omega arith))
free_set i (some q ∷ s) zero r h e = absurd (not_both (some q) refl e)
free_set i (some q ∷ s) (suc j) r h e =
    let at : i + suc j ≡ suc i + j = omega arith in
    free_set (suc i) s j r (omega arith) e ∙ rw at

-- The lowest free slot once slot x is taken.
pub free_put : (s : List (Option Rec)) (x : ℕ) (r : Rec) → 1 ≤ x → x ≤ length s → at none s x ≡ none
    → free_from 1 (put s x (some r)) ≡ cond (eqb x (free_from 1 s)) (free_from (suc x) (drop x (put s x (some r)))) (free_from 1 s)
unfolding put at
free_put s zero r a b e = absurd (omega arith)
free_put s (suc j) r a b e =
    let same : 1 + j ≡ suc j = omega arith in
    free_set 1 s j r (omega arith) e ∙ rw same

freed_lower : (free x : ℕ) → (1 ≤ free → x < free) → freed_n free x ≡ x
unfolding freed_n
freed_lower free x h = test (eqb free 0) (λ t. rw t) (λ t. rw (t, lt-ltb x free (h (omega (arith, eqb-false free 0 t)))))

freed_higher : (free x : ℕ) → 1 ≤ free → free ≤ x → freed_n free x ≡ free
unfolding freed_n
freed_higher free x h k = rw (ne_eqb free 0 (omega arith), le-ltb x free k)

-- slot i + j is made free
freed_set : (i : ℕ) (s : List (Option Rec)) (j : ℕ) → 1 ≤ i → j < length s → free_from i (set s j none) ≡ freed_n (free_from i s) (i + j)
unfolding free_from
freed_set i [] j l h = absurd (omega arith)
freed_set i (none ∷ s) zero l h = sym (freed_higher i (i + 0) l (omega arith))
freed_set i (none ∷ s) (suc j) l h = sym (freed_higher i (i + suc j) l (omega arith))
freed_set i (some q ∷ s) zero l h =
    let at : i + 0 ≡ i = omega arith in
    sym (freed_lower (free_from (suc i) s) (i + 0) (λ n. omega (arith, free_low (suc i) s (λ z. omega arith))) ∙ at)
freed_set i (some q ∷ s) (suc j) l h =
    let at : suc i + j ≡ i + suc j = omega arith in
    freed_set (suc i) s j (omega arith) (omega arith) ∙ ap (freed_n (free_from (suc i) s)) at

-- The lowest free slot once slot x is free too.
pub free_drop : (s : List (Option Rec)) (x : ℕ) → 1 ≤ x → x ≤ length s → free_from 1 (put s x none) ≡ freed_n (free_from 1 s) x
unfolding put
free_drop s zero a b = absurd (omega arith)
free_drop s (suc j) a b =
    let same : 1 + j ≡ suc j = omega arith in
    freed_set 1 s j (omega arith) (omega arith) ∙ ap (freed_n (free_from 1 s)) same
