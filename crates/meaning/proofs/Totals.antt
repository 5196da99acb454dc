-- The live records of a pool are those of its trees, counted: one sum over the slots and one over the trees. Assumes nothing.
use Rattle.std.proofs.Common.{◌≡◌, ℕ, zero, suc, ◌+◌, ◌<◌, ◌≤◌, Bool, eqb, List, [], ◌∷◌, length, get_or, sym, refl, ap, ◌∙◌, arith, eq-eqb, ne_eqb, eqb-true}
use Rattle.std.proofs.Math.Option.{Option, none, some}
use Rattle.std.proofs.lemmas.Bool.{eqb-false}
use Rattle.std.proofs.lemmas.List.{length-map}
use Rattle.avl.specs.Tree.{left, list}
use Rattle.avl.specs.Order.{All, nil, more}
use Rattle.avl.proofs.Sorting.{all_map}
use Rattle.meaning.specs.Layout.{bit, count, at}
use Rattle.meaning.specs.Pool.{Rec, Pool, rec_at, tree_at, is_live, lives_in, live_count}
use Rattle.meaning.specs.WellFormed.{WellFormed}
use Rattle.meaning.specs.Meant.{entries_of, total}
use Rattle.meaning.proofs.Entries.{entry_at}
use Rattle.meaning.proofs.Facts.{test}
use Rattle.meaning.proofs.Members.{tree_lives}

-- ---- sums over n numbers from i on

sum : (ℕ → ℕ) → ℕ → ℕ → ℕ
sum f i zero = 0
sum f i (suc n) = f i + sum f (suc i) n

sum_same : (f g : ℕ → ℕ) (i n : ℕ) → ((x : ℕ) → i ≤ x → x < i + n → f x ≡ g x) → sum f i n ≡ sum g i n
unfolding sum
sum_same f g i zero h = refl
sum_same f g i (suc n) h = omega (arith, h i (omega arith) (omega arith), sum_same f g (suc i) n (λ x l m. h x (omega arith) (omega arith)))

sum_both : (f g : ℕ → ℕ) (i n : ℕ) → sum (λ x. f x + g x) i n ≡ sum f i n + sum g i n
unfolding sum
sum_both f g i zero = omega arith
sum_both f g i (suc n) = omega (arith, sum_both f g (suc i) n)

sum_zero : (i n : ℕ) → sum (λ _. 0) i n ≡ 0
unfolding sum
sum_zero i zero = refl
sum_zero i (suc n) = omega (arith, sum_zero (suc i) n)

sum_none : (y i n : ℕ) → y < i → sum (λ x. bit (eqb x y)) i n ≡ 0
unfolding sum
sum_none y i zero h = refl
sum_none y i (suc n) h = omega (arith, ap bit (ne_eqb i y (λ e. omega arith)), sum_none y (suc i) n (omega arith))

-- a number among them counts once
sum_one : (y i n : ℕ) → i ≤ y → y < i + n → sum (λ x. bit (eqb x y)) i n ≡ 1
unfolding sum
sum_one y i zero l h = absurd (omega arith)
sum_one y i (suc n) l h =
    test (eqb i y) (λ e. omega (arith, ap bit e, eqb-true i y e, sum_none y (suc i) n (omega (arith, eqb-true i y e))))
    (λ e. omega (arith, ap bit e, sum_one y (suc i) n (omega (arith, eqb-false i y e)) (omega arith)))

-- ---- the slots of a tree

-- a list of numbers among them, counted number by number
sum_list : (i n : ℕ) (w : List ℕ) → All (λ x. (i ≤ x) × (x < i + n)) w → sum (λ x. count (eqb x) w) i n ≡ length w
unfolding count
sum_list i n [] nil = sum_zero i n
sum_list i n (y ∷ w) (more h a) =
    sum_both (λ x. bit (eqb x y)) (λ x. count (eqb x) w) i n ∙ omega (arith, sum_one y i n h.0 h.1, sum_list i n w a)

-- a list of slots, counted slot by slot
sum_slots : (f : Option Rec → Bool) (xs : List (Option Rec)) (g : ℕ → ℕ) (i : ℕ)
    → ((j : ℕ) → j < length xs → g (i + j) ≡ bit (f (get_or xs j none))) → sum g i (length xs) ≡ count f xs
unfolding sum count
sum_slots f [] g i h = refl
sum_slots f (x ∷ xs) g i h =
    let here : g i ≡ bit (f x) = ap g (let e : i ≡ i + 0 = omega arith in e) ∙ h 0 (omega arith) in
    let rest = sum_slots f xs g (suc i) (λ j l. ap g (let e : suc i + j ≡ i + suc j = omega arith in e) ∙ h (suc j) (omega arith)) in
    omega (arith, here, rest)

-- A tree has as many entries as the slots have records of it.
tree_count : (p : Pool) (t : ℕ) → WellFormed p → 1 ≤ t → t ≤ length p.trees → count (lives_in t) p.slots ≡ length (list left (tree_at p t))
unfolding rec_at at
tree_count p t good low high =
    let N = length p.slots in
    let w = list left (tree_at p t) in
    let f : ℕ → ℕ = λ x. count (eqb x) w in
    let g = good.trees t low high in
    sym (sum_slots (lives_in t) p.slots f 1 (λ j l. ap f (let e : 1 + j ≡ suc j = omega arith in e) ∙ g.once (suc j)))
    ∙ sum_list 1 N w (all_map (λ x l. (l.low, let h = l.high in omega arith)) (tree_lives p t g))

-- ---- the trees

-- live records, by their trees
sum_trees : (T : ℕ) (xs : List (Option Rec)) → ((j : ℕ) (r : Rec) → get_or xs j none ≡ some r → (1 ≤ r.tree) × (r.tree ≤ T))
    → count is_live xs ≡ sum (λ t. count (lives_in t) xs) 1 T
unfolding count is_live lives_in
sum_trees T [] h = sym (sum_zero 1 T)
sum_trees T (none ∷ xs) h =
    let rest = sum_trees T xs (λ j r e. h (suc j) r e) in
    omega (arith, rest, sum_same (λ t. count (lives_in t) xs) (λ t. count (lives_in t) (none ∷ xs)) 1 T (λ x l m. omega arith))
sum_trees T (some r ∷ xs) h =
    let k = h 0 r refl in
    let own : sum (λ t. bit (eqb r.tree t)) 1 T ≡ 1 =
    sum_same (λ t. bit (eqb r.tree t)) (λ t. bit (eqb t r.tree)) 1 T (λ x l m. swapped r.tree x) ∙ sum_one r.tree 1 T k.0 (omega (arith, k.1)) in
    let rest = sum_trees T xs (λ j r e. h (suc j) r e) in
    omega (arith, own, rest, sum_both (λ t. bit (eqb r.tree t)) (λ t. count (lives_in t) xs) 1 T)
  where
    swapped : (a b : ℕ) → bit (eqb a b) ≡ bit (eqb b a)
    swapped a b =
        test (eqb a b) (λ e. ap bit (e ∙ sym (eq-eqb b a (sym (eqb-true a b e))))) (λ e. ap bit (e ∙ sym (ne_eqb b a (λ i. eqb-false a b e (sym i)))))

total_sum : (p : Pool) (t n : ℕ) → total p t n ≡ sum (λ u. length (entries_of p u)) t n
unfolding total sum
total_sum p t zero = refl
total_sum p t (suc n) = ap (λ (m : ℕ). length (entries_of p t) + m) (total_sum p (suc t) n)

-- The live records are as many as the entries of all trees.
pub live_total : (p : Pool) → WellFormed p → live_count p ≡ total p 1 (length p.trees)
unfolding live_count entries_of rec_at at
live_total p good =
    let T = length p.trees in
    sum_trees T p.slots (λ j r e. let g = good.recs (suc j) r e in (g.tree_low, g.tree_high))
    ∙ sum_same (λ t. count (lives_in t) p.slots) (λ t. length (entries_of p t)) 1 T
    (λ t l h. tree_count p t good l (omega arith) ∙ sym (length-map (list left (tree_at p t)) (entry_at p)))
    ∙ sym (total_sum p 1 T)
