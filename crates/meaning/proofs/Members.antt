-- What stands in a tree of a well-formed pool: live slots of its number, each once; so there are no more than the pool has slots, and the tree has
-- no more than 14 levels. Assumes nothing.
use Rattle.std.proofs.Common.{◌≡◌, ℕ, zero, suc, ◌+◌, ◌<◌, ◌≤◌, true, eqb, List, [], ◌∷◌, length, refl, ap, arith, eq-eqb, eqb-true}
use Rattle.std.proofs.Math.Decide.{dec_le}
use Rattle.std.proofs.Math.Option.{Option, none, some}
use Rattle.std.proofs.lemmas.Bool.{false≢true}
use Rattle.avl.specs.Tree.{left, Bal, Tree, leaf, node, list, size, height}
use Rattle.avl.specs.Order.{All, nil, more}
use Rattle.avl.proofs.Sorting.{all_front, all_back, all_head, all_tail, all_map}
use Rattle.avl.proofs.Height.{levels_14, size_list}
use Rattle.meaning.specs.Layout.{bit, count}
use Rattle.meaning.specs.Pool.{Rec, Pool, rec_at, tree_at, lives_in}
use Rattle.meaning.specs.WellFormed.{GoodTree, WellFormed}
use Rattle.meaning.proofs.Facts.{all_counted, bit_low, bit_one, count_append, at_out, at_none}

-- ---- lists of slots by their counts

-- A slot stands in a tree at the left, at the top or at the right.
pub count_node : (x : ℕ) (l : Tree) (s : ℕ) (b : Bal) (r : Tree)
    → count (eqb x) (list left (node l s b r)) ≡ count (eqb x) (list left l) + (bit (eqb x s) + count (eqb x) (list left r))
unfolding count list
count_node x l s b r = count_append (eqb x) (list left l) (s ∷ list left r)

-- What holds of all slots of a tree holds at the left, at the top and at the right.
pub all_node : {P : ℕ → Type 0} (l : Tree) (s : ℕ) (b : Bal) (r : Tree) → All P (list left (node l s b r))
    → All P (list left l) × P s × All P (list left r)
unfolding list
all_node l s b r a =
    let c = all_back (list left l) (s ∷ list left r) a in
    (all_front (list left l) (s ∷ list left r) a, all_head c, all_tail c)

-- how often the slots 1 to n stand in a list, together
tally : List ℕ → ℕ → ℕ
tally w zero = 0
tally w (suc n) = tally w n + count (eqb (suc n)) w

tally_low : (x : ℕ) (w : List ℕ) (n : ℕ) → tally w n ≤ tally (x ∷ w) n
unfolding tally count
tally_low x w zero = omega arith
tally_low x w (suc n) = omega (arith, tally_low x w n)

tally_more : (x : ℕ) (w : List ℕ) (n : ℕ) → 1 ≤ x → x ≤ n → tally w n < tally (x ∷ w) n
unfolding tally count
tally_more x w zero h k = absurd (omega arith)
tally_more x w (suc n) h k = go (dec_le x n) (tally_more x w n h)
  where
    go : Dec (x ≤ n) → (x ≤ n → tally w n < tally (x ∷ w) n)
        → tally w n + count (eqb (suc n)) w < tally (x ∷ w) n + (bit (eqb (suc n) x) + count (eqb (suc n)) w)
    go (yes i) ih = omega (arith, ih i)
    go (no i) ih = omega (arith, tally_low x w n, ap bit (eq-eqb (suc n) x (omega arith)))

tally_all : (n : ℕ) (w : List ℕ) → All (λ x. (1 ≤ x) × (x ≤ n)) w → length w ≤ tally w n
tally_all n [] nil = omega arith
tally_all n (x ∷ w) (more h a) = omega (arith, tally_more x w n h.0 h.1, tally_all n w a)

tally_high : (w : List ℕ) (n : ℕ) → ((x : ℕ) → count (eqb x) w ≤ 1) → tally w n ≤ n
unfolding tally
tally_high w zero h = omega arith
tally_high w (suc n) h = omega (arith, tally_high w n h, h (suc n))

-- A list of slots from 1 to n, each at most once, has at most n of them.
pub once_short : (n : ℕ) (w : List ℕ) → All (λ x. (1 ≤ x) × (x ≤ n)) w → ((x : ℕ) → count (eqb x) w ≤ 1) → length w ≤ n
once_short n w a h = omega (arith, tally_all n w a, tally_high w n h)

-- ---- live slots

-- slot x holds a record of tree t
pub record Lives (p : Pool) (t x : ℕ) : Type 0 where
  pub low : 1 ≤ x
  pub high : x ≤ length p.slots
  pub rec : Rec
  pub is : rec_at p x ≡ some rec
  pub tree_is : rec.tree ≡ t

-- A slot that is not free is one of the pool's.
pub slot_in : (p : Pool) (x : ℕ) (r : Rec) → rec_at p x ≡ some r → (1 ≤ x) × (x ≤ length p.slots)
unfolding rec_at
slot_in p zero r e = let f = at_none none p.slots in let z : ◌≡◌ {A = ℕ} 0 1 = cc in absurd (omega arith)
slot_in p (suc i) r e = (omega arith, go (dec_le (suc i) (length p.slots)))
  where
    go : Dec (suc i ≤ length p.slots) → suc i ≤ length p.slots
    go (yes h) = h
    go (no h) = let f = at_out none p.slots (suc i) (omega arith) in let z : ◌≡◌ {A = ℕ} 0 1 = cc in absurd (omega arith)

-- What the test that a slot lives in a tree says.
pub lives : (p : Pool) (t x : ℕ) → lives_in t (rec_at p x) ≡ true → Lives p t x
unfolding lives_in
lives p t x h = go (rec_at p x) refl h
  where
    go : (o : Option Rec) → rec_at p x ≡ o → lives_in t o ≡ true → Lives p t x
    go none e k = absurd (false≢true k)
    go (some r) e k = let i = slot_in p x r e in record { low = i.0; high = i.1; rec = r; is = e; tree_is = eqb-true r.tree t k }

-- A tree of a well-formed pool lists live slots of its number.
pub tree_lives : (p : Pool) (t : ℕ) → GoodTree p t → All (Lives p t) (list left (tree_at p t))
tree_lives p t g =
    all_counted (list left (tree_at p t)) (λ x h. lives p t x (bit_one (lives_in t (rec_at p x)) (omega (arith, g.once x))))

-- It lists each at most once.
pub tree_once : (p : Pool) (t : ℕ) → GoodTree p t → (x : ℕ) → count (eqb x) (list left (tree_at p t)) ≤ 1
tree_once p t g x = omega (arith, g.once x, bit_low (lives_in t (rec_at p x)))

-- ---- how many, and how many levels

-- A tree of a well-formed pool lists at most as many slots as the pool has.
pub list_short : (p : Pool) (t : ℕ) → WellFormed p → 1 ≤ t → t ≤ length p.trees → length (list left (tree_at p t)) ≤ length p.slots
list_short p t v lo hi =
    let g = v.trees t lo hi in
    once_short (length p.slots) (list left (tree_at p t)) (all_map (λ x h. (h.low, h.high)) (tree_lives p t g)) (tree_once p t g)

-- It has at most 14 levels.
pub tree_levels : (p : Pool) (t : ℕ) → WellFormed p → 1 ≤ t → t ≤ length p.trees → height (tree_at p t) ≤ 14
tree_levels p t v lo hi =
    levels_14 (tree_at p t) (v.trees t lo hi).balanced (omega (arith, size_list left (tree_at p t), list_short p t v lo hi, v.slots_high))

pub height_size : (t : Tree) → height t ≤ size t
unfolding height size
height_size leaf = omega arith
height_size (node l s b r) = omega (arith, height_size l, height_size r)

-- It has at most as many levels as the pool has slots.
pub tree_depth : (p : Pool) (t : ℕ) → WellFormed p → 1 ≤ t → t ≤ length p.trees → height (tree_at p t) ≤ length p.slots
tree_depth p t v lo hi = omega (arith, height_size (tree_at p t), size_list left (tree_at p t), list_short p t v lo hi)
