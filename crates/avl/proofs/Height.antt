-- How few records a balanced tree of a height can hold, that some tree holds no more, and so how high a tree of 1,024 records can be: 14 levels.
-- Assumes nothing.
use Rattle.std.proofs.Common.{◌≡◌, ℕ, zero, suc, ◌+◌, ◌-◌, ◌≤◌, max, List, length, refl, suc-add, zero-add, arith, length-append}
use Rattle.std.proofs.Math.Decide.{dec_le}
use Rattle.avl.specs.Tree.{Dir, left, right, pick, Bal, heavy, Tree, leaf, node, single, list, size, height, tilt, Balanced, none, both}
use Rattle.avl.proofs.Sides.{View, neither, this, other, view}

-- the fewest records of a balanced tree of that height
unfoldable pub fewest : ℕ → ℕ
fewest zero = 0
fewest (suc zero) = 1
fewest (suc (suc h)) = suc (fewest (suc h) + fewest h)

-- a higher tree needs no fewer records
fewest_next : (h : ℕ) → fewest h ≤ fewest (suc h)
unfolding fewest
fewest_next zero = omega arith
fewest_next (suc h) = omega arith

fewest_above : (k h : ℕ) → fewest h ≤ fewest (k + h)
fewest_above zero h = rw zero-add (omega arith)
fewest_above (suc k) h = rw suc-add (omega (arith, fewest_above k h, fewest_next (k + h)))

-- a record over two parts, even or not
fewest_twice : (h : ℕ) → fewest (suc h) ≤ suc (fewest h + fewest h)
unfolding fewest
fewest_twice zero = omega arith
fewest_twice (suc h) = omega (arith, fewest_next h)

fewest_parts : (b : Bal) (m n : ℕ) → m + tilt right b ≡ n + tilt left b → fewest (suc (max m n)) ≤ suc (fewest m + fewest n)
unfolding fewest tilt
fewest_parts b m n e = go (view left b) e
  where
    go : {b : Bal} → View left b → m + tilt right b ≡ n + tilt left b → fewest (suc (max m n)) ≤ suc (fewest m + fewest n)
    go neither e = let i : m ≡ n = omega arith in let j : max m n ≡ n = omega arith in rw (j, i) (fewest_twice n)
    go this e = let i : m ≡ suc n = omega arith in let j : max m n ≡ suc n = omega arith in rw (j, i) (omega arith)
    go other e = let i : n ≡ suc m = omega arith in let j : max m n ≡ suc m = omega arith in rw (j, i) (omega arith)

-- A balanced tree holds at least the fewest records of its height.
pub fewest_size : (t : Tree) → Balanced t → fewest (height t) ≤ size t
unfolding fewest height size
fewest_size leaf none = omega arith
fewest_size (node l s b r) (both i j e) = omega (arith, fewest_parts b (height l) (height r) e, fewest_size l i, fewest_size r j)

-- That is 986 records for 14 levels.
pub fewest_14 : fewest 14 ≡ 986
unfolding fewest
fewest_14 = refl

-- It is 1,596 records for 15 levels, more than the 1,024 slots.
pub fewest_15 : fewest 15 ≡ 1596
unfolding fewest
fewest_15 = refl

-- A balanced tree of at most 1,024 records has at most 14 levels.
pub levels_14 : (t : Tree) → Balanced t → size t ≤ 1024 → height t ≤ 14
levels_14 t i n = go (dec_le (height t) 14)
  where
    go : Dec (height t ≤ 14) → height t ≤ 14
    go (yes h) = h
    go (no h) =
        let e : (height t - 15) + 15 ≡ height t = omega arith in
        absurd (omega (arith, rw e at (fewest_above (height t - 15) 15), fewest_15, fewest_size t i))

-- the thinnest balanced tree of that height
unfoldable pub sparse : ℕ → Tree
sparse zero = leaf
sparse (suc zero) = single 1
sparse (suc (suc h)) = node (sparse (suc h)) 1 (heavy left) (sparse h)

-- The thinnest tree of a height is balanced, has that height, and holds the fewest records: so 986 records can have 14 levels.
pub sparse_fewest : (h : ℕ) → Balanced (sparse h) × (height (sparse h) ≡ h) × (size (sparse h) ≡ fewest h)
unfolding sparse fewest height size tilt
sparse_fewest zero = (none, refl, refl)
sparse_fewest (suc zero) = (both none none refl, refl, refl)
sparse_fewest (suc (suc h)) =
    let i = sparse_fewest (suc h) in
    let j = sparse_fewest h in
    (both {b = heavy left} i.0 j.0 (omega arith), omega arith, omega arith)

length_pick : (d : Dir) (x y : List ℕ) → length (pick d x y) + length (pick d y x) ≡ length x + length y
length_pick left x y = refl
length_pick right x y = omega arith

-- The list of a tree, from either side, is as long as the tree is large.
pub size_list : (d : Dir) (t : Tree) → length (list d t) ≡ size t
unfolding list size
size_list d leaf = refl
size_list d (node l s b r) = simp length-append (omega (arith, length_pick d (list d l) (list d r), size_list d l, size_list d r))
