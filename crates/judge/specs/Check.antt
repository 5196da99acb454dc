-- A model: what the code computes. No door's promise cites it, and it need not be believed.
-- The check of a pool's trees in one pass over their links, on the record bytes. Assumes nothing.
use Rattle.std.specs.Prelude.{Bool, true, false, cond, ◌&&◌, ◌||◌, List, [], ◌∷◌, ℕ, zero, suc, ◌+◌, ◌*◌, ◌-◌, ◌/◌, ◌%◌, max, take, drop, eqb, leb, ltb, Option, Some, None}
use Rattle.fields.specs.Number.{get_le}
use Rattle.avl.specs.Tree.{left, right}
use Rattle.tree.specs.Node.{child, parent, balance, get_n, key_n}
use Rattle.meaning.specs.Pool.{root_of, count_of}

-- what a walk has found below a link: whether it is good, its height, and of the whole walk so far the number of records and the last key
pub record Walk : Type 0 where
  pub ok : Bool
  pub high : ℕ
  pub seen : ℕ
  pub last : ℕ

abbrev pub bad : Walk
bad = record { ok = false; high = 0; seen = 0; last = 0 }

abbrev pub good : ℕ → ℕ → ℕ → Walk
good h n k = record { ok = true; high = h; seen = n; last = k }

-- the tree that a record says it is in
unfoldable pub tree_n : List ℕ → ℕ → ℕ
tree_n m s = cond (eqb s 0) 0 (get_le 1 m (32 * (s - 1) + 15))

-- balance b says of heights l and r: 0 equal, 1 the right one higher by one, 2 the left one; no height above 14 is met
unfoldable pub evenly : ℕ → ℕ → ℕ → Bool
evenly b l r = leb l 14 && (leb r 14 && (eqb b 0 && eqb l r || (eqb b 1 && eqb (l + 1) r || eqb b 2 && eqb l (r + 1))))

-- the parts of a record of balance b, the left one l and the right one r, put together
unfoldable pub joined : ℕ → Walk → Walk → Walk
joined b l r = cond (r.ok && evenly b l.high r.high) (good (max l.high r.high + 1) r.seen r.last) bad

module _ (m : List ℕ) (N t : ℕ) where
  -- the link to x from u, after `seen` records of this tree, the last of which has the key `last`; down to so many levels
  unfoldable pub link_n : ℕ → ℕ → ℕ → ℕ → ℕ → Walk
  link_n zero u x seen last = cond (eqb x 0) (good 0 seen last) bad
  link_n (suc level) u x seen last =
      let l = link_n level x (get_n m x (child left)) seen last in
      let r = link_n level x (get_n m x (child right)) (l.seen + 1) (key_n m x) in
      let rest = joined (get_n m x balance) l r in
      let next = cond (l.ok && (ltb l.seen N && (eqb l.seen 0 || ltb l.last (key_n m x)))) rest bad in
      let fits = leb x N && (eqb (tree_n m x) t && eqb (get_n m x parent) u) in
      cond (eqb x 0) (good 0 seen last) (cond fits next bad)

-- ---- the same from the bounds of a part's keys, in one number: 0 for a bad part, else its height plus 256 times one more than its records

-- the parts of a record of balance b, the left one l and the right one r, put together: each counts one more than it has, so their sum counts one
-- more than the record and both parts
unfoldable pub weighed : ℕ → ℕ → ℕ → ℕ
weighed b l r = cond (ltb 0 l && (ltb 0 r && evenly b (l % 256) (r % 256))) (256 * (l / 256 + r / 256) + (max (l % 256) (r % 256) + 1)) 0

module _ (m : List ℕ) (N t : ℕ) where
  -- the link to x from u, below which all keys are from lo on and below hi; down to so many levels
  unfoldable pub bound_n : ℕ → ℕ → ℕ → ℕ → ℕ → ℕ
  bound_n zero u x lo hi = cond (eqb x 0) 256 0
  bound_n (suc level) u x lo hi =
      let l = bound_n level x (get_n m x (child left)) lo (key_n m x) in
      let r = bound_n level x (get_n m x (child right)) (key_n m x + 1) hi in
      let parts = weighed (get_n m x balance) l r in
      let fits = leb x N && (eqb (tree_n m x) t && eqb (get_n m x parent) u) in
      cond (eqb x 0) 256 (cond (fits && (leb lo (key_n m x) && ltb (key_n m x) hi)) parts 0)

  -- the parts of record x, whose keys are from lo on and below hi
  unfoldable pub parts_n : ℕ → ℕ → ℕ → ℕ → ℕ
  parts_n level x lo hi =
      weighed (get_n m x balance) (bound_n level x (get_n m x (child left)) lo (key_n m x)) (bound_n level x (get_n m x (child right)) (key_n m x + 1) hi)

-- ---- bounds as slots

-- the bytes of record x
unfoldable pub row_n : List ℕ → ℕ → List ℕ
row_n m x = take 32 (drop (32 * (x - 1)) m)

-- the first key after record s, the first key that is not before it; 0 stands for no record
unfoldable pub from : List ℕ → ℕ → ℕ
from m s = cond (eqb s 0) 0 (key_n m s + 1)

unfoldable pub below : List ℕ → ℕ → ℕ
below m s = cond (eqb s 0) 18_446_744_073_709_551_616 (key_n m s)

-- record a comes before record b, if there are both
unfoldable pub rises_n : List ℕ → ℕ → ℕ → Bool
rises_n m a b = cond (eqb a 0) true (cond (eqb b 0) true (ltb (key_n m a) (key_n m b)))

-- x is a record of tree t with the parent u, between the records lo and hi
unfoldable pub own_n : List ℕ → ℕ → ℕ → ℕ → ℕ → ℕ → ℕ → Bool
own_n m N t u x lo hi =
    cond (eqb x 0) false (leb x N && (eqb (tree_n m x) t && (eqb (get_n m x parent) u && (rises_n m lo x && rises_n m x hi))))

-- ---- heights handed down

-- of a part, by its number: one more than its records if it has the height h, else 0
unfoldable pub sized : ℕ → ℕ → ℕ
sized n h = cond (eqb (n % 256) h) (n / 256) 0

-- the link of record x on its higher side, the left one if neither is; the same of the record's bytes
unfoldable pub higher_n : List ℕ → ℕ → ℕ
higher_n m x = cond (eqb (get_n m x balance) 1) (get_n m x (child right)) (get_n m x (child left))

unfoldable pub higher_in : List ℕ → ℕ
higher_in r = cond (eqb (get_le 1 r 14) 1) (get_le 2 r 10) (get_le 2 r 8)

-- how many records are on the way from x down the higher sides, after h of them; None if it leaves the slots or does not end in so many turns
unfoldable pub height_n : List ℕ → ℕ → ℕ → ℕ → ℕ → Option ℕ
height_n m N zero h x = None
height_n m N (suc turns) h x =
    let next = height_n m N turns (h + 1) (higher_n m x) in
    cond (eqb x 0) (Some h) (cond (leb x N) next None)

-- the level at which that way ends, from so many levels on; 13 if it leaves the slots or does not end
unfoldable pub ground_n : List ℕ → ℕ → ℕ → ℕ → ℕ
ground_n m N zero x = cond (eqb x 0) 0 13
ground_n m N (suc level) x =
    let next = ground_n m N level (higher_n m x) in
    cond (eqb x 0) (suc level) (cond (leb x N) next 13)

-- ---- leaves where they hang

-- one of two numbers, as the link x leads to a record or to none
unfoldable pub pick_n : ℕ → ℕ → ℕ → ℕ
pick_n x some none = cond (eqb x 0) none some

-- links, parent, balance and tree of a record as one number, and those of a leaf of tree t below u
abbrev pub word_n : List ℕ → ℕ → ℕ
word_n m x = get_le 8 (row_n m x) 8

abbrev pub leaf_n : ℕ → ℕ → ℕ
leaf_n t u = t * 72_057_594_037_927_936 + u * 4_294_967_296

-- the word of record x is this one, and it lies between the records lo and hi
unfoldable pub fits_n : List ℕ → ℕ → ℕ → ℕ → ℕ → Bool
fits_n m x word lo hi = eqb (word_n m x) word && (rises_n m lo x && rises_n m x hi)

-- ---- all trees

-- a number of records, or None for a bad part, as the models count: 0 for a bad part, else one more than its records
abbrev pub told : Option ℕ → ℕ
told None = 0
told (Some n) = n + 1

-- what a walk tells of a tree: 0 that it is bad, else one more than its records
unfoldable pub found : Walk → ℕ
found f = cond f.ok (f.seen + 1) 0

-- the trees of these entries, from tree t on: each walk is good and as long as the count says; together they have `live` records
unfoldable pub trees_n : List ℕ → ℕ → ℕ → ℕ → ℕ → List (List ℕ) → Bool
trees_n m N live t total [] = eqb total live
trees_n m N live t total (e ∷ es) =
    let f = link_n m N t 14 0 (root_of e) 0 0 in
    let rest = trees_n m N live (suc t) (total + f.seen) es in
    cond (f.ok && eqb f.seen (count_of e)) rest false
