-- How long a listing is at most. A number has at most 20 digits, a name 255 bytes, and the trees of a well-formed pool together have at most as many
-- records as the pool has slots. Assumes nothing.
use Rattle.std.proofs.Common.{◌≡◌, ℕ, zero, suc, ◌+◌, ◌*◌, ◌/◌, ◌%◌, ◌<◌, ◌≤◌, Bool, true, false, cond, eqb, ltb, List, [], ◌∷◌, ◌++◌, map, length, drop, sym, refl, ap, subst, arith, length-append, drop_of_length-le, drop-cons, ltb-false, ltb-true, le-ltb, ne_eqb}
use Rattle.std.proofs.Math.Option.{Option, none, some}
use Rattle.fields.specs.Part.{part}
use Rattle.fields.proofs.Parts.{length_part}
use Rattle.avl.specs.Tree.{left, Tree, leaf, list}
use Rattle.avl.specs.Order.{All}
use Rattle.avl.proofs.Sorting.{all_append, all_map}
use Rattle.meaning.specs.Layout.{bit, count, concat, at}
use Rattle.meaning.specs.Pool.{Rec, Pool, rec_at, tree_at, lives_in, links_at, live_count}
use Rattle.meaning.specs.Listing.{decimal, hex, numbers, line_of, tree_lines, first_line}
use Rattle.meaning.specs.WellFormed.{WellFormed}
use Rattle.meaning.proofs.Facts.{test, bit_low, count_append}
use Rattle.meaning.proofs.Members.{Lives, tree_lives, once_short}

-- ---- numbers and names

decimal_short : (f n : ℕ) → length (decimal f n) ≤ f
unfolding decimal
decimal_short zero n = omega arith
decimal_short (suc f) n =
    let tail : List ℕ = (48 + n % 10) ∷ [] in
    go (ltb n 10) (decimal f (n / 10) ++ tail) (omega (arith, length-append (decimal f (n / 10)) tail, decimal_short f (n / 10)))
  where
    go : (c : Bool) (more : List ℕ) → length more ≤ suc f → length (cond c ((48 + n) ∷ []) more) ≤ suc f
    go true more h = omega arith
    go false more h = h

hex_length : (bs : List ℕ) → length (hex bs) ≡ 2 * length bs
unfolding hex
hex_length [] = refl
hex_length (b ∷ bs) = omega (arith, hex_length bs)

numbers_short : (ns : List ℕ) → length (numbers ns) ≤ 21 * length ns
unfolding numbers
numbers_short [] = omega arith
numbers_short (n ∷ []) = omega (arith, decimal_short 20 n)
numbers_short (n ∷ m ∷ ns) = omega (arith, length-append (decimal 20 n) (32 ∷ numbers (m ∷ ns)), decimal_short 20 n, numbers_short (m ∷ ns))

-- ---- lines

-- the first line: 5 numbers
first_short : (p : Pool) → length (first_line p) ≤ 111
unfolding first_line
first_short p =
    let ns : List ℕ = length p.slots ∷ length p.trees ∷ live_count p ∷ length p.text ∷ p.next ∷ [] in
    omega (arith, length-append (numbers ns) (10 ∷ []), numbers_short ns)

-- a line: 6 numbers and a name
line_long : (p : Pool) (t x : ℕ) (r : Rec) → length (line_of p t x (some r)) ≤ 128 + 2 * length (part p.text r.start r.len)
unfolding line_of
line_long p t x r =
    let k = links_at p t x in
    let ns : List ℕ = t ∷ r.key ∷ x ∷ r.stamp ∷ k.parent ∷ k.balance ∷ [] in
    let name = part p.text r.start r.len in
    omega (
      arith,
      length-append (numbers ns) ((32 ∷ hex name) ++ (10 ∷ [])),
      length-append (hex name) (10 ∷ []),
      numbers_short ns,
      hex_length name,
    )

module _ (p : Pool) (v : WellFormed p) where
  line_short : (t x : ℕ) → Lives p t x → length (line_of p t x (rec_at p x)) ≤ 638
  line_short t x h =
      let g = v.recs x h.rec h.is in
      subst (λ (o : Option Rec). length (line_of p t x o) ≤ 638) (sym h.is)
      (omega (arith, line_long p t x h.rec, length_part p.text h.rec.start h.rec.len g.name_fits, g.len_high))

  lines_short : (t : ℕ) (l : List ℕ) → All (Lives p t) l → length (concat (map (λ s. line_of p t s (rec_at p s)) l)) ≤ 638 * length l
  unfolding concat
  lines_short t [] a = omega arith
  lines_short t (x ∷ l) (All.more h a) =
      let rest = concat (map (λ s. line_of p t s (rec_at p s)) l) in
      omega (arith, length-append (line_of p t x (rec_at p x)) rest, line_short t x h, lines_short t l a)

-- ---- the trees

-- the records of several trees
unfoldable walks : List Tree → List ℕ
walks [] = []
walks (t ∷ ts) = list left t ++ walks ts

-- whether a record is in a tree behind the first i
abbrev behind : ℕ → Option Rec → ℕ
behind i none = 0
behind i (some r) = bit (ltb i r.tree)

behind_low : (i : ℕ) (o : Option Rec) → behind i o ≤ 1
behind_low i none = omega arith
behind_low i (some r) = bit_low (ltb i r.tree)

behind_step : (i : ℕ) (o : Option Rec) → bit (lives_in (suc i) o) + behind (suc i) o ≤ behind i o
unfolding lives_in
behind_step i none = omega arith
behind_step i (some r) =
    test (ltb i r.tree)
    (λ h. let later = ltb-true i r.tree h in
    test (ltb (suc i) r.tree)
    (λ k. let no = ne_eqb r.tree (suc i) (λ e. omega (arith, e, ltb-true (suc i) r.tree k)) in omega (arith, ap bit h, ap bit k, ap bit no))
    (λ k. omega (arith, ap bit h, ap bit k, bit_low (eqb r.tree (suc i)))))
    (λ h. let past = ltb-false i r.tree h in
    let no = ne_eqb r.tree (suc i) (λ e. omega (arith, e, past)) in
    omega (arith, ap bit h, ap bit no, ap bit (le-ltb (suc i) r.tree (omega (arith, past)))))

module _ (p : Pool) (v : WellFormed p) where
  -- the trees behind the first i: one more, and those behind it
  trees_on : (i : ℕ) → i < length p.trees → drop i p.trees ≡ tree_at p (suc i) ∷ drop (suc i) p.trees
  unfolding tree_at at
  trees_on i h = drop-cons p.trees i leaf h

  -- what holds of no trees, and of one more, holds of those behind the first i
  by_trees : (P : ℕ → List Tree → Type 0) → ((i : ℕ) → P i [])
      → ((i : ℕ) → i < length p.trees → P (suc i) (drop (suc i) p.trees) → P i (tree_at p (suc i) ∷ drop (suc i) p.trees))
      → (k i : ℕ) → i + k ≡ length p.trees → P i (drop i p.trees)
  by_trees P none_left more zero i e =
      let past : length p.trees ≤ i = omega arith in
      subst (P i) (sym (drop_of_length-le p.trees past)) (none_left i)
  by_trees P none_left more (suc k) i e =
      let h : i < length p.trees = omega arith in
      subst (P i) (sym (trees_on i h)) (more i h (by_trees P none_left more k (suc i) (omega arith)))

  -- the slots of all trees are the pool's
  walks_low : All (λ x. (1 ≤ x) × (x ≤ length p.slots)) (walks p.trees)
  unfolding walks
  walks_low =
      by_trees (λ i ts. All (λ x. (1 ≤ x) × (x ≤ length p.slots)) (walks ts)) (λ i. All.nil)
      (λ i h a. all_append (all_map (λ x l. (l.low, l.high)) (tree_lives p (suc i) (v.trees (suc i) (omega arith) (omega arith)))) a)
      (length p.trees) 0 (omega arith)

  -- each stands in at most one of them, and there once
  walks_once : (x : ℕ) → count (eqb x) (walks p.trees) ≤ 1
  unfolding walks count
  walks_once x =
      let o = rec_at p x in
      let all =
      by_trees (λ i ts. count (eqb x) (walks ts) ≤ behind i o) (λ i. omega arith)
      (λ i h a.
      let u = tree_at p (suc i) in
      let rest = walks (drop (suc i) p.trees) in
      let g = v.trees (suc i) (omega arith) (omega arith) in
      omega (arith, a, count_append (eqb x) (list left u) rest, g.once x, behind_step i o))
      (length p.trees) 0 (omega arith) in
      omega (arith, all, behind_low 0 o)

  -- so they are no more than the pool has
  walks_short : length (walks p.trees) ≤ length p.slots
  walks_short = once_short (length p.slots) (walks p.trees) walks_low walks_once

  trees_short : length (tree_lines p 1 p.trees) ≤ 638 * length (walks p.trees)
  unfolding tree_lines walks
  trees_short =
      by_trees (λ i ts. length (tree_lines p (suc i) ts) ≤ 638 * length (walks ts)) (λ i. omega arith)
      (λ i h a.
      let u = tree_at p (suc i) in
      let ts = drop (suc i) p.trees in
      let lines = concat (map (λ s. line_of p (suc i) s (rec_at p s)) (list left u)) in
      omega (
        arith,
        a,
        length-append lines (tree_lines p (suc (suc i)) ts),
        length-append (list left u) (walks ts),
        lines_short p v (suc i) (list left u) (tree_lives p (suc i) (v.trees (suc i) (omega arith) (omega arith))),
      ))
      (length p.trees) 0 (omega arith)

  -- The listing of a well-formed pool has at most 655,360 bytes.
  pub text_short : length (first_line p ++ tree_lines p 1 p.trees) ≤ 655_360
  text_short =
      omega (arith, length-append (first_line p) (tree_lines p 1 p.trees), first_short p, trees_short, walks_short, v.slots_high)
