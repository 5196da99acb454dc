-- When a pool is sound: the clauses of docs/REFERENCE.md, in its order, each over the header, an entry, a record, a link or the text.
-- Assumes nothing.
use Rattle.std.specs.Prelude.{Bool, true, false, not, ◌&&◌, cond, List, [], ◌∷◌, map, ℕ, zero, suc, ◌+◌, ◌*◌, leb, ltb, eqb, length, drop}
use Rattle.std.specs.Bool.{beq}
use Rattle.fields.specs.Part.{zeros}
use Rattle.avl.specs.Tree.{left, right, Tree, leaf, node, list, height, tilt}
use Rattle.meaning.specs.Layout.{bit, within, all, every, count, at, span}
use Rattle.meaning.specs.Pool.{edition, n_slots, n_trees, n_live, at_entries, at_records, at_text, text_size, text_used, next_stamp, root_of, count_of, key_in, left_in, right_in, parent_in, balance_in, tree_in, stamp_in, start_in, len_in, entries, records, text_of, read_tree}

-- header and length agree; text used is at most X
unfoldable pub header_ok : List ℕ → Bool
header_ok b =
    let N = n_slots b in let T = n_trees b in let X = text_size b in
    all (eqb (edition b) 1 ∷ within 1 1024 N ∷ within 1 8 T ∷ eqb (at_entries b) 32 ∷ eqb (at_records b) (32 + 8 * T)
    ∷ eqb (at_text b) (32 + 8 * T + 32 * N) ∷ leb X 8192 ∷ leb (text_used b) X ∷ leb 1 (next_stamp b)
    ∷ eqb (length b) (32 + 8 * T + 32 * N + X) ∷ [])

-- a tree's root is 0 exactly if its count is 0; four zero bytes
unfoldable pub entry_ok : List ℕ → Bool
entry_ok e = all (beq (eqb (root_of e) 0) (eqb (count_of e) 0) ∷ zeros (drop 4 e) ∷ [])

-- a live record: balance 0 to 2, tree 1 to T, stamp at least 1 and below the next stamp, name length 1 to 255, a name that ends at or before
-- text used, six zero bytes
unfoldable pub live_ok : ℕ → ℕ → ℕ → List ℕ → Bool
live_ok T used next r =
    all (leb (balance_in r) 2 ∷ within 1 T (tree_in r) ∷ leb 1 (stamp_in r) ∷ ltb (stamp_in r) next ∷ within 1 255 (len_in r)
    ∷ leb (start_in r + len_in r) used ∷ zeros (drop 26 r) ∷ [])

-- a free record is 32 zero bytes
unfoldable pub record_ok : ℕ → ℕ → ℕ → List ℕ → Bool
record_ok T used next r = cond (eqb (tree_in r) 0) (zeros r) (live_ok T used next r)

-- every text byte from text used on is zero
unfoldable pub text_ok : List ℕ → Bool
text_ok b = zeros (drop (text_used b) (text_of b))

-- ---- the trees

module _ (rs : List (List ℕ)) (t : ℕ) where
  -- a link to x from the record u above it, 0 for a root: it is 0, or leads to a record of this tree whose parent is u and whose child links
  -- are so too, down to so many levels
  unfoldable pub linked : ℕ → ℕ → ℕ → Bool
  linked zero u x = eqb x 0
  linked (suc level) u x =
      let r = at [] rs x in
      let here = all (leb x (length rs) ∷ eqb (tree_in r) t ∷ eqb (parent_in r) u ∷ linked level x (left_in r) ∷ linked level x (right_in r) ∷ []) in
      cond (eqb x 0) true here

  -- the links reach every live record of the tree exactly once, and nothing else
  unfoldable pub reached : List ℕ → Bool
  reached w = every (λ x. eqb (count (eqb x) w) (bit (eqb (tree_in (at [] rs x)) t))) (span 1 (length rs))

-- keys rise strictly
unfoldable pub rising : List ℕ → Bool
rising [] = true
rising (k ∷ []) = true
rising (k ∷ j ∷ ks) = ltb k j && rising (j ∷ ks)

-- balance is 0 for equal heights, 1 if the right is one higher, 2 if the left is
unfoldable pub balanced : Tree → Bool
balanced leaf = true
balanced (node l s b r) = all (balanced l ∷ balanced r ∷ eqb (height l + tilt right b) (height r + tilt left b) ∷ [])

-- tree t, whose entry is e
unfoldable pub tree_ok : List (List ℕ) → ℕ → List ℕ → Bool
tree_ok rs t e =
    let tree = read_tree rs (length rs) (root_of e) in let w = list left tree in
    all (linked rs t (length rs) 0 (root_of e) ∷ reached rs t w ∷ rising (map (λ x. key_in (at [] rs x)) w) ∷ balanced tree
    ∷ eqb (count_of e) (length w) ∷ [])

unfoldable pub trees_ok : List (List ℕ) → ℕ → List (List ℕ) → Bool
trees_ok rs t [] = true
trees_ok rs t (e ∷ es) = tree_ok rs t e && trees_ok rs (suc t) es

-- ---- the whole

unfoldable pub sound : List ℕ → Bool
sound b =
    let rs = records b in
    let rest =
    all (every entry_ok (entries b) ∷ every (record_ok (n_trees b) (text_used b) (next_stamp b)) rs ∷ text_ok b ∷ trees_ok rs 1 (entries b)
    ∷ eqb (n_live b) (count (λ r. not (eqb (tree_in r) 0)) rs) ∷ []) in
    cond (header_ok b) rest false

-- to unfold this is to unfold all of this file: for claims that compute
unfoldable pub opened : Unit {0}
unfolding header_ok entry_ok live_ok record_ok text_ok linked reached rising balanced tree_ok trees_ok sound
opened = tt
