-- What is read off the head and the body of a well-formed pool is the text that `meaning` says of the pool: its first line, a record's line, a
-- tree's lines and those of all trees. Assumes nothing.
use Rattle.std.proofs.Common.{◌≡◌, ℕ, zero, suc, ◌+◌, ◌*◌, ◌<◌, ◌≤◌, true, eqb, List, [], ◌∷◌, ◌++◌, map, length, get_or, drop, sym, refl, ap, ◌∙◌, subst, ap₂, append_assoc, append-nil, arith, drop_of_length-le, drop-cons, le-ltb, eq-eqb}
use Rattle.std.proofs.Math.Dec.{eqb-suc-zero}
use Rattle.std.proofs.Math.Decide.{dec_lt}
use Rattle.fields.specs.Part.{part}
use Rattle.avl.specs.Tree.{left, right, Tree, leaf, list}
use Rattle.avl.specs.Order.{All, first}
use Rattle.tree.specs.Node.{parent, balance, get_n}
use Rattle.tree.specs.Walk.{walk_n}
use Rattle.tree.specs.Held.{tree_of}
use Rattle.meaning.specs.Layout.{bit, count, concat, at, following}
use Rattle.meaning.specs.Pool.{Pool, rec_at, tree_at, lives_in, links_at}
use Rattle.meaning.specs.Cursor.{beyond}
use Rattle.meaning.specs.Listing.{decimal, hex, numbers, line_of, tree_lines, first_line}
use Rattle.meaning.specs.WellFormed.{WellFormed}
use Rattle.meaning.proofs.Facts.{count_append}
use Rattle.meaning.proofs.Members.{Lives, tree_lives, tree_once}
use Rattle.slots.specs.Record.{record_n}
use Rattle.slots.specs.Head.{no_tree, tree_n}
use Rattle.slots.specs.Image.{body_of, table_of, head_of, record_of, shown_of}
use Rattle.slots.proofs.Looking.{record_image, tree_image, end_image, walk_image}
use Rattle.slots.proofs.Standing.{following_at}
use Rattle.lines.specs.Text.{field, fields}
use Rattle.lines.specs.Line.{first_n, line_of_n, line_n, lines_n, tree_lines_n, trees_n}
use Rattle.lines.proofs.Images.{parent_image, balance_image, name_image}

-- ---- numbers

-- numbers with a space between them and one behind them
spaced : (n : ℕ) (ns rest : List ℕ) → numbers (n ∷ ns) ++ (32 ∷ rest) ≡ fields (n ∷ ns) ++ rest
unfolding numbers fields field
spaced n [] rest = simp (append_assoc, append-nil)
spaced n (m ∷ ns) rest =
    append_assoc (decimal 20 n) (32 ∷ numbers (m ∷ ns)) (32 ∷ rest)
    ∙ ap (λ (l : List ℕ). decimal 20 n ++ (32 ∷ l)) (spaced m ns rest)
    ∙ sym (ap (λ (l : List ℕ). l ++ rest) (append_assoc (decimal 20 n) (32 ∷ []) (fields (m ∷ ns))) ∙ append_assoc (decimal 20 n) (32 ∷ fields (m ∷ ns)) rest)

-- The first line.
pub first_printed : (p : Pool) → first_n (head_of p) ≡ first_line p
unfolding first_n head_of first_line numbers fields field
first_printed p = simp (append_assoc, append-nil)

-- ---- a record's line

module _ (p : Pool) (v : WellFormed p) (t : ℕ) where
  abbrev N : ℕ
  N = length p.slots

  -- the line of a live record
  line_printed : (x : ℕ) → Lives p t x → line_n (body_of p) N t x ≡ line_of p t x (rec_at p x)
  unfolding line_of_n line_of shown_of record_of
  line_printed x h =
      let r = h.rec in
      let m = body_of p in
      let is : record_n m x ≡ record_of r = record_image p v x h.high ∙ ap shown_of h.is in
      let up : get_n m x parent ≡ (links_at p t x).parent = parent_image p v x r h.is ∙ ap (λ (u : ℕ). (links_at p u x).parent) h.tree_is in
      let bal : get_n m x balance ≡ (links_at p t x).balance = balance_image p v x r h.is ∙ ap (λ (u : ℕ). (links_at p u x).balance) h.tree_is in
      ap (line_of_n m N t x) is
      ∙ ap₂ (λ (y z : ℕ). fields (t ∷ r.key ∷ x ∷ r.stamp ∷ y ∷ z ∷ []) ++ (hex (part m (32 * N + r.start) r.len) ++ (10 ∷ []))) up bal
      ∙ ap (λ (l : List ℕ). fields (t ∷ r.key ∷ x ∷ r.stamp ∷ (links_at p t x).parent ∷ (links_at p t x).balance ∷ []) ++ (hex l ++ (10 ∷ [])))
      (name_image p v x r h.is)
      ∙ sym (spaced t (r.key ∷ x ∷ r.stamp ∷ (links_at p t x).parent ∷ (links_at p t x).balance ∷ []) (hex (part p.text r.start r.len) ++ (10 ∷ [])))
      ∙ ap (line_of p t x) (sym h.is)

  -- ---- a tree's lines

  live_here : (x : ℕ) → Lives p t x → lives_in t (rec_at p x) ≡ true
  unfolding lives_in
  live_here x h = ap (lives_in t) h.is ∙ eq-eqb h.rec.tree t h.tree_is

  module _ (low : 1 ≤ t) (high : t ≤ length p.trees) where
    -- what stands behind a record in the tree's list is where the walk to the right ends
    walked : (front : List ℕ) (x : ℕ) (rest : List ℕ) → list left (tree_at p t) ≡ front ++ (x ∷ rest) → Lives p t x → walk_n 14 (body_of p) x right ≡ first rest
    unfolding beyond count
    walked front x rest e h =
        let once : count (eqb x) (front ++ (x ∷ rest)) ≤ 1 = subst (λ (l : List ℕ). count (eqb x) l ≤ 1) e (tree_once p t (v.trees t low high) x) in
        walk_image p v t low high right x (live_here x h)
        ∙ ap (following x) e
        ∙ following_at x front rest (omega (arith, once, count_append (eqb x) front (x ∷ rest), ap bit (eq-eqb x x refl)))

    lines_printed : (front l : List ℕ) → list left (tree_at p t) ≡ front ++ l → All (Lives p t) l
        → lines_n (length l) (body_of p) N t (first l) ≡ concat (map (λ s. line_of p t s (rec_at p s)) l)
    unfolding lines_n concat
    lines_printed front [] e a = refl
    lines_printed front (x ∷ l) e (All.more h a) =
        ap₂ (λ (y : List ℕ) (s : ℕ). y ++ lines_n (length l) (body_of p) N t s) (line_printed x h) (walked front x l e h)
        ∙ ap (λ (y : List ℕ). line_of p t x (rec_at p x) ++ y) (lines_printed (front ++ (x ∷ [])) l (e ∙ sym (append_assoc front (x ∷ []) l)) a)

    -- the lines of a tree
    tree_printed : tree_lines_n (body_of p) N t (tree_n (head_of p).table t) ≡ concat (map (λ s. line_of p t s (rec_at p s)) (list left (tree_at p t)))
    unfolding tree_lines_n tree_of
    tree_printed =
        let u = tree_at p t in
        ap (tree_lines_n (body_of p) N t) (tree_image p v t low high)
        ∙ ap (lines_n (length (list left u)) (body_of p) N t) (end_image p v t low high left)
        ∙ lines_printed [] (list left u) refl (tree_lives p t (v.trees t low high))

-- ---- all trees

-- beyond the trees of a pool the table has empty ones
table_none : (n : ℕ) (ts : List Tree) (k : ℕ) → length ts ≤ k → get_or (table_of n ts) k no_tree ≡ no_tree
unfolding table_of
table_none zero ts k h = refl
table_none (suc n) [] zero h = refl
table_none (suc n) [] (suc k) h = table_none n [] k (omega arith)
table_none (suc n) (t ∷ ts) zero h = absurd (omega arith)
table_none (suc n) (t ∷ ts) (suc k) h = table_none n ts k (omega arith)

module _ (p : Pool) (v : WellFormed p) where
  no_tree_lem : (i : ℕ) → i < 8 → length p.trees ≤ i → tree_n (head_of p).table (i + 1) ≡ no_tree
  unfolding tree_n head_of
  no_tree_lem i h past =
      let s : i + 1 ≡ suc i = omega arith in
      simp (s, eqb-suc-zero i, le-ltb 8 (suc i) (omega arith)) (ap (λ (k : ℕ). get_or (table_of 8 p.trees) k no_tree) (omega arith) ∙ table_none 8 p.trees i past)

  -- a tree of the pool, and those behind it
  here_printed : (i : ℕ) → i < length p.trees → {rest : List ℕ} → rest ≡ tree_lines p (suc (i + 1)) (drop (i + 1) p.trees)
      → tree_lines_n (body_of p) (head_of p).numbers.slots (i + 1) (tree_n (head_of p).table (i + 1)) ++ rest ≡ tree_lines p (suc i) (drop i p.trees)
  unfolding tree_lines head_of tree_at at
  here_printed i h later =
      let s : i + 1 ≡ suc i = omega arith in
      ap₂ ◌++◌ (ap (λ (t : ℕ). tree_lines_n (body_of p) (length p.slots) t (tree_n (head_of p).table t)) s ∙ tree_printed p v (suc i) (omega arith) (omega arith))
      (later ∙ ap (λ (t : ℕ). tree_lines p (suc t) (drop t p.trees)) s)
      ∙ ap (tree_lines p (suc i)) (sym (drop-cons p.trees i leaf h))

  -- no tree of the pool, and none behind it
  none_printed : (i : ℕ) → i < 8 → length p.trees ≤ i → {rest : List ℕ} → rest ≡ tree_lines p (suc (i + 1)) (drop (i + 1) p.trees)
      → tree_lines_n (body_of p) (head_of p).numbers.slots (i + 1) (tree_n (head_of p).table (i + 1)) ++ rest ≡ tree_lines p (suc i) (drop i p.trees)
  unfolding tree_lines tree_lines_n lines_n
  none_printed i h past later =
      let after : length p.trees ≤ i + 1 = omega arith in
      ap₂ ◌++◌ (ap (tree_lines_n (body_of p) (head_of p).numbers.slots (i + 1)) (no_tree_lem i h past))
      (later ∙ ap (tree_lines p (suc (i + 1))) (drop_of_length-le p.trees after))
      ∙ sym (ap (tree_lines p (suc i)) (drop_of_length-le p.trees past))

  trees_from : (k i : ℕ) → i + k ≡ 8 → trees_n k (body_of p) (head_of p) (i + 1) ≡ tree_lines p (suc i) (drop i p.trees)
  unfolding trees_n tree_lines
  trees_from zero i e =
      let past : length p.trees ≤ i = omega (arith, v.trees_high) in
      sym (ap (tree_lines p (suc i)) (drop_of_length-le p.trees past))
  trees_from (suc k) i e = go (dec_lt i (length p.trees)) (trees_from k (i + 1) (omega arith))
    where
      m : List ℕ
      m = body_of p

      go : Dec (i < length p.trees) → trees_n k m (head_of p) (i + 1 + 1) ≡ tree_lines p (suc (i + 1)) (drop (i + 1) p.trees)
          → tree_lines_n m (head_of p).numbers.slots (i + 1) (tree_n (head_of p).table (i + 1)) ++ trees_n k m (head_of p) (i + 1 + 1) ≡ tree_lines p (suc i) (drop i p.trees)
      go (yes h) later = here_printed i h later
      go (no h) later = none_printed i (omega arith) (omega arith) later

  -- The lines of all trees.
  pub trees_printed : trees_n 8 (body_of p) (head_of p) 1 ≡ tree_lines p 1 p.trees
  trees_printed = trees_from 8 0 refl
