-- The lines of a listing piece by piece and turn by turn. Assumes nothing.
use Rattle.std.proofs.Common.{◌≡◌, ℕ, suc, ◌+◌, ◌*◌, ◌-◌, ◌≤◌, ◌<◌, List, [], ◌∷◌, ◌++◌, length, sym, ap, ap₂, ◌∙◌, arith}
use Rattle.fields.specs.Part.{part}
use Rattle.avl.specs.Tree.{left, right}
use Rattle.tree.specs.Node.{parent, balance, get_n}
use Rattle.tree.specs.Walk.{bottom_n, walk_n}
use Rattle.tree.specs.declared.node.AvlTree.{AvlTree}
use Rattle.meaning.specs.Listing.{hex}
use Rattle.slots.specs.Record.{record_n}
use Rattle.slots.specs.Head.{tree_n}
use Rattle.slots.specs.declared.record.Record.{Record}
use Rattle.slots.specs.declared.head.Head.{Head}
use Rattle.lines.specs.Text.{fields}
use Rattle.lines.specs.Line.{first_n, line_of_n, line_n, lines_n, trees_n, tree_lines_n}
use Rattle.lines.specs.Writer.{HasRoom, Wrote}
use Rattle.lines.specs.declared.text.Writer.{Writer}
use Rattle.lines.proofs.Writing.{Writing, other_words, start, fits, step, end}

-- ---- the first line

-- Its word fits.
pub word_fits : (w : Writer) (h : Head) → HasRoom w (first_n h) → w.at + 5 ≤ length w.out.now
unfolding first_n
word_fits w h r = omega (arith, r)

-- ---- a record's line

-- A line is numbers, a name and a newline, in the words of what was read for it.
pub line_is : (m : List ℕ) (N t x : ℕ) {v : Record} → v ≡ record_n m x → {p b : ℕ} → p ≡ get_n m x parent → b ≡ get_n m x balance
    → line_n m N t x ≡ fields (t ∷ v.key ∷ x ∷ v.stamp ∷ p ∷ b ∷ []) ++ (hex (part m (32 * N + v.start) v.len) ++ (10 ∷ []))
unfolding line_of_n
line_is m N t x {v} ve pe be =
    ap (line_of_n m N t x) (sym ve)
    ∙ ap₂ (λ (y z : ℕ). fields (t ∷ v.key ∷ x ∷ v.stamp ∷ y ∷ z ∷ []) ++ (hex (part m (32 * N + v.start) v.len) ++ (10 ∷ []))) (sym pe) (sym be)

-- ---- a tree's lines

-- The lines of a tree are those from its first record on.
pub tree_lines_are : (m : List ℕ) (N t : ℕ) {u v : AvlTree} → v ≡ u → {x : ℕ} → x ≡ bottom_n 14 m v.root left → tree_lines_n m N t u ≡ lines_n v.count m N t x
unfolding tree_lines_n
tree_lines_are m N t {v = v} e f = ap (tree_lines_n m N t) (sym e) ∙ ap (lines_n v.count m N t) (sym f)

-- All of them are still to be written.
pub lines_start : (w : Writer) (n : ℕ) (m : List ℕ) (N t x : ℕ) → HasRoom w (lines_n n m N t x) → Writing w (lines_n n m N t x) w (lines_n (n - 0) m N t x)
lines_start w n m N t x h = let e : n ≡ n - 0 = omega arith in other_words _ (ap (λ (k : ℕ). lines_n k m N t x) e) (start w _ h)

lines_next : (n i : ℕ) (m : List ℕ) (N t x : ℕ) → i < n → lines_n (n - i) m N t x ≡ line_n m N t x ++ lines_n (n - (i + 1)) m N t (walk_n 14 m x right)
unfolding lines_n
lines_next n i m N t x h = let e : n - i ≡ suc (n - (i + 1)) = omega arith in ap (λ (k : ℕ). lines_n k m N t x) e

module _ {w₀ : Writer} {text : List ℕ} {w : Writer} (n i : ℕ) (m : List ℕ) (N t x : ℕ) (v : Writing w₀ text w (lines_n (n - i) m N t x)) where
  module _ (h : i < n) where
    next_line : Writing w₀ text w (line_n m N t x ++ lines_n (n - (i + 1)) m N t (walk_n 14 m x right))
    next_line = other_words _ (lines_next n i m N t x h) v

    -- The next line fits.
    pub line_fits : HasRoom w (line_n m N t x)
    line_fits = fits (line_n m N t x) (lines_n (n - (i + 1)) m N t (walk_n 14 m x right)) next_line

    -- It is written.
    pub line_turn : {w₁ : Writer} → Wrote w (line_n m N t x) w₁ → {y : ℕ} → y ≡ walk_n 14 m x right → Writing w₀ text w₁ (lines_n (n - (i + 1)) m N t y)
    line_turn f e =
        other_words _ (ap (lines_n (n - (i + 1)) m N t) (sym e)) (step (line_n m N t x) (lines_n (n - (i + 1)) m N t (walk_n 14 m x right)) next_line f)

  -- No line is left.
  pub lines_end : n ≤ i → Wrote w₀ text w
  unfolding lines_n
  lines_end h = let e : n - i ≡ 0 = omega arith in end (other_words [] (ap (λ (k : ℕ). lines_n k m N t x) e) v)

-- ---- the trees

module _ (m : List ℕ) (h : Head) (t : ℕ) where
  trees_next : t ≤ 8 → trees_n (9 - t) m h t ≡ tree_lines_n m h.numbers.slots t (tree_n h.table t) ++ trees_n (9 - (t + 1)) m h (t + 1)
  unfolding trees_n
  trees_next l = let e : 9 - t ≡ suc (9 - (t + 1)) = omega arith in ap (λ (j : ℕ). trees_n j m h t) e

  module _ {w₀ : Writer} {text : List ℕ} {w : Writer} (v : Writing w₀ text w (trees_n (9 - t) m h t)) where
    module _ (l : t ≤ 8) where
      next_tree : Writing w₀ text w (tree_lines_n m h.numbers.slots t (tree_n h.table t) ++ trees_n (9 - (t + 1)) m h (t + 1))
      next_tree = other_words _ (trees_next l) v

      -- The next tree fits.
      pub tree_fits : HasRoom w (tree_lines_n m h.numbers.slots t (tree_n h.table t))
      tree_fits = fits (tree_lines_n m h.numbers.slots t (tree_n h.table t)) (trees_n (9 - (t + 1)) m h (t + 1)) next_tree

      -- It is written.
      pub tree_turn : {w₁ : Writer} → Wrote w (tree_lines_n m h.numbers.slots t (tree_n h.table t)) w₁ → Writing w₀ text w₁ (trees_n (9 - (t + 1)) m h (t + 1))
      tree_turn f = step (tree_lines_n m h.numbers.slots t (tree_n h.table t)) (trees_n (9 - (t + 1)) m h (t + 1)) next_tree f

    -- No tree is left.
    pub trees_end : 8 < t → Wrote w₀ text w
    unfolding trees_n
    trees_end l = let e : 9 - t ≡ 0 = omega arith in end (other_words [] (ap (λ (j : ℕ). trees_n j m h t) e) v)

-- ---- what `tree` and `trees` rest on

pub ruleset line_turns = (tree_lines_are, lines_start, line_fits, line_turn, lines_end)

pub ruleset tree_turns = (tree_fits, trees_end)
