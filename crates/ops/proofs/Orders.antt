-- The tests of order on the body are those of `meaning`; and at an end of a tree nothing lies beyond. Assumes nothing.
use Rattle.std.proofs.Common.{◌≡◌, ℕ, zero, suc, ◌≤◌, Bool, true, cond, not, ◌&&◌, eqb, ltb, List, [], ◌∷◌, length, sym, refl, ap, ◌∙◌, ap₂, arith, eqb-true}
use Rattle.std.proofs.Math.Dec.{eqb-suc-zero}
use Rattle.std.proofs.lemmas.Bool.{eqb-false}
use Rattle.avl.specs.Tree.{Dir, left, right, flip, pick, Tree, leaf, node, list, size}
use Rattle.avl.specs.Order.{All, nil, more, Sorted, rise, From, first, LessKey}
use Rattle.avl.proofs.Height.{size_list}
use Rattle.avl.proofs.Sorting.{all_map}
use Rattle.meaning.specs.Layout.{following}
use Rattle.meaning.specs.Pool.{Pool, tree_at, key_at}
use Rattle.meaning.specs.Cursor.{Command, Cursor, nowhere, occupied, vacant, first_entry, last_entry, State, kind, cursor_tree, standing, beyond, next_of, next_of_cursor}
use Rattle.meaning.specs.Command.{key_beyond, past, not_between}
use Rattle.meaning.specs.WellFormed.{WellFormed}
use Rattle.meaning.specs.States.{CursorOk}
use Rattle.meaning.proofs.Facts.{test}
use Rattle.meaning.proofs.Members.{Lives}
use Rattle.meaning.proofs.Neighbours.{counted, all_following, following_after}
use Rattle.meaning.proofs.Cursors.{all_live, all_slots, tree_counts, tree_sorted, standing_lives, next_lives}
use Rattle.meaning.proofs.Adding.{AtEnd}
use Rattle.slots.specs.Image.{body_of}
use Rattle.slots.proofs.Looking.{key_image}
use Rattle.cursor.specs.Tests.{past_n, between_n}

-- ---- a key and a record

-- a key lies on a side of a record, or of none, if it does so in the pool
past_image : (p : Pool) → WellFormed p → (d : Dir) (x k : ℕ) → x ≤ length p.slots → past_n (body_of p) d x k ≡ past p d x k
unfolding past_n past key_beyond
past_image p good left zero k h = refl
past_image p good right zero k h = refl
past_image p good left (suc x) k h =
    ap₂ (λ (b : Bool) (y : ℕ). cond b true (ltb k y)) (eqb-suc-zero x) (key_image p good (suc x) h)
past_image p good right (suc x) k h =
    ap₂ (λ (b : Bool) (y : ℕ). cond b true (ltb y k)) (eqb-suc-zero x) (key_image p good (suc x) h)

-- a slot that lives, if it is not 0, is at most the number of slots
slot_high : {p : Pool} (t x : ℕ) → ((x ≡ 0 → ⊥) → Lives p t x) → x ≤ length p.slots
slot_high t x l = test (eqb x 0) (λ h. let z = eqb-true x 0 h in omega arith) (λ h. (l (eqb-false x 0 h)).high)

-- The test of order: strictly between the cursor's record and the one beside it.
pub order_image : (d : Dir) (s : State) (c : Command) → WellFormed s.pool → CursorOk s.pool s.cursor
    → (y : ℕ) → y ≡ next_of d s.pool s.cursor → not (between_n (body_of s.pool) d (standing s.cursor) y c.key) ≡ not_between d s c
unfolding between_n not_between next_of_cursor
order_image d s c good fits y i =
    let p = s.pool in
    let k = s.cursor in
    let x = standing k in
    ap₂ (λ (a b : Bool). not (a && b)) (past_image p good d x c.key (slot_high (cursor_tree k) x (standing_lives p good k fits)))
    (ap (λ (z : ℕ). past_n (body_of p) (flip d) z c.key) i
    ∙ past_image p good (flip d) (next_of d p k) c.key (slot_high (cursor_tree k) (next_of d p k) (next_lives d p good k fits)))

-- ---- the ends of a tree

-- no slot of a sorted list comes before its first
none_before_lem : (key : ℕ → ℕ) (d : Dir) (x : ℕ) (l : List ℕ) → Sorted (From d (LessKey key)) l → x ≡ first l
    → All (λ y. From (flip d) (LessKey key) x y → ⊥) l
none_before_lem key d x [] s i = nil
none_before_lem key d x (y ∷ l) (rise a s) i = more (λ h. apart d y (ap key i) h) (all_map (λ z h j. across d z (ap key i) h j) a)
  where
    apart : (e : Dir) (z : ℕ) → key x ≡ key z → From (flip e) (LessKey key) x z → ⊥
    apart left z i h = omega arith
    apart right z i h = omega arith

    across : (e : Dir) (z : ℕ) → key x ≡ key y → From e (LessKey key) y z → From (flip e) (LessKey key) x z → ⊥
    across left z i h j = omega arith
    across right z i h j = omega arith

-- a list of slots whose first is 0 is empty
no_slots : (l : List ℕ) → All (λ y. y ≡ 0 → ⊥) l → first l ≡ 0 → length l ≡ 0
no_slots [] a z = refl
no_slots (x ∷ l) (more n a) z = absurd (n z)

-- a tree of no records is a leaf
no_size : (t : Tree) → size t ≡ 0 → t ≡ leaf
unfolding size
no_size leaf z = refl
no_size (node l s b r) z = absurd (omega arith)

module _ (p : Pool) (good : WellFormed p) (t : ℕ) (low : 1 ≤ t) (high : t ≤ length p.trees) (d : Dir) where
  -- A tree with no record at an end is empty.
  pub end_empty : first (list d (tree_at p t)) ≡ 0 → tree_at p t ≡ leaf
  end_empty z =
      no_size (tree_at p t) (sym (size_list d (tree_at p t)) ∙ no_slots (list d (tree_at p t)) (all_slots p good t low high d) z)

  -- beyond the record at an end there is none
  end_last : (x : ℕ) → x ≡ first (list d (tree_at p t)) → Lives p t x → beyond d p t x ≡ 0
  unfolding beyond
  end_last x i l =
      let e = flip d in
      let there = list e (tree_at p t) in
      let y = following x there in
      test (eqb y 0) (λ h. eqb-true y 0 h)
      (λ h. let n = eqb-false y 0 h in
      let lives = all_following x there (all_live p good t low high e) n in
      absurd (counted y (list d (tree_at p t)) (none_before_lem (key_at p) d x (list d (tree_at p t)) (tree_sorted p good t low high d) i)
      (tree_counts p good t low high d y lives) (following_after x there (tree_sorted p good t low high e) (tree_counts p good t low high e x l) n)))

-- nor beyond slot 0 in an empty tree
empty_last : (d : Dir) (p : Pool) (t x : ℕ) → tree_at p t ≡ leaf → beyond d p t x ≡ 0
unfolding beyond following list
empty_last d p t x i = ap (λ (u : Tree). following x (list (flip d) u)) i

-- a cursor at an end is an entry there
end_next : (d : Dir) (p : Pool) (k : Cursor) → kind k ≡ pick d 3 4 → next_of d p k ≡ beyond d p (cursor_tree k) (standing k)
unfolding next_of cursor_tree standing kind
end_next left p nowhere h = absurd (omega arith)
end_next right p nowhere h = absurd (omega arith)
end_next d p (occupied t x) h = refl
end_next left p (vacant t x e k) h = absurd (omega arith)
end_next right p (vacant t x e k) h = absurd (omega arith)
end_next d p (first_entry t x) h = refl
end_next d p (last_entry t x) h = refl

-- Beyond a cursor at an end of its tree there is no record.
pub end_beside : (d : Dir) (p : Pool) → WellFormed p → (k : Cursor) → CursorOk p k → kind k ≡ pick d 3 4 → AtEnd d p k → next_of d p k ≡ 0
end_beside d p good k fits h a =
    let t = cursor_tree k in
    let x = standing k in
    end_next d p k h
    ∙ test (eqb x 0)
    (λ z. empty_last d p t x (end_empty p good t a.tree_low a.tree_high d (sym a.is_first ∙ eqb-true x 0 z)))
    (λ z. end_last p good t a.tree_low a.tree_high d x a.is_first (standing_lives p good k fits (eqb-false x 0 z)))
