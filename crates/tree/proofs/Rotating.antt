-- `rotate` on records that hold a tree leaves the records that hold the rotated tree. Assumes nothing.
use Rattle.std.proofs.Common.{◌≡◌, ℕ, Bool, true, false, cond, not, ◌||◌, eqb, List, sym, refl, ap, ◌∙◌}
use Rattle.avl.specs.Tree.{Dir, left, right, flip, to_balance, Bal, even, heavy, code, Tree, branch, top}
use Rattle.avl.specs.Way.{Way, step, above}
use Rattle.avl.specs.Rotate.{Climb, stop, on, tree, turn, rotate, child_bal, node_bal}
use Rattle.avl.proofs.Sides.{facing, top_branch, rotate_branch, double_branch, View, neither, this, other, view}
use Rattle.tree.specs.Node.{child, balance, get_n}
use Rattle.tree.specs.Rotate.{Rotated, xor, single_n, double_n, rotated_to, rotate_n}
use Rattle.tree.specs.Held.{Roomy}
use Rattle.tree.specs.declared.node.AvlTree.{AvlTree}
use Rattle.tree.proofs.Ways.{at, Placed, placed_near, at_up}
use Rattle.tree.proofs.Places.{top_near, top_far, top_bal, hung, pointed}
use Rattle.tree.proofs.Turning.{single_at, double_at}

-- a part that is two higher can be rotated: it is not empty, and where it leans inwards its inner part is not empty
pub data Turns (d : Dir) : Tree → Type 0 where
  over_level : (a : Tree) (c : ℕ) (w : Tree) → Turns d (branch d a c even w)
  over_outer : (a : Tree) (c : ℕ) (w : Tree) → Turns d (branch d a c (heavy d) w)
  over_inner : (a : Tree) (c : ℕ) (u : Tree) (g : ℕ) (b : Bal) (v : Tree) → Turns d (branch d a c (heavy (flip d)) (branch d u g b v))

-- whether a climb stops
abbrev pub stops : Climb → Bool
stops (stop t) = true
stops (on t) = false

-- ---- the balances that the Rust works out from numbers

same_side : (d : Dir) → (eqb (to_balance d) (to_balance (flip d)) ≡ false) × (eqb (to_balance d) (to_balance d) ≡ true) × (xor (to_balance d) (to_balance d) ≡ 0)
unfolding xor
same_side left = (refl, refl, refl)
same_side right = (refl, refl, refl)

level_side : (d : Dir) → (eqb 0 (to_balance (flip d)) ≡ false) × (eqb 0 (to_balance d) ≡ false) × (xor 0 (to_balance d) ≡ to_balance d)
unfolding xor
level_side left = (refl, refl, refl)
level_side right = (refl, refl, refl)

other_side : (d : Dir) → (eqb (to_balance (flip d)) (to_balance (flip d)) ≡ true) × (eqb (to_balance (flip d)) (to_balance d) ≡ false)
other_side left = (refl, refl)
other_side right = (refl, refl)

node_number : (d : Dir) {b : Bal} → View d b → cond (eqb (code b) (to_balance d)) (to_balance (flip d)) 0 ≡ code (node_bal d b)
node_number d neither = simp (level_side d).1 refl
node_number d this = simp ((same_side d).1, facing) refl
node_number d other = simp ((other_side d).1, facing) refl

child_number : (d : Dir) {b : Bal} → View d b → cond (eqb (code b) (to_balance (flip d))) (to_balance d) 0 ≡ code (child_bal d b)
child_number d neither = simp (level_side d).0 refl
child_number d this = simp ((same_side d).0, facing) refl
child_number d other = simp ((other_side d).0, facing) refl

-- ---- rotation

-- the record bytes and the answer that stand for a step's outcome
abbrev pub turned : Way → AvlTree → List ℕ → Climb → List ℕ × Rotated
turned p k m r = (at p (tree r) m, record { tree = pointed p k (top (tree r)); level = stops r || eqb (above p) 0 })

-- the two ways of the Rust's test
one_turn : (n : List ℕ) (k : AvlTree) (s : ℕ) (d : Dir) (q : ℕ) (e : Dir) (c b : ℕ) {o : List ℕ × AvlTree} → get_n n s (child d) ≡ c → get_n n c balance ≡ b
    → eqb b (to_balance (flip d)) ≡ false → single_n n k s d q e c b ≡ o → rotate_n n k s d q e ≡ rotated_to o (not (eqb b (to_balance d)) || eqb q 0)
unfolding rotate_n
one_turn n k s d q e c b x y f g = simp (x, y, f, g) refl

two_turns : (n : List ℕ) (k : AvlTree) (s : ℕ) (d : Dir) (q : ℕ) (e : Dir) (c b g : ℕ) {o : List ℕ × AvlTree} → get_n n s (child d) ≡ c → get_n n c balance ≡ b
    → eqb b (to_balance (flip d)) ≡ true → get_n n c (child (flip d)) ≡ g → double_n n k s d q e c g ≡ o → rotate_n n k s d q e ≡ rotated_to o (eqb q 0)
unfolding rotate_n
two_turns n k s d q e c b g x y f i j = simp (x, y, f, i, j) refl

module _ {N : ℕ} (p : Way) (d : Dir) (a : Tree) (c : ℕ) (b : Bal) (w : Tree) (s : ℕ) (bs : Bal) (z : Tree) (m : List ℕ) (r : Roomy N m)
    (h : Placed N p (branch d (branch d a c b w) s bs z)) where
  -- what is read of the child
  the_child : get_n (at p (branch d (branch d a c b w) s bs z) m) s (child d) ≡ c
  the_child = top_near p d (branch d a c b w) s bs z m r h ∙ top_branch d a c b w

  below : at p (branch d (branch d a c b w) s bs z) m ≡ at (step d s bs z p) (branch d a c b w) m
  below = sym (at_up d s bs z p (branch d a c b w) m h)

  its_balance : get_n (at p (branch d (branch d a c b w) s bs z) m) c balance ≡ code b
  its_balance = ap (λ n. get_n n c balance) below ∙ top_bal (step d s bs z p) d a c b w m r (placed_near d s bs z p (branch d a c b w) h)

  its_inner : get_n (at p (branch d (branch d a c b w) s bs z) m) c (child (flip d)) ≡ top w
  its_inner = ap (λ n. get_n n c (child (flip d))) below ∙ top_far (step d s bs z p) d a c b w m r (placed_near d s bs z p (branch d a c b w) h)

-- A rotation at a place leaves the rotated tree there, and says whether the climb stops.
pub rotate_at : {N : ℕ} (p : Way) (d : Dir) {t : Tree} (s : ℕ) (bs : Bal) (z : Tree) (m : List ℕ) (k : AvlTree) → Roomy N m → Turns d t
    → Placed N p (branch d t s bs z) → rotate_n (at p (branch d t s bs z) m) k s d (above p) (hung p) ≡ turned p k m (rotate d t s z)
unfolding rotated_to turn
rotate_at p d s bs z m k r (over_level a c w) h =
    let f = level_side d in
    let e = single_at p d a c even w s bs z m k r h (heavy d) (heavy (flip d)) f.2 (simp f.1 refl) in
    let o = one_turn _ k s d (above p) (hung p) c 0 (the_child p d a c even w s bs z m r h) (its_balance p d a c even w s bs z m r h) f.0 e in
    o ∙ simp (f.1, rotate_branch, top_branch) refl
rotate_at p d s bs z m k r (over_outer a c w) h =
    let f = same_side d in
    let b = heavy d in
    let e = single_at p d a c b w s bs z m k r h even even f.2 (simp f.1 refl) in
    let o = one_turn _ k s d (above p) (hung p) c (to_balance d) (the_child p d a c b w s bs z m r h) (its_balance p d a c b w s bs z m r h) f.0 e in
    o ∙ simp (f.1, rotate_branch, facing, top_branch) refl
rotate_at p d s bs z m k r (over_inner a c u g b v) h =
    let f = other_side d in
    let c₂ = heavy (flip d) in
    let w = branch d u g b v in
    let e = double_at p d a c c₂ u g b v s bs z m k r h (node_bal d b) (child_bal d b) (node_number d (view d b)) (child_number d (view d b)) in
    let i = its_inner p d a c c₂ w s bs z m r h ∙ top_branch d u g b v in
    let o = two_turns _ k s d (above p) (hung p) c (to_balance (flip d)) g (the_child p d a c c₂ w s bs z m r h) (its_balance p d a c c₂ w s bs z m r h) f.0 i e in
    o ∙ simp (rotate_branch, facing, double_branch, top_branch) refl
