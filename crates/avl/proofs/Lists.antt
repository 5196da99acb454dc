-- What rotation, the climbs and insertion do to the list of slots: nothing, nothing, one slot more at its place.
-- For every tree, balanced or not. Assumes nothing.
use Rattle.std.proofs.Common.{◌≡◌, ℕ, List, [], ◌∷◌, ◌++◌, reverse, sym, refl, ap, ◌∙◌, append_assoc, append-nil}
use Rattle.std.proofs.lemmas.List.{reverse-append, reverse-reverse}
use mathlib.Core.List.{reverse-cons}
use Rattle.avl.specs.Tree.{Dir, left, right, flip, alike, Bal, even, heavy, Lean, level, near, far, seen, Tree, leaf, branch, single, list}
use Rattle.avl.specs.Way.{Way, root, step, plug, before, after}
use Rattle.avl.specs.Rotate.{Climb, stop, on, tree, then, child_bal, node_bal, double, turn, rotate, grown, shrunk, climb}
use Rattle.avl.specs.Edit.{insert}
use Rattle.avl.proofs.Sides.{flip_flip, Sides, same, opposite, sides, alike_same, alike_opposite, alike_reverse, branch_flip, Parts, bare, parts, apart, by_side, list_leaf, list_branch, list_near, list_far, rotate_branch, double_branch}

-- ---- a tree by its parts

-- the list of a branch depends on its parts' lists and its slot alone
pub list_parts : (e d : Dir) (a a₂ : Tree) (s : ℕ) (b b₂ : Bal) (z z₂ : Tree) → list e a ≡ list e a₂ → list e z ≡ list e z₂
    → list e (branch d a s b z) ≡ list e (branch d a₂ s b₂ z₂)
list_parts e d a a₂ s b b₂ z z₂ p q = simp (list_branch, p, q)

-- the list of a whole tree: what lies before the place, what stands there, what lies after it
pub list_plug : (e : Dir) (p : Way) (t : Tree) → list e (plug p t) ≡ before e p ++ (list e t ++ after e p)
unfolding plug before after
list_plug e root t = simp append-nil
list_plug e (step d s b z p) t = list_plug e p (branch d t s b z) ∙ simp (list_branch e d t s b z) (go (sides e d))
  where
    go : {d : Dir} → Sides e d
        → before e p ++ (alike e d (list e t ++ (s ∷ list e z)) (list e z ++ (s ∷ list e t)) ++ after e p)
        ≡ alike e d (before e p) (before e p ++ (list e z ++ (s ∷ []))) ++ (list e t ++ alike e d ((s ∷ list e z) ++ after e p) (after e p))
    go same = simp (alike_same, append_assoc)
    go opposite = simp (alike_opposite, append_assoc)

-- two trees with one list, at one place
pub list_place : (e : Dir) (p : Way) (t u : Tree) → list e t ≡ list e u → list e (plug p t) ≡ list e (plug p u)
list_place e p t u h = list_plug e p t ∙ ap (λ (l : List ℕ). before e p ++ (l ++ after e p)) h ∙ sym (list_plug e p u)

-- the list from the other side is the list backwards
pub list_flip : (e : Dir) (t : Tree) → list (flip e) t ≡ reverse (list e t)
list_flip e =
    by_side e (λ t. list (flip e) t ≡ reverse (list e t)) (simp list_leaf)
    (λ a s b z p q. simp (list_far, list_near, reverse-append, reverse-cons, append_assoc, p, q))

pub after_flip : (e : Dir) (p : Way) → after (flip e) p ≡ reverse (before e p)
unfolding before after
after_flip e root = refl
after_flip e (step d s b z p) = go (after_flip e p) (sides e d)
  where
    go : {d : Dir} → after (flip e) p ≡ reverse (before e p) → Sides e d
        → alike (flip e) d ((s ∷ list (flip e) z) ++ after (flip e) p) (after (flip e) p) ≡ reverse (alike e d (before e p) (before e p ++ (list e z ++ (s ∷ []))))
    go h same = simp (alike_same, alike_reverse) h
    go h opposite = simp (alike_same, alike_opposite, reverse-append, append_assoc, list_flip e z, h)

pub before_flip : (e : Dir) (p : Way) → before (flip e) p ≡ reverse (after e p)
before_flip e p =
    let h : after e p ≡ reverse (before (flip e) p) = ap (λ (d : Dir). after d p) (sym (flip_flip e)) ∙ after_flip (flip e) p in
    sym (ap reverse h ∙ reverse-reverse (before (flip e) p))

-- ---- rotation and the climbs keep the list

-- the parts of the single and of the double rotation in a row, whatever the balances are
single_list : (e d : Dir) (a : Tree) (c : ℕ) (w : Tree) (s : ℕ) (z : Tree) (i j k l : Bal)
    → list e (branch d a c i (branch d w s j z)) ≡ list e (branch d (branch d a c k w) s l z)
single_list e d a c w s z i j k l = go (sides d e)
  where
    go : {e : Dir} → Sides d e → list e (branch d a c i (branch d w s j z)) ≡ list e (branch d (branch d a c k w) s l z)
    go same = simp (list_near, append_assoc)
    go opposite = simp (list_far, append_assoc)

double_list : (e d : Dir) (a : Tree) (c : ℕ) (w : Tree) (s : ℕ) (z : Tree) (k l : Bal)
    → list e (tree (double d a c w s z)) ≡ list e (branch d (branch d a c k w) s l z)
unfolding double
double_list e d a c w s z k l = go (apart d w)
  where
    go : {w : Tree} → Parts d w → list e (tree (double d a c w s z)) ≡ list e (branch d (branch d a c k w) s l z)
    go bare = list_parts e d _ _ s (heavy d) l z z (list_parts e d a a c (heavy (flip d)) k leaf leaf refl refl) refl
    go (parts u g b v) =
        ap (λ (x : Climb). list e (tree x)) (double_branch d a c u g b v s z)
        ∙ single_list e d (branch d a c (child_bal d b) u) g v s z even (node_bal d b) even l
        ∙ list_parts e d _ _ s l l z z (sym (single_list e d a c u g v k b (child_bal d b) even)) refl

turn_list : (e d : Dir) (m : Lean) (a : Tree) (c : ℕ) (w : Tree) (s : ℕ) (z : Tree) (k l : Bal)
    → list e (tree (turn m d a c w s z)) ≡ list e (branch d (branch d a c k w) s l z)
unfolding turn
turn_list e d level a c w s z k l = single_list e d a c w s z (heavy (flip d)) (heavy d) k l
turn_list e d near a c w s z k l = single_list e d a c w s z even even k l
turn_list e d far a c w s z k l = double_list e d a c w s z k l

pub rotate_list : (e d : Dir) (t : Tree) (s : ℕ) (z : Tree) (l : Bal) → list e (tree (rotate d t s z)) ≡ list e (branch d t s l z)
unfolding rotate
rotate_list e d t s z l = go (apart d t)
  where
    go : {t : Tree} → Parts d t → list e (tree (rotate d t s z)) ≡ list e (branch d t s l z)
    go bare = list_parts e d leaf leaf s (heavy d) l z z refl refl
    go (parts a c b w) = ap (λ (x : Climb). list e (tree x)) (rotate_branch d a c b w s z) ∙ turn_list e d (seen d b) a c w s z b l

-- a step of a climb that keeps the list
unfoldable pub Keeps : (Lean → Dir → ℕ → Tree → Tree → Climb) → Type 0
Keeps f = (e d : Dir) (m : Lean) (s : ℕ) (b : Bal) (z t : Tree) → list e (tree (f m d s z t)) ≡ list e (branch d t s b z)

pub grown_list : Keeps grown
unfolding Keeps grown
grown_list e d level s b z t = list_parts e d t t s (heavy d) b z z refl refl
grown_list e d near s b z t = rotate_list e d t s z b
grown_list e d far s b z t = list_parts e d t t s even b z z refl refl

pub shrunk_list : Keeps shrunk
unfolding Keeps shrunk
shrunk_list e d level s b z t = list_parts e d t t s (heavy (flip d)) b z z refl refl
shrunk_list e d near s b z t = list_parts e d t t s even b z z refl refl
shrunk_list e d far s b z t = rotate_list e (flip d) z s t b ∙ ap (list e) (sym (branch_flip d t s b z))

pub climb_list : (f : Lean → Dir → ℕ → Tree → Tree → Climb) → Keeps f → (e : Dir) (p : Way) (t : Tree) → list e (climb f p t) ≡ list e (plug p t)
unfolding Keeps climb plug
climb_list f k e root t = refl
climb_list f k e (step d s b z p) t = go (f (seen d b) d s z t) (k e d (seen d b) s b z t) (climb_list f k e p)
  where
    go : (c : Climb) → list e (tree c) ≡ list e (branch d t s b z) → ((u : Tree) → list e (climb f p u) ≡ list e (plug p u))
        → list e (then c (plug p) (climb f p)) ≡ list e (plug p (branch d t s b z))
    go (stop u) h ih = list_place e p u (branch d t s b z) h
    go (on u) h ih = ih u ∙ list_place e p u (branch d t s b z) h

-- ---- insertion

single_one : (e : Dir) (x : ℕ) → list e (single x) ≡ x ∷ []
unfolding list
single_one left x = refl
single_one right x = refl

-- the new slot stands at its place, and nothing else has changed
pub insert_list : (e : Dir) (p : Way) (x : ℕ) → list e (insert p x) ≡ before e p ++ (x ∷ after e p)
unfolding insert
insert_list e p x = climb_list grown grown_list e p (single x) ∙ list_plug e p (single x) ∙ simp (single_one e x)
