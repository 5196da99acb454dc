-- What removal does to the list of slots: one slot less. Before it, the laws of the end of a tree on one side, where the neighbour stands that
-- takes a removed record's place. For every tree, balanced or not. Assumes nothing.
use Rattle.std.proofs.Common.{◌≡◌, ℕ, List, [], ◌∷◌, ◌++◌, reverse, sym, refl, ap, ◌∙◌, subst, ap₂, append_assoc, append-nil}
use Rattle.std.proofs.lemmas.List.{reverse-append}
use Rattle.avl.specs.Tree.{Dir, left, right, flip, pick, alike, Bal, Tree, leaf, node, branch, list}
use Rattle.avl.specs.Way.{Way, root, step, plug, before, after}
use Rattle.avl.specs.Rotate.{shrunk, climb}
use Rattle.avl.specs.Edit.{end, bottom_child, taken, replace, remove}
use Rattle.avl.specs.Order.{first}
use Rattle.avl.proofs.Lists.{list_plug, list_flip, after_flip, before_flip, shrunk_list, climb_list}
use Rattle.avl.proofs.Sides.{flip_flip, Sides, same, opposite, sides, alike_same, alike_reverse, node_branch, Parts, bare, parts, apart, by_side, list_leaf, list_near, end_branch}

-- ---- the end of a tree on one side

-- the end of a tree on one side, put back in its place
pub end_plug : (e : Dir) (a : Tree) (s : ℕ) (b : Bal) (z : Tree) (p : Way)
    → plug (end e a s b z p).way (branch e leaf (end e a s b z p).slot (end e a s b z p).bal (end e a s b z p).part) ≡ plug p (branch e a s b z)
unfolding plug end
end_plug e = by_side e (λ a. (s : ℕ) (b : Bal) (z : Tree) (p : Way) → Back a s b z p) none more
  where
    Back : Tree → ℕ → Bal → Tree → Way → Type 0
    Back a s b z p =
        plug (end e a s b z p).way (branch e leaf (end e a s b z p).slot (end e a s b z p).bal (end e a s b z p).part) ≡ plug p (branch e a s b z)

    none : (s : ℕ) (b : Bal) (z : Tree) (p : Way) → Back leaf s b z p
    none s b z p = refl

    more : (a : Tree) (k : ℕ) (c : Bal) (w : Tree) → ((s : ℕ) (b : Bal) (z : Tree) (p : Way) → Back a s b z p) → ((s : ℕ) (b : Bal) (z : Tree) (p : Way) → Back w s b z p)
        → (s : ℕ) (b : Bal) (z : Tree) (p : Way) → Back (branch e a k c w) s b z p
    more a k c w ih _ s b z p = rw end_branch (ih k c w (step e s b z p))

-- from side e the end of a tree comes first: then its other part, and what the way to it has
end_list : (e : Dir) (a : Tree) (s : ℕ) (b : Bal) (z : Tree) (p : Way)
    → list e (branch e a s b z) ++ after e p ≡ (end e a s b z p).slot ∷ (list e (end e a s b z p).part ++ after e (end e a s b z p).way)
unfolding end after
end_list e = by_side e Firsts none more
  where
    Firsts : Tree → Type 0
    Firsts a = (s : ℕ) (b : Bal) (z : Tree) (p : Way)
        → list e (branch e a s b z) ++ after e p ≡ (end e a s b z p).slot ∷ (list e (end e a s b z p).part ++ after e (end e a s b z p).way)

    none : Firsts leaf
    none s b z p = simp (list_near, list_leaf)

    more : (a : Tree) (k : ℕ) (c : Bal) (w : Tree) → Firsts a → Firsts w → Firsts (branch e a k c w)
    more a k c w ih _ s b z p = rw end_branch (sym (sym (ih k c w (step e s b z p)) ∙ simp (alike_same, list_near, append_assoc)))

-- and nothing of the tree lies before it
end_before : (e : Dir) (a : Tree) (s : ℕ) (b : Bal) (z : Tree) (p : Way) → before e (end e a s b z p).way ≡ before e p
unfolding end before
end_before e = by_side e Same none more
  where
    Same : Tree → Type 0
    Same a = (s : ℕ) (b : Bal) (z : Tree) (p : Way) → before e (end e a s b z p).way ≡ before e p

    none : Same leaf
    none s b z p = refl

    more : (a : Tree) (k : ℕ) (c : Bal) (w : Tree) → Same a → Same w → Same (branch e a k c w)
    more a k c w ih _ s b z p = rw end_branch (ih k c w (step e s b z p) ∙ alike_same e _ _)

-- the end's slot does not depend on where the tree stands
end_slot : (e : Dir) (a : Tree) (s : ℕ) (b : Bal) (z : Tree) (p q : Way) → (end e a s b z p).slot ≡ (end e a s b z q).slot
unfolding end
end_slot e = by_side e Same none more
  where
    Same : Tree → Type 0
    Same a = (s : ℕ) (b : Bal) (z : Tree) (p q : Way) → (end e a s b z p).slot ≡ (end e a s b z q).slot

    none : Same leaf
    none s b z p q = refl

    more : (a : Tree) (k : ℕ) (c : Bal) (w : Tree) → Same a → Same w → Same (branch e a k c w)
    more a k c w ih _ s b z p q = simp end_branch (ih k c w (step e s b z p) (step e s b z q))

-- bottom_child is the first of the list
pub bottom_branch : (e : Dir) (a : Tree) (s : ℕ) (b : Bal) (z : Tree) (p : Way) → bottom_child e (branch e a s b z) ≡ (end e a s b z p).slot
unfolding bottom_child branch
bottom_branch left a s b z p = end_slot left a s b z root p
bottom_branch right a s b z p = end_slot right a s b z root p

pub bottom_first : (e : Dir) (t : Tree) → bottom_child e t ≡ first (list e t)
unfolding bottom_child after
bottom_first e t = go (apart e t)
  where
    go : {t : Tree} → Parts e t → bottom_child e t ≡ first (list e t)
    go bare = simp list_leaf
    go (parts a s b z) = bottom_branch e a s b z root ∙ ap first (sym (end_list e a s b z root)) ∙ simp append-nil

-- ---- removal

-- a list around a place, from the other side
mirror : (f : Dir) (t : Tree) (p : Way) (l : List ℕ) → list f t ≡ before f p ++ (l ++ after f p)
    → list (flip f) t ≡ before (flip f) p ++ (reverse l ++ after (flip f) p)
mirror f t p l h = list_flip f t ∙ ap reverse h ∙ simp (reverse-append, append_assoc, before_flip f p, after_flip f p)

pub replace_branch : (d : Dir) (a : Tree) (s : ℕ) (c : Bal) (w : Tree) (b : Bal) (z : Tree) (p : Way)
    → let q = step d (end (flip d) a s c w root).slot b z p in
    replace d (branch (flip d) a s c w) b z p ≡ climb shrunk (end (flip d) a s c w q).way (end (flip d) a s c w q).part
unfolding replace branch bottom_child
replace_branch left a s c w b z p = refl
replace_branch right a s c w b z p = refl

replace_far : (d : Dir) (a : Tree) (s : ℕ) (c : Bal) (w : Tree) (b : Bal) (z : Tree) (p : Way)
    → list (flip d) (replace d (branch (flip d) a s c w) b z p)
    ≡ before (flip d) p ++ ((list (flip d) z ++ list (flip d) (branch (flip d) a s c w)) ++ after (flip d) p)
unfolding before after
replace_far d a s c w b z p =
    let f = flip d in
    let n = (end f a s c w root).slot in
    let q = step d n b z p in
    let e = end f a s c w q in
    let rest = list f e.part ++ after f e.way in
    let tail : n ∷ rest ≡ list f (branch f a s c w) ++ after f p =
    ap (λ (k : ℕ). k ∷ rest) (end_slot f a s c w root q)
    ∙ sym (end_list f a s c w q)
    ∙ ap (λ (l : List ℕ). list f (branch f a s c w) ++ l) (alike_reverse d _ _) in
    ap (list f) (replace_branch d a s c w b z p)
    ∙ climb_list shrunk shrunk_list f e.way e.part
    ∙ list_plug f e.way e.part
    ∙ ap (λ (l : List ℕ). l ++ (list f e.part ++ after f e.way)) (end_before f a s c w q ∙ alike_reverse d _ _)
    ∙ append_assoc (before f p) (list f z ++ (n ∷ [])) rest
    ∙ ap (λ (l : List ℕ). before f p ++ l) (append_assoc (list f z) (n ∷ []) rest)
    ∙ ap (λ (l : List ℕ). before f p ++ (list f z ++ l)) tail
    ∙ simp append_assoc

-- the same from side d
replace_near : (d : Dir) (t : Tree) (b : Bal) (z : Tree) (p : Way)
    → list (flip d) (replace d t b z p) ≡ before (flip d) p ++ ((list (flip d) z ++ list (flip d) t) ++ after (flip d) p)
    → list d (replace d t b z p) ≡ before d p ++ ((list d t ++ list d z) ++ after d p)
replace_near d t b z p h =
    subst (λ (e : Dir). list e (replace d t b z p) ≡ before e p ++ ((list e t ++ list e z) ++ after e p)) (flip_flip d)
    (mirror (flip d) (replace d t b z p) p (list (flip d) z ++ list (flip d) t) h
    ∙ ap (λ (l : List ℕ). before (flip (flip d)) p ++ (l ++ after (flip (flip d)) p))
    (reverse-append (list (flip d) z) (list (flip d) t) ∙ sym (ap₂ ◌++◌ (list_flip (flip d) t) (list_flip (flip d) z))))

-- the neighbour takes the removed record's place: both parts in a row
replace_list : (e d : Dir) (l : Tree) (s : ℕ) (c : Bal) (r : Tree) (b : Bal) (z : Tree) (p : Way)
    → let t = node l s c r in
    list e (replace d t b z p) ≡ before e p ++ (alike e d (list e t ++ list e z) (list e z ++ list e t) ++ after e p)
replace_list e d l s c r b z p = rw (node_branch (flip d) l s c r) (go (sides d e))
  where
    t : Tree
    t = branch (flip d) (pick (flip d) l r) s c (pick (flip d) r l)

    far_side : list (flip d) (replace d t b z p) ≡ before (flip d) p ++ ((list (flip d) z ++ list (flip d) t) ++ after (flip d) p)
    far_side = replace_far d (pick (flip d) l r) s c (pick (flip d) r l) b z p

    go : {e : Dir} → Sides d e → list e (replace d t b z p) ≡ before e p ++ (alike e d (list e t ++ list e z) (list e z ++ list e t) ++ after e p)
    go same = simp alike_same (replace_near d t b z p far_side)
    go opposite = simp alike_reverse far_side

both_sides : (e d : Dir) (l r : Tree)
    → alike e d (list e (pick d l r) ++ list e (pick d r l)) (list e (pick d r l) ++ list e (pick d l r)) ≡ list e (pick e l r) ++ list e (pick e r l)
both_sides left left l r = refl
both_sides left right l r = refl
both_sides right left l r = refl
both_sides right right l r = refl

one_part : (e : Dir) (t : Tree) → list e (pick e leaf t) ++ list e (pick e t leaf) ≡ list e t
one_part left t = simp list_leaf
one_part right t = simp (list_leaf, append-nil)

one_part' : (e : Dir) (t : Tree) → list e (pick e t leaf) ++ list e (pick e leaf t) ≡ list e t
one_part' left t = simp (list_leaf, append-nil)
one_part' right t = simp list_leaf

-- the list of a record at a place
pub node_list : (e : Dir) (l : Tree) (s : ℕ) (b : Bal) (r : Tree) (p : Way)
    → list e (plug p (node l s b r)) ≡ (before e p ++ list e (pick e l r)) ++ (s ∷ (list e (pick e r l) ++ after e p))
node_list e l s b r p = list_plug e p (node l s b r) ∙ simp (node_branch e l s b r, list_near, append_assoc)

-- and the list without it
pub remove_list : (e : Dir) (l : Tree) (b : Bal) (r : Tree) (p : Way)
    → list e (remove l b r p) ≡ (before e p ++ list e (pick e l r)) ++ (list e (pick e r l) ++ after e p)
unfolding remove
remove_list e leaf b r p =
    climb_list shrunk shrunk_list e p r ∙ list_plug e p r ∙ ap (λ (l : List ℕ). before e p ++ (l ++ after e p)) (sym (one_part e r)) ∙ simp append_assoc
remove_list e (node l s c k) b leaf p =
    let t = node l s c k in
    climb_list shrunk shrunk_list e p t ∙ list_plug e p t ∙ ap (λ (l : List ℕ). before e p ++ (l ++ after e p)) (sym (one_part' e t)) ∙ simp append_assoc
remove_list e (node l s c k) b (node l₂ s₂ c₂ k₂) p = go (taken b) ∙ simp append_assoc
  where
    t : Tree
    t = node l s c k

    u : Tree
    u = node l₂ s₂ c₂ k₂

    go : (d : Dir) → list e (replace d (pick d t u) b (pick d u t) p) ≡ before e p ++ ((list e (pick e t u) ++ list e (pick e u t)) ++ after e p)
    go left = replace_list e left l s c k b u p ∙ ap (λ (l : List ℕ). before e p ++ (l ++ after e p)) (both_sides e left t u)
    go right = replace_list e right l₂ s₂ c₂ k₂ b t p ∙ ap (λ (l : List ℕ). before e p ++ (l ++ after e p)) (both_sides e right t u)
