-- The walk to a neighbour, the ends of the list, and the empty places beside a record. Assumes nothing.
use Rattle.std.proofs.Common.{◌≡◌, ℕ, List, [], ◌∷◌, ◌++◌, reverse, sym, refl, ap, ◌∙◌, subst, ap₂, append_assoc}
use Rattle.std.proofs.lemmas.List.{reverse-append}
use mathlib.Core.List.{reverse-cons}
use Rattle.avl.specs.Tree.{Dir, flip, pick, alike, Bal, Tree, leaf, node, branch, list}
use Rattle.avl.specs.Way.{Way, root, step, plug, above, side, before, after}
use Rattle.avl.specs.Edit.{edge, beside, insert_here}
use Rattle.avl.specs.Search.{upwards, walk_dir}
use Rattle.avl.specs.Order.{first}
use Rattle.avl.proofs.Lists.{list_plug, list_flip, after_flip, before_flip, insert_list}
use Rattle.avl.proofs.Removal.{bottom_first}
use Rattle.avl.proofs.Sides.{flip_flip, Sides, same, opposite, sides, alike_same, alike_opposite, alike_reverse, by_side, list_leaf, list_near, list_far, edge_branch}

-- ---- neighbours

-- from any place, the nearest record above in the direction d is the first of what lies there
pub upwards_first : (d : Dir) (p : Way) → upwards d p ≡ first (after (flip d) p)
unfolding upwards after
upwards_first d root = refl
upwards_first d (step e s b z p) = go (upwards_first d p) (sides d e)
  where
    go : {e : Dir} → upwards d p ≡ first (after (flip d) p) → Sides d e
        → alike d e (upwards d p) s ≡ first (alike (flip d) e ((s ∷ list (flip d) z) ++ after (flip d) p) (after (flip d) p))
    go h same = simp (alike_same, alike_reverse) h
    go h opposite = simp (alike_same, alike_opposite)

first_front : (a : List ℕ) (s : ℕ) (b c : List ℕ) → first ((a ++ (s ∷ b)) ++ c) ≡ first (a ++ (s ∷ b))
first_front [] s b c = refl
first_front (x ∷ a) s b c = refl

-- `walk_dir d` gives the record that follows in the direction d, 0 if there is none
pub walk_first : (d : Dir) (a : Tree) (p : Way) → walk_dir d a p ≡ first (list (flip d) a ++ after (flip d) p)
unfolding walk_dir list
walk_first d leaf p = upwards_first d p
walk_first d (node l s b r) p =
    let e = flip d in
    bottom_first e (node l s b r) ∙ sym (first_front (pick e (list e l) (list e r)) s (pick e (list e r) (list e l)) (after e p))

-- the list in the direction d around a record: the record is followed by what `walk_first` is the first of
pub walk_list : (d : Dir) (a : Tree) (s : ℕ) (b : Bal) (z : Tree) (p : Way)
    → list (flip d) (plug p (branch d a s b z)) ≡ (before (flip d) p ++ list (flip d) z) ++ (s ∷ (list (flip d) a ++ after (flip d) p))
walk_list d a s b z p = list_plug (flip d) p (branch d a s b z) ∙ simp (list_far, append_assoc)

-- ---- empty places

-- the record on which an empty place hangs is the nearest one on the other side of the place: the previous one if it hangs to the right
pub nearest : (p : Way) → above p ≡ first (after (side p) p)
unfolding after
nearest root = refl
nearest (step d s b z p) = simp alike_same

-- from side e nothing of the tree lies before its edge, and all of it after
pub edge_before : (e : Dir) (t : Tree) (p : Way) → before e (edge e t p) ≡ before e p
unfolding edge before
edge_before e = by_side e (λ t. (p : Way) → before e (edge e t p) ≡ before e p) (λ p. refl)
    (λ a s b z ih _ p. rw edge_branch (ih (step e s b z p) ∙ alike_same e _ _))

pub edge_after : (e : Dir) (t : Tree) (p : Way) → after e (edge e t p) ≡ list e t ++ after e p
unfolding edge after
edge_after e = by_side e (λ t. (p : Way) → after e (edge e t p) ≡ list e t ++ after e p) (λ p. simp list_leaf)
    (λ a s b z ih _ p. rw edge_branch (ih (step e s b z p) ∙ simp (alike_same, list_near, append_assoc)))

-- an edge is an empty place of the same tree
pub edge_plug : (e : Dir) (t : Tree) (p : Way) → plug (edge e t p) leaf ≡ plug p t
unfolding edge plug
edge_plug e = by_side e (λ t. (p : Way) → plug (edge e t p) leaf ≡ plug p t) (λ p. refl) (λ a s b z ih _ p. rw edge_branch (ih (step e s b z p)))

pub beside_plug : (d : Dir) (a : Tree) (s : ℕ) (b : Bal) (z : Tree) (p : Way) → plug (beside d a s b z p) leaf ≡ plug p (branch d a s b z)
unfolding beside plug
beside_plug d a s b z p = edge_plug (flip d) a (step d s b z p)

-- the place beside a record in the direction d: behind the record, and before whatever followed it
pub beside_before : (d : Dir) (a : Tree) (s : ℕ) (b : Bal) (z : Tree) (p : Way)
    → before (flip d) (beside d a s b z p) ≡ before (flip d) p ++ (list (flip d) z ++ (s ∷ []))
unfolding beside before
beside_before d a s b z p = edge_before (flip d) a (step d s b z p) ∙ alike_reverse d _ _

pub beside_after : (d : Dir) (a : Tree) (s : ℕ) (b : Bal) (z : Tree) (p : Way) → after (flip d) (beside d a s b z p) ≡ list (flip d) a ++ after (flip d) p
unfolding beside after
beside_after d a s b z p =
    edge_after (flip d) a (step d s b z p) ∙ ap (λ (l : List ℕ). list (flip d) a ++ l) (alike_reverse d _ _)

-- an insertion beside a record: in the direction d the new one comes right after it
pub insert_beside : (d : Dir) (a : Tree) (s : ℕ) (b : Bal) (z : Tree) (p : Way) (x : ℕ)
    → list (flip d) (insert_here d a s b z p x) ≡ (before (flip d) p ++ list (flip d) z) ++ (s ∷ (x ∷ (list (flip d) a ++ after (flip d) p)))
unfolding insert_here
insert_beside d a s b z p x =
    insert_list (flip d) (beside d a s b z p) x
    ∙ ap₂ (λ (u v : List ℕ). u ++ (x ∷ v)) (beside_before d a s b z p) (beside_after d a s b z p)
    ∙ simp append_assoc

-- and from the other side right before it
pub insert_beside' : (d : Dir) (a : Tree) (s : ℕ) (b : Bal) (z : Tree) (p : Way) (x : ℕ)
    → list d (insert_here d a s b z p x) ≡ (before d p ++ list d a) ++ (x ∷ (s ∷ (list d z ++ after d p)))
insert_beside' d a s b z p x =
    let f = flip d in
    subst (λ (e : Dir). list e (insert_here d a s b z p x) ≡ (before e p ++ list e a) ++ (x ∷ (s ∷ (list e z ++ after e p)))) (flip_flip d)
    (list_flip f (insert_here d a s b z p x)
    ∙ ap reverse (insert_beside d a s b z p x)
    ∙ simp (reverse-append, reverse-cons, append_assoc, before_flip f p, after_flip f p, list_flip f a, list_flip f z))
