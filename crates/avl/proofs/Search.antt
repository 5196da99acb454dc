-- Search: where it ends, what it finds, how much it compares, and that the place where it ends is the only one. Assumes nothing.
use Rattle.std.proofs.Common.{◌≡◌, ℕ, suc, ◌+◌, ◌≤◌, max, [], ◌∷◌, ◌++◌, sym, refl, ap, ◌∙◌, arith}
use Prim.Native.Nat.{Ordering}
use Rattle.avl.specs.Tree.{Dir, left, right, flip, alike, Bal, Tree, leaf, node, branch, list, height}
use Rattle.avl.specs.Way.{Way, root, step, plug, depth, before, after}
use Rattle.avl.specs.Search.{Spot, three, toward, seek, entry, on_the_way, compared}
use Rattle.avl.specs.Order.{nil, more, Sorted, Order, Follows}
use Rattle.avl.proofs.Lists.{list_plug}
use Rattle.avl.proofs.Sides.{Sides, same, opposite, sides, alike_same, alike_opposite}
use Rattle.avl.proofs.Sorting.{all_front, all_back, all_head, all_append, sorted_front, sorted_back, sorted_tail, sorted_below, sorted_above, all_map, Says}

abbrev lt : Ordering
lt = Ordering.lt

abbrev eq : Ordering
eq = Ordering.eq

abbrev gt : Ordering
gt = Ordering.gt

-- what is found, put where the search ended, is the tree that was searched
pub seek_plug : (cmp : ℕ → Ordering) (t : Tree) (p : Way) → plug (seek cmp t p).way (seek cmp t p).part ≡ plug p t
unfolding seek plug branch
seek_plug cmp leaf p = refl
seek_plug cmp (node l s b r) p = go (cmp s) (seek_plug cmp l (step left s b r p)) (seek_plug cmp r (step right s b l p))
  where
    Back : Spot → Type 0
    Back f = plug f.way f.part ≡ plug p (node l s b r)

    go : (o : Ordering) → Back (seek cmp l (step left s b r p)) → Back (seek cmp r (step right s b l p))
        → Back (three o (seek cmp l (step left s b r p)) (record { part = node l s b r; way = p }) (seek cmp r (step right s b l p)))
    go Ordering.lt x y = x
    go Ordering.eq x y = refl
    go Ordering.gt x y = y

-- what is found is what was sought
pub data Met (cmp : ℕ → Ordering) : Tree → Type 0 where
  absent : Met cmp leaf
  met : {l : Tree} {s : ℕ} {b : Bal} {r : Tree} → cmp s ≡ Ordering.eq → Met cmp (node l s b r)

-- a search ends between the slots that lie short of what is sought and those that lie beyond it
pub record Ends (cmp : ℕ → Ordering) (f : Spot) : Type 0 where
  pub short : Says cmp Ordering.gt (before left f.way)
  pub beyond : Says cmp Ordering.lt (after left f.way)
  pub found : Met cmp f.part

pub seek_ends : (o : Order) (cmp : ℕ → Ordering) → Follows o cmp → (t : Tree) (p : Way) → Sorted o.less (list left t)
    → Says cmp Ordering.gt (before left p) → Says cmp Ordering.lt (after left p) → Ends cmp (seek cmp t p)
unfolding seek list before after
seek_ends o cmp f leaf p h g l = record { short = g; beyond = l; found = absent }
seek_ends o cmp f (node a s b z) p h g l =
    go (cmp s) refl (seek_ends o cmp f a (step left s b z p) (sorted_front (list left a) (s ∷ list left z) h))
    (seek_ends o cmp f z (step right s b a p) (sorted_tail (sorted_back (list left a) (s ∷ list left z) h)))
  where
    go : (q : Ordering) → cmp s ≡ q
        → (Says cmp Ordering.gt (before left p) → Says cmp Ordering.lt ((s ∷ list left z) ++ after left p) → Ends cmp (seek cmp a (step left s b z p)))
        → (Says cmp Ordering.gt (before left p ++ (list left a ++ (s ∷ []))) → Says cmp Ordering.lt (after left p) → Ends cmp (seek cmp z (step right s b a p)))
        → Ends cmp (three q (seek cmp a (step left s b z p)) (record { part = node a s b z; way = p }) (seek cmp z (step right s b a p)))
    go Ordering.lt e x y = x g (more e (all_append (all_map (λ w r. f.on left s w r e) (sorted_above (list left a) s (list left z) h)) l))
    go Ordering.eq e x y = record { short = g; beyond = l; found = met e }
    go Ordering.gt e x y = y (all_append g (all_append (all_map (λ w r. f.on right s w r e) (sorted_below (list left a) s (list left z) h)) (more e nil))) l

-- a search from the root
pub entry_ends : (o : Order) (cmp : ℕ → Ordering) → Follows o cmp → (t : Tree) → Sorted o.less (list left t) → Ends cmp (entry cmp t)
unfolding entry before after
entry_ends o cmp f t h = seek_ends o cmp f t root h nil nil

-- the whole list, around where a search ended
pub entry_list : (cmp : ℕ → Ordering) (t : Tree) → list left t ≡ before left (entry cmp t).way ++ (list left (entry cmp t).part ++ after left (entry cmp t).way)
unfolding entry plug
entry_list cmp t = ap (list left) (sym (seek_plug cmp t root)) ∙ list_plug left (seek cmp t root).way (seek cmp t root).part

-- ---- how much is compared

seek_compared : (cmp : ℕ → Ordering) (t : Tree) (p : Way) → on_the_way (seek cmp t p) ≡ depth p + compared cmp t
unfolding seek compared on_the_way depth
seek_compared cmp leaf p = refl
seek_compared cmp (node l s b r) p = go (cmp s) (seek_compared cmp l (step left s b r p)) (seek_compared cmp r (step right s b l p))
  where
    go : (o : Ordering) → on_the_way (seek cmp l (step left s b r p)) ≡ suc (depth p) + compared cmp l
        → on_the_way (seek cmp r (step right s b l p)) ≡ suc (depth p) + compared cmp r
        → on_the_way (three o (seek cmp l (step left s b r p)) (record { part = node l s b r; way = p }) (seek cmp r (step right s b l p)))
        ≡ depth p + suc (three o (compared cmp l) 0 (compared cmp r))
    go Ordering.lt x y = x ∙ omega arith
    go Ordering.eq x y = omega arith
    go Ordering.gt x y = y ∙ omega arith

-- the number of keys compared is the number of records on the way
pub compared_way : (cmp : ℕ → Ordering) (t : Tree) → compared cmp t ≡ on_the_way (entry cmp t)
unfolding entry depth
compared_way cmp t = sym (seek_compared cmp t root ∙ omega arith)

-- and at most the number of levels
pub compared_levels : (cmp : ℕ → Ordering) (t : Tree) → compared cmp t ≤ height t
unfolding compared height
compared_levels cmp leaf = omega arith
compared_levels cmp (node l s b r) = go (cmp s) (compared_levels cmp l) (compared_levels cmp r)
  where
    go : (o : Ordering) → compared cmp l ≤ height l → compared cmp r ≤ height r → suc (three o (compared cmp l) 0 (compared cmp r)) ≤ suc (max (height l) (height r))
    go Ordering.lt x y = omega arith
    go Ordering.eq x y = omega arith
    go Ordering.gt x y = omega arith

-- ---- the place is the only one

seek_step : (cmp : ℕ → Ordering) (d : Dir) (a : Tree) (s : ℕ) (b : Bal) (z : Tree) (p : Way) → cmp s ≡ toward d
    → seek cmp (branch d a s b z) p ≡ seek cmp a (step d s b z p)
unfolding seek branch
seek_step cmp left a s b z p h = rw h
seek_step cmp right a s b z p h = rw h

-- a place with the right slots on both of its sides is where the search ends; from either side
pub seek_place : (cmp : ℕ → Ordering) (e : Dir) (q : Way) (u : Tree) → Says cmp (toward (flip e)) (before e q) → Says cmp (toward e) (after e q)
    → entry cmp (plug q u) ≡ seek cmp u q
unfolding entry plug before after
seek_place cmp e root u h k = refl
seek_place cmp e (step d s b z q) u h k = go (sides e d) h k (seek_place cmp e q (branch d u s b z))
  where
    go : {d : Dir} → Sides e d → Says cmp (toward (flip e)) (alike e d (before e q) (before e q ++ (list e z ++ (s ∷ []))))
        → Says cmp (toward e) (alike e d ((s ∷ list e z) ++ after e q) (after e q))
        → (Says cmp (toward (flip e)) (before e q) → Says cmp (toward e) (after e q) → seek cmp (plug q (branch d u s b z)) root ≡ seek cmp (branch d u s b z) q)
        → seek cmp (plug q (branch d u s b z)) root ≡ seek cmp u (step d s b z q)
    go same h k ih =
        let k₂ : Says cmp (toward e) ((s ∷ list e z) ++ after e q) = simp alike_same at k in
        let h₂ : Says cmp (toward (flip e)) (before e q) = simp alike_same at h in
        ih h₂ (all_back (s ∷ list e z) (after e q) k₂) ∙ seek_step cmp e u s b z q (all_head k₂)
    go opposite h k ih =
        let k₂ : Says cmp (toward e) (after e q) = simp alike_opposite at k in
        let h₂ : Says cmp (toward (flip e)) (before e q ++ (list e z ++ (s ∷ []))) = simp alike_opposite at h in
        let g = all_back (list e z) (s ∷ []) (all_back (before e q) (list e z ++ (s ∷ [])) h₂) in
        ih (all_front (before e q) (list e z ++ (s ∷ [])) h₂) k₂ ∙ seek_step cmp (flip e) u s b z q (all_head g)
