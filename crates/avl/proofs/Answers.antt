-- A tree answers as the sorted list of its slots: what a search finds, what an insertion and a removal leave. Over any strict order on slots.
-- This is what the layers above cite. Assumes nothing.
use Rattle.std.proofs.Common.{◌≡◌, ℕ, ◌≤◌, List, ◌∷◌, ◌++◌, sym, ap, ◌∙◌, subst, append_assoc, arith}
use Prim.Native.Nat.{Ordering}
use Rattle.avl.specs.Tree.{Dir, left, right, Bal, Tree, leaf, node, branch, top, list, size, Balanced}
use Rattle.avl.specs.Way.{Way, root, plug, before, after}
use Rattle.avl.specs.Edit.{beside, insert_here}
use Rattle.avl.specs.Search.{Spot, entry, get, compared, added, add, taking, remove_by_key}
use Rattle.avl.specs.Order.{All, Sorted, Order, Exact, Compares, into, out, sought}
use Rattle.avl.proofs.Balance.{insert_balanced, remove_balanced}
use Rattle.avl.proofs.Height.{levels_14}
use Rattle.avl.proofs.Lists.{insert_list}
use Rattle.avl.proofs.Removal.{remove_list}
use Rattle.avl.proofs.Search.{Met, met, Ends, seek_plug, entry_ends, entry_list, compared_levels}
use Rattle.avl.proofs.Sorting.{all_map, sorted_below, sorted_above, Says, into_at, into_met, out_at, out_none, sought_at, sought_none, sorted_into, sorted_out}
use Rattle.avl.proofs.Walks.{beside_plug}

-- where a search in a sorted list ends: at an empty place between what lies short and what lies beyond, or at the one record that is sought
pub data Outcome (cmp : ℕ → Ordering) (l : List ℕ) : Spot → Type 0 where
  vacant : {p : Way} → l ≡ before left p ++ after left p → Says cmp Ordering.gt (before left p) → Says cmp Ordering.lt (after left p)
      → Outcome cmp l (record { part = leaf; way = p })
  occupied : {a : Tree} {s : ℕ} {b : Bal} {z : Tree} {p : Way} → l ≡ (before left p ++ list left a) ++ (s ∷ (list left z ++ after left p))
      → Says cmp Ordering.gt (before left p ++ list left a) → cmp s ≡ Ordering.eq → Says cmp Ordering.lt (list left z ++ after left p)
      → Outcome cmp l (record { part = node a s b z; way = p })

module _ (o : Order) (cmp : ℕ → Ordering) (exact : Exact o cmp) (t : Tree) (sorted : Sorted o.less (list left t)) where
  pub entry_outcome : Outcome cmp (list left t) (entry cmp t)
  unfolding list
  entry_outcome = go (entry cmp t).part (entry cmp t).way (entry_list cmp t) (entry_ends o cmp exact.follows t sorted)
    where
      around : (u : Tree) (q : Way) (a : Tree) (s : ℕ) (z : Tree) → Sorted o.less ((before left q ++ list left a) ++ (s ∷ (list left z ++ after left q)))
          → cmp s ≡ Ordering.eq → All (λ y. cmp y ≡ Ordering.gt) (before left q ++ list left a) × All (λ y. cmp y ≡ Ordering.lt) (list left z ++ after left q)
      around u q a s z h e = (
        all_map (λ y r. exact.once right s y r e) (sorted_below (before left q ++ list left a) s (list left z ++ after left q) h),
        all_map (λ y r. exact.once left s y r e) (sorted_above (before left q ++ list left a) s (list left z ++ after left q) h),
      )

      go : (u : Tree) (q : Way) → list left t ≡ before left q ++ (list left u ++ after left q) → Ends cmp (record { part = u; way = q })
          → Outcome cmp (list left t) (record { part = u; way = q })
      go leaf q e f = vacant e f.short f.beyond
      go (node a s b z) q e f =
          let w : list left t ≡ (before left q ++ list left a) ++ (s ∷ (list left z ++ after left q)) = e ∙ simp append_assoc in
          let m = is_met f.found in
          let r = around (node a s b z) q a s z (subst (Sorted o.less) w sorted) m in
          occupied w r.0 m r.1
        where
          is_met : Met cmp (node a s b z) → cmp s ≡ Ordering.eq
          is_met (met h) = h

  -- get finds the slot that the list has, and none if it has none
  pub get_sought : get cmp t ≡ sought cmp (list left t)
  unfolding get
  get_sought = go entry_outcome
    where
      go : {f : Spot} → Outcome cmp (list left t) f → top f.part ≡ sought cmp (list left t)
      go (vacant e g l) = sym (ap (sought cmp) e ∙ sought_none cmp _ _ g l)
      go (occupied e g m l) = sym (ap (sought cmp) e ∙ sought_at cmp _ _ _ g m)

  -- add puts the slot into the list
  pub add_into : (x : ℕ) → list left (add cmp x t) ≡ into cmp x (list left t)
  unfolding add
  add_into x = go entry_outcome
    where
      go : {f : Spot} → Outcome cmp (list left t) f → list left (added f.part f.way x t) ≡ into cmp x (list left t)
      go (vacant {p = p} e g l) = insert_list left p x ∙ sym (ap (into cmp x) e ∙ into_at cmp _ x _ g l)
      go (occupied e g m l) = e ∙ sym (ap (into cmp x) e ∙ into_met cmp _ x _ _ g m)

  -- remove_by_key takes what is sought out of the list
  pub remove_out : list left (remove_by_key cmp t) ≡ out cmp (list left t)
  unfolding remove_by_key
  remove_out = go entry_outcome
    where
      go : {f : Spot} → Outcome cmp (list left t) f → list left (taking f.part f.way t) ≡ out cmp (list left t)
      go (vacant e g l) = e ∙ sym (ap (out cmp) e ∙ out_none cmp _ _ g l)
      go (occupied {a = a} {b = b} {z = z} {p = p} e g m l) = remove_list left a b z p ∙ sym (ap (out cmp) e ∙ out_at cmp _ _ _ g m)

  -- both keep the list sorted
  pub add_sorted : (x : ℕ) → Compares o x cmp → Sorted o.less (list left (add cmp x t))
  add_sorted x c = subst (Sorted o.less) (sym (add_into x)) (sorted_into cmp o x c (list left t) sorted)

  pub remove_sorted : Sorted o.less (list left (remove_by_key cmp t))
  remove_sorted = subst (Sorted o.less) (sym remove_out) (sorted_out cmp (list left t) sorted)

-- ---- and stays balanced, whatever is compared

entry_plug : (cmp : ℕ → Ordering) (t : Tree) → plug (entry cmp t).way (entry cmp t).part ≡ t
unfolding entry plug
entry_plug cmp t = seek_plug cmp t root

pub add_balanced : (cmp : ℕ → Ordering) (x : ℕ) (t : Tree) → Balanced t → Balanced (add cmp x t)
unfolding add
add_balanced cmp x t h = go (entry cmp t).part (entry cmp t).way (subst Balanced (sym (entry_plug cmp t)) h)
  where
    go : (u : Tree) (q : Way) → Balanced (plug q u) → Balanced (added u q x t)
    go leaf q i = insert_balanced q x i
    go (node a s b z) q i = h

pub remove_by_key_balanced : (cmp : ℕ → Ordering) (t : Tree) → Balanced t → Balanced (remove_by_key cmp t)
unfolding remove_by_key
remove_by_key_balanced cmp t h = go (entry cmp t).part (entry cmp t).way (subst Balanced (sym (entry_plug cmp t)) h)
  where
    go : (u : Tree) (q : Way) → Balanced (plug q u) → Balanced (taking u q t)
    go leaf q i = h
    go (node a s b z) q i = remove_balanced a s b z q i

pub insert_here_balanced : (d : Dir) (a : Tree) (s : ℕ) (b : Bal) (z : Tree) (p : Way) (x : ℕ)
    → Balanced (plug p (branch d a s b z)) → Balanced (insert_here d a s b z p x)
unfolding insert_here
insert_here_balanced d a s b z p x h = insert_balanced (beside d a s b z p) x (subst Balanced (sym (beside_plug d a s b z p)) h)

-- a search in a balanced tree of at most 1,024 records compares at most 14 keys
pub compared_14 : (cmp : ℕ → Ordering) (t : Tree) → Balanced t → size t ≤ 1024 → compared cmp t ≤ 14
compared_14 cmp t h n = omega (arith, compared_levels cmp t, levels_14 t h n)
