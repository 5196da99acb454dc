-- A tree that fits a pool fits it after an insertion and after a removal. Assumes nothing.
use Rattle.std.proofs.Common.{◌≡◌, ℕ, ◌∷◌, ◌++◌, sym, ap, ◌∙◌, subst, arith}
use Prim.Native.Nat.{Ordering}
use Rattle.avl.specs.Tree.{Dir, left, Bal, Tree, leaf, node, branch, single, list}
use Rattle.avl.specs.Way.{Way, root, plug, before, after}
use Rattle.avl.specs.Rotate.{grown}
use Rattle.avl.specs.Edit.{insert, beside, insert_here, remove}
use Rattle.avl.specs.Search.{entry, added, add, taking, remove_by_key}
use Rattle.avl.proofs.Lists.{grown_list, climb_list}
use Rattle.avl.proofs.Removal.{node_list, remove_list}
use Rattle.avl.proofs.Search.{seek_plug}
use Rattle.avl.proofs.Walks.{beside_plug}
use Rattle.tree.specs.Held.{times, Fits}
use Rattle.tree.proofs.Climbing.{occurs, occurs_append, times_occurs, times_list}
use Rattle.tree.proofs.Neighbour.{times_plug}
use Rattle.tree.proofs.Trees.{New}

-- with a new record
pub fits_insert : {N : ℕ} (p : Way) (x : ℕ) → New N (plug p leaf) x → Fits N (insert p x)
unfolding insert times
fits_insert p x h =
    record {
      once = λ y. omega
          (arith, h.once y, times_list y (insert p x) (plug p (single x)) (climb_list grown grown_list left p (single x)), times_plug y p (single x), times_plug y p leaf);
    }

-- without a record
pub fits_remove : {N : ℕ} (l : Tree) (s : ℕ) (b : Bal) (r : Tree) (p : Way) → Fits N (plug p (node l s b r)) → Fits N (remove l b r p)
unfolding occurs
fits_remove l s b r p h =
    let a = before left p ++ list left l in
    let z = list left r ++ after left p in
    record {
      once = λ y. omega (
        arith,
        h.once y,
        times_occurs y (remove l b r p) ∙ ap (occurs y) (remove_list left l b r p),
        occurs_append y a z,
        times_occurs y (plug p (node l s b r)) ∙ ap (occurs y) (node_list left l s b r p),
        occurs_append y a (s ∷ z),
      );
    }

-- as an add leaves it, where the search found a place; and a removal by key, where it found the record
pub fits_add : {N : ℕ} (cmp : ℕ → Ordering) (t : Tree) (x : ℕ) → (entry cmp t).part ≡ leaf → New N t x → Fits N (add cmp x t)
unfolding add entry plug
fits_add {N} cmp t x vacant h =
    let p = (entry cmp t).way in
    let e : plug p leaf ≡ t = ap (plug p) (sym vacant) ∙ seek_plug cmp t root in
    subst (λ (y : Tree). Fits N (added y p x t)) (sym vacant) (fits_insert p x (subst (λ (y : Tree). New N y x) (sym e) h))

pub fits_remove_by_key : {N : ℕ} (cmp : ℕ → Ordering) (t : Tree) {l : Tree} {s : ℕ} {b : Bal} {r : Tree} → (entry cmp t).part ≡ node l s b r → Fits N t
    → Fits N (remove_by_key cmp t)
unfolding remove_by_key entry plug
fits_remove_by_key {N} cmp t {l} {s} {b} {r} found h =
    let p = (entry cmp t).way in
    let e : plug p (node l s b r) ≡ t = ap (plug p) (sym found) ∙ seek_plug cmp t root in
    subst (λ (y : Tree). Fits N (taking y p t)) (sym found) (fits_remove l s b r p (subst (Fits N) (sym e) h))

pub fits_insert_here : {N : ℕ} (d : Dir) (a : Tree) (s : ℕ) (b : Bal) (z : Tree) (p : Way) (x : ℕ) → New N (plug p (branch d a s b z)) x
    → Fits N (insert_here d a s b z p x)
unfolding insert_here
fits_insert_here {N} d a s b z p x h = fits_insert (beside d a s b z p) x (subst (λ (y : Tree). New N y x) (sym (beside_plug d a s b z p)) h)
