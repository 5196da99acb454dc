-- An insertion beside a record, where what is sought lies strictly between the record and its neighbour, is the one that a search finds.
-- Over any strict order. Assumes nothing.
use Rattle.std.proofs.Common.{◌≡◌, ℕ, List, [], ◌∷◌, ◌++◌, sym, ap, ◌∙◌, subst, append_assoc}
use Prim.Native.Nat.{Ordering}
use Rattle.avl.specs.Tree.{Dir, left, right, flip, Bal, Tree, leaf, branch, list}
use Rattle.avl.specs.Way.{Way, plug, before, after}
use Rattle.avl.specs.Edit.{beside, insert_here}
use Rattle.avl.specs.Search.{Spot, toward, seek, entry, added, add}
use Rattle.avl.specs.Order.{nil, more, Sorted, rise, Order, From, Follows}
use Rattle.avl.proofs.Lists.{list_flip}
use Rattle.avl.proofs.Search.{seek_place}
use Rattle.avl.proofs.Sides.{flip_flip}
use Rattle.avl.proofs.Sorting.{all_append, all_map, sorted_back, sorted_tail, sorted_below, sorted_reverse, Says}
use Rattle.avl.proofs.Walks.{walk_list, beside_plug, beside_before, beside_after}

-- if what is sought lies on side d of every slot up to the record s, and on the other side of every slot behind it, the search for its place
-- ends beside s
entry_beside : (cmp : ℕ → Ordering) (d : Dir) (a : Tree) (s : ℕ) (b : Bal) (z : Tree) (p : Way)
    → Says cmp (toward d) (before (flip d) (beside d a s b z p)) → Says cmp (toward (flip d)) (after (flip d) (beside d a s b z p))
    → entry cmp (plug p (branch d a s b z)) ≡ record { part = leaf; way = beside d a s b z p }
unfolding seek
entry_beside cmp d a s b z p h k =
    let q = beside d a s b z p in
    let h₂ = subst (λ (e : Dir). Says cmp (toward e) (before (flip d) q)) (sym (flip_flip d)) h in
    ap (entry cmp) (sym (beside_plug d a s b z p)) ∙ seek_place cmp (flip d) q leaf h₂ k

-- ---- a sorted list, from either side

pub list_sorted : {R : ℕ → ℕ → Type 0} (e : Dir) (t : Tree) → Sorted R (list left t) → Sorted (From e R) (list e t)
list_sorted left t h = h
list_sorted {R = R} right t h = subst (Sorted (λ x y. R y x)) (sym (list_flip left t)) (sorted_reverse (list left t) h)

from_flip : (R : ℕ → ℕ → Type 0) (d : Dir) (x y : ℕ) → From (flip d) R y x → From d R x y
from_flip R left x y h = h
from_flip R right x y h = h

-- ---- strictly between a record and its neighbour

-- nothing follows, or what is sought comes before what follows next
pub data Next (cmp : ℕ → Ordering) (o : Ordering) : List ℕ → Type 0 where
  last : Next cmp o []
  next : {n : ℕ} {l : List ℕ} → cmp n ≡ o → Next cmp o (n ∷ l)

-- with the order, the first of what follows speaks for all of it
next_says : (o : Order) (cmp : ℕ → Ordering) → Follows o cmp → (e : Dir) (l : List ℕ) → Sorted (From e o.less) l → Next cmp (toward e) l → Says cmp (toward e) l
next_says o cmp f e [] h last = nil
next_says o cmp f e (n ∷ l) (rise p h) (next k) = more k (all_map (λ y r. f.on e n y r k) p)

-- the search ends at the empty place beside the record
pub between_entry : (o : Order) (cmp : ℕ → Ordering) → Follows o cmp → (d : Dir) (a : Tree) (s : ℕ) (b : Bal) (z : Tree) (p : Way)
    → Sorted o.less (list left (plug p (branch d a s b z))) → cmp s ≡ toward d → Next cmp (toward (flip d)) (list (flip d) a ++ after (flip d) p)
    → entry cmp (plug p (branch d a s b z)) ≡ record { part = leaf; way = beside d a s b z p }
between_entry o cmp f d a s b z p h here there =
    let e = flip d in
    let front = before e p ++ list e z in
    let rest = list e a ++ after e p in
    let sorted : Sorted (From e o.less) (front ++ (s ∷ rest)) =
    subst (Sorted (From e o.less)) (walk_list d a s b z p) (list_sorted e (plug p (branch d a s b z)) h) in
    let low : Says cmp (toward d) (front ++ (s ∷ [])) =
    all_append (all_map (λ y r. f.on d s y (from_flip o.less d s y r) here) (sorted_below front s rest sorted)) (more here nil) in
    let high : Says cmp (toward e) rest = next_says o cmp f e rest (sorted_tail (sorted_back front (s ∷ rest) sorted)) there in
    entry_beside cmp d a s b z p
    (subst (Says cmp (toward d)) (append_assoc (before e p) (list e z) (s ∷ []) ∙ sym (beside_before d a s b z p)) low)
    (subst (Says cmp (toward e)) (sym (beside_after d a s b z p)) high)

-- so both insertions give one tree
pub between : (o : Order) (cmp : ℕ → Ordering) → Follows o cmp → (d : Dir) (a : Tree) (s : ℕ) (b : Bal) (z : Tree) (p : Way) (x : ℕ)
    → Sorted o.less (list left (plug p (branch d a s b z))) → cmp s ≡ toward d → Next cmp (toward (flip d)) (list (flip d) a ++ after (flip d) p)
    → add cmp x (plug p (branch d a s b z)) ≡ insert_here d a s b z p x
unfolding add insert_here
between o cmp f d a s b z p x h here there =
    ap (λ (g : Spot). added g.part g.way x (plug p (branch d a s b z))) (between_entry o cmp f d a s b z p h here there)
