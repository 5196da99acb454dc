-- Demand 2, the shapes: which of the Rust's edits gives the tree after each op that changes one. The edits are those of the crate avl (specs/Edit.antt),
-- which pairs each with its Rust function. Assumes nothing.
use Rattle.std.proofs.Common.{◌≡◌, ℕ, Bool, true, false, cond, List, [], ◌∷◌, ◌++◌, sym, refl, ap, ◌∙◌, subst, arith}
use Rattle.std.proofs.Math.Option.{Option}
use Prim.Native.Nat.{Ordering}
use Rattle.avl.specs.Tree.{Dir, left, right, flip, Bal, Tree, leaf, node, branch, list}
use Rattle.avl.specs.Way.{Way, step, plug, before, after}
use Rattle.avl.specs.Edit.{insert, insert_here, remove}
use Rattle.avl.specs.Search.{Spot, three, toward, seek, entry, added, add, taking, remove_by_key}
use Rattle.avl.specs.Order.{All, nil, more, Sorted, From, first, LessKey, by_key}
use Rattle.avl.proofs.Beside.{Next, last, next, between, list_sorted}
use Rattle.avl.proofs.Keys.{side_on, key_same, keys, key_exact}
use Rattle.avl.proofs.Removal.{node_list}
use Rattle.avl.proofs.Search.{seek_place}
use Rattle.avl.proofs.Sorting.{all_front, all_back, all_head, all_tail, all_map, sorted_below, sorted_above}
use Rattle.avl.proofs.Walks.{walk_list}
use Rattle.meaning.specs.Layout.{within, span, following}
use Rattle.meaning.specs.Pool.{Pool, tree_at, key_at}
use Rattle.meaning.specs.Change.{by_key_in, free_slot}
use Rattle.meaning.specs.Cursor.{Command, State, cursor_tree, standing, tree_of, beyond, next_of}
use Rattle.meaning.specs.Command.{meant, past, not_between, among, adding, refusal, perform}
use Rattle.meaning.specs.Meant.{new_entry, removing}
use Rattle.meaning.specs.States.{GoodState, Parsed}
use Rattle.meaning.specs.Demands.{beside_ops}
use Rattle.meaning.proofs.Adding.{order_ok}
use Rattle.meaning.proofs.Among.{among_all}
use Rattle.meaning.proofs.Cursors.{standing_next}
use Rattle.meaning.proofs.Demand2Changes.{adds}
use Rattle.meaning.proofs.Entries.{entry_key_lem, any_live, any_sorted}
use Rattle.meaning.proofs.Members.{Lives}
use Rattle.meaning.proofs.Neighbours.{all_from}
use Rattle.meaning.proofs.NewKeys.{past_says}
use Rattle.meaning.proofs.Removals.{removed_it}
use Rattle.meaning.proofs.Seen.{finds, removing_takes}
use Rattle.meaning.proofs.Sights.{following_at, before_others}
use Rattle.meaning.proofs.Tables.{passed, tree_is}

-- ---- adding

-- `add` and `insert_node`: every op that adds leaves the tree that `_insert` gives at the empty place where the search for the key ends.
pub inserted_shape : (origin : Option Pool) (s : State) (c : Command) → Parsed c → GoodState origin s → adding c.op ≡ true → refusal s c ≡ 0
    → (q : Way) → entry (by_key_in s.pool c.key) (tree_at s.pool (tree_of s c)) ≡ record { part = leaf; way = q }
    → tree_at (perform s c).state.pool (tree_of s c) ≡ insert q (free_slot s.pool)
unfolding new_entry add
inserted_shape origin s c parsed g h z q e =
    (adds origin s c parsed g h z).shape ∙ ap (λ (f : Spot). added f.part f.way (free_slot s.pool) (tree_at s.pool (tree_of s c))) e

-- they add, and use the cursor's tree
pub beside_ops_lem : (d : Dir) (n : ℕ) → among (beside_ops d) n ≡ true → (adding n ≡ true) × (within 1 11 n ≡ false)
unfolding among adding within span
beside_ops_lem left n h =
    among_all (λ n. (adding n ≡ true) × (within 1 11 n ≡ false)) (beside_ops left) n h (more (refl, refl) (more (refl, refl) (more (refl, refl) nil)))
beside_ops_lem right n h =
    among_all (λ n. (adding n ≡ true) × (within 1 11 n ≡ false)) (beside_ops right) n h (more (refl, refl) (more (refl, refl) (more (refl, refl) nil)))

module _ (s : State) (c : Command) where
  -- such an op that is not refused has passed the test of order on its side
  beside_order : (d : Dir) → among (beside_ops d) c.op ≡ true → refusal s c ≡ 0 → not_between d s c ≡ false
  beside_order left h z = (passed s c z).key_before h
  beside_order right h z = (passed s c z).key_behind h

  pub beside_tree : (d : Dir) → among (beside_ops d) c.op ≡ true → refusal s c ≡ 0 → tree_of s c ≡ cursor_tree s.cursor
  beside_tree d h z = tree_is (passed s c z) ∙ ap (λ (b : Bool). cond b c.tree (cursor_tree s.cursor)) (beside_ops_lem d c.op h).1

-- the key lies short of whatever follows next
is_next : (p : Pool) (e : Dir) (k : ℕ) (l : List ℕ) → All (λ y. y ≡ 0 → ⊥) l → past p e (first l) k ≡ true → Next (by_key_in p k) (toward e) l
is_next p e k [] a h = last
is_next p e k (y ∷ l) a h = next (past_says p e y k h (all_head a))

-- Insert before and after, `append` and `prepend`: the tree after ops 16 to 19, 24 and 25 is the one that `_insert_here` gives on that side of the record
-- that the cursor stands at, wherever that record stands in its tree.
pub beside_shape : (origin : Option Pool) (s : State) (c : Command) → Parsed c → GoodState origin s → (d : Dir) → among (beside_ops d) c.op ≡ true
    → refusal s c ≡ 0 → (a : Tree) (b : Bal) (z : Tree) (q : Way) → tree_at s.pool (tree_of s c) ≡ plug q (branch d a (standing s.cursor) b z)
    → tree_at (perform s c).state.pool (tree_of s c) ≡ insert_here d a (standing s.cursor) b z q (free_slot s.pool)
unfolding new_entry by_key_in keys beyond
beside_shape origin s c parsed g d h done a b z q i =
    let p = s.pool in
    let t = tree_of s c in
    let x = standing s.cursor in
    let k = c.key in
    let e = flip d in
    let u = plug q (branch d a x b z) in
    let pre = before e q ++ list e z in
    let rest = list e a ++ after e q in
    let shape : list e u ≡ pre ++ (x ∷ rest) = walk_list d a x b z q in
    let sorted : Sorted (LessKey (key_at p)) (list left u) = subst (λ (v : Tree). Sorted (LessKey (key_at p)) (list left v)) i (any_sorted p g.pool t) in
    let alive : All (Lives p t) (pre ++ (x ∷ rest)) =
    subst (All (Lives p t)) (ap (list e) i ∙ shape) (all_from e (tree_at p t) (any_live p g.pool t)) in
    let slots : All (λ y. y ≡ 0 → ⊥) (pre ++ (x ∷ rest)) = all_map (λ y l n. let m = l.low in omega arith) alive in
    let here = all_head (all_back pre (x ∷ rest) slots) in
    let order = order_ok d s c (beside_order s c d h done) in
    let sorted_there : Sorted (From e (LessKey (key_at p))) (pre ++ (x ∷ rest)) = subst (Sorted (From e (LessKey (key_at p)))) shape (list_sorted e u sorted) in
    let beside : next_of d p s.cursor ≡ first rest =
    standing_next d p s.cursor here
    ∙ ap (λ (v : ℕ). following x (list e (tree_at p v))) (sym (beside_tree s c d h done))
    ∙ ap (following x) (ap (list e) i ∙ shape)
    ∙ following_at x pre rest (before_others (key_at p) e pre x rest sorted_there) in
    (adds origin s c parsed g (beside_ops_lem d c.op h).0 done).shape
    ∙ ap (add (by_key_in p k) (free_slot p)) i
    ∙ between (keys (key_at p)) (by_key_in p k) (key_exact (key_at p) k).follows d a x b z q (free_slot p) sorted (past_says p d x k order.0 here)
    (is_next p e k rest (all_tail (all_back pre (x ∷ rest) slots)) (subst (λ (y : ℕ). past p e y k ≡ true) beside order.1))

-- ---- removing

-- the search for a record's own key ends at it
remove_at : (key : ℕ → ℕ) (l : Tree) (x : ℕ) (b : Bal) (r : Tree) (q : Way) → Sorted (LessKey key) (list left (plug q (node l x b r)))
    → remove_by_key (by_key key (key x)) (plug q (node l x b r)) ≡ remove l b r q
unfolding remove_by_key seek
remove_at key l x b r q s =
    let cmp = by_key key (key x) in
    let u = node l x b r in
    let low = before left q ++ list left l in
    let high = list left r ++ after left q in
    let sorted : Sorted (LessKey key) (low ++ (x ∷ high)) = subst (Sorted (LessKey key)) (node_list left l x b r q) s in
    let below = all_front (before left q) (list left l) (all_map (λ y h. side_on right (key x) (key y) h) (sorted_below low x high sorted)) in
    let above = all_back (list left r) (after left q) (all_map (λ y h. side_on left (key x) (key y) h) (sorted_above low x high sorted)) in
    let found : entry cmp (plug q u) ≡ record { part = u; way = q } =
    seek_place cmp left q u below above
    ∙ ap (λ (o : Ordering). three o (seek cmp l (step left x b r q)) (record { part = u; way = q }) (seek cmp r (step right x b l q))) (key_same (key x) (key x) refl) in
    ap (λ (f : Spot). taking f.part f.way (plug q u)) found

-- Ops 3, 4 and 21 to 23 leave the tree that `_remove` gives at the record that they remove, wherever that record stands in its tree.
pub removed_shape : (origin : Option Pool) (s : State) (c : Command) → GoodState origin s → removing c.op ≡ true → refusal s c ≡ 0
    → (l : Tree) (b : Bal) (r : Tree) (q : Way) → tree_at s.pool (tree_of s c) ≡ plug q (node l (meant s c) b r)
    → tree_at (perform s c).state.pool (tree_of s c) ≡ remove l b r q
unfolding by_key_in
removed_shape origin s c g h done l b r q i =
    let p = s.pool in
    let t = tree_of s c in
    let x = meant s c in
    let alive = (finds origin s c g h done).0 in
    (removed_it origin s c g t x alive refl (removing_takes c h) done).shape
    ∙ ap (λ (k : ℕ). remove_by_key (by_key (key_at p) k) (tree_at p t)) (entry_key_lem p x)
    ∙ ap (remove_by_key (by_key (key_at p) (key_at p x))) i
    ∙ remove_at (key_at p) l x b r q (subst (λ (v : Tree). Sorted (LessKey (key_at p)) (list left v)) i (any_sorted p g.pool t))
