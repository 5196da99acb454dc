-- An insertion into records that hold a tree leaves the records that hold the tree with the new record. Assumes nothing.
use Rattle.std.proofs.Common.{◌≡◌, ℕ, ◌≤◌, List, sym, refl, ap, ◌∙◌, arith, ne_eqb}
use Rattle.avl.specs.Tree.{Dir, left, right, Bal, Tree, leaf, single, height, tilt, Balanced, none, both}
use Rattle.avl.specs.Way.{Way, root, step, plug, above, side, depth}
use Rattle.avl.specs.Rotate.{climb, grown}
use Rattle.avl.specs.Edit.{insert}
use Rattle.avl.proofs.Lists.{grown_list}
use Rattle.avl.proofs.Balance.{plug_open, sized, Higher, grown_steps}
use Rattle.tree.specs.Node.{child, parent, put_n, put_both}
use Rattle.tree.specs.Rotate.{rooted}
use Rattle.tree.specs.Insert.{grow_n, more_n, counted, link_n, insert_n}
use Rattle.tree.specs.Held.{write, over, times, Roomy, tree_of, held}
use Rattle.tree.specs.declared.node.AvlTree.{AvlTree}
use Rattle.tree.proofs.Links.{write_up}
use Rattle.tree.proofs.Ways.{times_w, around, at, Placed, room_low, here, around_past, at_plug}
use Rattle.tree.proofs.Places.{above_alone, child_at}
use Rattle.tree.proofs.Climbing.{pointed_plug, climb_at}
use Rattle.tree.proofs.Growing.{grow_turn}

-- a record whose links are all 0
pub record Blank (m : List ℕ) (x : ℕ) : Type 0 where
  pub clear : write m x left 0 0 0 0 ≡ m

-- the new record below u
bud : (m : List ℕ) (x u : ℕ) → Blank m x → put_n m x parent u ≡ over (single x) u m
unfolding over
bud m x u b = ap (λ n. put_n n x parent u) (sym b.clear) ∙ write_up m x left 0 0 0 0 u

-- a tree of one record is one higher than none
budding : (x : ℕ) → Higher (height leaf) (single x)
unfolding height tilt
budding x = record { more = sized (both none none refl) refl; leans = λ _. refl }

-- the turn of the code: the record hung below s, and the climb from there
link_below : (n : List ℕ) (o : AvlTree) (x s : ℕ) (d : Dir) (k : ℕ) {n₂ : List ℕ} → (s ≡ 0 → ⊥) → put_both n s d x ≡ n₂ → link_n k n o x s d ≡ grow_n k n₂ o s d
unfolding link_n
link_below n o x s d k h e = simp (ne_eqb s 0 h, e) refl

counted_held : (t : Tree) (n : ℕ) (m : List ℕ) → counted (held t n m) ≡ held t (more_n n) m
unfolding counted held tree_of
counted_held t n m = refl

-- _insert at an empty place below a record, without the count.
link_at : {N : ℕ} (k : ℕ) (d : Dir) (s : ℕ) (b : Bal) (z : Tree) (p : Way) (x n : ℕ) (m : List ℕ) → let q = step d s b z p in
    depth q ≤ k → Roomy N m → Placed N q (single x) → Balanced (plug q leaf) → Blank m x
    → link_n k (over (plug q leaf) 0 m) (tree_of (plug q leaf) n) x s d ≡ held (climb grown q (single x)) n m
unfolding put_both at over times
link_at {N} k d s b z p x n m fuel r h i c =
    let q = step d s b z p in
    let empty : Placed N q leaf = record { once = λ y. omega (arith, h.once y) } in
    let free : times_w x q ≡ 0 = omega (arith, h.once x, here x, room_low N x) in
    let child_in = ap (λ y. put_n (put_n y x parent s) s (child d) x) (sym (at_plug q leaf m empty))
    ∙ ap (λ y. put_n y s (child d) x) (around_past q 0 m x parent s free ∙ ap (around q 0) (bud m x s c))
    ∙ child_at d s b z p (single x) 0 x (over (single x) s m) h in
    link_below _ _ x s d k (above_alone d s b z p (single x) h).0 child_in
    ∙ ap (λ (o : AvlTree). grow_n k (at q (single x) m) o s d) (pointed_plug q leaf (single x) n)
    ∙ climb_at grow_turn grown_steps grown_list k q leaf (single x) n m fuel r h (plug_open q leaf i).1 (budding x)

-- _insert into an empty tree.
link_root : (k x n : ℕ) (e : Dir) (m : List ℕ) → Blank m x → link_n k (over (plug root leaf) 0 m) (tree_of (plug root leaf) n) x 0 e ≡ held (climb grown root (single x)) n m
unfolding link_n plug over climb held tree_of rooted
link_root k x n e m b = ap (λ (y : List ℕ). (y, record { root = x; count = n })) (sym b.clear)

-- _insert at an empty place: the links of the tree with the new record, and one record more.
pub insert_at : {N : ℕ} (k : ℕ) (p : Way) (x n : ℕ) (m : List ℕ) → depth p ≤ k → Roomy N m → Placed N p (single x) → Balanced (plug p leaf) → Blank m x
    → insert_n k (over (plug p leaf) 0 m) (tree_of (plug p leaf) n) x (above p) (side p) ≡ held (insert p x) (more_n n) m
unfolding insert_n insert
insert_at k root x n m fuel r h i b = ap counted (link_root k x n right m b) ∙ counted_held (climb grown root (single x)) n m
insert_at k (step d s b z p) x n m fuel r h i c =
    ap counted (link_at k d s b z p x n m fuel r h i c) ∙ counted_held (climb grown (step d s b z p) (single x)) n m
