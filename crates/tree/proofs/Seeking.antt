-- The search over record bytes ends where the search in the tree that the records hold does, after as many comparisons. Assumes nothing.
use Rattle.std.proofs.Common.{◌≡◌, ℕ, zero, suc, ◌+◌, ◌≤◌, List, sym, refl, ap, ◌∙◌, arith, ne_eqb}
use Prim.Native.Nat.{compare, Ordering}
use Rattle.avl.specs.Tree.{Dir, left, right, Bal, Tree, leaf, node, branch, top, height}
use Rattle.avl.specs.Way.{Way, root, step, above, side}
use Rattle.avl.specs.Search.{Spot, three, seek, entry, compared}
use Rattle.avl.specs.Order.{by_key}
use Rattle.tree.specs.Node.{child, get_n, key_n}
use Rattle.tree.specs.Walk.{levels}
use Rattle.tree.specs.Search.{Ending, seek_n}
use Rattle.tree.specs.Held.{over, times, Roomy, Fits}
use Rattle.tree.proofs.Links.{key_over}
use Rattle.tree.proofs.Ways.{times_w, around, at, Placed, here, placed_near, key_around, at_up}
use Rattle.tree.proofs.Places.{top_near, above_alone}

-- where a search in the tree ends, as it is told of records
abbrev pub ending : Spot → ℕ → Ending
ending f c = record { slot = top f.part; above = above f.way; side = side f.way; compared = c }

key_at_lem : (p : Way) (t : Tree) (m : List ℕ) (x : ℕ) → key_n (at p t m) x ≡ key_n m x
unfolding at
key_at_lem p t m x = key_around p (top t) _ x ∙ key_over t (above p) m x

-- ---- one turn of the loop, over any records

seek_none : (k : ℕ) (n : List ℕ) (key q : ℕ) (e : Dir) (c : ℕ) → seek_n k n key 0 q e c ≡ record { slot = 0; above = q; side = e; compared = c }
unfolding seek_n
seek_none zero n key q e c = refl
seek_none (suc k) n key q e c = refl

seek_turn : (k : ℕ) (n : List ℕ) (key s q : ℕ) (e : Dir) (c : ℕ) {o : Ordering} {x y : ℕ} → (s ≡ 0 → ⊥) → by_key (key_n n) key s ≡ o
    → get_n n s (child left) ≡ x → get_n n s (child right) ≡ y
    → seek_n (suc k) n key s q e c
    ≡ three o (seek_n k n key x s left (suc c)) (record { slot = s; above = q; side = e; compared = suc c }) (seek_n k n key y s right (suc c))
unfolding seek_n
seek_turn k n key s q e c i j u v = simp (ne_eqb s 0 i, j, u, v) refl

-- on to either part, or no further
seek_told : (o : Ordering) (f g h : Spot) (n i j : ℕ) {x y : Ending} → x ≡ ending f (suc n + i) → y ≡ ending h (suc n + j)
    → three o x (ending g (suc n)) y ≡ ending (three o f g h) (n + suc (three o i 0 j))
seek_told Ordering.lt f g h n i j u v = u ∙ ap (ending f) (omega arith)
seek_told Ordering.eq f g h n i j u v = ap (ending g) (omega arith)
seek_told Ordering.gt f g h n i j u v = v ∙ ap (ending h) (omega arith)

-- ---- the search

-- from a record into its part on a side
seek_part : {N : ℕ} (k key : ℕ) (d : Dir) (a : Tree) (s : ℕ) (b : Bal) (z : Tree) (p : Way) (m : List ℕ) (n : ℕ) {x : Ending}
    → Placed N p (branch d a s b z) → seek_n k (at (step d s b z p) a m) key (top a) s d n ≡ x
    → seek_n k (at p (branch d a s b z) m) key (top a) s d n ≡ x
seek_part k key d a s b z p m n h e = ap (λ o. seek_n k o key (top a) s d n) (sym (at_up d s b z p a m h)) ∙ e

-- the search from the top of a place ends as the one in the tree there does
pub seek_at : {N : ℕ} (k : ℕ) (key : ℕ) (cmp : ℕ → Ordering) (p : Way) (t : Tree) (m : List ℕ) (n : ℕ) → Roomy N m → Placed N p t → height t ≤ k
    → ((s : ℕ) → 1 ≤ times s t → by_key (key_n m) key s ≡ cmp s)
    → seek_n k (at p t m) key (top t) (above p) (side p) n ≡ ending (seek cmp t p) (n + compared cmp t)
unfolding seek compared height times branch
seek_at k key cmp p leaf m n r h i f = seek_none k (at p leaf m) key (above p) (side p) n ∙ ap (ending (seek cmp leaf p)) (omega arith)
seek_at zero key cmp p (node l s b z) m n r h i f = absurd (omega arith)
seek_at (suc k) key cmp p (node l s b z) m n r h i f =
    let t = node l s b z in
    let q = placed_near left s b z p l h in
    let w = placed_near right s b l p z h in
    let e : by_key (key_n (at p t m)) key s ≡ cmp s = ap (compare key) (key_at_lem p t m s) ∙ f s (omega (arith, here s)) in
    seek_turn k (at p t m) key s (above p) (side p) n (above_alone left s b z p l q).0 e (top_near p left l s b z m r h)
    (top_near p right z s b l m r h)
    ∙ seek_told (cmp s) (seek cmp l (step left s b z p)) (record { part = t; way = p }) (seek cmp z (step right s b l p)) n (compared cmp l)
    (compared cmp z)
    (seek_part k key left l s b z p m (suc n) h (seek_at k key cmp (step left s b z p) l m (suc n) r q (omega arith) (λ x j. f x (omega arith))))
    (seek_part k key right z s b l p m (suc n) h (seek_at k key cmp (step right s b l p) z m (suc n) r w (omega arith) (λ x j. f x (omega arith))))

-- and so does the search of `entry`, from the root
pub entry_held : {N : ℕ} (key : ℕ) (cmp : ℕ → Ordering) (t : Tree) (m : List ℕ) → Roomy N m → Fits N t → height t ≤ levels
    → ((s : ℕ) → 1 ≤ times s t → by_key (key_n m) key s ≡ cmp s) → seek_n levels (over t 0 m) key (top t) 0 right 0 ≡ ending (entry cmp t) (compared cmp t)
unfolding at around entry times_w
entry_held {N} key cmp t m r h i f =
    let q : Placed N root t = record { once = λ x. omega (arith, h.once x) } in
    seek_at levels key cmp root t m 0 r q i f ∙ ap (ending (entry cmp t)) (omega arith)
