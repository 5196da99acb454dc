-- A record with two children, on records that hold a tree: the slots that are stored to differ, and so the Rust's swap and the code's way leave the same
-- bytes and the same tree by value. Assumes nothing.
use Rattle.std.proofs.Common.{◌≡◌, ℕ, ◌+◌, ◌*◌, ◌≤◌, eqb, List, sym, refl, ap, ◌∙◌, subst, arith}
use Rattle.avl.specs.Tree.{Dir, flip, pick, Bal, code, Tree, leaf, node, branch, top, height}
use Rattle.avl.specs.Way.{Way, root, step, plug, above, depth}
use Rattle.avl.specs.Edit.{end, taken}
use Rattle.avl.proofs.Sides.{flip_flip, top_branch, node_branch, Parts, bare, parts, apart as by_parts}
use Rattle.avl.proofs.Removal.{end_plug, bottom_branch}
use Rattle.tree.specs.Node.{right_if, child, parent, put_n}
use Rattle.tree.specs.Walk.{bottom_n}
use Rattle.tree.specs.Remove.{remove2_n}
use Rattle.tree.specs.Held.{write, over, one, times, room, Roomy}
use Rattle.tree.specs.declared.node.AvlTree.{AvlTree}
use Rattle.tree.proofs.Links.{write_far, write_past, over_up, length_over}
use Rattle.tree.proofs.Ways.{times_w, around, at, Placed, room_low, room_in, here, apart, placed_near, around_past, length_around, at_up}
use Rattle.tree.proofs.Places.{top_full, top_high, at_top, top_near, top_far, top_up, top_bal, hung}
use Rattle.tree.proofs.Walking.{bottom_at}
use Rattle.tree.proofs.Neighbour.{onto, times_onto, all, placed_from, placed_gone, same, its_parent, its_side, its_part}
use Rattle.tree.proofs.Removal.{depth_plug, side_taken, picked}
use Rattle.swap.specs.Rust.{rust_remove2}
use Rattle.swap.proofs.Counting.{lessened}
use Rattle.swap.proofs.Stores.{Deeper}
use Rattle.swap.proofs.Turns.{Reads, deep_same, direct_same}

-- ---- slots that differ

-- the record above a place is none that the way has not
above_not : (p : Way) (x : ℕ) → 1 ≤ x → times_w x p ≡ 0 → above p ≡ x → ⊥
unfolding times_w
above_not root x low h e = omega (arith, e, low)
above_not (step d s b z p) x low h e = apart x s (omega (arith, h)) e

-- the top of a tree stands on every way into it, but for the empty one
top_way : (d : Dir) (s : ℕ) (b : Bal) (z : Tree) (p : Way) (t : Tree) → let q = step d s b z p in 1 ≤ times_w (top (plug q t)) q
unfolding times_w plug
top_way d s b z root t = rw (top_branch d t s b z) (omega (arith, here s))
top_way d s b z (step d₂ s₂ b₂ z₂ p) t = omega (arith, top_way d₂ s₂ b₂ z₂ p (branch d t s b z))

top_in : (t : Tree) → (top t ≡ 0 → ⊥) → 1 ≤ times (top t) t
unfolding times
top_in leaf h = absurd (h refl)
top_in (node l s b r) h = omega (arith, here s)

-- ---- the neighbour n, of balance c and with the one part w, on the way `sub` in the part of s on side d

module _ {N : ℕ} (k : ℕ) (d : Dir) (s : ℕ) (b : Bal) (z : Tree) (p : Way) (n : ℕ) (c : Bal) (w : Tree) (m : List ℕ) (roomy : Roomy N m)
    (side : right_if (eqb (code b) 1) ≡ d) where
  abbrev last : Tree
  last = branch (flip d) leaf n c w

  abbrev whole : Way → Tree
  whole sub = branch d (plug sub last) s b z

  abbrev from : Way → Way
  from sub = onto sub (step d s b z p)

  module _ (sub : Way) (h : Placed N p (whole sub)) where
    count : (x : ℕ) → one (eqb x n) + times x w + times_w x sub + one (eqb x s) + times x z + times_w x p ≤ room N x
    count x = all k sub d s b z p n c w 0 m roomy h x

    s_in : (1 ≤ s) × (s ≤ N)
    s_in = room_in N s (omega (arith, count s, here s))

    n_in : (1 ≤ n) × (n ≤ N)
    n_in = room_in N n (omega (arith, count n, here n))

    reads : bottom_n k (at p (whole sub) m) (top (plug sub last)) (flip d) ≡ n
        → Reads k (at p (whole sub) m) s (above p) d (code b) (top (plug sub last)) (top z) n (above (from sub)) (hung (from sub)) (top w)
    unfolding at
    reads found =
        let t = plug sub last in
        record {
          bal = top_bal p d t s b z m roomy h;
          side = side;
          near = top_near p d t s b z m roomy h;
          far = top_far p d t s b z m roomy h;
          up = top_up p d t s b z m roomy h;
          found = found;
          n_up = its_parent k sub d s b z p n c w 0 m roomy h;
          n_side = its_side k sub d s b z p n c w 0 m roomy h;
          n_part = its_part k sub d s b z p n c w 0 m roomy h;
          inside =
              record {
                low = s_in.0;
                high = subst (λ (y : ℕ). 32 * s ≤ y) (sym (length_around p _ _ ∙ length_over (whole sub) (above p) m)) (omega (arith, s_in.1, roomy.long));
              };
          small = omega (arith, top_high (from sub) w (placed_gone k sub d s b z p n c w 0 m roomy h), roomy.slots_high);
        }

    -- what hangs below n already
    its_top : at p (whole sub) m ≡ around (from sub) n (write (over w n m) n (flip d) 0 (top w) (above (from sub)) (code c))
    unfolding over
    its_top = same k sub d s b z p n c w 0 m roomy h ∙ at_top (from sub) (flip d) leaf n c w m roomy (placed_from k sub d s b z p n c w 0 m roomy h)

    n_from : times_w n (from sub) ≡ 0
    unfolding times_w
    n_from = omega (arith, count n, here n, room_low N n, times_onto n sub (step d s b z p))

    w_from : times_w (top w) (from sub) ≡ 0
    unfolding times_w
    w_from = omega (arith, count (top w), top_full N w, times_onto (top w) sub (step d s b z p))

    n_w : n ≡ top w → ⊥
    n_w = apart (top w) n (omega (arith, count (top w), top_full N w))

    s_w : s ≡ top w → ⊥
    s_w = apart (top w) s (omega (arith, count (top w), top_full N w))

    kept_up : put_n (at p (whole sub) m) (top w) parent n ≡ at p (whole sub) m
    kept_up =
        ap (λ v. put_n v (top w) parent n) its_top
        ∙ around_past (from sub) n _ (top w) parent n w_from
        ∙ ap (around (from sub) n)
        (write_past _ n (flip d) 0 (top w) (above (from sub)) (code c) (top w) parent n n_w
        ∙ ap (λ v. write v n (flip d) 0 (top w) (above (from sub)) (code c)) (over_up w n n m))
        ∙ sym its_top

    kept_down : put_n (at p (whole sub) m) n (child d) (top w) ≡ at p (whole sub) m
    kept_down =
        subst (λ (e : Dir). put_n (at p (whole sub) m) n (child e) (top w) ≡ at p (whole sub) m) (flip_flip d)
        (ap (λ v. put_n v n (child (flip (flip d))) (top w)) its_top
        ∙ around_past (from sub) n _ n (child (flip (flip d))) (top w) n_from
        ∙ ap (around (from sub) n) (write_far _ n (flip d) 0 (top w) (above (from sub)) (code c) (top w))
        ∙ sym its_top)

    p_n : above p ≡ n → ⊥
    p_n = above_not p n n_in.0 (omega (arith, count n, here n, room_low N n))

    p_s : above p ≡ s → ⊥
    p_s = above_not p s s_in.0 (omega (arith, count s, here s, room_low N s))

    n_s : n ≡ s → ⊥
    n_s = apart s n (omega (arith, count s, here s, room_low N s))

  module _ (d₁ : Dir) (i : ℕ) (b₁ : Bal) (z₁ : Tree) (sub₁ : Way) where
    abbrev deep : Way
    deep = step d₁ i b₁ z₁ sub₁

    module _ (h : Placed N p (whole deep)) where
      count_i : (x : ℕ) → one (eqb x n) + times x w + (one (eqb x i) + times x z₁ + times_w x sub₁) + one (eqb x s) + times x z + times_w x p ≤ room N x
      unfolding times_w
      count_i x = count deep h x

      i_in : (1 ≤ i) × (i ≤ N)
      i_in = room_in N i (omega (arith, count_i i, here i))

      -- the top of the part stands on the way
      c_way : 1 ≤ times_w (top (plug deep last)) deep
      c_way = top_way d₁ i b₁ z₁ sub₁ last

      not_c : (x : ℕ) → times_w x deep ≡ 0 → x ≡ top (plug deep last) → ⊥
      not_c x v e = omega (arith, v, subst (λ (y : ℕ). 1 ≤ times_w y deep) (sym e) c_way)

      n_c : n ≡ top (plug deep last) → ⊥
      n_c = not_c n (omega (arith, count deep h n, here n, room_low N n))

      w_z : (top z ≡ 0 → ⊥) → top w ≡ top z → ⊥
      w_z full e =
          let v : room N (top z) ≤ times (top z) w = subst (λ (y : ℕ). room N y ≤ times y w) e (top_full N w) in
          omega (arith, v, count deep h (top z), top_in z full)

      deeper : (top z ≡ 0 → ⊥) → Deeper n s (above p) i (top (plug deep last)) (top z) (top w)
      deeper full =
          record {
            n_x = n_s deep h;
            p_n = p_n deep h;
            p_x = p_s deep h;
            i_n = apart n i (omega (arith, count_i n, here n, room_low N n));
            i_x = apart s i (omega (arith, count_i s, here s, room_low N s));
            i_p = λ v. above_not p i i_in.0 (omega (arith, count_i i, here i, room_low N i)) (sym v);
            c_x = λ v. not_c s (omega (arith, count deep h s, here s, room_low N s)) (sym v);
            o_x = λ v. apart (top z) s (omega (arith, count deep h (top z), top_full N z)) (sym v);
            c_o = λ v. not_c (top z) (omega (arith, count deep h (top z), top_full N z)) (sym v);
            w_n = λ v. n_w deep h (sym v);
            w_x = λ v. s_w deep h (sym v);
            w_c = not_c (top w) (omega (arith, count deep h (top w), top_full N w));
            w_o = w_z full;
          }

  swap2_at : (sub : Way) → Placed N p (whole sub) → (top z ≡ 0 → ⊥) → bottom_n k (at p (whole sub) m) (top (plug sub last)) (flip d) ≡ n → (t : AvlTree) (e : Dir)
      → rust_remove2 k (at p (whole sub) m) t s (above p) e ≡ lessened (remove2_n k (at p (whole sub) m) t s (above p) e)
  unfolding plug onto
  swap2_at root h full found t e =
      direct_same k (at p (whole root) m) t s (above p) e d (code b) (top z) n (top w)
      (subst (λ (y : ℕ). Reads k (at p (whole root) m) s (above p) d (code b) y (top z) n s d (top w)) (top_branch (flip d) leaf n c w) (reads root h found))
      (record { n_x = n_s root h; p_n = p_n root h; p_x = p_s root h; w_n = λ v. n_w root h (sym v); w_x = λ v. s_w root h (sym v) })
      (λ v. omega (arith, v, (s_in root h).0)) (λ v. omega (arith, v, (n_in root h).0)) (kept_up root h) (kept_down root h)
  swap2_at (step d₁ i b₁ z₁ sub) h full found t e =
      let q = step d₁ i b₁ z₁ sub in
      deep_same k (at p (whole q) m) t s (above p) e d (code b) (top (plug q last)) (top z) n i d₁ (top w) (reads q h found) (deeper d₁ i b₁ z₁ sub h full) (n_c d₁ i b₁ z₁ sub h)
      (λ v. omega (arith, v, (i_in d₁ i b₁ z₁ sub h).0))

-- ---- a record with two parts

module _ {N : ℕ} (k : ℕ) (d : Dir) (s : ℕ) (b : Bal) (z : Tree) (p : Way) (m : List ℕ) (roomy : Roomy N m) (side : right_if (eqb (code b) 1) ≡ d) where
  two_parts : {a : Tree} → Parts (flip d) a → (top a ≡ 0 → ⊥) → (top z ≡ 0 → ⊥) → height (plug p (branch d a s b z)) ≤ k → Placed N p (branch d a s b z)
      → (t : AvlTree) (e : Dir) → let o = at p (branch d a s b z) m in rust_remove2 k o t s (above p) e ≡ lessened (remove2_n k o t s (above p) e)
  unfolding plug depth
  two_parts bare full full₂ fuel h t e = absurd (full refl)
  two_parts (parts l x c r) full full₂ fuel h t e =
      let a = branch (flip d) l x c r in
      let f = end (flip d) l x c r root in
      let same : plug f.way (branch (flip d) leaf f.slot f.bal f.part) ≡ a = end_plug (flip d) l x c r root in
      let found : bottom_n k (at p (branch d a s b z) m) (top a) (flip d) ≡ f.slot =
      ap (λ y. bottom_n k y (top a) (flip d)) (sym (at_up d s b z p a m h))
      ∙ bottom_at k (flip d) (step d s b z p) a m roomy (placed_near d s b z p a h) (omega (arith, depth_plug (step d s b z p) a, fuel))
      ∙ bottom_branch (flip d) l x c r root in
      subst (λ (y : Tree). rust_remove2 k (at p (branch d y s b z) m) t s (above p) e ≡ lessened (remove2_n k (at p (branch d y s b z) m) t s (above p) e)) same
      (swap2_at k d s b z p f.slot f.bal f.part m roomy side f.way (subst (λ (y : Tree). Placed N p (branch d y s b z)) (sym same) h) full₂
      (subst (λ (y : Tree). bottom_n k (at p (branch d y s b z) m) (top y) (flip d) ≡ f.slot) (sym same) found) t e)

-- A record with two parts: the Rust's swap and the code's way leave the same, the climb included, whatever the balances are.
pub swap2_same : {N : ℕ} (k : ℕ) (l : Tree) (s : ℕ) (b : Bal) (r : Tree) (p : Way) (m : List ℕ) → (top l ≡ 0 → ⊥) → (top r ≡ 0 → ⊥)
    → height (plug p (node l s b r)) ≤ k → Roomy N m → Placed N p (node l s b r) → (t : AvlTree) (e : Dir) → let o = at p (node l s b r) m in
    rust_remove2 k o t s (above p) e ≡ lessened (remove2_n k o t s (above p) e)
swap2_same {N} k l s b r p m f g fuel roomy h t e =
    let d = taken b in
    let v = node_branch d l s b r in
    subst (λ (y : Tree). rust_remove2 k (at p y m) t s (above p) e ≡ lessened (remove2_n k (at p y m) t s (above p) e)) (sym v)
    (two_parts k d s b (pick d r l) p m roomy (side_taken b) (by_parts (flip d) (pick d l r)) (picked d l r f g) (picked d r l g f)
    (subst (λ (y : Tree). height (plug p y) ≤ k) v fuel) (subst (Placed N p) v h) t e)
