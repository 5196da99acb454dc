-- `_remove` of a record with two children, in the Rust's way and in the code's: on records of which the links read as those of a tree do, both
-- leave the same bytes and the same tree by value. Assumes nothing.
use Rattle.std.proofs.Common.{◌≡◌, ℕ, zero, suc, ◌*◌, ◌<◌, ◌≤◌, cond, not, eqb, List, sym, refl, ap, ◌∙◌, subst, eq-eqb, ne_eqb}
use Rattle.std.proofs.Math.Dec.{eqb-suc-zero}
use Rattle.avl.specs.Tree.{Dir, left, right, flip}
use Rattle.tree.specs.Node.{Field, right_if, child, parent, balance, get_n, put_n, put_both, side_of, side_n, detach_n}
use Rattle.tree.specs.Walk.{bottom_n}
use Rattle.tree.specs.Rotate.{rooted, point_n, hang_n}
use Rattle.tree.specs.Remove.{shrink_n, remove2_n}
use Rattle.tree.specs.Held.{write}
use Rattle.tree.specs.declared.node.AvlTree.{AvlTree}
use Rattle.tree.proofs.Cells.{length_put, put_none, put_slots, get_same, get_fields, get_slots}
use Rattle.tree.proofs.Links.{near_far, write_turn, length_write}
use Rattle.tree.proofs.Reading.{Within, read_near}
use Rattle.tree.proofs.Replacing.{replace_turn}
use Rattle.tree.proofs.Neighbour.{remove2_turn}
use Rattle.swap.specs.Rust.{swap_n, deep_n, direct_n, leave_n, rust_remove2}
use Rattle.swap.proofs.Counting.{lessened, shrink_less}
use Rattle.swap.proofs.Stores.{Deeper, deep_stores, Direct, direct_stores}

-- ---- the steps of both, over any records

-- the root, once n stands in the place below p
abbrev new_root : ℕ → AvlTree → ℕ → AvlTree
new_root p t n = cond (eqb p 0) (rooted t n) t

point_is : (m : List ℕ) (t : AvlTree) (n p : ℕ) (e : Dir) → point_n m t n p e ≡ (put_n m p (child e) n, new_root p t n)
unfolding point_n
point_is m t n zero e = ap (λ (k : List ℕ). (k, rooted t n)) (sym (put_none m (child e) n))
point_is m t n (suc p) e = simp eqb-suc-zero refl

hang_is : (m : List ℕ) (t : AvlTree) (w i : ℕ) (e : Dir) → (i ≡ 0 → ⊥) → hang_n m t w i e ≡ (put_n (put_n m w parent i) i (child e) w, t)
unfolding hang_n
hang_is m t w i e h = point_is _ t w i e ∙ simp (ne_eqb i 0 h) refl

leave_is : (k : ℕ) (m : List ℕ) (t : AvlTree) (x i : ℕ) (e : Dir) → (i ≡ 0 → ⊥) → leave_n k m t x i e ≡ lessened (shrink_n k (detach_n m x) t i e)
unfolding leave_n
leave_is k m t x i e h = simp (ne_eqb i 0 h) (shrink_less k (detach_n m x) t i e)

-- the swap, seen from a side
swap_is : (m : List ℕ) (n x : ℕ) (d : Dir) → swap_n m n x
    ≡ write (write m n d (get_n m x (child d)) (get_n m x (child (flip d))) (get_n m x parent) (get_n m x balance)) x d
    (get_n m n (child d)) (get_n m n (child (flip d))) (get_n m n parent) (get_n m n balance)
unfolding swap_n
swap_is m n x left = refl
swap_is m n x right =
    ap (λ k. write k x left (get_n m n (child left)) (get_n m n (child right)) (get_n m n parent) (get_n m n balance))
    (write_turn m n left (get_n m x (child left)) (get_n m x (child right)) (get_n m x parent) (get_n m x balance))
    ∙ write_turn _ x left (get_n m n (child left)) (get_n m n (child right)) (get_n m n parent) (get_n m n balance)

-- the children of x, from a side
both_up : (k m : List ℕ) (x n : ℕ) (d : Dir) {c o : ℕ} → get_n m x (child d) ≡ c → get_n m x (child (flip d)) ≡ o → (c ≡ o → ⊥)
    → put_n (put_n k (get_n m x (child left)) parent n) (get_n m x (child right)) parent n ≡ put_n (put_n k c parent n) o parent n
both_up k m x n left f g h = simp (f, g) refl
both_up k m x n right {c} {o} f g h = simp (f, g) (put_slots k o c parent parent n n (λ e. h (sym e)))

deep_turn : (m : List ℕ) (n x : ℕ) (d : Dir) (l r i : ℕ) (ie : Dir) {m₁ m₂ : List ℕ} {w : ℕ} → swap_n m n x ≡ m₁
    → put_n (put_n m₁ l parent n) r parent n ≡ m₂ → get_n m₂ x (child d) ≡ w → deep_n m n x d l r i ie ≡ put_n (put_n m₂ w parent i) i (child ie) w
unfolding deep_n put_both
deep_turn m n x d l r i ie f g h = simp (f, g, h) refl

direct_turn : (m : List ℕ) (n x : ℕ) (d : Dir) (p : ℕ) {b o : ℕ} → get_n (put_n m n parent p) x balance ≡ b
    → get_n (put_n (put_n m n parent p) n balance b) x (child (flip d)) ≡ o
    → direct_n m n x d p ≡ put_n (put_n (put_n (put_n m n parent p) n balance b) o parent n) n (child (flip d)) o
unfolding direct_n put_both
direct_turn m n x d p f g = simp (f, g) refl

swap2_turn : (k : ℕ) (m : List ℕ) (t : AvlTree) (x p : ℕ) (e d : Dir) {b c n i : ℕ} {ie : Dir} {m₁ : List ℕ} {t₁ : AvlTree}
    → get_n m x balance ≡ b → right_if (eqb b 1) ≡ d → get_n m x (child d) ≡ c → bottom_n k m c (flip d) ≡ n → point_n m t n p e ≡ (m₁, t₁)
    → get_n m₁ n parent ≡ i → side_n m₁ i n ≡ ie
    → rust_remove2 k m t x p e ≡ cond (not (eqb n c)) (leave_n k (deep_n m₁ n x d (get_n m x (child left)) (get_n m x (child right)) i ie) t₁ x i ie)
    (leave_n k (direct_n m₁ n x d p) t₁ x n d)
unfolding rust_remove2
swap2_turn k m t x p e d q₁ q₂ q₃ q₄ q₅ q₆ q₇ = simp (q₁, q₂, q₃, q₄, q₅, q₆, q₇) refl

-- ---- what both read

-- x, below p, of balance b, has the children c on side d and o; its neighbour n there, below i on side ie, has the child w
pub record Reads (k : ℕ) (m : List ℕ) (x p : ℕ) (d : Dir) (b c o n i : ℕ) (ie : Dir) (w : ℕ) : Type 0 where
  pub bal : get_n m x balance ≡ b
  pub side : right_if (eqb b 1) ≡ d
  pub near : get_n m x (child d) ≡ c
  pub far : get_n m x (child (flip d)) ≡ o
  pub up : get_n m x parent ≡ p
  pub found : bottom_n k m c (flip d) ≡ n
  pub n_up : get_n m n parent ≡ i
  pub n_side : side_n m i n ≡ ie
  pub n_part : get_n m n (child d) ≡ w
  pub inside : Within m x
  pub small : w < 65_536

module _ (k : ℕ) (m : List ℕ) (t : AvlTree) (x p : ℕ) (e d : Dir) (b c o n i : ℕ) (ie : Dir) (w : ℕ) (r : Reads k m x p d b c o n i ie w) where
  -- the code
  ours : {c₂ : ℕ} → let m₁ = put_n (put_n m w parent i) i (child ie) w in (i ≡ 0 → ⊥) → get_n m₁ x (child d) ≡ c₂ → get_n m₁ x (child (flip d)) ≡ o
      → remove2_n k m t x p e
      ≡ shrink_n k (detach_n (put_n (put_n (put_n (write m₁ n d c₂ o p b) c₂ parent n) o parent n) p (child e) n) x) (new_root p t n) (cond (eqb i x) n i) ie
  ours h f g =
      remove2_turn k m t x p e d r.bal r.side r.near r.found r.n_up r.n_side r.n_part (hang_is m t w i ie h)
      (replace_turn _ t n x d p e b f g refl refl refl ∙ point_is _ t n p e) refl

  -- the Rust
  placed : List ℕ
  placed = put_n m p (child e) n

  theirs : (p ≡ n → ⊥) → (i ≡ p → ⊥) → rust_remove2 k m t x p e
      ≡ cond (not (eqb n c)) (leave_n k (deep_n placed n x d (get_n m x (child left)) (get_n m x (child right)) i ie) (new_root p t n) x i ie)
      (leave_n k (direct_n placed n x d p) (new_root p t n) x n d)
  unfolding placed side_n
  theirs f g =
      swap2_turn k m t x p e d r.bal r.side r.near r.found (point_is m t n p e) (get_slots m p n (child e) parent n f ∙ r.n_up)
      (ap (side_of i n) (get_slots m p i (child e) (child right) n (λ h. g (sym h))) ∙ r.n_side)

  -- ---- the neighbour stands deeper

  module _ (q : Deeper n x p i c o w) (n_c : n ≡ c → ⊥) (i_0 : i ≡ 0 → ⊥) where
    -- a link of n or x, once p points at n
    still : (f : Field) → (get_n placed n f ≡ get_n m n f) × (get_n placed x f ≡ get_n m x f)
    unfolding placed
    still f = (get_slots m p n (child e) f n q.p_n, get_slots m p x (child e) f n q.p_x)

    swapped : let y = get_n placed n in swap_n placed n x ≡ write (write placed n d c o p b) x d w (y (child (flip d))) (y parent) (y balance)
    swapped =
        let y = get_n placed n in
        swap_is placed n x d
        ∙ simp ((still (child d)).1, (still (child (flip d))).1, (still parent).1, (still balance).1, r.near, r.far, r.up, r.bal, (still (child d)).0, r.n_part) refl

    within : Within (write placed n d c o p b) x
    unfolding placed
    within =
        record {
          low = r.inside.low;
          high = subst (λ (y : ℕ). 32 * x ≤ y) (sym (length_write _ n d c o p b ∙ length_put m p (child e) n)) r.inside.high;
        }

    its : (a z u y : ℕ) → w ≡ a → get_n (put_n (put_n (write (write placed n d c o p b) x d a z u y) c parent n) o parent n) x (child d) ≡ w
    its a z u y h =
        get_slots _ o x parent (child d) n q.o_x
        ∙ get_slots _ c x parent (child d) n q.c_x
        ∙ read_near _ x d a z u y within (subst (λ (v : ℕ). v < 65_536) h r.small)
        ∙ sym h

    pub deep_same : rust_remove2 k m t x p e ≡ lessened (remove2_n k m t x p e)
    unfolding placed
    deep_same =
        let y = get_n placed n in
        let u = new_root p t n in
        theirs q.p_n q.i_p
        ∙ simp (ne_eqb n c n_c) (leave_is k (deep_n placed n x d (get_n m x (child left)) (get_n m x (child right)) i ie) u x i ie i_0)
        ∙ ap (λ (v : List ℕ). lessened (shrink_n k v u i ie))
        (ap (λ v. detach_n v x)
        (deep_turn placed n x d _ _ i ie swapped (both_up _ m x n d r.near r.far q.c_o) (its w (y (child (flip d))) (y parent) (y balance) refl))
        ∙ deep_stores n x d p e i ie c o w b q w (y (child (flip d))) (y parent) (y balance) m)
        ∙ sym (ap lessened
        (ours i_0
        (get_slots _ i x (child ie) (child d) w q.i_x ∙ get_slots m w x parent (child d) i q.w_x ∙ r.near)
        (get_slots _ i x (child ie) (child (flip d)) w q.i_x ∙ get_slots m w x parent (child (flip d)) i q.w_x ∙ r.far)
        ∙ simp (ne_eqb i x q.i_x) refl))

-- ---- the neighbour is the child itself

module _ (k : ℕ) (m : List ℕ) (t : AvlTree) (x p : ℕ) (e d : Dir) (b o n w : ℕ) (r : Reads k m x p d b n o n x d w) (q : Direct n x p w)
    (x_0 : x ≡ 0 → ⊥) (n_0 : n ≡ 0 → ⊥) where
  pub direct_same : put_n m w parent n ≡ m → put_n m n (child d) w ≡ m → rust_remove2 k m t x p e ≡ lessened (remove2_n k m t x p e)
  unfolding placed
  direct_same f g =
      let u = new_root p t n in
      let m₁ = put_n m p (child e) n in
      let within : Within (put_n m w parent x) x =
      record { low = r.inside.low; high = subst (λ (y : ℕ). 32 * x ≤ y) (sym (length_put m w parent x)) r.inside.high } in
      theirs k m t x p e d b n o n x d w r q.p_n (λ h. q.p_x (sym h))
      ∙ simp (eq-eqb n n refl) (leave_is k (direct_n m₁ n x d p) u x n d n_0)
      ∙ ap (λ (v : List ℕ). lessened (shrink_n k v u n d))
      (ap (λ v. detach_n v x)
      (direct_turn m₁ n x d p (get_slots _ n x parent balance p q.n_x ∙ get_slots m p x (child e) balance n q.p_x ∙ r.bal)
      (get_slots _ n x balance (child (flip d)) b q.n_x ∙ get_slots _ n x parent (child (flip d)) p q.n_x
      ∙ get_slots m p x (child e) (child (flip d)) n q.p_x ∙ r.far))
      ∙ direct_stores n x d p e o w b q m f g)
      ∙ sym (ap lessened
      (ours k m t x p e d b n o n x d w r x_0
      (get_same _ x (child d) w within.low within.high r.small)
      (get_fields _ x (child d) (child (flip d)) w (near_far d) ∙ get_slots m w x parent (child (flip d)) x q.w_x ∙ r.far)
      ∙ simp (eq-eqb x x refl) refl))
