-- The Rust's stores of `_remove`, in its order, and those of the code leave the same bytes: on any records, where the slots that are stored to
-- differ as those of a tree do. Assumes nothing.
use Rattle.std.proofs.Common.{◌≡◌, ℕ, Bool, true, false, eqb, List, sym, refl, ap, ◌∙◌, subst, eqb-true}
use Rattle.std.proofs.lemmas.Bool.{eqb-false}
use Rattle.avl.specs.Tree.{Dir, left, right, flip}
use Rattle.tree.specs.Node.{Field, child, parent, balance, put_n, detach_n}
use Rattle.tree.specs.Held.{write}
use Rattle.tree.proofs.Cells.{put_same, put_fields, put_slots}
use Rattle.tree.proofs.Links.{near_up, near_bal, write_turn, write_again, write_past}

-- a test, with what it says
pub either {ℓ} : {P : Type ℓ} (b : Bool) → (b ≡ true → P) → (b ≡ false → P) → P
either true f g = f refl
either false f g = g refl

-- ---- stores that change places

-- stores to different fields, of whatever records
free : (m : List ℕ) (s : ℕ) (f : Field) (v x : ℕ) (g : Field) (w : ℕ) → (f ≡ g → ⊥) → put_n (put_n m s f v) x g w ≡ put_n (put_n m x g w) s f v
free m s f v x g w n =
    either (eqb s x) (λ t. subst (λ (y : ℕ). put_n (put_n m s f v) y g w ≡ put_n (put_n m y g w) s f v) (eqb-true s x t) (put_fields m s f g v w n))
    (λ t. put_slots m s x f g v w (eqb-false s x t))

-- a link downwards is stored before or after one upwards
up_down : (m : List ℕ) (s v x : ℕ) (d : Dir) (w : ℕ) → put_n (put_n m s parent v) x (child d) w ≡ put_n (put_n m x (child d) w) s parent v
up_down m s v x d w = free m s parent v x (child d) w (λ e. near_up d (sym e))

down_up : (m : List ℕ) (s : ℕ) (d : Dir) (v x w : ℕ) → put_n (put_n m s (child d) v) x parent w ≡ put_n (put_n m x parent w) s (child d) v
down_up m s d v x w = free m s (child d) v x parent w (near_up d)

-- what is stored to a record before its links are cleared is lost
detach_write : (m : List ℕ) (x : ℕ) (d : Dir) (a z u b : ℕ) → detach_n (write m x d a z u b) x ≡ detach_n m x
unfolding detach_n write
detach_write m x d a z u b = write_again m x d a z u b left 0 0 0 0

detach_sides : (m : List ℕ) (x : ℕ) (d : Dir) → detach_n m x ≡ write m x d 0 0 0 0
unfolding detach_n write
detach_sides m x left = refl
detach_sides m x right = write_turn m x left 0 0 0 0

detach_child : (m : List ℕ) (x : ℕ) (d : Dir) (v : ℕ) → detach_n (put_n m x (child d) v) x ≡ detach_n m x
unfolding write
detach_child m x d v =
    detach_sides _ x d
    ∙ ap (λ k. put_n (put_n (put_n k x (child (flip d)) 0) x parent 0) x balance 0) (put_same m x (child d) v 0)
    ∙ sym (detach_sides m x d)

-- ---- the neighbour stands deeper

-- the slots that differ: the neighbour n, the record x, p above it, i above n, the children c and o of x, the child w of n
pub record Deeper (n x p i c o w : ℕ) : Type 0 where
  pub n_x : n ≡ x → ⊥
  pub p_n : p ≡ n → ⊥
  pub p_x : p ≡ x → ⊥
  pub i_n : i ≡ n → ⊥
  pub i_x : i ≡ x → ⊥
  pub i_p : i ≡ p → ⊥
  pub c_x : c ≡ x → ⊥
  pub o_x : o ≡ x → ⊥
  pub c_o : c ≡ o → ⊥
  pub w_n : w ≡ n → ⊥
  pub w_x : w ≡ x → ⊥
  pub w_c : w ≡ c → ⊥
  pub w_o : w ≡ o → ⊥

module _ (n x : ℕ) (d : Dir) (p : ℕ) (e : Dir) (i : ℕ) (ie : Dir) (c o w b : ℕ) (q : Deeper n x p i c o w) where
  -- the stores: n below p, the links of n, the children of x below n, and w below i
  abbrev pub to_n : List ℕ → List ℕ
  to_n k = put_n k p (child e) n

  abbrev pub links_n : List ℕ → List ℕ
  links_n k = write k n d c o p b

  abbrev pub up_c : List ℕ → List ℕ
  up_c k = put_n k c parent n

  abbrev pub up_o : List ℕ → List ℕ
  up_o k = put_n k o parent n

  abbrev pub up_w : List ℕ → List ℕ
  up_w k = put_n k w parent i

  abbrev pub down_i : List ℕ → List ℕ
  down_i k = put_n k i (child ie) w

  module _ (a₁ z₁ u₁ b₁ : ℕ) where
    -- what the swap stores to x
    abbrev pub links_x : List ℕ → List ℕ
    links_x k = write k x d a₁ z₁ u₁ b₁

    w_first : (m : List ℕ) → up_w (up_o (up_c (links_x (links_n (to_n m))))) ≡ up_o (up_c (links_x (links_n (to_n (up_w m)))))
    w_first m =
        put_slots _ o w parent parent n i (λ h. q.w_o (sym h))
        ∙ ap up_o (put_slots _ c w parent parent n i (λ h. q.w_c (sym h))
        ∙ ap up_c (write_past _ x d a₁ z₁ u₁ b₁ w parent i (λ h. q.w_x (sym h))
        ∙ ap links_x (write_past _ n d c o p b w parent i (λ h. q.w_n (sym h)) ∙ ap links_n (down_up m p e n w i))))

    i_first : (m : List ℕ) → down_i (up_o (up_c (links_x (links_n (to_n m))))) ≡ up_o (up_c (links_x (links_n (to_n (down_i m)))))
    i_first m =
        up_down _ o n i ie w
        ∙ ap up_o (up_down _ c n i ie w
        ∙ ap up_c (write_past _ x d a₁ z₁ u₁ b₁ i (child ie) w (λ h. q.i_x (sym h))
        ∙ ap links_x (write_past _ n d c o p b i (child ie) w (λ h. q.i_n (sym h))
        ∙ ap links_n (put_slots m p i (child e) (child ie) n w (λ h. q.i_p (sym h))))))

    p_last : (m : List ℕ) → up_o (up_c (links_x (links_n (to_n m)))) ≡ to_n (up_o (up_c (links_x (links_n m))))
    p_last m =
        sym (up_down _ o n p e n
        ∙ ap up_o (up_down _ c n p e n
        ∙ ap up_c (write_past _ x d a₁ z₁ u₁ b₁ p (child e) n (λ h. q.p_x (sym h))
        ∙ ap links_x (write_past m n d c o p b p (child e) n (λ h. q.p_n (sym h))))))

    x_lost : (m : List ℕ) → detach_n (to_n (up_o (up_c (links_x m)))) x ≡ detach_n (to_n (up_o (up_c m))) x
    x_lost m =
        ap (λ k. detach_n k x)
        (ap (λ k. to_n (up_o k)) (write_past m x d a₁ z₁ u₁ b₁ c parent n (λ h. q.c_x (sym h)))
        ∙ ap to_n (write_past _ x d a₁ z₁ u₁ b₁ o parent n (λ h. q.o_x (sym h)))
        ∙ write_past _ x d a₁ z₁ u₁ b₁ p (child e) n (λ h. q.p_x (sym h)))
        ∙ detach_write _ x d a₁ z₁ u₁ b₁

    -- the Rust's order, and the code's
    pub deep_stores : (m : List ℕ)
        → detach_n (down_i (up_w (up_o (up_c (links_x (links_n (to_n m))))))) x ≡ detach_n (to_n (up_o (up_c (links_n (down_i (up_w m)))))) x
    deep_stores m =
        ap (λ k. detach_n k x) (ap down_i (w_first m) ∙ i_first (up_w m) ∙ p_last (down_i (up_w m)))
        ∙ x_lost (links_n (down_i (up_w m)))

-- ---- the neighbour is the child on side d

pub record Direct (n x p w : ℕ) : Type 0 where
  pub n_x : n ≡ x → ⊥
  pub p_n : p ≡ n → ⊥
  pub p_x : p ≡ x → ⊥
  pub w_n : w ≡ n → ⊥
  pub w_x : w ≡ x → ⊥

module _ (n x : ℕ) (d : Dir) (p : ℕ) (e : Dir) (o w b : ℕ) (q : Direct n x p w) where
  abbrev pub place : List ℕ → List ℕ
  place k = put_n k p (child e) n

  abbrev pub other_up : List ℕ → List ℕ
  other_up k = put_n k o parent n

  abbrev pub other : List ℕ → List ℕ
  other k = put_n k n (child (flip d)) o

  abbrev pub bal : List ℕ → List ℕ
  bal k = put_n k n balance b

  abbrev pub up : List ℕ → List ℕ
  up k = put_n k n parent p

  abbrev pub part_up : List ℕ → List ℕ
  part_up k = put_n k w parent n

  abbrev pub links : List ℕ → List ℕ
  links k = write k n d w o p b

  abbrev pub part_below : List ℕ → List ℕ
  part_below k = put_n k w parent x

  abbrev pub part : List ℕ → List ℕ
  part k = put_n k x (child d) w

  -- the code's store to x is lost
  part_lost : (m : List ℕ) → detach_n (place (other_up (part_up (links (part m))))) x ≡ detach_n (place (other_up (part_up (links m)))) x
  part_lost m =
      ap (λ k. detach_n k x)
      (ap (λ k. place (other_up (part_up k))) (sym (write_past m n d w o p b x (child d) w q.n_x))
      ∙ ap (λ k. place (other_up k)) (down_up _ x d w w n)
      ∙ ap place (down_up _ x d w o n)
      ∙ put_slots _ x p (child d) (child e) w n (λ h. q.p_x (sym h)))
      ∙ detach_child _ x d w

  -- what hangs below n already is stored again
  part_kept : (m : List ℕ) → put_n m w parent n ≡ m → put_n m n (child d) w ≡ m → part_up (links (part_below m)) ≡ bal (up (other m))
  unfolding write
  part_kept m f g =
      ap part_up (sym (write_past m n d w o p b w parent x (λ h. q.w_n (sym h))))
      ∙ put_same _ w parent x n
      ∙ write_past m n d w o p b w parent n (λ h. q.w_n (sym h))
      ∙ ap links f
      ∙ ap (λ k. bal (up (other k))) g

  other_first : (m : List ℕ) → other (other_up (bal (up (place m)))) ≡ place (other_up (bal (up (other m))))
  other_first m =
      up_down _ o n n (flip d) o
      ∙ ap other_up (put_fields _ n balance (child (flip d)) b o (λ h. near_bal (flip d) (sym h))
      ∙ ap bal (put_fields _ n parent (child (flip d)) p o (λ h. near_up (flip d) (sym h))
      ∙ ap up (put_slots m p n (child e) (child (flip d)) n o q.p_n)))
      ∙ sym (up_down _ o n p e n
      ∙ ap other_up (put_slots _ n p balance (child e) b n (λ h. q.p_n (sym h)) ∙ ap bal (put_slots _ n p parent (child e) p n (λ h. q.p_n (sym h)))))

  -- the Rust's order, and the code's
  pub direct_stores : (m : List ℕ) → put_n m w parent n ≡ m → put_n m n (child d) w ≡ m
      → detach_n (other (other_up (bal (up (place m))))) x ≡ detach_n (place (other_up (part_up (links (part (part_below m)))))) x
  direct_stores m f g =
      ap (λ k. detach_n k x) (other_first m ∙ ap (λ k. place (other_up k)) (sym (part_kept m f g)))
      ∙ sym (part_lost (part_below m))
