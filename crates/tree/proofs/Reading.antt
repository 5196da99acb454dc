-- What is read of a record's links, and past a tree's. Assumes nothing.
use Rattle.std.proofs.Common.{◌≡◌, ℕ, ◌*◌, ◌^◌, ◌<◌, ◌≤◌, List, length, sym, refl, ◌∙◌, subst, arith}
use Rattle.avl.specs.Tree.{Dir, left, right, flip, Bal, even, heavy, code, Tree, leaf, node, top}
use Rattle.tree.specs.Node.{Field, width, child, parent, balance, get_n, put_n}
use Rattle.tree.specs.Held.{write, over, times}
use Rattle.tree.proofs.Cells.{length_put, get_same, get_fields, get_slots}
use Rattle.tree.proofs.Links.{near_far, near_up, near_bal, up_bal, node_apart}

-- a record that lies within the bytes
pub record Within (m : List ℕ) (s : ℕ) : Type 0 where
  pub low : 1 ≤ s
  pub high : 32 * s ≤ length m

within_put : (m : List ℕ) (s x : ℕ) (f : Field) (v : ℕ) → Within m s → Within (put_n m x f v) s
within_put m s x f v w = record { low = w.low; high = subst (λ (n : ℕ). 32 * s ≤ n) (sym (length_put m x f v)) w.high }

-- ---- the links of a record read as written

module _ (m : List ℕ) (s : ℕ) (d : Dir) (a z u b : ℕ) (w : Within m s) where
  same : (n : List ℕ) (f : Field) (v : ℕ) → Within n s → v < 256 ^ width f → get_n (put_n n s f v) s f ≡ v
  same n f v h small = get_same n s f v h.low h.high small

  pub read_bal : b < 256 → get_n (write m s d a z u b) s balance ≡ b
  unfolding write
  read_bal h = same _ balance b (within_put _ s s parent u (within_put _ s s (child (flip d)) z (within_put m s s (child d) a w))) h

  pub read_up : u < 65_536 → get_n (write m s d a z u b) s parent ≡ u
  unfolding write
  read_up h =
      get_fields _ s balance parent b (λ e. up_bal (sym e))
      ∙ same _ parent u (within_put _ s s (child (flip d)) z (within_put m s s (child d) a w)) h

  pub read_far : z < 65_536 → get_n (write m s d a z u b) s (child (flip d)) ≡ z
  unfolding write
  read_far h =
      get_fields _ s balance (child (flip d)) b (λ e. near_bal (flip d) (sym e))
      ∙ get_fields _ s parent (child (flip d)) u (λ e. near_up (flip d) (sym e))
      ∙ same _ (child (flip d)) z (within_put m s s (child d) a w) h

  pub read_near : a < 65_536 → get_n (write m s d a z u b) s (child d) ≡ a
  unfolding write
  read_near h =
      get_fields _ s balance (child d) b (λ e. near_bal d (sym e))
      ∙ get_fields _ s parent (child d) u (λ e. near_up d (sym e))
      ∙ get_fields _ s (child (flip d)) (child d) z (λ e. near_far d (sym e))
      ∙ same m (child d) a w h

-- ---- other records read as before

pub read_past : (m : List ℕ) (s : ℕ) (d : Dir) (a z u b x : ℕ) (f : Field) → (s ≡ x → ⊥) → get_n (write m s d a z u b) x f ≡ get_n m x f
unfolding write
read_past m s d a z u b x f n =
    get_slots _ s x balance f b n ∙ get_slots _ s x parent f u n ∙ get_slots _ s x (child (flip d)) f z n ∙ get_slots m s x (child d) f a n

pub read_over : (t : Tree) (u : ℕ) (m : List ℕ) (x : ℕ) (f : Field) → times x t ≡ 0 → get_n (over t u m) x f ≡ get_n m x f
unfolding over times
read_over leaf u m x f h = refl
read_over (node l s b r) u m x f h =
    read_past _ s left (top l) (top r) u (code b) x f (node_apart l s b r x h)
    ∙ read_over l s _ x f (omega (arith, h))
    ∙ read_over r s m x f (omega (arith, h))

-- a balance fits its byte
pub code_small : (b : Bal) → code b < 256
code_small even = omega arith
code_small (heavy left) = omega arith
code_small (heavy right) = omega arith
