-- A record's links written, and a tree's: how stores meet them. Assumes nothing.
use Rattle.std.proofs.Common.{◌≡◌, ℕ, ◌+◌, ◌≤◌, eqb, List, length, sym, refl, ap, ◌∙◌, arith, eq-eqb}
use Rattle.avl.specs.Tree.{Dir, left, right, flip, Bal, code, Tree, leaf, node, branch, top}
use Rattle.avl.proofs.Sides.{Sides, same, opposite, sides}
use Rattle.tree.specs.Node.{Field, child, parent, balance, offset, put_n, key_n}
use Rattle.tree.specs.Held.{write, over, one, times}
use Rattle.tree.proofs.Cells.{length_put, put_none, put_same, put_fields, put_slots, key_put}

-- ---- the fields of a record are four, told apart by where they stand

pub near_far : (d : Dir) → child d ≡ child (flip d) → ⊥
near_far left e = let h : ◌≡◌ {A = ℕ} 8 10 = ap offset e in omega arith
near_far right e = let h : ◌≡◌ {A = ℕ} 10 8 = ap offset e in omega arith

pub near_up : (d : Dir) → child d ≡ parent → ⊥
near_up left e = let h : ◌≡◌ {A = ℕ} 8 12 = ap offset e in omega arith
near_up right e = let h : ◌≡◌ {A = ℕ} 10 12 = ap offset e in omega arith

pub near_bal : (d : Dir) → child d ≡ balance → ⊥
near_bal left e = let h : ◌≡◌ {A = ℕ} 8 14 = ap offset e in omega arith
near_bal right e = let h : ◌≡◌ {A = ℕ} 10 14 = ap offset e in omega arith

pub up_bal : parent ≡ balance → ⊥
up_bal e = let h : ◌≡◌ {A = ℕ} 12 14 = ap offset e in omega arith

-- ---- stores into a record's links

module _ (m : List ℕ) (s : ℕ) (d : Dir) (a z u b v : ℕ) where
  pub write_bal : put_n (write m s d a z u b) s balance v ≡ write m s d a z u v
  unfolding write
  write_bal = put_same _ s balance b v

  pub write_up : put_n (write m s d a z u b) s parent v ≡ write m s d a z v b
  unfolding write
  write_up = put_fields _ s balance parent b v (λ e. up_bal (sym e)) ∙ ap (λ n. put_n n s balance b) (put_same _ s parent u v)

  pub write_far : put_n (write m s d a z u b) s (child (flip d)) v ≡ write m s d a v u b
  unfolding write
  write_far =
      put_fields _ s balance (child (flip d)) b v (λ e. near_bal (flip d) (sym e))
      ∙ ap (λ n. put_n n s balance b) (put_fields _ s parent (child (flip d)) u v (λ e. near_up (flip d) (sym e)))
      ∙ ap (λ n. put_n (put_n n s parent u) s balance b) (put_same _ s (child (flip d)) z v)

  pub write_near : put_n (write m s d a z u b) s (child d) v ≡ write m s d v z u b
  unfolding write
  write_near =
      put_fields _ s balance (child d) b v (λ e. near_bal d (sym e))
      ∙ ap (λ n. put_n n s balance b) (put_fields _ s parent (child d) u v (λ e. near_up d (sym e)))
      ∙ ap (λ n. put_n (put_n n s parent u) s balance b) (put_fields _ s (child (flip d)) (child d) z v (λ e. near_far d (sym e)))
      ∙ ap (λ n. put_n (put_n (put_n n s (child (flip d)) z) s parent u) s balance b) (put_same _ s (child d) a v)

-- the links said from the other side
pub write_turn : (m : List ℕ) (s : ℕ) (d : Dir) (a z u b : ℕ) → write m s d a z u b ≡ write m s (flip d) z a u b
unfolding write
write_turn m s left a z u b = ap (λ n. put_n (put_n n s parent u) s balance b) (put_fields m s (child left) (child right) a z (near_far left))
write_turn m s right a z u b = ap (λ n. put_n (put_n n s parent u) s balance b) (put_fields m s (child right) (child left) a z (near_far right))

again : (m : List ℕ) (s : ℕ) (d : Dir) (a z u b a₂ z₂ u₂ b₂ : ℕ) → write (write m s d a z u b) s d a₂ z₂ u₂ b₂ ≡ write m s d a₂ z₂ u₂ b₂
unfolding write
again m s d a z u b a₂ z₂ u₂ b₂ =
    ap (λ n. put_n (put_n (put_n n s (child (flip d)) z₂) s parent u₂) s balance b₂) (write_near m s d a z u b a₂)
    ∙ ap (λ n. put_n (put_n n s parent u₂) s balance b₂) (write_far m s d a₂ z u b z₂)
    ∙ ap (λ n. put_n n s balance b₂) (write_up m s d a₂ z₂ u b u₂)
    ∙ write_bal m s d a₂ z₂ u₂ b b₂

-- links written again
pub write_again : (m : List ℕ) (s : ℕ) (d : Dir) (a z u b : ℕ) (e : Dir) (a₂ z₂ u₂ b₂ : ℕ)
    → write (write m s d a z u b) s e a₂ z₂ u₂ b₂ ≡ write m s e a₂ z₂ u₂ b₂
write_again m s d a z u b e a₂ z₂ u₂ b₂ = go (sides d e)
  where
    same_way : (d : Dir) (a z : ℕ) → write (write m s d a z u b) s d a₂ z₂ u₂ b₂ ≡ write m s d a₂ z₂ u₂ b₂
    same_way d a z = again m s d a z u b a₂ z₂ u₂ b₂

    go : {e : Dir} → Sides d e → write (write m s d a z u b) s e a₂ z₂ u₂ b₂ ≡ write m s e a₂ z₂ u₂ b₂
    go same = same_way d a z
    go opposite = ap (λ n. write n s (flip d) a₂ z₂ u₂ b₂) (write_turn m s d a z u b) ∙ same_way (flip d) z a

-- a store to another record goes past
pub write_past : (m : List ℕ) (s : ℕ) (d : Dir) (a z u b x : ℕ) (f : Field) (v : ℕ) → (s ≡ x → ⊥)
    → put_n (write m s d a z u b) x f v ≡ write (put_n m x f v) s d a z u b
unfolding write
write_past m s d a z u b x f v n =
    put_slots _ s x balance f b v n
    ∙ ap (λ k. put_n k s balance b) (put_slots _ s x parent f u v n)
    ∙ ap (λ k. put_n (put_n k s parent u) s balance b) (put_slots _ s x (child (flip d)) f z v n)
    ∙ ap (λ k. put_n (put_n (put_n k s (child (flip d)) z) s parent u) s balance b) (put_slots m s x (child d) f a v n)

-- links go past whatever each store to their record goes past
pub write_through : (g : List ℕ → List ℕ) (m : List ℕ) (x : ℕ) (d : Dir) (a z u b : ℕ)
    → ((n : List ℕ) (f : Field) (v : ℕ) → put_n (g n) x f v ≡ g (put_n n x f v)) → write (g m) x d a z u b ≡ g (write m x d a z u b)
unfolding write
write_through g m x d a z u b past =
    ap (λ k. put_n (put_n (put_n k x (child (flip d)) z) x parent u) x balance b) (past m (child d) a)
    ∙ ap (λ k. put_n (put_n k x parent u) x balance b) (past _ (child (flip d)) z)
    ∙ ap (λ k. put_n k x balance b) (past _ parent u)
    ∙ past _ balance b

-- the links of two records change places
pub write_write : (m : List ℕ) (s : ℕ) (d : Dir) (a z u b x : ℕ) (e : Dir) (a₂ z₂ u₂ b₂ : ℕ) → (s ≡ x → ⊥)
    → write (write m s d a z u b) x e a₂ z₂ u₂ b₂ ≡ write (write m x e a₂ z₂ u₂ b₂) s d a z u b
write_write m s d a z u b x e a₂ z₂ u₂ b₂ n =
    write_through (λ k. write k s d a z u b) m x e a₂ z₂ u₂ b₂ (λ k f v. write_past k s d a z u b x f v n)

-- ---- stores into a tree's links

pub node_apart : (l : Tree) (s : ℕ) (b : Bal) (r : Tree) (x : ℕ) → times x (node l s b r) ≡ 0 → s ≡ x → ⊥
unfolding times
node_apart l s b r x h e = omega (arith, h, ap one (eq-eqb x s (sym e)))

-- a store to a record that is not in the tree goes past
pub over_past : (t : Tree) (u : ℕ) (m : List ℕ) (x : ℕ) (f : Field) (v : ℕ) → times x t ≡ 0 → put_n (over t u m) x f v ≡ over t u (put_n m x f v)
unfolding over times
over_past leaf u m x f v h = refl
over_past (node l s b r) u m x f v h =
    write_past _ s left (top l) (top r) u (code b) x f v (node_apart l s b r x h)
    ∙ ap (λ k. write k s left (top l) (top r) u (code b)) (over_past l s _ x f v (omega arith) ∙ ap (over l s) (over_past r s m x f v (omega arith)))

-- and so do its links
pub over_write : (t : Tree) (u : ℕ) (m : List ℕ) (x : ℕ) (d : Dir) (a z w b : ℕ) → times x t ≡ 0
    → write (over t u m) x d a z w b ≡ over t u (write m x d a z w b)
over_write t u m x d a z w b h = write_through (over t u) m x d a z w b (λ k f v. over_past t u k x f v h)

-- a tree is hung below another record by one store
pub over_up : (t : Tree) (u v : ℕ) (m : List ℕ) → put_n (over t u m) (top t) parent v ≡ over t v m
unfolding over
over_up leaf u v m = put_none m parent v
over_up (node l s b r) u v m = write_up _ s left (top l) (top r) u (code b) v

-- trees without a common slot change places
pub over_swap : (a c : Tree) (u v : ℕ) (m : List ℕ) → ((s : ℕ) → times s a + times s c ≤ 1) → over a u (over c v m) ≡ over c v (over a u m)
unfolding over times
over_swap leaf c u v m once = refl
over_swap (node l s b r) c u v m once =
    ap (λ k. write k s left (top l) (top r) u (code b))
    (ap (over l s) (over_swap r c s v m (λ x. omega (arith, once x))) ∙ over_swap l c s v _ (λ x. omega (arith, once x)))
    ∙ over_write c v _ s left (top l) (top r) u (code b) (omega (arith, once s, ap one (eq-eqb s s refl)))

-- how often a slot stands in a node, from either side
pub times_branch : (x : ℕ) (d : Dir) (a : Tree) (s : ℕ) (b : Bal) (z : Tree) → times x (branch d a s b z) ≡ times x a + one (eqb x s) + times x z
unfolding times branch
times_branch x left a s b z = refl
times_branch x right a s b z = omega arith

-- a node's links from either side
pub over_branch : (d : Dir) (a : Tree) (s : ℕ) (b : Bal) (z : Tree) (u : ℕ) (m : List ℕ) → ((x : ℕ) → times x a + times x z ≤ 1)
    → over (branch d a s b z) u m ≡ write (over a s (over z s m)) s d (top a) (top z) u (code b)
unfolding over branch
over_branch left a s b z u m once = refl
over_branch right a s b z u m once =
    ap (λ k. write k s left (top z) (top a) u (code b)) (over_swap z a s s m (λ x. omega (arith, once x)))
    ∙ write_turn _ s left (top z) (top a) u (code b)

-- ---- what is left alone

pub length_write : (m : List ℕ) (s : ℕ) (d : Dir) (a z u b : ℕ) → length (write m s d a z u b) ≡ length m
unfolding write
length_write m s d a z u b = length_put _ s balance b ∙ length_put _ s parent u ∙ length_put _ s (child (flip d)) z ∙ length_put m s (child d) a

pub length_over : (t : Tree) (u : ℕ) (m : List ℕ) → length (over t u m) ≡ length m
unfolding over
length_over leaf u m = refl
length_over (node l s b r) u m = length_write _ s left (top l) (top r) u (code b) ∙ length_over l s _ ∙ length_over r s m

pub key_write : (m : List ℕ) (s : ℕ) (d : Dir) (a z u b x : ℕ) → key_n (write m s d a z u b) x ≡ key_n m x
unfolding write
key_write m s d a z u b x = key_put _ s x balance b ∙ key_put _ s x parent u ∙ key_put _ s x (child (flip d)) z ∙ key_put m s x (child d) a

pub key_over : (t : Tree) (u : ℕ) (m : List ℕ) (x : ℕ) → key_n (over t u m) x ≡ key_n m x
unfolding over
key_over leaf u m x = refl
key_over (node l s b r) u m x = key_write _ s left (top l) (top r) u (code b) x ∙ key_over l s _ x ∙ key_over r s m x
