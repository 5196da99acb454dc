-- The stores of the two rotations give the links of the rotated tree. Assumes nothing.
use Rattle.std.proofs.Common.{◌≡◌, ℕ, ◌+◌, ◌≤◌, cond, not, eqb, List, sym, ap, ◌∙◌, arith}
use Rattle.avl.specs.Tree.{Dir, flip, to_balance, Bal, even, code, Tree, branch, top}
use Rattle.avl.specs.Way.{Way, step, above}
use Rattle.tree.specs.Node.{Field, child, parent, balance, get_n, put_n, put_both}
use Rattle.tree.specs.Rotate.{xor, single_n, double_n}
use Rattle.tree.specs.Held.{write, over, one, times, room, Roomy}
use Rattle.tree.specs.declared.node.AvlTree.{AvlTree}
use Rattle.tree.proofs.Links.{write_bal, write_up, write_near, write_far, write_past, write_write, over_past, over_write, over_up, over_branch, times_branch}
use Rattle.tree.proofs.Ways.{times_w, around, at, Placed, room_low, here, apart, placed_near, placed_far, around_past, at_up, at_far}
use Rattle.tree.proofs.Places.{top_full, at_top, top_far, top_near, top_bal, hung, pointed, hang_at}

-- a store at a place, past the way above it
pub pass : (p : Way) (y : ℕ) (i j : List ℕ) (x : ℕ) (f : Field) (v : ℕ) → times_w x p ≡ 0 → put_n i x f v ≡ j → put_n (around p y i) x f v ≡ around p y j
pass p y i j x f v h e = around_past p y i x f v h ∙ ap (around p y) e

-- a store to another record, past the links of s
pub under : (n n₂ : List ℕ) (s : ℕ) (d : Dir) (a z u b x : ℕ) (f : Field) (v : ℕ) → (s ≡ x → ⊥) → put_n n x f v ≡ n₂
    → put_n (write n s d a z u b) x f v ≡ write n₂ s d a z u b
under n n₂ s d a z u b x f v h e = write_past n s d a z u b x f v h ∙ ap (λ k. write k s d a z u b) e

-- ---- single

module _ {N : ℕ} (p : Way) (d : Dir) (a : Tree) (c : ℕ) (b : Bal) (w : Tree) (s : ℕ) (bs : Bal) (z : Tree) (m : List ℕ) (k : AvlTree) (roomy : Roomy N m)
    (h : Placed N p (branch d (branch d a c b w) s bs z)) (b₁ b₂ : Bal) where
  -- the tree before, and after
  abbrev before₁ : Tree
  before₁ = branch d (branch d a c b w) s bs z

  abbrev after₁ : Tree
  after₁ = branch d a c b₂ (branch d w s b₁ z)

  all₁ : (x : ℕ) → times x a + one (eqb x c) + times x w + one (eqb x s) + times x z + times_w x p ≤ room N x
  all₁ x = omega (arith, h.once x, times_branch x d (branch d a c b w) s bs z, times_branch x d a c b w)

  placed₁ : Placed N p after₁
  placed₁ = record { once = λ x. omega (arith, all₁ x, times_branch x d a c b₂ (branch d w s b₁ z), times_branch x d w s b₁ z) }

  -- the parts, with w below u
  abbrev parts₁ : ℕ → List ℕ
  parts₁ u = over a c (over w u (over z s m))

  -- the two records, with their changing fields
  abbrev two : ℕ → ℕ → ℕ → ℕ → ℕ → ℕ → ℕ → List ℕ
  two u cw cu cb sc su sb = write (write (parts₁ u) c d (top a) cw cu cb) s d sc (top z) su sb

  begin₁ : at p before₁ m ≡ around p s (two c (top w) s (code b) c (above p) (code bs))
  unfolding branch
  begin₁ =
      at_top p d (branch d a c b w) s bs z m roomy h
      ∙ ap (λ n. around p s (write n s d c (top z) (above p) (code bs)))
      (over_branch d a c b w s (over z s m) (λ x. omega (arith, all₁ x, room_low N x)))

  end₁ : two s s s (code b₂) (top w) c (code b₁) ≡ over after₁ s m
  unfolding branch
  end₁ =
      let s_c : s ≡ c → ⊥ = apart c s (omega (arith, all₁ c, here c, room_low N c)) in
      sym (over_branch d a c b₂ (branch d w s b₁ z) s m (λ x. omega (arith, all₁ x, times_branch x d w s b₁ z, room_low N x))
      ∙ ap (λ n. write (over a c n) c d (top a) s s (code b₂)) (over_branch d w s b₁ z c m (λ x. omega (arith, all₁ x, room_low N x)))
      ∙ ap (λ n. write n c d (top a) s s (code b₂))
      (sym (over_write a c (over w s (over z s m)) s d (top w) (top z) c (code b₁) (omega (arith, all₁ s, here s, room_low N s))))
      ∙ write_write (parts₁ s) s d (top w) (top z) c (code b₁) c d (top a) s s (code b₂) s_c)

  inner₁ : get_n (at p before₁ m) c (child (flip d)) ≡ top w
  inner₁ =
      ap (λ n. get_n n c (child (flip d))) (sym (at_up d s bs z p (branch d a c b w) m h))
      ∙ top_far (step d s bs z p) d a c b w m roomy (placed_near d s bs z p (branch d a c b w) h)

  -- the six stores, one by one
  stores₁ : (v₁ v₂ : ℕ) → let i = around p s in let u = above p in let B = code b in let C = code bs in
      (put_n (i (two c (top w) s B c u C)) s balance v₁ ≡ i (two c (top w) s B c u v₁))
      × (put_n (i (two c (top w) s B c u v₁)) c balance v₂ ≡ i (two c (top w) s v₂ c u v₁))
      × (put_n (i (two c (top w) s v₂ c u v₁)) s parent c ≡ i (two c (top w) s v₂ c c v₁))
      × (put_n (i (two c (top w) s v₂ c c v₁)) c (child (flip d)) s ≡ i (two c s s v₂ c c v₁))
      × (put_n (i (two c s s v₂ c c v₁)) (top w) parent s ≡ i (two s s s v₂ c c v₁))
      × (put_n (i (two s s s v₂ c c v₁)) s (child d) (top w) ≡ i (two s s s v₂ (top w) c v₁))
  stores₁ v₁ v₂ =
      let u = above p in
      let x = top w in
      let s_p : times_w s p ≡ 0 = omega (arith, all₁ s, here s, room_low N s) in
      let c_p : times_w c p ≡ 0 = omega (arith, all₁ c, here c, room_low N c) in
      let w_p : times_w x p ≡ 0 = omega (arith, all₁ x, top_full N w) in
      let w_a : times x a ≡ 0 = omega (arith, all₁ x, top_full N w) in
      let s_c : s ≡ c → ⊥ = apart c s (omega (arith, all₁ c, here c, room_low N c)) in
      let s_w : s ≡ x → ⊥ = apart x s (omega (arith, all₁ x, top_full N w)) in
      let c_w : c ≡ x → ⊥ = apart x c (omega (arith, all₁ x, top_full N w)) in (
        pass p s _ _ s balance v₁ s_p (write_bal _ s d c (top z) u (code bs) v₁),
        pass p s _ _ c balance v₂ c_p (under _ _ s d c (top z) u v₁ c balance v₂ s_c (write_bal _ c d (top a) x s (code b) v₂)),
        pass p s _ _ s parent c s_p (write_up _ s d c (top z) u v₁ c),
        pass p s _ _ c (child (flip d)) s c_p (under _ _ s d c (top z) c v₁ c (child (flip d)) s s_c (write_far _ c d (top a) x s v₂ s)),
        pass p s _ _ x parent s w_p
            (under _ _ s d c (top z) c v₁ x parent s s_w
            (under _ _ c d (top a) s s v₂ x parent s c_w (over_past a c _ x parent s w_a ∙ ap (over a c) (over_up w c s (over z s m))))),
        pass p s _ _ s (child d) x s_p (write_near _ s d c (top z) c v₁ x),
      )

  pub single_at : xor (code b) (to_balance d) ≡ code b₁ → cond (not (eqb (code b) (to_balance d))) (to_balance (flip d)) 0 ≡ code b₂
      → single_n (at p before₁ m) k s d (above p) (hung p) c (code b) ≡ (at p after₁ m, pointed p k c)
  unfolding single_n put_both branch
  single_at q₁ q₂ =
      let e = stores₁ (code b₁) (code b₂) in
      let all = ap (λ n. put_n n s balance (code b₁)) begin₁ ∙ e.0 in
      simp (q₁, q₂, inner₁, all, e.1, e.2, e.3, e.4, e.5, end₁) (hang_at p s after₁ s m k placed₁)

-- ---- double

module _ {N : ℕ} (p : Way) (d : Dir) (a : Tree) (c : ℕ) (bc : Bal) (u : Tree) (g : ℕ) (b : Bal) (v : Tree) (s : ℕ) (bs : Bal) (z : Tree) (m : List ℕ) (k : AvlTree)
    (roomy : Roomy N m) (h : Placed N p (branch d (branch d a c bc (branch d u g b v)) s bs z)) (b₁ b₂ : Bal) where
  abbrev before₂ : Tree
  before₂ = branch d (branch d a c bc (branch d u g b v)) s bs z

  abbrev after₂ : Tree
  after₂ = branch d (branch d a c b₂ u) g even (branch d v s b₁ z)

  all₂ : (x : ℕ) → times x a + one (eqb x c) + times x u + one (eqb x g) + times x v + one (eqb x s) + times x z + times_w x p ≤ room N x
  all₂ x =
      omega
      (arith, h.once x, times_branch x d (branch d a c bc (branch d u g b v)) s bs z, times_branch x d a c bc (branch d u g b v), times_branch x d u g b v)

  placed₂ : Placed N p after₂
  placed₂ =
      record {
        once = λ x. omega (arith, all₂ x, times_branch x d (branch d a c b₂ u) g even (branch d v s b₁ z), times_branch x d a c b₂ u, times_branch x d v s b₁ z);
      }

  -- the parts, with u and v below pu and pv
  abbrev parts₂ : ℕ → ℕ → List ℕ
  parts₂ pu pv = over a c (over u pu (over v pv (over z s m)))

  -- the three records, with their changing fields
  abbrev three : List ℕ → ℕ → ℕ → ℕ → ℕ → ℕ → ℕ → ℕ → ℕ → ℕ → ℕ → List ℕ
  three n gn gf gu gb cf cu cb sn su sb = write (write (write n g d gn gf gu gb) c d (top a) cf cu cb) s d sn (top z) su sb

  s_c : s ≡ c → ⊥
  s_c = apart c s (omega (arith, all₂ c, here c, room_low N c))

  s_g : s ≡ g → ⊥
  s_g = apart g s (omega (arith, all₂ g, here g, room_low N g))

  c_g : c ≡ g → ⊥
  c_g = apart g c (omega (arith, all₂ g, here g, room_low N g))

  begin₂ : at p before₂ m ≡ around p s (three (parts₂ g g) (top u) (top v) c (code b) g s (code bc) c (above p) (code bs))
  unfolding branch
  begin₂ =
      at_top p d (branch d a c bc (branch d u g b v)) s bs z m roomy h
      ∙ ap (λ n. around p s (write n s d c (top z) (above p) (code bs)))
      (over_branch d a c bc (branch d u g b v) s (over z s m) (λ x. omega (arith, all₂ x, times_branch x d u g b v, room_low N x))
      ∙ ap (λ n. write n c d (top a) g s (code bc))
      (ap (over a c) (over_branch d u g b v c (over z s m) (λ x. omega (arith, all₂ x, room_low N x)))
      ∙ sym (over_write a c _ g d (top u) (top v) c (code b) (omega (arith, all₂ g, here g, room_low N g)))))

  end₂ : three (parts₂ c s) c s c 0 (top u) g (code b₂) (top v) g (code b₁) ≡ over after₂ c m
  unfolding branch
  end₂ =
      let s_a : times s a ≡ 0 = omega (arith, all₂ s, here s, room_low N s) in
      let s_u : times s u ≡ 0 = omega (arith, all₂ s, here s, room_low N s) in
      sym (over_branch d (branch d a c b₂ u) g even (branch d v s b₁ z) c m
      (λ x. omega (arith, all₂ x, times_branch x d a c b₂ u, times_branch x d v s b₁ z, room_low N x))
      ∙ ap (λ n. write n g d c s c 0)
      (over_branch d a c b₂ u g _ (λ x. omega (arith, all₂ x, room_low N x))
      ∙ ap (λ n. write n c d (top a) (top u) g (code b₂))
      (ap (λ n. over a c (over u c n)) (over_branch d v s b₁ z g m (λ x. omega (arith, all₂ x, room_low N x)))
      ∙ ap (over a c) (sym (over_write u c _ s d (top v) (top z) g (code b₁) s_u))
      ∙ sym (over_write a c _ s d (top v) (top z) g (code b₁) s_a))
      ∙ write_write _ s d (top v) (top z) g (code b₁) c d (top a) (top u) g (code b₂) s_c)
      ∙ write_write _ s d (top v) (top z) g (code b₁) g d c s c 0 s_g
      ∙ ap (λ n. write n s d (top v) (top z) g (code b₁)) (write_write _ c d (top a) (top u) g (code b₂) g d c s c 0 c_g))

  -- what is read of g
  inner₂ : (get_n (at p before₂ m) c (child (flip d)) ≡ g) × (get_n (at p before₂ m) g (child d) ≡ top u) × (get_n (at p before₂ m) g (child (flip d)) ≡ top v)
      × (get_n (at p before₂ m) g balance ≡ code b)
  unfolding branch
  inner₂ =
      let q = step d s bs z p in
      let hc = placed_near d s bs z p (branch d a c bc (branch d u g b v)) h in
      let hg = placed_far d c bc (branch d u g b v) q a hc in
      let down = sym (at_up d s bs z p (branch d a c bc (branch d u g b v)) m h) in
      let deep = down ∙ sym (at_far d c bc a q (branch d u g b v) m hc) in (
        ap (λ n. get_n n c (child (flip d))) down ∙ top_far q d a c bc (branch d u g b v) m roomy hc,
        ap (λ n. get_n n g (child d)) deep ∙ top_near _ d u g b v m roomy hg,
        ap (λ n. get_n n g (child (flip d))) deep ∙ top_far _ d u g b v m roomy hg,
        ap (λ n. get_n n g balance) deep ∙ top_bal _ d u g b v m roomy hg,
      )

  -- the eleven stores, one by one
  stores₂ : (v₁ v₂ : ℕ) → let i = around p s in let R = top u in let Q = top v in let P = above p in let B = code b in let C = code bc in let S = code bs in
      (put_n (i (three (parts₂ g g) R Q c B g s C c P S)) Q parent s ≡ i (three (parts₂ g s) R Q c B g s C c P S))
      × (put_n (i (three (parts₂ g s) R Q c B g s C c P S)) s (child d) Q ≡ i (three (parts₂ g s) R Q c B g s C Q P S))
      × (put_n (i (three (parts₂ g s) R Q c B g s C Q P S)) s balance v₁ ≡ i (three (parts₂ g s) R Q c B g s C Q P v₁))
      × (put_n (i (three (parts₂ g s) R Q c B g s C Q P v₁)) R parent c ≡ i (three (parts₂ c s) R Q c B g s C Q P v₁))
      × (put_n (i (three (parts₂ c s) R Q c B g s C Q P v₁)) c (child (flip d)) R ≡ i (three (parts₂ c s) R Q c B R s C Q P v₁))
      × (put_n (i (three (parts₂ c s) R Q c B R s C Q P v₁)) c balance v₂ ≡ i (three (parts₂ c s) R Q c B R s v₂ Q P v₁))
      × (put_n (i (three (parts₂ c s) R Q c B R s v₂ Q P v₁)) g balance 0 ≡ i (three (parts₂ c s) R Q c 0 R s v₂ Q P v₁))
      × (put_n (i (three (parts₂ c s) R Q c 0 R s v₂ Q P v₁)) c parent g ≡ i (three (parts₂ c s) R Q c 0 R g v₂ Q P v₁))
      × (put_n (i (three (parts₂ c s) R Q c 0 R g v₂ Q P v₁)) g (child d) c ≡ i (three (parts₂ c s) c Q c 0 R g v₂ Q P v₁))
      × (put_n (i (three (parts₂ c s) c Q c 0 R g v₂ Q P v₁)) s parent g ≡ i (three (parts₂ c s) c Q c 0 R g v₂ Q g v₁))
      × (put_n (i (three (parts₂ c s) c Q c 0 R g v₂ Q g v₁)) g (child (flip d)) s ≡ i (three (parts₂ c s) c s c 0 R g v₂ Q g v₁))
  stores₂ v₁ v₂ =
      let R = top u in
      let Q = top v in
      let P = above p in
      let A = top a in
      let Z = top z in
      let s_p : times_w s p ≡ 0 = omega (arith, all₂ s, here s, room_low N s) in
      let c_p : times_w c p ≡ 0 = omega (arith, all₂ c, here c, room_low N c) in
      let g_p : times_w g p ≡ 0 = omega (arith, all₂ g, here g, room_low N g) in
      let R_p : times_w R p ≡ 0 = omega (arith, all₂ R, top_full N u) in
      let Q_p : times_w Q p ≡ 0 = omega (arith, all₂ Q, top_full N v) in
      let R_a : times R a ≡ 0 = omega (arith, all₂ R, top_full N u) in
      let Q_a : times Q a ≡ 0 = omega (arith, all₂ Q, top_full N v) in
      let Q_u : times Q u ≡ 0 = omega (arith, all₂ Q, top_full N v) in
      let s_R : s ≡ R → ⊥ = apart R s (omega (arith, all₂ R, top_full N u)) in
      let c_R : c ≡ R → ⊥ = apart R c (omega (arith, all₂ R, top_full N u)) in
      let g_R : g ≡ R → ⊥ = apart R g (omega (arith, all₂ R, top_full N u)) in
      let s_Q : s ≡ Q → ⊥ = apart Q s (omega (arith, all₂ Q, top_full N v)) in
      let c_Q : c ≡ Q → ⊥ = apart Q c (omega (arith, all₂ Q, top_full N v)) in
      let g_Q : g ≡ Q → ⊥ = apart Q g (omega (arith, all₂ Q, top_full N v)) in (
        pass p s _ _ Q parent s Q_p
            (under _ _ s d c Z P (code bs) Q parent s s_Q
            (under _ _ c d A g s (code bc) Q parent s c_Q
            (under _ _ g d R Q c (code b) Q parent s g_Q
            (over_past a c _ Q parent s Q_a ∙ ap (over a c) (over_past u g _ Q parent s Q_u ∙ ap (over u g) (over_up v g s (over z s m))))))),
        pass p s _ _ s (child d) Q s_p (write_near _ s d c Z P (code bs) Q),
        pass p s _ _ s balance v₁ s_p (write_bal _ s d Q Z P (code bs) v₁),
        pass p s _ _ R parent c R_p
            (under _ _ s d Q Z P v₁ R parent c s_R
            (under _ _ c d A g s (code bc) R parent c c_R
            (under _ _ g d R Q c (code b) R parent c g_R (over_past a c _ R parent c R_a ∙ ap (over a c) (over_up u g c _))))),
        pass p s _ _ c (child (flip d)) R c_p (under _ _ s d Q Z P v₁ c (child (flip d)) R s_c (write_far _ c d A g s (code bc) R)),
        pass p s _ _ c balance v₂ c_p (under _ _ s d Q Z P v₁ c balance v₂ s_c (write_bal _ c d A R s (code bc) v₂)),
        pass p s _ _ g balance 0 g_p
            (under _ _ s d Q Z P v₁ g balance 0 s_g (under _ _ c d A R s v₂ g balance 0 c_g (write_bal _ g d R Q c (code b) 0))),
        pass p s _ _ c parent g c_p (under _ _ s d Q Z P v₁ c parent g s_c (write_up _ c d A R s v₂ g)),
        pass p s _ _ g (child d) c g_p
            (under _ _ s d Q Z P v₁ g (child d) c s_g (under _ _ c d A R g v₂ g (child d) c c_g (write_near _ g d R Q c 0 c))),
        pass p s _ _ s parent g s_p (write_up _ s d Q Z P v₁ g),
        pass p s _ _ g (child (flip d)) s g_p
            (under _ _ s d Q Z g v₁ g (child (flip d)) s s_g (under _ _ c d A R g v₂ g (child (flip d)) s c_g (write_far _ g d c Q c 0 s))),
      )

  pub double_at : cond (eqb (code b) (to_balance d)) (to_balance (flip d)) 0 ≡ code b₁ → cond (eqb (code b) (to_balance (flip d))) (to_balance d) 0 ≡ code b₂
      → double_n (at p before₂ m) k s d (above p) (hung p) c g ≡ (at p after₂ m, pointed p k g)
  unfolding double_n put_both branch
  double_at q₁ q₂ =
      let e = stores₂ (code b₁) (code b₂) in
      let r = inner₂ in
      let all = ap (λ n. put_n n (top v) parent s) begin₂ ∙ e.0 in
      simp (r.1, r.2, r.3, q₁, q₂, all, e.1, e.2, e.3, e.4, e.5, e.6, e.7, e.8, e.9, e.10, end₂) (hang_at p s after₂ c m k placed₂)
