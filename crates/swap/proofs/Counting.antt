-- The climb of `_remove` neither reads nor changes the count: lowered before or after, it is the same. Assumes nothing.
use Rattle.std.proofs.Common.{◌≡◌, ℕ, zero, suc, Bool, true, false, cond, not, ◌||◌, eqb, List, refl, ap, ◌∙◌}
use Rattle.std.proofs.Math.Dec.{eqb-suc-zero}
use Rattle.avl.specs.Tree.{Dir, flip, to_balance}
use Rattle.tree.specs.Node.{child, balance, parent, get_n, put_n, side_n}
use Rattle.tree.specs.Rotate.{Store, Rotated, rooted, point_n, hang_n, single_n, double_n, rotated_to, rotate_n}
use Rattle.tree.specs.Remove.{shrink_n}
use Rattle.tree.specs.declared.node.AvlTree.{AvlTree}
use Rattle.swap.specs.Rust.{fewer}

-- a store whose tree has one record less
abbrev pub lessened : Store → Store
lessened o = (o.0, fewer o.1)

abbrev less_turned : List ℕ × Rotated → List ℕ × Rotated
less_turned o = (o.0, record { tree = fewer o.1.tree; level = o.1.level })

point_less : (m : List ℕ) (t : AvlTree) (x p : ℕ) (e : Dir) → point_n m (fewer t) x p e ≡ lessened (point_n m t x p e)
unfolding point_n fewer rooted
point_less m t x zero e = refl
point_less m t x (suc p) e = simp eqb-suc-zero refl

pub hang_less : (m : List ℕ) (t : AvlTree) (x p : ℕ) (e : Dir) → hang_n m (fewer t) x p e ≡ lessened (hang_n m t x p e)
unfolding hang_n
hang_less m t x p e = point_less _ t x p e

single_less : (m : List ℕ) (t : AvlTree) (x : ℕ) (d : Dir) (p : ℕ) (e : Dir) (c b : ℕ) → single_n m (fewer t) x d p e c b ≡ lessened (single_n m t x d p e c b)
unfolding single_n
single_less m t x d p e c b = hang_less _ t c p e

double_less : (m : List ℕ) (t : AvlTree) (x : ℕ) (d : Dir) (p : ℕ) (e : Dir) (c g : ℕ) → double_n m (fewer t) x d p e c g ≡ lessened (double_n m t x d p e c g)
unfolding double_n
double_less m t x d p e c g = hang_less _ t g p e

cond_turned : (b : Bool) (u v u₂ v₂ : List ℕ × Rotated) → u₂ ≡ less_turned u → v₂ ≡ less_turned v → cond b u₂ v₂ ≡ less_turned (cond b u v)
cond_turned true u v u₂ v₂ f g = f
cond_turned false u v u₂ v₂ f g = g

pub cond_less : (b : Bool) (u v u₂ v₂ : Store) → u₂ ≡ lessened u → v₂ ≡ lessened v → cond b u₂ v₂ ≡ lessened (cond b u v)
cond_less true u v u₂ v₂ f g = f
cond_less false u v u₂ v₂ f g = g

rotate_less : (m : List ℕ) (t : AvlTree) (x : ℕ) (d : Dir) (p : ℕ) (e : Dir) → rotate_n m (fewer t) x d p e ≡ less_turned (rotate_n m t x d p e)
unfolding rotate_n rotated_to
rotate_less m t x d p e =
    let c = get_n m x (child d) in
    let b = get_n m c balance in
    let g = get_n m c (child (flip d)) in
    let l = not (eqb b (to_balance d)) || eqb p 0 in
    cond_turned (eqb b (to_balance (flip d))) (rotated_to (double_n m t x d p e c g) (eqb p 0)) (rotated_to (single_n m t x d p e c b) l)
    (rotated_to (double_n m (fewer t) x d p e c g) (eqb p 0)) (rotated_to (single_n m (fewer t) x d p e c b) l)
    (ap (λ (o : Store). rotated_to o (eqb p 0)) (double_less m t x d p e c g)) (ap (λ (o : Store). rotated_to o l) (single_less m t x d p e c b))

-- a turn that goes on after a rotation
turned : ℕ → ℕ → Dir → List ℕ × Rotated → Store
turned k p e o = let on = shrink_n k o.0 o.1.tree p e in cond o.1.level (o.0, o.1.tree) on

pub shrink_less : (k : ℕ) (m : List ℕ) (t : AvlTree) (x : ℕ) (d : Dir) → shrink_n k m (fewer t) x d ≡ lessened (shrink_n k m t x d)
unfolding shrink_n turned
shrink_less zero m t x d = refl
shrink_less (suc k) m t x d =
    let b = get_n m x balance in
    let p = get_n m x parent in
    let e = side_n m p x in
    let n = put_n m x balance 0 in
    let f = side_n n p x in
    let o = rotate_n m t x (flip d) p e in
    let w = put_n m x balance (to_balance (flip d)) in
    let up = shrink_n k n t p f in
    let up₂ = shrink_n k n (fewer t) p f in
    cond_less (eqb b (to_balance (flip d))) (turned k p e o) (cond (eqb b 0) (w, t) (cond (eqb p 0) (n, t) up))
    (turned k p e (rotate_n m (fewer t) x (flip d) p e)) (cond (eqb b 0) (w, fewer t) (cond (eqb p 0) (n, fewer t) up₂))
    (ap (turned k p e) (rotate_less m t x (flip d) p e)
    ∙ cond_less o.1.level (o.0, o.1.tree) (shrink_n k o.0 o.1.tree p e) (o.0, fewer o.1.tree) (shrink_n k o.0 (fewer o.1.tree) p e)
    refl (shrink_less k o.0 o.1.tree p e))
    (cond_less (eqb b 0) (w, t) (cond (eqb p 0) (n, t) up) (w, fewer t) (cond (eqb p 0) (n, fewer t) up₂) refl
    (cond_less (eqb p 0) (n, t) up (n, fewer t) up₂ refl (shrink_less k n t p f)))
