-- Lists of slots in the order of their tree: what is first, what follows, and what a key beside a slot says of the others. Assumes nothing.
use Rattle.std.proofs.Common.{◌≡◌, ℕ, ◌≤◌, Bool, true, false, cond, eqb, List, [], ◌∷◌, ◌++◌, reverse, sym, refl, ap, ◌∙◌, subst, append-nil, arith, eqb-true}
use Rattle.std.proofs.lemmas.List.{reverse-append}
use mathlib.Core.List.{reverse-cons}
use Prim.Native.Nat.{Ordering}
use Rattle.avl.specs.Tree.{Dir, left, right, flip, Tree, list}
use Rattle.avl.specs.Search.{toward}
use Rattle.avl.specs.Order.{All, nil, more, Sorted, rise, Order, From, Follows, into, first}
use Rattle.avl.proofs.Lists.{list_flip}
use Rattle.avl.proofs.Sorting.{all_append, all_map, Says, into_at}
use Rattle.meaning.specs.Layout.{bit, count, following}
use Rattle.meaning.proofs.Facts.{test, count_append}

-- ---- all of a list

module _ {P : ℕ → Type 0} where
  -- What holds of all of a list holds of a slot that it counts.
  pub counted : (x : ℕ) (l : List ℕ) → All P l → 1 ≤ count (eqb x) l → P x
  unfolding count
  counted x [] a h = absurd (omega arith)
  counted x (y ∷ l) (more p a) h =
      test (eqb x y) (λ t. subst P (sym (eqb-true x y t)) p) (λ t. counted x l a (omega (arith, ap bit t)))

  -- It holds of the first slot, if there is one.
  pub all_first : (l : List ℕ) → All P l → (first l ≡ 0 → ⊥) → P (first l)
  all_first [] a n = absurd (n refl)
  all_first (x ∷ l) (more p a) n = p

  -- It holds of the slot that follows another, if there is one.
  pub all_following : (x : ℕ) (l : List ℕ) → All P l → (following x l ≡ 0 → ⊥) → P (following x l)
  unfolding following
  all_following x [] a n = absurd (n refl)
  all_following x (y ∷ l) (more p a) n = go (eqb x y) (all_following x l a) n
    where
      go : (b : Bool) → ((following x l ≡ 0 → ⊥) → P (following x l)) → (cond b (first l) (following x l) ≡ 0 → ⊥)
          → P (cond b (first l) (following x l))
      go true f = all_first l a
      go false f = f

  pub all_reverse : (l : List ℕ) → All P l → All P (reverse l)
  all_reverse [] h = nil
  all_reverse (x ∷ l) (more p h) = subst (All P) (sym (reverse-cons x l)) (all_append (all_reverse l h) (more p nil))

  -- What holds of all of a tree holds of it listed from the other side.
  pub all_flip : (d : Dir) (t : Tree) → All P (list d t) → All P (list (flip d) t)
  all_flip d t a = subst (All P) (sym (list_flip d t)) (all_reverse (list d t) a)

  -- So it holds of it listed from any side.
  pub all_from : (d : Dir) (t : Tree) → All P (list left t) → All P (list d t)
  all_from left t a = a
  all_from right t a = all_flip left t a

  -- And what holds of it listed from any side holds of it in order.
  pub all_left : (d : Dir) (t : Tree) → All P (list d t) → All P (list left t)
  all_left left t a = a
  all_left right t a = all_flip right t a

count_reverse : (f : ℕ → Bool) (l : List ℕ) → count f (reverse l) ≡ count f l
unfolding count
count_reverse f [] = refl
count_reverse f (x ∷ l) = ap (count f) (reverse-cons x l) ∙ count_append f (reverse l) (x ∷ []) ∙ omega (arith, count_reverse f l)

-- A tree listed from any side has the same slots.
pub count_from_lem : (f : ℕ → Bool) (d : Dir) (t : Tree) → count f (list d t) ≡ count f (list left t)
count_from_lem f left t = refl
count_from_lem f right t = ap (count f) (list_flip left t) ∙ count_reverse f (list left t)

-- ---- what is sought, and the slots around it

from_flip : (R : ℕ → ℕ → Type 0) (d : Dir) (x y : ℕ) → From (flip d) R y x → From d R x y
from_flip R left x y h = h
from_flip R right x y h = h

-- what is sought is none of the list
abbrev pub Apart : (ℕ → Ordering) → List ℕ → Type 0
Apart cmp l = All (λ y. cmp y ≡ Ordering.eq → ⊥) l

aside : (e : Dir) (q : Ordering) → q ≡ toward e → q ≡ Ordering.eq → ⊥
aside left q g h = let z : ◌≡◌ {A = ℕ} 0 1 = cc in omega arith
aside right q g h = let z : ◌≡◌ {A = ℕ} 0 1 = cc in omega arith

-- What lies on one side of all of a list is none of it.
pub says_apart : (cmp : ℕ → Ordering) (e : Dir) (l : List ℕ) → Says cmp (toward e) l → Apart cmp l
says_apart cmp e l a = all_map (λ y h. aside e (cmp y) h) a

-- In a sorted list the slot that follows another comes after it.
pub following_after : {R : ℕ → ℕ → Type 0} (x : ℕ) (l : List ℕ) → Sorted R l → 1 ≤ count (eqb x) l → (following x l ≡ 0 → ⊥) → R x (following x l)
unfolding count following
following_after x [] s c n = absurd (n refl)
following_after {R = R} x (y ∷ l) (rise a s) c n = go (eqb x y) refl (following_after x l s) n
  where
    go : (b : Bool) → eqb x y ≡ b → (1 ≤ count (eqb x) l → (following x l ≡ 0 → ⊥) → R x (following x l)) → (cond b (first l) (following x l) ≡ 0 → ⊥)
        → R x (cond b (first l) (following x l))
    go true t f k = subst (λ (z : ℕ). R z (first l)) (sym (eqb-true x y t)) (all_first l a k)
    go false t f k = f (omega (arith, ap bit t)) k

module _ (o : Order) (cmp : ℕ → Ordering) (by_order : Follows o cmp) where
  -- What lies before the first slot of a list from side e, if there is one, lies before all of it.
  pub first_says : (e : Dir) (l : List ℕ) → Sorted (From e o.less) l → All (λ y. y ≡ 0 → ⊥) l → ((first l ≡ 0 → ⊥) → cmp (first l) ≡ toward e)
      → Says cmp (toward e) l
  first_says e [] s a h = nil
  first_says e (x ∷ l) (rise p s) (more n a) h = more (h n) (all_map (λ y r. by_order.on e x y r (h n)) p)

  -- What lies behind a slot and before the one that follows it, if there is one, is none of the list.
  pub between_apart : (d : Dir) (x : ℕ) (l : List ℕ) → Sorted (From (flip d) o.less) l → All (λ y. y ≡ 0 → ⊥) l → 1 ≤ count (eqb x) l
      → cmp x ≡ toward d → ((following x l ≡ 0 → ⊥) → cmp (following x l) ≡ toward (flip d)) → Apart cmp l
  unfolding count following
  between_apart d x [] s a c h k = nil
  between_apart d x (y ∷ l) (rise p s) (more n a) c h k = go (eqb x y) refl (λ i. between_apart d x l s a i h) k
    where
      go : (b : Bool) → eqb x y ≡ b → (1 ≤ count (eqb x) l → ((following x l ≡ 0 → ⊥) → cmp (following x l) ≡ toward (flip d)) → Apart cmp l)
          → ((cond b (first l) (following x l) ≡ 0 → ⊥) → cmp (cond b (first l) (following x l)) ≡ toward (flip d)) → Apart cmp (y ∷ l)
      go true t f g =
          more (aside d (cmp y) (subst (λ (z : ℕ). cmp z ≡ toward d) (eqb-true x y t) h))
          (says_apart cmp (flip d) l (first_says (flip d) l s a g))
      go false t f g =
          let there : 1 ≤ count (eqb x) l = omega (arith, ap bit t) in
          let r : From (flip d) o.less y x = counted x l p there in
          more (aside d (cmp y) (by_order.on d x y (from_flip o.less d x y r) h)) (f there g)

-- What is put in before all of a tree, seen from side e, is the first of it from there.
pub into_first : (cmp : ℕ → Ordering) (e : Dir) (t u : Tree) (x : ℕ) → Says cmp (toward e) (list left t) → list left u ≡ into cmp x (list left t)
    → x ≡ first (list e u)
into_first cmp left t u x a h = sym (ap first (h ∙ into_at cmp [] x (list left t) nil a))
into_first cmp right t u x a h =
    let l = list left t in
    let i : list left u ≡ l ++ (x ∷ []) = h ∙ ap (into cmp x) (sym (append-nil l)) ∙ into_at cmp l x [] a nil in
    sym (ap first (list_flip left u ∙ ap reverse i ∙ reverse-append l (x ∷ [])))
