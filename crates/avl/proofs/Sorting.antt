-- Sorted lists: their parts, and a slot put in or taken out. Over any strict order. Assumes nothing.
use Rattle.std.proofs.Common.{◌≡◌, ℕ, List, [], ◌∷◌, ◌++◌, reverse, sym, refl, subst}
use mathlib.Core.List.{reverse-cons}
use Prim.Native.Nat.{Ordering}
use Rattle.avl.specs.Tree.{left, right}
use Rattle.avl.specs.Search.{three}
use Rattle.avl.specs.Order.{All, nil, more, Sorted, rise, Order, Compares, into, out, sought}

pub all_front : {P : ℕ → Type 0} (a b : List ℕ) → All P (a ++ b) → All P a
all_front [] b h = nil
all_front (x ∷ a) b (more p h) = more p (all_front a b h)

pub all_back : {P : ℕ → Type 0} (a b : List ℕ) → All P (a ++ b) → All P b
all_back [] b h = h
all_back (x ∷ a) b (more p h) = all_back a b h

pub all_append : {P : ℕ → Type 0} {a b : List ℕ} → All P a → All P b → All P (a ++ b)
all_append nil k = k
all_append (more p h) k = more p (all_append h k)

pub all_map : {P Q : ℕ → Type 0} {l : List ℕ} → ((x : ℕ) → P x → Q x) → All P l → All Q l
all_map f nil = nil
all_map f (more {x = x} p h) = more (f x p) (all_map f h)

pub all_head : {P : ℕ → Type 0} {x : ℕ} {l : List ℕ} → All P (x ∷ l) → P x
all_head (more p h) = p

pub all_tail : {P : ℕ → Type 0} {x : ℕ} {l : List ℕ} → All P (x ∷ l) → All P l
all_tail (more p h) = h

-- ---- the parts of a sorted list

pub sorted_front : {R : ℕ → ℕ → Type 0} (a b : List ℕ) → Sorted R (a ++ b) → Sorted R a
sorted_front [] b h = nil
sorted_front (x ∷ a) b (rise p h) = rise (all_front a b p) (sorted_front a b h)

pub sorted_back : {R : ℕ → ℕ → Type 0} (a b : List ℕ) → Sorted R (a ++ b) → Sorted R b
sorted_back [] b h = h
sorted_back (x ∷ a) b (rise p h) = sorted_back a b h

pub sorted_tail : {R : ℕ → ℕ → Type 0} {x : ℕ} {l : List ℕ} → Sorted R (x ∷ l) → Sorted R l
sorted_tail (rise p h) = h

-- what stands before a slot, and after it
pub sorted_below : {R : ℕ → ℕ → Type 0} (a : List ℕ) (x : ℕ) (b : List ℕ) → Sorted R (a ++ (x ∷ b)) → All (λ y. R y x) a
sorted_below [] x b h = nil
sorted_below (y ∷ a) x b (rise p h) = more (all_head (all_back a (x ∷ b) p)) (sorted_below a x b h)

pub sorted_above : {R : ℕ → ℕ → Type 0} (a : List ℕ) (x : ℕ) (b : List ℕ) → Sorted R (a ++ (x ∷ b)) → All (R x) b
sorted_above [] x b (rise p h) = p
sorted_above (y ∷ a) x b (rise p h) = sorted_above a x b h

-- two sorted lists in a row, each slot of the first before each of the second
pub sorted_append : {R : ℕ → ℕ → Type 0} {a b : List ℕ} → Sorted R a → Sorted R b → All (λ x. All (R x) b) a → Sorted R (a ++ b)
sorted_append nil k c = k
sorted_append (rise p h) k (more q c) = rise (all_append p q) (sorted_append h k c)

-- without one of its slots it is sorted still
pub sorted_without : {R : ℕ → ℕ → Type 0} (a : List ℕ) (x : ℕ) (b : List ℕ) → Sorted R (a ++ (x ∷ b)) → Sorted R (a ++ b)
sorted_without [] x b (rise p h) = h
sorted_without (y ∷ a) x b (rise p h) = rise (all_append (all_front a (x ∷ b) p) (all_tail (all_back a (x ∷ b) p))) (sorted_without a x b h)

-- a slot stands once in a sorted list
pub sorted_once : (o : Order) (a : List ℕ) (x : ℕ) (b : List ℕ) → Sorted o.less (a ++ (x ∷ b)) → All (λ y. y ≡ x → ⊥) (a ++ b)
sorted_once o a x b h =
    all_append (all_map (λ y r e. o.irrefl x (subst (λ (w : ℕ). o.less w x) e r)) (sorted_below a x b h))
    (all_map (λ y r e. o.irrefl x (subst (o.less x) e r)) (sorted_above a x b h))

-- ---- backwards

all_reverse : {P : ℕ → Type 0} (l : List ℕ) → All P l → All P (reverse l)
all_reverse [] h = nil
all_reverse {P = P} (x ∷ l) (more p h) = subst (All P) (sym (reverse-cons x l)) (all_append (all_reverse l h) (more p nil))

pub sorted_reverse : {R : ℕ → ℕ → Type 0} (l : List ℕ) → Sorted R l → Sorted (λ x y. R y x) (reverse l)
sorted_reverse [] h = nil
sorted_reverse {R = R} (x ∷ l) (rise p h) =
    subst (Sorted (λ u v. R v u)) (sym (reverse-cons x l))
    (sorted_append (sorted_reverse l h) (rise nil nil) (all_map (λ y r. more r nil) (all_reverse l p)))

-- ---- a slot put in, sought and taken out

module _ (cmp : ℕ → Ordering) where
  -- what the comparison says of every slot of a list
  abbrev pub Says : Ordering → List ℕ → Type 0
  Says o l = All (λ y. cmp y ≡ o) l

  pub into_at : (a : List ℕ) (x : ℕ) (b : List ℕ) → Says Ordering.gt a → Says Ordering.lt b → into cmp x (a ++ b) ≡ a ++ (x ∷ b)
  unfolding into
  into_at [] x [] h k = refl
  into_at [] x (y ∷ b) h (more e k) = rw e
  into_at (y ∷ a) x b (more e h) k = rw (e, into_at a x b h k)

  pub into_met : (a : List ℕ) (x y : ℕ) (b : List ℕ) → Says Ordering.gt a → cmp y ≡ Ordering.eq → into cmp x (a ++ (y ∷ b)) ≡ a ++ (y ∷ b)
  unfolding into
  into_met [] x y b h e = rw e
  into_met (z ∷ a) x y b (more f h) e = rw (f, into_met a x y b h e)

  pub out_at : (a : List ℕ) (x : ℕ) (b : List ℕ) → Says Ordering.gt a → cmp x ≡ Ordering.eq → out cmp (a ++ (x ∷ b)) ≡ a ++ b
  unfolding out
  out_at [] x b h e = rw e
  out_at (y ∷ a) x b (more f h) e = rw (f, out_at a x b h e)

  pub out_none : (a b : List ℕ) → Says Ordering.gt a → Says Ordering.lt b → out cmp (a ++ b) ≡ a ++ b
  unfolding out
  out_none [] [] h k = refl
  out_none [] (y ∷ b) h (more e k) = rw e
  out_none (y ∷ a) b (more f h) k = rw (f, out_none a b h k)

  pub sought_at : (a : List ℕ) (x : ℕ) (b : List ℕ) → Says Ordering.gt a → cmp x ≡ Ordering.eq → sought cmp (a ++ (x ∷ b)) ≡ x
  unfolding sought
  sought_at [] x b h e = rw e
  sought_at (y ∷ a) x b (more f h) e = rw f (sought_at a x b h e)

  pub sought_none : (a b : List ℕ) → Says Ordering.gt a → Says Ordering.lt b → sought cmp (a ++ b) ≡ 0
  unfolding sought
  sought_none [] [] h k = refl
  sought_none [] (y ∷ b) h (more e k) = rw e
  sought_none (y ∷ a) b (more f h) k = rw f (sought_none a b h k)

  all_into : {P : ℕ → Type 0} (x : ℕ) (l : List ℕ) → P x → All P l → All P (into cmp x l)
  unfolding into
  all_into x [] p h = more p nil
  all_into {P = P} x (y ∷ l) p (more q h) = go (cmp y) (all_into x l p h)
    where
      go : (o : Ordering) → All P (into cmp x l) → All P (three o (x ∷ y ∷ l) (y ∷ l) (y ∷ into cmp x l))
      go Ordering.lt i = more p (more q h)
      go Ordering.eq i = more q h
      go Ordering.gt i = more q i

  all_out : {P : ℕ → Type 0} (l : List ℕ) → All P l → All P (out cmp l)
  unfolding out
  all_out [] h = nil
  all_out {P = P} (y ∷ l) (more q h) = go (cmp y) (all_out l h)
    where
      go : (o : Ordering) → All P (out cmp l) → All P (three o (y ∷ l) l (y ∷ out cmp l))
      go Ordering.lt i = more q h
      go Ordering.eq i = h
      go Ordering.gt i = more q i

  -- a slot put in by its comparison keeps a list sorted, and so does one taken out
  pub sorted_into : (o : Order) (x : ℕ) → Compares o x cmp → (l : List ℕ) → Sorted o.less l → Sorted o.less (into cmp x l)
  unfolding into
  sorted_into o x c [] h = rise nil nil
  sorted_into o x c (y ∷ l) (rise p h) = go (cmp y) refl (sorted_into o x c l h)
    where
      go : (q : Ordering) → cmp y ≡ q → Sorted o.less (into cmp x l) → Sorted o.less (three q (x ∷ y ∷ l) (y ∷ l) (y ∷ into cmp x l))
      go Ordering.lt e i =
          let s = c.side left y e in
          rise (more s (all_map (λ z r. o.trans x y z s r) p)) (rise p h)
      go Ordering.eq e i = rise p h
      go Ordering.gt e i = rise (all_into x l (c.side right y e) p) i

  pub sorted_out : {R : ℕ → ℕ → Type 0} (l : List ℕ) → Sorted R l → Sorted R (out cmp l)
  unfolding out
  sorted_out [] h = nil
  sorted_out {R = R} (y ∷ l) (rise p h) = go (cmp y) (sorted_out l h)
    where
      go : (q : Ordering) → Sorted R (out cmp l) → Sorted R (three q (y ∷ l) l (y ∷ out cmp l))
      go Ordering.lt i = rise p h
      go Ordering.eq i = h
      go Ordering.gt i = rise (all_out l p) i
