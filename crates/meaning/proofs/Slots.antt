-- Lists of slots: counts, where a slot stands, and what the keys around a slot say of putting it in and taking it out. Assumes nothing.
use Rattle.std.proofs.Common.{◌≡◌, ℕ, ◌+◌, ◌<◌, ◌≤◌, eqb, List, [], ◌∷◌, ◌++◌, sym, refl, ap, subst, arith, eqb-true}
use Prim.Native.Nat.{Ordering}
use Rattle.avl.specs.Tree.{left, right, Tree, list}
use Rattle.avl.specs.Search.{add, remove_by_key}
use Rattle.avl.specs.Order.{All, nil, more, Sorted, rise, Compares, into, out, LessKey, by_key}
use Rattle.avl.proofs.Answers.{add_into, remove_out}
use Rattle.avl.proofs.Keys.{Told, smaller, equal, greater, told, side_on, key_same, keys, key_exact, key_compares}
use Rattle.avl.proofs.Sorting.{all_front, all_back, all_append, all_map, sorted_below, sorted_above, into_at, out_at, sorted_into}
use Rattle.meaning.specs.Layout.{bit, count}
use Rattle.meaning.proofs.Facts.{test, count_append}

-- ---- counts

-- one slot more between two parts
pub count_between : (y : ℕ) (a : List ℕ) (x : ℕ) (b : List ℕ) → count (eqb y) (a ++ (x ∷ b)) ≡ bit (eqb y x) + count (eqb y) (a ++ b)
unfolding count
count_between y a x b = omega (arith, count_append (eqb y) a (x ∷ b), count_append (eqb y) a b)

-- a slot of a list, between two parts of it
pub record Stands (x : ℕ) (l : List ℕ) : Type 0 where
  pub low : List ℕ
  pub high : List ℕ
  pub split : l ≡ low ++ (x ∷ high)

-- so stands whatever is counted
pub stands : (x : ℕ) (l : List ℕ) → 1 ≤ count (eqb x) l → Stands x l
unfolding count
stands x [] h = absurd (omega arith)
stands x (y ∷ l) h =
    test (eqb x y) (λ t. record { low = []; high = l; split = ap (λ (z : ℕ). z ∷ l) (sym (eqb-true x y t)) })
    (λ t. further (stands x l (omega (arith, ap bit t))))
  where
    further : Stands x l → Stands x (y ∷ l)
    further s = record { low = y ∷ s.low; high = s.high; split = ap (λ (z : List ℕ). y ∷ z) s.split }

-- what follows of a slot from two things that hold of all
pub all_both : {P Q R : ℕ → Type 0} {l : List ℕ} → ((y : ℕ) → P y → Q y → R y) → All P l → All Q l → All R l
all_both f nil nil = nil
all_both f (more {x = y} p h) (more q k) = more (f y p q) (all_both f h k)

-- ---- keys

-- two keyings that agree on every slot of a list
abbrev pub SameKeys : (ℕ → ℕ) → (ℕ → ℕ) → List ℕ → Type 0
SameKeys key other l = All (λ y. other y ≡ key y) l

-- a list sorted by the one is sorted by the other
pub sorted_keys : {key other : ℕ → ℕ} {l : List ℕ} → SameKeys key other l → Sorted (LessKey key) l → Sorted (LessKey other) l
sorted_keys nil nil = nil
sorted_keys (more {x = x} i e) (rise p h) = rise {x = x} (all_both (λ y j q. omega arith) e p) (sorted_keys e h)

-- the slots before the place of a key, and after it
pub record Around (key : ℕ → ℕ) (k : ℕ) (a b : List ℕ) : Type 0 where
  pub below : All (λ y. key y < k) a
  pub above : All (λ y. k < key y) b

-- the place is the same for other keys that agree
pub around_keys : {key other : ℕ → ℕ} {k : ℕ} {a b : List ℕ} → SameKeys key other (a ++ b) → Around key k a b → Around other k a b
around_keys {a = a} {b = b} e w = record {
  below = all_both (λ y i h. omega arith) (all_front a b e) w.below;
  above = all_both (λ y i h. omega arith) (all_back a b e) w.above;
}

-- the place of a key that no slot of a sorted list has
pub record Gap (key : ℕ → ℕ) (k : ℕ) (l : List ℕ) : Type 0 where
  pub low : List ℕ
  pub high : List ℕ
  pub split : l ≡ low ++ high
  pub around : Around key k low high

-- there is one
pub gap : (key : ℕ → ℕ) (k : ℕ) (l : List ℕ) → Sorted (LessKey key) l → All (λ y. key y ≡ k → ⊥) l → Gap key k l
gap key k [] nil nil = record { low = []; high = []; split = refl; around = record { below = nil; above = nil } }
gap key k (y ∷ l) (rise p h) (more n m) = go (told k (key y)) (gap key k l h m)
  where
    go : {o : Ordering} → Told o k (key y) → Gap key k l → Gap key k (y ∷ l)
    go (smaller q) g =
        record { low = []; high = y ∷ l; split = refl; around = record { below = nil; above = more q (all_map (λ z r. omega arith) p) } }
    go (equal q) g = absurd (n (sym q))
    go (greater q) g = record {
      low = y ∷ g.low;
      high = g.high;
      split = ap (λ (z : List ℕ). y ∷ z) g.split;
      around = record { below = more q g.around.below; above = g.around.above };
    }

module _ (key : ℕ → ℕ) (k : ℕ) where
  -- no slot around the place of a key has it
  pub around_new : (a b : List ℕ) → Around key k a b → All (λ y. key y ≡ k → ⊥) (a ++ b)
  around_new a b w = all_append (all_map (λ y h e. omega arith) w.below) (all_map (λ y h e. omega arith) w.above)

  -- a slot of a sorted list stands at the place of its key
  pub around_slot : (a : List ℕ) (x : ℕ) (b : List ℕ) → key x ≡ k → Sorted (LessKey key) (a ++ (x ∷ b)) → Around key k a b
  around_slot a x b e h = record {
    below = all_map (λ y i. omega arith) (sorted_below a x b h);
    above = all_map (λ y i. omega arith) (sorted_above a x b h);
  }

  -- it is put in there
  pub around_into : (a : List ℕ) (x : ℕ) (b : List ℕ) → Around key k a b → into (by_key key k) x (a ++ b) ≡ a ++ (x ∷ b)
  around_into a x b w =
      into_at (by_key key k) a x b (all_map (λ y h. side_on right k (key y) h) w.below) (all_map (λ y h. side_on left k (key y) h) w.above)

  -- and taken out there
  pub around_out : (a : List ℕ) (x : ℕ) (b : List ℕ) → key x ≡ k → Around key k a b → out (by_key key k) (a ++ (x ∷ b)) ≡ a ++ b
  around_out a x b e w = out_at (by_key key k) a x b (all_map (λ y h. side_on right k (key y) h) w.below) (key_same k (key x) (sym e))

  -- and the list stays sorted
  pub around_sorted : (a : List ℕ) (x : ℕ) (b : List ℕ) → key x ≡ k → Around key k a b → Sorted (LessKey key) (a ++ b)
      → Sorted (LessKey key) (a ++ (x ∷ b))
  unfolding keys
  around_sorted a x b e w h =
      subst (Sorted (LessKey key)) (around_into a x b w)
      (sorted_into (by_key key k) (keys key) x (subst (λ (n : ℕ). Compares (keys key) x (by_key key n)) e (key_compares key x)) (a ++ b) h)

  -- what an insertion by key leaves of the list of a sorted tree
  pub add_list : (x : ℕ) (t : Tree) → Sorted (LessKey key) (list left t) → list left (add (by_key key k) x t) ≡ into (by_key key k) x (list left t)
  unfolding keys
  add_list x t h = add_into (keys key) (by_key key k) (key_exact key k) t h x

  -- and a removal
  pub remove_list : (t : Tree) → Sorted (LessKey key) (list left t) → list left (remove_by_key (by_key key k) t) ≡ out (by_key key k) (list left t)
  unfolding keys
  remove_list t h = remove_out (keys key) (by_key key k) (key_exact key k) t h
