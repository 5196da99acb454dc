-- The order by distinct u64 keys, as an instance of the laws over an order. Assumes nothing.
use Rattle.std.proofs.Common.{◌≡◌, ℕ, zero, suc, ◌<◌, refl, ap, subst, arith}
use Prim.Native.Nat.{Ordering, compare}
use Prim.Native.Nat.compare
use Rattle.avl.specs.Tree.{Dir, left, right}
use Rattle.avl.specs.Search.{toward}
use Rattle.avl.specs.Order.{Order, From, Exact, Compares, LessKey, by_key}

-- what a comparison of two numbers says of them
pub data Told : Ordering → ℕ → ℕ → Type 0 where
  smaller : {m n : ℕ} → m < n → Told Ordering.lt m n
  equal : {m n : ℕ} → m ≡ n → Told Ordering.eq m n
  greater : {m n : ℕ} → n < m → Told Ordering.gt m n

pub told : (m n : ℕ) → Told (compare m n) m n
told zero zero = rw compare.zero-zero (equal refl)
told zero (suc n) = let h : 0 < suc n = omega arith in rw compare.zero-suc (smaller h)
told (suc m) zero = let h : 0 < suc m = omega arith in rw compare.suc-zero (greater h)
told (suc m) (suc n) = rw compare.suc-suc (up (told m n))
  where
    up : {o : Ordering} → Told o m n → Told o (suc m) (suc n)
    up (smaller h) = let k : suc m < suc n = omega arith in smaller k
    up (equal h) = equal (ap suc h)
    up (greater h) = let k : suc n < suc m = omega arith in greater k

-- ---- from a comparison to the numbers, and back, for either side

-- on side e of n: m is below n to the left, above it to the right
abbrev pub On : Dir → ℕ → ℕ → Type 0
On left m n = m < n
On right m n = n < m

pub on_side_lem : (e : Dir) (m n : ℕ) → compare m n ≡ toward e → On e m n
on_side_lem e m n h = go e (subst (λ (o : Ordering). Told o m n) h (told m n))
  where
    go : (e : Dir) → Told (toward e) m n → On e m n
    go left (smaller p) = p
    go right (greater p) = p

pub side_on : (e : Dir) (m n : ℕ) → On e m n → compare m n ≡ toward e
side_on e m n h = go e (told m n) h
  where
    go : (e : Dir) {o : Ordering} → Told o m n → On e m n → o ≡ toward e
    go left (smaller p) h = refl
    go left (equal p) h = absurd (omega arith)
    go left (greater p) h = absurd (omega arith)
    go right (smaller p) h = absurd (omega arith)
    go right (equal p) h = absurd (omega arith)
    go right (greater p) h = refl

pub same_key : (m n : ℕ) → compare m n ≡ Ordering.eq → m ≡ n
same_key m n h = go (subst (λ (o : Ordering). Told o m n) h (told m n))
  where
    go : Told Ordering.eq m n → m ≡ n
    go (equal p) = p

pub key_same : (m n : ℕ) → m ≡ n → compare m n ≡ Ordering.eq
key_same m n h = go (told m n)
  where
    go : {o : Ordering} → Told o m n → o ≡ Ordering.eq
    go (smaller p) = absurd (omega arith)
    go (equal p) = refl
    go (greater p) = absurd (omega arith)

-- ---- the order of slots by their keys, and its comparisons

module _ (key : ℕ → ℕ) where
  unfoldable pub keys : Order
  keys = record { less = LessKey key; trans = λ x y z p q. omega arith; irrefl = λ x p. omega arith }

  -- the search for a key goes by it, and meets one slot at most
  pub key_exact : (k : ℕ) → Exact keys (by_key key k)
  unfolding keys
  key_exact k =
      record {
        follows = record { on = λ e x y p h. side_on e k (key y) (further e x y p (on_side_lem e k (key x) h)) };
        once = λ e x y p h. side_on e k (key y) (beyond e x y p (same_key k (key x) h));
      }
    where
      further : (e : Dir) (x y : ℕ) → From e (LessKey key) x y → On e k (key x) → On e k (key y)
      further left x y p h = omega arith
      further right x y p h = omega arith

      beyond : (e : Dir) (x y : ℕ) → From e (LessKey key) x y → k ≡ key x → On e k (key y)
      beyond left x y p h = omega arith
      beyond right x y p h = omega arith

  -- the search for a slot's own key is its comparison with the others
  pub key_compares : (x : ℕ) → Compares keys x (by_key key (key x))
  unfolding keys
  key_compares x = record { side = λ e y h. turned e y (on_side_lem e (key x) (key y) h) }
    where
      turned : (e : Dir) (y : ℕ) → On e (key x) (key y) → From e (LessKey key) x y
      turned left y h = h
      turned right y h = h
