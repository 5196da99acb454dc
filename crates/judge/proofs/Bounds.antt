-- A record of a tree in order and by bounds: where its parts tell the same both ways, so does the record. Assumes nothing.
use Rattle.std.proofs.Common.{◌≡◌, ℕ, suc, ◌+◌, ◌*◌, ◌/◌, ◌%◌, ◌<◌, ◌≤◌, max, Bool, true, false, cond, ◌&&◌, ◌||◌, eqb, ltb, leb, refl, ap, ◌∙◌, subst, arith, ltb-false, ltb-true, lt-ltb, eqb-true, le-leb, leb-true}
use Rattle.std.proofs.lemmas.Bool.{false≢true}
use Rattle.meaning.proofs.Facts.{test, both, both_true}
use Rattle.judge.specs.Check.{Walk, bad, good, evenly, joined, weighed}
use Rattle.judge.proofs.Passing.{cond_good, cond_yes, either, or_first, or_second}

-- ---- the order

-- after s records, the last of which has the key q, the key k may follow
abbrev pub after : ℕ → ℕ → ℕ → Bool
after s q k = eqb s 0 || ltb q k

pub after_more : (s q k j : ℕ) → after s q k ≡ true → k ≤ j → after s q j ≡ true
after_more s q k j h e =
    either (eqb s 0) (ltb q k) h (λ z. or_first (eqb s 0) (ltb q j) z)
    (λ z. or_second (eqb s 0) (ltb q j) (lt-ltb q j (omega (arith, ltb-true q k z))))

pub after_next : (s q k : ℕ) → q < k → after s q k ≡ true
after_next s q k h = or_second (eqb s 0) (ltb q k) (lt-ltb q k h)

after_is : (s q k : ℕ) → after s q k ≡ true → 1 ≤ s → q < k
after_is s q k h e =
    either (eqb s 0) (ltb q k) h (λ z. absurd (omega (arith, eqb-true s 0 z))) (λ z. ltb-true q k z)

-- no height above 14 passes
pub even_low : (b l r : ℕ) → evenly b l r ≡ true → (l ≤ 14) × (r ≤ 14)
unfolding evenly
even_low b l r e =
    let f = both (leb l 14) _ e in
    (leb-true l 14 f.0, leb-true r 14 (both (leb r 14) _ f.1).0)

-- ---- a record in order, whose own fields pass if `own` does: the walks l and r of its parts, and its own, w

abbrev pub in_order : Bool → ℕ → ℕ → ℕ → Walk → Walk → Walk
in_order own N b k l r = cond own (cond (l.ok && (ltb l.seen N && after l.seen l.last k)) (joined b l r) bad) bad

pub record Joined (own : Bool) (N b k : ℕ) (l r w : Walk) : Type 0 where
  pub fits : own ≡ true
  pub left_ok : l.ok ≡ true
  pub room : l.seen < N
  pub order : after l.seen l.last k ≡ true
  pub right_ok : r.ok ≡ true
  pub even : evenly b l.high r.high ≡ true
  pub is : w ≡ good (max l.high r.high + 1) r.seen r.last

pub take_apart : (own : Bool) (N b k : ℕ) (l r : Walk) → (in_order own N b k l r).ok ≡ true → Joined own N b k l r (in_order own N b k l r)
unfolding joined
take_apart own N b k l r h =
    let O = after l.seen l.last k in
    let E = evenly b l.high r.high in
    let f = cond_good own (cond (l.ok && (ltb l.seen N && O)) (joined b l r) bad) h in
    let g = cond_good (l.ok && (ltb l.seen N && O)) (joined b l r) f.2 in
    let j = cond_good (r.ok && E) (good (max l.high r.high + 1) r.seen r.last) g.2 in
    let a = both l.ok (ltb l.seen N && O) g.0 in
    let c = both (ltb l.seen N) O a.1 in
    let d = both r.ok E j.0 in
    record {
      fits = f.0;
      left_ok = a.0;
      room = ltb-true l.seen N c.0;
      order = c.1;
      right_ok = d.0;
      even = d.1;
      is = f.1 ∙ (g.1 ∙ j.1);
    }

put_together : (own : Bool) (N b k : ℕ) (l r : Walk) → own ≡ true → l.ok ≡ true → l.seen < N → after l.seen l.last k ≡ true → r.ok ≡ true
    → evenly b l.high r.high ≡ true → in_order own N b k l r ≡ good (max l.high r.high + 1) r.seen r.last
unfolding joined
put_together own N b k l r f a room order d even =
    let O = after l.seen l.last k in
    let E = evenly b l.high r.high in
    cond_yes own (cond (l.ok && (ltb l.seen N && O)) (joined b l r) bad) f
    ∙ (cond_yes (l.ok && (ltb l.seen N && O)) (joined b l r)
    (both_true l.ok (ltb l.seen N && O) a (both_true (ltb l.seen N) O (lt-ltb l.seen N room) order))
    ∙ cond_yes (r.ok && E) (good (max l.high r.high + 1) r.seen r.last) (both_true r.ok E d even))

-- ---- a record within bounds: the numbers l and r of its parts, and its own, w

cond_some : (c : Bool) (n : ℕ) → 1 ≤ cond c n 0 → (c ≡ true) × (cond c n 0 ≡ n)
cond_some true n h = (refl, refl)
cond_some false n h = absurd (omega arith)

cond_is : (c : Bool) (n : ℕ) → c ≡ true → cond c n 0 ≡ n
cond_is true n h = refl
cond_is false n h = absurd (false≢true h)

abbrev total : ℕ → ℕ → ℕ
total l r = 256 * (l / 256 + r / 256) + (max (l % 256) (r % 256) + 1)

-- parts that are put together are not bad, and the balance fits their heights
pub weighed_parts : (b l r : ℕ) → 1 ≤ weighed b l r → (1 ≤ l) × (1 ≤ r) × (evenly b (l % 256) (r % 256) ≡ true) × (weighed b l r ≡ total l r)
unfolding weighed
weighed_parts b l r h =
    let E = evenly b (l % 256) (r % 256) in
    let g = cond_some (ltb 0 l && (ltb 0 r && E)) (total l r) h in
    let d = both (ltb 0 l) (ltb 0 r && E) g.0 in
    let e = both (ltb 0 r) E d.1 in
    (ltb-true 0 l d.0, ltb-true 0 r e.0, e.1, g.1)

pub weighed_is : (b l r : ℕ) → 1 ≤ l → 1 ≤ r → evenly b (l % 256) (r % 256) ≡ true → weighed b l r ≡ total l r
unfolding weighed
weighed_is b l r p q even =
    let E = evenly b (l % 256) (r % 256) in
    cond_is (ltb 0 l && (ltb 0 r && E)) (total l r)
    (both_true (ltb 0 l) (ltb 0 r && E) (lt-ltb 0 l p) (both_true (ltb 0 r) E (lt-ltb 0 r q) even))

abbrev pub in_bounds : Bool → ℕ → ℕ → ℕ → ℕ → ℕ → ℕ → ℕ
in_bounds own b k lo hi l r = cond (own && (leb lo k && ltb k hi)) (weighed b l r) 0

pub record Weighed (own : Bool) (b k lo hi l r w : ℕ) : Type 0 where
  pub fits : own ≡ true
  pub low : lo ≤ k
  pub high : k < hi
  pub left_some : 1 ≤ l
  pub right_some : 1 ≤ r
  pub even : evenly b (l % 256) (r % 256) ≡ true
  pub is : w ≡ 256 * (l / 256 + r / 256) + (max (l % 256) (r % 256) + 1)

pub unweigh : (own : Bool) (b k lo hi l r : ℕ) → 1 ≤ in_bounds own b k lo hi l r → Weighed own b k lo hi l r (in_bounds own b k lo hi l r)
unweigh own b k lo hi l r h =
    let f = cond_some (own && (leb lo k && ltb k hi)) (weighed b l r) h in
    let g = weighed_parts b l r (subst (λ (n : ℕ). 1 ≤ n) f.1 h) in
    let a = both own (leb lo k && ltb k hi) f.0 in
    let c = both (leb lo k) (ltb k hi) a.1 in
    record {
      fits = a.0;
      low = leb-true lo k c.0;
      high = ltb-true k hi c.1;
      left_some = g.0;
      right_some = g.1;
      even = g.2;
      is = f.1 ∙ g.3;
    }

weigh : (own : Bool) (b k lo hi l r : ℕ) → own ≡ true → lo ≤ k → k < hi → 1 ≤ l → 1 ≤ r → evenly b (l % 256) (r % 256) ≡ true
    → in_bounds own b k lo hi l r ≡ total l r
weigh own b k lo hi l r f low high p q even =
    cond_is (own && (leb lo k && ltb k hi)) (weighed b l r)
    (both_true own (leb lo k && ltb k hi) f (both_true (leb lo k) (ltb k hi) (le-leb lo k low) (lt-ltb k hi high)))
    ∙ weighed_is b l r p q even

-- ---- the number of a record

pub weighed_low : (own : Bool) (b k lo hi p q h c : ℕ) → (p % 256 ≤ h) × (p / 256 ≤ c) → (q % 256 ≤ h) × (q / 256 ≤ c)
    → (in_bounds own b k lo hi p q % 256 ≤ suc h) × (in_bounds own b k lo hi p q / 256 ≤ c + c)
weighed_low own b k lo hi p q h c f g =
    let n = in_bounds own b k lo hi p q in
    test (ltb 0 n) (λ s.
    let d = unweigh own b k lo hi p q (ltb-true 0 n s) in
    let e = even_low b (p % 256) (q % 256) d.even in
    (omega (arith, d.is, e), omega (arith, d.is, e)))
    (λ s. (omega (arith, ltb-false 0 n s), omega (arith, ltb-false 0 n s)))

-- ---- the two walks

-- the walk w in order, after `seen` records, and the number n by bounds tell the same
pub record Same (w : Walk) (n seen : ℕ) : Type 0 where
  pub ok : w.ok ≡ true
  pub some : 1 ≤ n
  pub high : w.high ≡ n % 256
  pub seen_is : w.seen + 1 ≡ seen + n / 256

-- no key from lo on is missed after `seen` records, the last of which has the key `last`
pub data From (lo seen last : ℕ) : Type 0 where
  lowest : lo ≡ 0 → From lo seen last
  next : 1 ≤ seen → lo ≤ last + 1 → From lo seen last

-- what a good walk w, begun after `seen` records, the last of which has the key `last`, leaves: neither falls, and there are at most N records
pub record Grown (N seen last : ℕ) (w : Walk) : Type 0 where
  pub more : seen ≤ w.seen
  pub later : 1 ≤ seen → last ≤ w.last
  pub few : seen ≤ N → w.seen ≤ N

-- ---- a record, by what is known of its parts l and r in order and p and q by bounds

pub none_same : (seen last : ℕ) → Same (good 0 seen last) 256 seen
none_same seen last = record { ok = refl; some = omega arith; high = omega arith; seen_is = omega arith }

module _ (own : Bool) (N b k seen lo hi : ℕ) (l r : Walk) (p q : ℕ) where
  same_node : own ≡ true → lo ≤ k → k < hi → evenly b (p % 256) (q % 256) ≡ true → l.seen < N → after l.seen l.last k ≡ true
      → Same l p seen → Same r q (l.seen + 1) → Same (in_order own N b k l r) (in_bounds own b k lo hi p q) seen
  same_node f low high even room order sl sr =
      let w = put_together own N b k l r f sl.ok room order sr.ok (rw (sl.high, sr.high) even) in
      let n = weigh own b k lo hi p q f low high sl.some sr.some even in
      let e = even_low b (p % 256) (q % 256) even in
      record {
        ok = ap (λ (f : Walk). f.ok) w;
        some = omega (arith, n);
        high = ap (λ (f : Walk). f.high) w ∙ omega (arith, n, sl.high, sr.high, e);
        seen_is = omega (arith, ap (λ (f : Walk). f.seen) w, n, sl.seen_is, sr.seen_is, e);
      }

  pub counts_node : (1 ≤ p → 1 ≤ p / 256) → 1 ≤ in_bounds own b k lo hi p q → 1 ≤ in_bounds own b k lo hi p q / 256
  counts_node f h = let d = unweigh own b k lo hi p q h in omega (arith, f d.left_some, d.is)

  pub in_order_node : 1 ≤ in_bounds own b k lo hi p q → seen + in_bounds own b k lo hi p q / 256 ≤ N + 1 → (1 ≤ q → 1 ≤ q / 256)
      → (1 ≤ p → lo ≤ k → seen + p / 256 ≤ N + 1 → Same l p seen × (after l.seen l.last k ≡ true))
      → (1 ≤ q → k + 1 ≤ hi → l.seen + 1 + q / 256 ≤ N + 1 → Same r q (l.seen + 1) × (after r.seen r.last hi ≡ true))
      → let w = in_order own N b k l r in Same w (in_bounds own b k lo hi p q) seen × (after w.seen w.last hi ≡ true)
  in_order_node h s some left_part right_part =
      let d = unweigh own b k lo hi p q h in
      let e = even_low b (p % 256) (q % 256) d.even in
      let c = some d.right_some in
      let f = left_part d.left_some d.low (omega (arith, d.is, e)) in
      let g = right_part d.right_some (omega (arith, d.high)) (omega (arith, d.is, e, f.0.seen_is)) in
      let same = same_node d.fits d.low d.high d.even (omega (arith, d.is, e, c, f.0.seen_is)) f.1 f.0 g.0 in
      (same, rw (take_apart own N b k l r same.ok).is g.1)

  -- the count and the last key do not fall below those from before the parts
  pub grows_node : (last : ℕ) → (in_order own N b k l r).ok ≡ true → (l.ok ≡ true → Grown N seen last l)
      → (r.ok ≡ true → Grown N (l.seen + 1) k r) → Grown N seen last (in_order own N b k l r)
  grows_node last h left_part right_part =
      let d = take_apart own N b k l r h in
      let f = left_part d.left_ok in
      let g = right_part d.right_ok in
      let last_is = ap (λ (f : Walk). f.last) d.is in
      let seen_is = ap (λ (f : Walk). f.seen) d.is in
      record {
        more = omega (arith, f.more, g.more, seen_is);
        later = λ s.
            omega (arith, f.later s, f.more, after_is l.seen l.last k d.order (omega (arith, f.more)), g.later (omega arith), last_is);
        few = λ s. omega (arith, g.few (omega (arith, d.room)), seen_is);
      }

  pub in_bounds_node : (last : ℕ) → (in_order own N b k l r).ok ≡ true → From lo seen last
      → (let w = in_order own N b k l r in after w.seen w.last hi ≡ true)
      → (l.ok ≡ true → Grown N seen last l) → (r.ok ≡ true → Grown N (l.seen + 1) k r)
      → (l.ok ≡ true → after l.seen l.last k ≡ true → Same l p seen)
      → (r.ok ≡ true → after r.seen r.last hi ≡ true → Same r q (l.seen + 1))
      → Same (in_order own N b k l r) (in_bounds own b k lo hi p q) seen
  in_bounds_node last h from ends left_grows right_grows left_part right_part =
      let d = take_apart own N b k l r h in
      let f = left_grows d.left_ok in
      let g = right_grows d.right_ok in
      let last_end = rw d.is at ends in
      let sl = left_part d.left_ok d.order in
      let sr = right_part d.right_ok last_end in
      same_node d.fits (lowest_is f d.order from)
      (omega (arith, g.later (omega arith), after_is r.seen r.last hi last_end (omega (arith, g.more))))
      (rw (sl.high, sr.high) at d.even) d.room d.order sl sr
    where
      lowest_is : Grown N seen last l → after l.seen l.last k ≡ true → From lo seen last → lo ≤ k
      lowest_is f order (lowest z) = omega arith
      lowest_is f order (next s e) = omega (arith, f.later s, after_is l.seen l.last k order (omega (arith, f.more)))
