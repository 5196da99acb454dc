-- The walk over a tree by bounds is good exactly if the walk in order is, and counts the same records. Assumes nothing.
use Rattle.std.proofs.Common.{◌≡◌, ℕ, zero, suc, ◌+◌, ◌-◌, ◌*◌, ◌/◌, ◌%◌, ◌^◌, ◌<◌, ◌≤◌, Bool, true, false, cond, ◌&&◌, eqb, ltb, leb, List, sym, refl, ◌∙◌, pow-suc, arith, ltb-false, ltb-true, ne_eqb, le-leb, leb-true}
use Rattle.std.proofs.Math.Nat.{one-le-pow}
use Rattle.std.proofs.lemmas.Bool.{false≢true}
use Rattle.fields.specs.Number.{Bytes}
use Rattle.avl.specs.Tree.{left, right}
use Rattle.tree.specs.Node.{child, parent, balance, get_n, key_n}
use Rattle.meaning.proofs.Facts.{test}
use Rattle.meaning.proofs.Sections.{get_bound}
use Rattle.judge.specs.Check.{Walk, bad, good, tree_n, link_n, bound_n, found}
use Rattle.judge.proofs.Bounds.{after, after_more, after_next, in_order, take_apart, in_bounds, weighed_low}
use Rattle.judge.proofs.Bounds.{Same, From, lowest, next, Grown, none_same, counts_node, in_order_node, grows_node, in_bounds_node}

-- a key has eight bytes
pub key_low : (m : List ℕ) → Bytes m → (x : ℕ) → key_n m x < 18_446_744_073_709_551_616
unfolding key_n
key_low m all x = test (eqb x 0) (λ e. rw e (omega arith)) (λ e. rw e (get_bound 8 m (32 * (x - 1)) all))

module _ (m : List ℕ) (N t : ℕ) where
  abbrev pub own : ℕ → ℕ → Bool
  own u x = leb x N && (eqb (tree_n m x) t && eqb (get_n m x parent) u)

  walk_deep : (u i seen last : ℕ) → link_n m N t zero u (suc i) seen last ≡ bad
  unfolding link_n
  walk_deep u i seen last = simp (ne_eqb (suc i) 0 (omega arith))

  walk_turn : (level u i seen last : ℕ) → let x = suc i in let l = link_n m N t level x (get_n m x (child left)) seen last in
      link_n m N t (suc level) u x seen last
      ≡ in_order (own u x) N (get_n m x balance) (key_n m x) l (link_n m N t level x (get_n m x (child right)) (l.seen + 1) (key_n m x))
  unfolding link_n
  walk_turn level u i seen last = simp (ne_eqb (suc i) 0 (omega arith))

  pub bound_deep : (u i lo hi : ℕ) → bound_n m N t zero u (suc i) lo hi ≡ 0
  unfolding bound_n
  bound_deep u i lo hi = simp (ne_eqb (suc i) 0 (omega arith))

  pub bound_turn : (level u x lo hi : ℕ) → 1 ≤ x
      → bound_n m N t (suc level) u x lo hi
      ≡ in_bounds (own u x) (get_n m x balance) (key_n m x) lo hi (bound_n m N t level x (get_n m x (child left)) lo (key_n m x))
      (bound_n m N t level x (get_n m x (child right)) (key_n m x + 1) hi)
  unfolding bound_n
  bound_turn level u x lo hi s = simp (ne_eqb x 0 (omega arith))

  pub walk_none : (level u seen last : ℕ) → link_n m N t level u 0 seen last ≡ good 0 seen last
  unfolding link_n
  walk_none zero u seen last = refl
  walk_none (suc level) u seen last = refl

  pub bound_none : (level u lo hi : ℕ) → bound_n m N t level u 0 lo hi ≡ 256
  unfolding bound_n
  bound_none zero u lo hi = refl
  bound_none (suc level) u lo hi = refl

  -- a part that is not bad counts itself
  pub counts : (level u x lo hi : ℕ) → 1 ≤ bound_n m N t level u x lo hi → 1 ≤ bound_n m N t level u x lo hi / 256
  counts zero u zero lo hi h = omega (arith, bound_none zero u lo hi)
  counts zero u (suc i) lo hi h = absurd (omega (arith, bound_deep u i lo hi))
  counts (suc level) u zero lo hi h = omega (arith, bound_none (suc level) u lo hi)
  counts (suc level) u (suc i) lo hi h =
      let x = suc i in
      let k = key_n m x in
      let p = bound_n m N t level x (get_n m x (child left)) lo k in
      let q = bound_n m N t level x (get_n m x (child right)) (k + 1) hi in
      let e = bound_turn level u (suc i) lo hi (omega arith) in
      rw e (counts_node (own u x) N (get_n m x balance) k 0 lo hi bad bad p q (counts level x (get_n m x (child left)) lo k) (rw e at h))

  -- A part that is good by bounds is good in order, if there is room for its records; and then a key from hi on may follow.
  in_order_lem : (level u x seen last lo hi : ℕ) → 1 ≤ bound_n m N t level u x lo hi → after seen last lo ≡ true → lo ≤ hi
      → seen + bound_n m N t level u x lo hi / 256 ≤ N + 1
      → let w = link_n m N t level u x seen last in Same w (bound_n m N t level u x lo hi) seen × (after w.seen w.last hi ≡ true)
  in_order_lem zero u zero seen last lo hi h o e s =
      rw (walk_none zero u seen last, bound_none zero u lo hi) (none_same seen last, after_more seen last lo hi o e)
  in_order_lem zero u (suc i) seen last lo hi h o e s = absurd (omega (arith, bound_deep u i lo hi))
  in_order_lem (suc level) u zero seen last lo hi h o e s =
      rw (walk_none (suc level) u seen last, bound_none (suc level) u lo hi) (none_same seen last, after_more seen last lo hi o e)
  in_order_lem (suc level) u (suc i) seen last lo hi h o e s =
      let x = suc i in
      let k = key_n m x in
      let a = get_n m x (child left) in
      let c = get_n m x (child right) in
      let p = bound_n m N t level x a lo k in
      let q = bound_n m N t level x c (k + 1) hi in
      let l = link_n m N t level x a seen last in
      let r = link_n m N t level x c (l.seen + 1) k in
      let n = bound_turn level u (suc i) lo hi (omega arith) in
      rw (walk_turn level u i seen last, n)
      (in_order_node (own u x) N (get_n m x balance) k seen lo hi l r p q (rw n at h) (rw n at s) (counts level x c (k + 1) hi)
      (λ f g. in_order_lem level x a seen last lo k f o g)
      (λ f. in_order_lem level x c (l.seen + 1) k (k + 1) hi f (after_next (l.seen + 1) k (k + 1) (omega arith))))

  grows : (level u x seen last : ℕ) → (link_n m N t level u x seen last).ok ≡ true → Grown N seen last (link_n m N t level u x seen last)
  grows zero u zero seen last h =
      rw (walk_none zero u seen last) (record { more = omega arith; later = λ s. omega arith; few = λ s. s })
  grows zero u (suc i) seen last h = absurd (false≢true (rw (walk_deep u i seen last) at h))
  grows (suc level) u zero seen last h =
      rw (walk_none (suc level) u seen last) (record { more = omega arith; later = λ s. omega arith; few = λ s. s })
  grows (suc level) u (suc i) seen last h =
      let x = suc i in
      let k = key_n m x in
      let l = link_n m N t level x (get_n m x (child left)) seen last in
      let r = link_n m N t level x (get_n m x (child right)) (l.seen + 1) k in
      let w = walk_turn level u i seen last in
      rw w (grows_node (own u x) N (get_n m x balance) k seen 0 0 l r 0 0 last (rw w at h) (grows level x (get_n m x (child left)) seen last)
      (grows level x (get_n m x (child right)) (l.seen + 1) k))

  -- A part that is good in order is good by bounds, if no key from lo on is missed before it and its last key is below hi.
  in_bounds_lem : (level u x seen last lo hi : ℕ) → let w = link_n m N t level u x seen last in
      w.ok ≡ true → From lo seen last → after w.seen w.last hi ≡ true → Same w (bound_n m N t level u x lo hi) seen
  in_bounds_lem zero u zero seen last lo hi h f e = rw (walk_none zero u seen last, bound_none zero u lo hi) (none_same seen last)
  in_bounds_lem zero u (suc i) seen last lo hi h f e = absurd (false≢true (rw (walk_deep u i seen last) at h))
  in_bounds_lem (suc level) u zero seen last lo hi h f e = rw (walk_none (suc level) u seen last, bound_none (suc level) u lo hi) (none_same seen last)
  in_bounds_lem (suc level) u (suc i) seen last lo hi h f e =
      let x = suc i in
      let k = key_n m x in
      let a = get_n m x (child left) in
      let c = get_n m x (child right) in
      let p = bound_n m N t level x a lo k in
      let q = bound_n m N t level x c (k + 1) hi in
      let l = link_n m N t level x a seen last in
      let r = link_n m N t level x c (l.seen + 1) k in
      let w = walk_turn level u i seen last in
      rw (w, bound_turn level u (suc i) lo hi (omega arith))
      (in_bounds_node (own u x) N (get_n m x balance) k seen lo hi l r p q last (rw w at h) f (rw w at e)
      (grows level x a seen last) (grows level x c (l.seen + 1) k)
      (λ o. in_bounds_lem level x a seen last lo k o f)
      (λ o. in_bounds_lem level x c (l.seen + 1) k (k + 1) hi o (next (omega arith) (omega arith))))

  -- If every key is below K, so is the last of a good walk.
  ends_below : (K : ℕ) → ((x : ℕ) → key_n m x < K) → (level u x seen last : ℕ) → let w = link_n m N t level u x seen last in
      w.ok ≡ true → after seen last K ≡ true → after w.seen w.last K ≡ true
  ends_below K low zero u zero seen last h e = rw (walk_none zero u seen last) e
  ends_below K low zero u (suc i) seen last h e = absurd (false≢true (rw (walk_deep u i seen last) at h))
  ends_below K low (suc level) u zero seen last h e = rw (walk_none (suc level) u seen last) e
  ends_below K low (suc level) u (suc i) seen last h e =
      let x = suc i in
      let k = key_n m x in
      let l = link_n m N t level x (get_n m x (child left)) seen last in
      let r = link_n m N t level x (get_n m x (child right)) (l.seen + 1) k in
      let w = walk_turn level u i seen last in
      let d = take_apart (own u x) N (get_n m x balance) k l r (rw w at h) in
      rw (w, d.is) (ends_below K low level x (get_n m x (child right)) (l.seen + 1) k d.right_ok (after_next (l.seen + 1) k K (low x)))

  -- the height of a part is at most its level, and its records are fewer than so high a tree can have
  pub part_low : (level u x lo hi : ℕ) → let n = bound_n m N t level u x lo hi in (n % 256 ≤ level) × (n / 256 ≤ 2 ^ level)
  part_low zero u zero lo hi = rw (bound_none zero u lo hi) (omega arith, omega arith)
  part_low zero u (suc i) lo hi = rw (bound_deep u i lo hi) (omega arith, omega arith)
  part_low (suc level) u zero lo hi =
      rw (bound_none (suc level) u lo hi) (omega arith, omega (arith, one-le-pow (suc level) 2 (omega arith)))
  part_low (suc level) u (suc i) lo hi =
      let x = suc i in
      let k = key_n m x in
      let p = bound_n m N t level x (get_n m x (child left)) lo k in
      let q = bound_n m N t level x (get_n m x (child right)) (k + 1) hi in
      let w = weighed_low (own u x) (get_n m x balance) k lo hi p q level (2 ^ level) (part_low level x (get_n m x (child left)) lo k)
      (part_low level x (get_n m x (child right)) (k + 1) hi) in
      rw (bound_turn level u (suc i) lo hi (omega arith)) (w.0, omega (arith, w.1, pow-suc 2 level))

  -- From a root, whose keys have eight bytes: what both walks find.
  module _ (all : Bytes m) (x : ℕ) where
    abbrev whole : ℕ
    whole = bound_n m N t 14 0 x 0 18_446_744_073_709_551_616

    abbrev walk : Walk
    walk = link_n m N t 14 0 x 0 0

    pub found_same : cond (leb (whole / 256) (N + 1)) (whole / 256) 0 ≡ found walk
    unfolding found
    found_same =
        test walk.ok (λ h.
        let s = in_bounds_lem 14 0 x 0 0 0 18_446_744_073_709_551_616 h (lowest refl) (ends_below 18_446_744_073_709_551_616 (key_low m all) 14 0 x 0 0 h refl) in
        let few = (grows 14 0 x 0 0 h).few (omega arith) in
        rw (h, le-leb (whole / 256) (N + 1) (omega (arith, s.seen_is))) (omega (arith, s.seen_is)))
        (λ h. rw h (test (leb (whole / 256) (N + 1)) (λ e. rw e (bad_is h e)) (λ e. rw e refl)))
      where
        bad_is : walk.ok ≡ false → leb (whole / 256) (N + 1) ≡ true → whole / 256 ≡ 0
        bad_is h e =
            test (ltb 0 whole) (λ p.
            let s = in_order_lem 14 0 x 0 0 0 18_446_744_073_709_551_616 (ltb-true 0 whole p) refl (omega arith) (omega (arith, leb-true (whole / 256) (N + 1) e)) in
            absurd (false≢true (sym h ∙ s.0.ok)))
            (λ p. omega (arith, ltb-false 0 whole p))
