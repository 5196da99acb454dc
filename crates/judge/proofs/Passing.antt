-- The walk of the check against a tree: a walk is good exactly if there is a tree that hangs in the rows there, balanced and with keys that rise.
-- Assumes nothing.
use Rattle.std.proofs.Common.{◌≡◌, ℕ, zero, suc, ◌+◌, ◌<◌, ◌≤◌, max, Bool, true, false, cond, ◌&&◌, ◌||◌, eqb, ltb, leb, List, [], ◌∷◌, ◌++◌, map, length, sym, refl, ap, ◌∙◌, subst, add-zero, arith, length-append, lt-ltb, eq-eqb, ne_eqb, eqb-true, le-leb, leb-true}
use Rattle.std.proofs.lemmas.Bool.{false≢true}
use Rattle.std.proofs.lemmas.List.{length-map}
use Rattle.avl.specs.Tree.{left, right, Bal, Tree, leaf, node, top, list, height, tilt, Balanced}
use Rattle.avl.specs.Order.{All}
use Rattle.avl.proofs.Sorting.{all_append}
use Rattle.tree.specs.Node.{child, parent, balance, get_n, key_n}
use Rattle.meaning.specs.Layout.{at}
use Rattle.meaning.specs.Pool.{key_in, left_in, right_in, parent_in, balance_in, tree_in, decode}
use Rattle.meaning.proofs.Facts.{both, both_true}
use Rattle.meaning.proofs.Hanging.{Member, Hangs}
use Rattle.judge.specs.Check.{Walk, bad, good, tree_n, evenly, joined, link_n}
use Rattle.judge.proofs.Rising.{rising_from, last_of, last_append, rising_parts, parts_rising}

-- the bytes m hold the fields of the rows
pub record Agree (m : List ℕ) (rs : List (List ℕ)) : Type 0 where
  pub left_is : (x : ℕ) → 1 ≤ x → x ≤ length rs → get_n m x (child left) ≡ left_in (at [] rs x)
  pub right_is : (x : ℕ) → 1 ≤ x → x ≤ length rs → get_n m x (child right) ≡ right_in (at [] rs x)
  pub parent_is : (x : ℕ) → 1 ≤ x → x ≤ length rs → get_n m x parent ≡ parent_in (at [] rs x)
  pub balance_is : (x : ℕ) → 1 ≤ x → x ≤ length rs → get_n m x balance ≡ balance_in (at [] rs x)
  pub key_is : (x : ℕ) → 1 ≤ x → x ≤ length rs → key_n m x ≡ key_in (at [] rs x)
  pub tree_is : (x : ℕ) → 1 ≤ x → x ≤ length rs → tree_n m x ≡ tree_in (at [] rs x)

-- ---- tests

pub same_truth : (a b : Bool) → (a ≡ true → b ≡ true) → (b ≡ true → a ≡ true) → a ≡ b
same_truth true b f g = sym (f refl)
same_truth false true f g = g refl
same_truth false false f g = refl

pub cond_good : (c : Bool) (f : Walk) → (cond c f bad).ok ≡ true → (c ≡ true) × (cond c f bad ≡ f) × (f.ok ≡ true)
cond_good true f h = (refl, refl, h)
cond_good false f h = absurd (false≢true h)

pub cond_yes : (c : Bool) (f : Walk) → c ≡ true → cond c f bad ≡ f
cond_yes true f h = refl
cond_yes false f h = absurd (false≢true h)

pub either : {P : Type 0} (a b : Bool) → (a || b) ≡ true → (a ≡ true → P) → (b ≡ true → P) → P
either true b h f g = f refl
either false b h f g = g h

pub or_first : (a b : Bool) → a ≡ true → (a || b) ≡ true
or_first true b h = refl
or_first false b h = absurd (false≢true h)

pub or_second : (a b : Bool) → b ≡ true → (a || b) ≡ true
or_second true b h = refl
or_second false b h = h

-- what the test of the heights says, by the balance
pub evenly_cases : {P : Type 0} (b l r : ℕ) → evenly b l r ≡ true → (b ≡ 0 → l ≡ r → P) → (b ≡ 1 → l + 1 ≡ r → P) → (b ≡ 2 → l ≡ r + 1 → P) → P
unfolding evenly
evenly_cases b l r h f₀ f₁ f₂ =
    let A = eqb b 0 && eqb l r in let B = eqb b 1 && eqb (l + 1) r in let C = eqb b 2 && eqb l (r + 1) in
    let g = both (leb r 14) (A || (B || C)) (both (leb l 14) (leb r 14 && (A || (B || C))) h).1 in
    either A (B || C) g.1 (λ i. let k = both (eqb b 0) (eqb l r) i in f₀ (eqb-true b 0 k.0) (eqb-true l r k.1))
    (λ j. either B C j (λ i. let k = both (eqb b 1) (eqb (l + 1) r) i in f₁ (eqb-true b 1 k.0) (eqb-true (l + 1) r k.1))
    (λ i. let k = both (eqb b 2) (eqb l (r + 1)) i in f₂ (eqb-true b 2 k.0) (eqb-true l (r + 1) k.1)))

evenly_is : (b l r : ℕ) → evenly b l r ≡ true → l + tilt right (decode b) ≡ r + tilt left (decode b)
unfolding decode tilt
evenly_is b l r h =
    evenly_cases b l r h (λ e k. rw e (omega (arith, k))) (λ e k. rw e (omega (arith, k))) (λ e k. rw e (omega (arith, k)))

evenly_low : (b l r : ℕ) → evenly b l r ≡ true → b ≤ 2
evenly_low b l r h = evenly_cases b l r h (λ e k. omega (arith, e)) (λ e k. omega (arith, e)) (λ e k. omega (arith, e))

is_evenly : (b l r : ℕ) → b ≤ 2 → l ≤ 14 → r ≤ 14 → l + tilt right (decode b) ≡ r + tilt left (decode b) → evenly b l r ≡ true
unfolding evenly decode tilt
is_evenly zero l r low p q e = rw (le-leb l 14 p, le-leb r 14 q, eq-eqb l r (omega arith))
is_evenly (suc zero) l r low p q e = rw (le-leb l 14 p, le-leb r 14 q, eq-eqb (l + 1) r (omega arith))
is_evenly (suc (suc zero)) l r low p q e = rw (le-leb l 14 p, le-leb r 14 q, eq-eqb l (r + 1) (omega arith))
is_evenly (suc (suc (suc b))) l r low p q e = absurd (omega arith)

-- ---- the keys of a tree, in order

abbrev pub keys : List (List ℕ) → Tree → List ℕ
keys rs tr = map (λ x. key_in (at [] rs x)) (list left tr)

map_append : (f : ℕ → ℕ) (xs ys : List ℕ) → map f (xs ++ ys) ≡ map f xs ++ map f ys
map_append f [] ys = refl
map_append f (x ∷ xs) ys = rw (map_append f xs ys)

module _ (rs : List (List ℕ)) (l : Tree) (x : ℕ) (b : Bal) (r : Tree) where
  keys_node : keys rs (node l x b r) ≡ keys rs l ++ (key_in (at [] rs x) ∷ keys rs r)
  unfolding list
  keys_node = map_append (λ x. key_in (at [] rs x)) (list left l) (x ∷ list left r)

  list_node : (n : ℕ) → n + length (list left (node l x b r)) ≡ n + length (list left l) + 1 + length (list left r)
  unfolding list
  list_node n = simp length-append (omega arith)

  last_node : (k : ℕ) → last_of k (keys rs (node l x b r)) ≡ last_of (key_in (at [] rs x)) (keys rs r)
  last_node k = rw keys_node (last_append k (keys rs l) (key_in (at [] rs x)) (keys rs r))

-- ---- a good walk and its tree

-- what a walk over a tree finds, after n records of which the last has the key k
abbrev pub walked : List (List ℕ) → ℕ → ℕ → Tree → Walk
walked rs n k tr = good (height tr) (n + length (list left tr)) (last_of k (keys rs tr))

-- a walk from u to x that found f: the tree that hangs there, balanced, with keys that rise and balances of 0 to 2, and of at most so many levels
pub record Passed (rs : List (List ℕ)) (t level u x n k : ℕ) (f : Walk) : Type 0 where
  pub tree : Tree
  pub hung : Hangs rs t u tree
  pub root : top tree ≡ x
  pub even : Balanced tree
  pub order : rising_from n k (keys rs tree) ≡ true
  pub low : All (λ x. balance_in (at [] rs x) ≤ 2) (list left tree)
  pub depth : height tree ≤ level
  pub found : f ≡ walked rs n k tree

good_same : {h i n m k j : ℕ} → h ≡ i → n ≡ m → k ≡ j → good h n k ≡ good i m j
good_same a b c = cc

module _ (rs : List (List ℕ)) (t level u x n k y z : ℕ) (l r : Walk) where
  -- a record between what its two links have passed
  node_passed : let w = at [] rs x in Passed rs t level x y n k l → Passed rs t level x z (l.seen + 1) (key_in w) r → Member rs t x → parent_in w ≡ u
      → left_in w ≡ y → right_in w ≡ z → (eqb l.seen 0 || ltb l.last (key_in w)) ≡ true → evenly (balance_in w) l.high r.high ≡ true
      → Passed rs t (suc level) u x n k (good (max l.high r.high + 1) r.seen r.last)
  unfolding height list
  node_passed a d i p down_l down_r o e =
      let w = at [] rs x in
      let b = decode (balance_in w) in
      let L = a.tree in let R = d.tree in
      let lh : l.high ≡ height L = ap (λ (f : Walk). f.high) a.found in
      let ls : l.seen ≡ n + length (list left L) = ap (λ (f : Walk). f.seen) a.found in
      let ll : l.last ≡ last_of k (keys rs L) = ap (λ (f : Walk). f.last) a.found in
      let rh : r.high ≡ height R = ap (λ (f : Walk). f.high) d.found in
      let rn : r.seen ≡ l.seen + 1 + length (list left R) = ap (λ (f : Walk). f.seen) d.found in
      let rl : r.last ≡ last_of (key_in w) (keys rs R) = ap (λ (f : Walk). f.last) d.found in
      let len : length (keys rs L) ≡ length (list left L) = length-map (list left L) (λ x. key_in (at [] rs x)) in
      let seen_is : l.seen ≡ n + length (keys rs L) = omega arith in
      record {
        tree = node L x b R;
        hung = Hangs.joined
            (record { member = i; parent = p; left = down_l ∙ sym a.root; right = down_r ∙ sym d.root; balance = refl }) a.hung d.hung;
        root = refl;
        even = Balanced.both a.even d.even (evenly_is (balance_in w) (height L) (height R) (rw (lh, rh) at e));
        order = ap (rising_from n k) (keys_node rs L x b R)
            ∙ parts_rising n k (keys rs L) (key_in w) (keys rs R) a.order (rw (seen_is, ll) at o) (rw seen_is at d.order);
        low = all_append a.low (All.more (evenly_low (balance_in w) l.high r.high e) d.low);
        depth = omega (arith, a.depth, d.depth);
        found = good_same (omega arith) (rn ∙ (omega (arith, list_node rs L x b R n))) (rl ∙ sym (last_node rs L x b R k));
      }

module _ (m : List ℕ) (rs : List (List ℕ)) (t : ℕ) (g : Agree m rs) where
  -- the link to a record, whose parts found l and r
  abbrev at_node : ℕ → ℕ → Walk → Walk → Walk
  at_node u x l r =
      cond (leb x (length rs) && (eqb (tree_n m x) t && eqb (get_n m x parent) u))
      (cond (l.ok && (ltb l.seen (length rs) && (eqb l.seen 0 || ltb l.last (key_n m x)))) (joined (get_n m x balance) l r) bad) bad

  link_node : (level u x n k : ℕ) → 1 ≤ x → let l = link_n m (length rs) t level x (get_n m x (child left)) n k in
      link_n m (length rs) t (suc level) u x n k ≡ at_node u x l (link_n m (length rs) t level x (get_n m x (child right)) (l.seen + 1) (key_n m x))
  unfolding link_n
  link_node level u x n k low = simp (ne_eqb x 0 (omega arith))

  passed_node : (level u x n k : ℕ) (l r : Walk) → 1 ≤ x
      → (l.ok ≡ true → Passed rs t level x (get_n m x (child left)) n k l)
      → (r.ok ≡ true → Passed rs t level x (get_n m x (child right)) (l.seen + 1) (key_n m x) r)
      → (at_node u x l r).ok ≡ true → Passed rs t (suc level) u x n k (at_node u x l r)
  unfolding joined
  passed_node level u x n k l r low left_passed right_passed h =
      let T = eqb (tree_n m x) t && eqb (get_n m x parent) u in
      let O = eqb l.seen 0 || ltb l.last (key_n m x) in
      let E = evenly (get_n m x balance) l.high r.high in
      let here = good (max l.high r.high + 1) r.seen r.last in
      let inner = cond (l.ok && (ltb l.seen (length rs) && O)) (joined (get_n m x balance) l r) bad in
      let a = cond_good (leb x (length rs) && T) inner h in
      let b = cond_good (l.ok && (ltb l.seen (length rs) && O)) (joined (get_n m x balance) l r) a.2 in
      let c = cond_good (r.ok && E) here b.2 in
      let a₁ = both (leb x (length rs)) T a.0 in
      let a₂ = both (eqb (tree_n m x) t) (eqb (get_n m x parent) u) a₁.1 in
      let b₁ = both l.ok (ltb l.seen (length rs) && O) b.0 in
      let b₂ = both (ltb l.seen (length rs)) O b₁.1 in
      let c₁ = both r.ok E c.0 in
      let high = leb-true x (length rs) a₁.0 in
      let key = g.key_is x low high in
      let same : at_node u x l r ≡ here = a.1 ∙ (b.1 ∙ c.1) in
      let p : Passed rs t (suc level) u x n k here =
      node_passed rs t level u x n k (get_n m x (child left)) (get_n m x (child right)) l r (left_passed b₁.0) (rw key at (right_passed c₁.0))
      (record { low = low; high = high; tree = sym (g.tree_is x low high) ∙ eqb-true (tree_n m x) t a₂.0 })
      (sym (g.parent_is x low high) ∙ eqb-true (get_n m x parent) u a₂.1) (sym (g.left_is x low high)) (sym (g.right_is x low high))
      (rw key at b₂.1) (rw (g.balance_is x low high) at c₁.1) in
      subst (Passed rs t (suc level) u x n k) (sym same) p

  -- A good walk has passed a tree.
  pub passed : (level u x n k : ℕ) → (link_n m (length rs) t level u x n k).ok ≡ true
      → Passed rs t level u x n k (link_n m (length rs) t level u x n k)
  unfolding list height rising_from last_of link_n
  passed zero u x n k h =
      let o = cond_good (eqb x 0) (good 0 n k) h in
      record {
        tree = leaf;
        hung = Hangs.bare;
        root = sym (eqb-true x 0 o.0);
        even = Balanced.none;
        order = refl;
        low = All.nil;
        depth = omega arith;
        found = o.1 ∙ rw add-zero;
      }
  passed (suc level) u zero n k h =
      record { tree = leaf; hung = Hangs.bare; root = refl; even = Balanced.none; order = refl; low = All.nil; depth = omega arith; found = rw add-zero }
  passed (suc level) u (suc i) n k h =
      let x = suc i in
      let low : 1 ≤ x = omega arith in
      let l = link_n m (length rs) t level x (get_n m x (child left)) n k in
      let r = link_n m (length rs) t level x (get_n m x (child right)) (l.seen + 1) (key_n m x) in
      let e = link_node level u x n k low in
      subst (Passed rs t (suc level) u x n k) (sym e)
      (passed_node level u x n k l r low (passed level x (get_n m x (child left)) n k)
      (passed level x (get_n m x (child right)) (l.seen + 1) (key_n m x)) (subst (λ (f : Walk). f.ok ≡ true) e h))

  node_walked : (u x n k : ℕ) (L R : Tree) → Member rs t x → parent_in (at [] rs x) ≡ u → balance_in (at [] rs x) ≤ 2
      → height L ≤ 14 → height R ≤ 14
      → height L + tilt right (decode (balance_in (at [] rs x))) ≡ height R + tilt left (decode (balance_in (at [] rs x)))
      → n + length (list left L) < length rs → (eqb (n + length (list left L)) 0 || ltb (last_of k (keys rs L)) (key_in (at [] rs x))) ≡ true
      → at_node u x (walked rs n k L) (walked rs (n + length (list left L) + 1) (key_in (at [] rs x)) R)
      ≡ walked rs n k (node L x (decode (balance_in (at [] rs x))) R)
  unfolding joined height
  node_walked u x n k L R i p low hl hr e s o =
      let w = at [] rs x in
      let key = g.key_is x i.low i.high in
      let l = walked rs n k L in
      let r = walked rs (n + length (list left L) + 1) (key_in w) R in
      let T = eqb (tree_n m x) t && eqb (get_n m x parent) u in
      let O = eqb l.seen 0 || ltb l.last (key_n m x) in
      let here = good (max l.high r.high + 1) r.seen r.last in
      let inner = cond (ltb l.seen (length rs) && O) (joined (get_n m x balance) l r) bad in
      let t₁ = both_true (leb x (length rs)) T (le-leb x (length rs) i.high)
      (both_true (eqb (tree_n m x) t) (eqb (get_n m x parent) u) (eq-eqb (tree_n m x) t (g.tree_is x i.low i.high ∙ i.tree))
      (eq-eqb (get_n m x parent) u (g.parent_is x i.low i.high ∙ p))) in
      let t₂ = both_true (ltb l.seen (length rs)) O (lt-ltb l.seen (length rs) s) (rw key o) in
      let t₃ : evenly (get_n m x balance) (height L) (height R) ≡ true =
      rw (g.balance_is x i.low i.high) (is_evenly (balance_in w) (height L) (height R) low hl hr e) in
      cond_yes (leb x (length rs) && T) inner t₁
      ∙ (cond_yes (ltb l.seen (length rs) && O) (joined (get_n m x balance) l r) t₂
      ∙ (cond_yes (evenly (get_n m x balance) (height L) (height R)) here t₃
      ∙ good_same (omega arith) (sym (list_node rs L x (decode (balance_in w)) R n)) (sym (last_node rs L x (decode (balance_in w)) R k))))

  -- A walk over a balanced tree that hangs in the rows, with keys that rise, is good, if it may go so deep and if there are so many records.
  pub passes : ((x : ℕ) → Member rs t x → balance_in (at [] rs x) ≤ 2) → (level u n k : ℕ) (tr : Tree) → Hangs rs t u tr → Balanced tr
      → rising_from n k (keys rs tr) ≡ true → height tr ≤ level → level ≤ 14 → n + length (list left tr) ≤ length rs
      → link_n m (length rs) t level u (top tr) n k ≡ walked rs n k tr
  unfolding link_n height list last_of
  passes low zero u n k leaf Hangs.bare v o d f s = rw add-zero
  passes low (suc level) u n k leaf Hangs.bare v o d f s = rw add-zero
  passes low zero u n k (node L x b R) (Hangs.joined j a c) v o d f s = absurd (omega arith)
  passes low (suc level) u n k (node L x b R) (Hangs.joined j a c) (Balanced.both p q e) o d f s =
      let w = at [] rs x in
      let i = j.member in
      let n' = n + length (list left L) in
      let len : length (keys rs L) ≡ length (list left L) = length-map (list left L) (λ x. key_in (at [] rs x)) in
      let rise = rw len at (rising_parts n k (keys rs L) (key_in w) (keys rs R) (sym (ap (rising_from n k) (keys_node rs L x b R)) ∙ o)) in
      let many = list_node rs L x b R n in
      let key = g.key_is x i.low i.high in
      let at_l : link_n m (length rs) t level x (get_n m x (child left)) n k ≡ walked rs n k L =
      rw (g.left_is x i.low i.high ∙ j.left) (passes low level x n k L a p rise.0 (omega arith) (omega arith) (omega arith)) in
      let at_r : link_n m (length rs) t level x (get_n m x (child right)) (n' + 1) (key_n m x) ≡ walked rs (n' + 1) (key_in w) R =
      rw (g.right_is x i.low i.high ∙ j.right, key)
      (passes low level x (n' + 1) (key_in w) R c q rise.2 (omega arith) (omega arith) (omega arith)) in
      link_node level u x n k i.low
      ∙ (ap (λ (f : Walk). at_node u x f (link_n m (length rs) t level x (get_n m x (child right)) (f.seen + 1) (key_n m x))) at_l
      ∙ (ap (at_node u x (walked rs n k L)) at_r
      ∙ (node_walked u x n k L R i j.parent (low x i) (omega arith) (omega arith) (rw j.balance at e) (omega arith) rise.1
      ∙ ap (λ (b : Bal). walked rs n k (node L x b R)) (sym j.balance))))
