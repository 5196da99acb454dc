-- The check of a pool's trees in one pass decides what soundness says of them. Assumes nothing.
use Rattle.std.proofs.Common.{◌≡◌, ℕ, zero, suc, ◌+◌, ◌<◌, ◌≤◌, Bool, true, false, cond, not, ◌&&◌, eqb, List, [], ◌∷◌, length, get_or, sym, refl, ap, ◌∙◌, subst, arith, eq-eqb, eqb-true}
use Rattle.std.proofs.lemmas.Bool.{false≢true}
use Rattle.avl.specs.Tree.{left, Tree, list, height}
use Rattle.avl.specs.Order.{Sorted}
use Rattle.avl.proofs.Height.{levels_14, size_list}
use Rattle.avl.proofs.Sorting.{all_map}
use Rattle.meaning.specs.Layout.{every, count, at}
use Rattle.meaning.specs.Pool.{root_of, count_of, key_in, balance_in, tree_in, read_tree}
use Rattle.meaning.specs.Sound.{linked, reached, rising, balanced, record_ok, tree_ok, trees_ok}
use Rattle.meaning.proofs.Facts.{all_facts, both, both_true, every_at}
use Rattle.meaning.proofs.Clauses.{RowFacts, row_facts, TreeFacts, tree_facts, is_balanced, rising_is, is_rising}
use Rattle.meaning.proofs.Hanging.{Member, top_read, hangs, members}
use Rattle.meaning.proofs.Members.{once_short, height_size}
use Rattle.meaning.proofs.Stored.{hangs_read, hangs_linked}
use Rattle.judge.specs.Check.{Walk, link_n, trees_n}
use Rattle.judge.proofs.Rising.{rising_from, rising_zero}
use Rattle.judge.proofs.Passing.{same_truth, Agree, keys, walked, Passed, passed, passes}
use Rattle.judge.proofs.Counting.{at_most_once, count_in, walk_short, walk_reached, walk_counted, count_from, count_live}

-- the tree that a good walk from the root has passed, none of whose records stands twice
module _ (rs : List (List ℕ)) (t root : ℕ) (f : Walk) (p : Passed rs t 14 0 root 0 0 f) where
  rise : Sorted (λ x y. key_in (at [] rs x) < key_in (at [] rs y)) (list left p.tree)
  rise = rising_is (λ x. key_in (at [] rs x)) (list left p.tree) (sym (rising_zero 0 (keys rs p.tree)) ∙ p.order)

  pub once : (x : ℕ) → count (eqb x) (list left p.tree) ≤ 1
  once x = at_most_once (λ x. key_in (at [] rs x)) x (list left p.tree) rise

  -- A good walk meets no more records than say that they are of the tree.
  pub few : f.seen ≤ count_in rs t
  few =
      let seen_is : f.seen ≡ 0 + length (list left p.tree) = ap (λ (f : Walk). f.seen) p.found in
      omega (arith, walk_short rs t (list left p.tree) (members p.hung) once)

  deep : height p.tree ≤ length rs
  deep =
      let short = once_short (length rs) (list left p.tree) (all_map (λ x h. (h.low, h.high)) (members p.hung)) once in
      omega (arith, height_size p.tree, size_list left p.tree)

-- What the clauses say of a tree that is read below the entry's root.
tree_ok_lem : (rs : List (List ℕ)) (t : ℕ) (e : List ℕ) (tr : Tree) → read_tree rs (length rs) (root_of e) ≡ tr
    → linked rs t (length rs) 0 (root_of e) ≡ true → reached rs t (list left tr) ≡ true → rising (keys rs tr) ≡ true → balanced tr ≡ true
    → count_of e ≡ length (list left tr) → tree_ok rs t e ≡ true
unfolding tree_ok
tree_ok_lem rs t e tr same a b c d n =
    rw same (all_facts (linked rs t (length rs) 0 (root_of e) ∷ reached rs t (list left tr) ∷ rising (keys rs tr) ∷ balanced tr
    ∷ eqb (count_of e) (length (list left tr)) ∷ []) (a, (b, (c, (d, (eq-eqb (count_of e) (length (list left tr)) n, tt))))))

-- A good walk that meets as many as say that they are of the tree, and as many as the entry counts: the clauses hold of the tree.
pub walk_ok : (rs : List (List ℕ)) (t : ℕ) (e : List ℕ) (f : Walk) → Passed rs t 14 0 (root_of e) 0 0 f
    → f.seen ≡ count_in rs t → f.seen ≡ count_of e → tree_ok rs t e ≡ true
walk_ok rs t e f p all_seen counted =
    let tr = p.tree in
    let d = deep rs t (root_of e) f p in
    let seen_is : f.seen ≡ 0 + length (list left tr) = ap (λ (f : Walk). f.seen) p.found in
    let same : read_tree rs (length rs) (root_of e) ≡ tr =
    subst (λ (x : ℕ). read_tree rs (length rs) x ≡ tr) p.root (hangs_read rs t (length rs) 0 tr p.hung d) in
    let links = subst (λ (x : ℕ). linked rs t (length rs) 0 x ≡ true) p.root (hangs_linked rs t (length rs) 0 tr p.hung d) in
    tree_ok_lem rs t e tr same links (walk_reached rs t (list left tr) (members p.hung) (once rs t (root_of e) f p) (omega arith))
    (sym (rising_zero 0 (keys rs tr)) ∙ p.order) (is_balanced tr p.even) (omega arith)

-- The balance of a live record is at most 2.
live_balance : (T used next : ℕ) (rs : List (List ℕ)) (t : ℕ) → every (record_ok T used next) rs ≡ true → 1 ≤ t
    → (x : ℕ) → Member rs t x → balance_in (at [] rs x) ≤ 2
unfolding at
live_balance T used next rs t h low zero i = absurd (omega (arith, i.low))
live_balance T used next rs t h low (suc k) i =
    go (row_facts T used next (get_or rs k []) (every_at (record_ok T used next) rs k [] (omega (arith, i.high)) h))
  where
    go : RowFacts T used next (get_or rs k []) → balance_in (get_or rs k []) ≤ 2
    go (RowFacts.free e z) = absurd (omega (arith, i.tree))
    go (RowFacts.live f) = f.balance_high

-- If the clauses hold of the tree, the walk is good, and meets as many records as the entry counts and as say that they are of the tree.
pub ok_walk : (m : List ℕ) (rs : List (List ℕ)) (t : ℕ) (e : List ℕ) → Agree m rs → length rs ≤ 1024
    → ((x : ℕ) → Member rs t x → balance_in (at [] rs x) ≤ 2) → TreeFacts rs t e → let f = link_n m (length rs) t 14 0 (root_of e) 0 0 in
    (f.ok ≡ true) × (f.seen ≡ count_of e) × (f.seen ≡ count_in rs t)
ok_walk m rs t e g small low k =
    let tr = read_tree rs (length rs) (root_of e) in
    let w = list left tr in
    let f = link_n m (length rs) t 14 0 (root_of e) 0 0 in
    let hung = hangs rs t (length rs) 0 (root_of e) k.links in
    let root = top_read rs t (length rs) 0 (root_of e) k.links in
    let key : ℕ → ℕ = λ x. key_in (at [] rs x) in
    let short = once_short (length rs) w (all_map (λ x h. (h.low, h.high)) (members hung)) (λ x. at_most_once key x w k.keys_rise) in
    let flat : height tr ≤ 14 = levels_14 tr k.balanced (omega (arith, size_list left tr)) in
    let order : rising_from 0 0 (keys rs tr) ≡ true = rising_zero 0 (keys rs tr) ∙ is_rising key w k.keys_rise in
    let is : f ≡ walked rs 0 0 tr =
    ap (λ (x : ℕ). link_n m (length rs) t 14 0 x 0 0) (sym root)
    ∙ passes m rs t g low 14 0 0 0 tr hung k.balanced order flat (omega arith) (omega arith) in
    let seen_is : f.seen ≡ 0 + length w = ap (λ (f : Walk). f.seen) is in
    (ap (λ (f : Walk). f.ok) is, omega (arith, k.count_is), omega (arith, walk_counted rs t w (members hung) k.once))

-- ---- all trees

cond_true : (c b : Bool) → cond c b false ≡ true → (c ≡ true) × (b ≡ true)
cond_true true b h = (refl, h)
cond_true false b h = absurd (false≢true h)

module _ (m : List ℕ) (rs : List (List ℕ)) (live : ℕ) (g : Agree m rs) where
  -- the walk of the first entry is good and as long as it counts, and the rest passes
  pub first_walk : (t total : ℕ) (e : List ℕ) (es : List (List ℕ)) → let f = link_n m (length rs) t 14 0 (root_of e) 0 0 in
      trees_n m (length rs) live t total (e ∷ es) ≡ true
      → Passed rs t 14 0 (root_of e) 0 0 f × (f.seen ≡ count_of e) × (trees_n m (length rs) live (suc t) (total + f.seen) es ≡ true)
  unfolding trees_n
  first_walk t total e es h =
      let f = link_n m (length rs) t 14 0 (root_of e) 0 0 in
      let c = cond_true (f.ok && eqb f.seen (count_of e)) (trees_n m (length rs) live (suc t) (total + f.seen) es) h in
      let d = both f.ok (eqb f.seen (count_of e)) c.0 in
      (passed m rs t g 14 0 (root_of e) 0 0 d.0, eqb-true f.seen (count_of e) d.1, c.1)

  -- good walks meet no more than the counts of their trees
  pub trees_few : (t total : ℕ) (es : List (List ℕ)) → trees_n m (length rs) live t total es ≡ true → live ≤ total + count_from rs t (length es)
  unfolding trees_n count_from
  trees_few t total [] h = omega (arith, eqb-true total live h)
  trees_few t total (e ∷ es) h =
      let f = link_n m (length rs) t 14 0 (root_of e) 0 0 in
      let w = first_walk t total e es h in
      omega (arith, few rs t (root_of e) f w.0, trees_few (suc t) (total + f.seen) es w.2)

  -- if all walks together meet the live records, each meets all of its tree
  trees_ok_lem : (t total : ℕ) (es : List (List ℕ)) → total + count_from rs t (length es) ≡ live → trees_n m (length rs) live t total es ≡ true
      → trees_ok rs t es ≡ true
  unfolding trees_ok count_from
  trees_ok_lem t total [] s h = refl
  trees_ok_lem t total (e ∷ es) s h =
      let f = link_n m (length rs) t 14 0 (root_of e) 0 0 in
      let w = first_walk t total e es h in
      let met : f.seen ≡ count_in rs t = omega (arith, few rs t (root_of e) f w.0, trees_few (suc t) (total + f.seen) es w.2) in
      both_true (tree_ok rs t e) (trees_ok rs (suc t) es) (walk_ok rs t e f w.0 met w.1)
      (trees_ok_lem (suc t) (total + f.seen) es (omega arith) w.2)

  -- and if each does, they meet the live records together
  ok_trees : length rs ≤ 1024 → ((t : ℕ) → 1 ≤ t → (x : ℕ) → Member rs t x → balance_in (at [] rs x) ≤ 2)
      → (t total : ℕ) (es : List (List ℕ)) → 1 ≤ t → total + count_from rs t (length es) ≡ live → trees_ok rs t es ≡ true
      → trees_n m (length rs) live t total es ≡ true
  unfolding trees_ok count_from trees_n
  ok_trees small low t total [] from s h = eq-eqb total live (omega arith)
  ok_trees small low t total (e ∷ es) from s h =
      let f = link_n m (length rs) t 14 0 (root_of e) 0 0 in
      let b = both (tree_ok rs t e) (trees_ok rs (suc t) es) h in
      let w = ok_walk m rs t e g small (low t from) (tree_facts rs t e b.0) in
      rw (w.0, eq-eqb f.seen (count_of e) w.1) (ok_trees small low (suc t) (total + f.seen) es (omega arith) (omega (arith, w.2)) b.1)

-- The check in one pass decides the clauses of the trees.
pub one_pass : (m : List ℕ) (rs : List (List ℕ)) (T used next : ℕ) (es : List (List ℕ)) → Agree m rs → length rs ≤ 1024 → length es ≡ T
    → every (record_ok T used next) rs ≡ true
    → trees_n m (length rs) (count (λ r. not (eqb (tree_in r) 0)) rs) 1 0 es ≡ trees_ok rs 1 es
one_pass m rs T used next es g small many h =
    let live = count (λ r. not (eqb (tree_in r) 0)) rs in
    let c = count_live T used next rs h in
    let s : 0 + count_from rs 1 (length es) ≡ live = rw many (omega arith) in
    same_truth (trees_n m (length rs) live 1 0 es) (trees_ok rs 1 es) (trees_ok_lem m rs live g 1 0 es s)
    (ok_trees m rs live g small (λ t low. live_balance T used next rs t h low) 1 0 es (omega arith) s)
