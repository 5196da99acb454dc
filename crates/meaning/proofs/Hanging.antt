-- A tree read by links that hold: where it hangs, what its slots are, and that every record finds its own links in it. Assumes nothing.
use Rattle.std.proofs.Common.{◌≡◌, ℕ, zero, suc, ◌<◌, ◌≤◌, Bool, true, false, cond, eqb, leb, List, [], ◌∷◌, ◌++◌, length, sym, refl, ap, ◌∙◌, subst, arith, ne_eqb, eqb-true, leb-true}
use Rattle.std.proofs.Math.Decide.{dec_lt}
use Rattle.std.proofs.Math.ListN.{get_or-eq_default}
use Rattle.std.proofs.lemmas.Bool.{eqb-false}
use Rattle.avl.specs.Tree.{left, Bal, code, Tree, leaf, node, top, list}
use Rattle.avl.specs.Order.{All}
use Rattle.avl.proofs.Sorting.{all_append}
use Rattle.meaning.specs.Layout.{bit, all, count, at}
use Rattle.avl.specs.Links.{Links, links_in}
use Rattle.meaning.specs.Pool.{root_of, left_in, right_in, parent_in, balance_in, tree_in, decode, read_tree}
use Rattle.meaning.specs.Sound.{linked}
use Rattle.meaning.proofs.Facts.{count_none, test, facts, count_append}
use Rattle.meaning.proofs.Clauses.{TreeFacts}
use Rattle.meaning.proofs.Sections.{tree_none}

-- slot x is one of the records, and of tree t
pub record Member (rs : List (List ℕ)) (t x : ℕ) : Type 0 where
  pub low : 1 ≤ x
  pub high : x ≤ length rs
  pub tree : tree_in (at [] rs x) ≡ t

-- the record x of tree t hangs below u, with these parts and this balance
pub record Joint (rs : List (List ℕ)) (t u : ℕ) (l : Tree) (x : ℕ) (b : Bal) (r : Tree) : Type 0 where
  pub member : Member rs t x
  pub parent : parent_in (at [] rs x) ≡ u
  pub left : left_in (at [] rs x) ≡ top l
  pub right : right_in (at [] rs x) ≡ top r
  pub balance : b ≡ decode (balance_in (at [] rs x))

-- a tree of records of tree t that hangs below u
pub data Hangs (rs : List (List ℕ)) (t : ℕ) : ℕ → Tree → Type 0 where
  bare : {u : ℕ} → Hangs rs t u leaf
  joined : {u : ℕ} {l : Tree} {x : ℕ} {b : Bal} {r : Tree} → Joint rs t u l x b r → Hangs rs t x l → Hangs rs t x r → Hangs rs t u (node l x b r)

-- ---- reading by links

module _ (rs : List (List ℕ)) (level x : ℕ) (low : 1 ≤ x) where
  -- A link to a record is read as a node.
  pub read_node : let r = at [] rs x in
      read_tree rs (suc level) x ≡ node (read_tree rs level (left_in r)) x (decode (balance_in r)) (read_tree rs level (right_in r))
  unfolding read_tree
  read_node = simp (ne_eqb x 0 (omega arith))

  -- What a link to a record is tested for.
  pub linked_node : (t u : ℕ) → let r = at [] rs x in
      linked rs t (suc level) u x ≡
      all (leb x (length rs) ∷ eqb (tree_in r) t ∷ eqb (parent_in r) u ∷ linked rs t level x (left_in r) ∷ linked rs t level x (right_in r) ∷ [])
  unfolding linked
  linked_node t u = simp (ne_eqb x 0 (omega arith))

-- The tree read at x has x at its top.
pub top_read : (rs : List (List ℕ)) (t level u x : ℕ) → linked rs t level u x ≡ true → top (read_tree rs level x) ≡ x
unfolding linked read_tree
top_read rs t zero u x h = sym (eqb-true x 0 h)
top_read rs t (suc level) u zero h = refl
top_read rs t (suc level) u (suc i) h = ap top (read_node rs level (suc i) (omega arith))

-- The tree that is read by links that hold hangs where they begin.
pub hangs : (rs : List (List ℕ)) (t level u x : ℕ) → linked rs t level u x ≡ true → Hangs rs t u (read_tree rs level x)
unfolding read_tree
hangs rs t zero u x h = Hangs.bare
hangs rs t (suc level) u zero h = Hangs.bare
hangs rs t (suc level) u (suc i) h =
    let x = suc i in
    let r = at [] rs x in
    let low : 1 ≤ x = omega arith in
    let f = facts (leb x (length rs) ∷ eqb (tree_in r) t ∷ eqb (parent_in r) u ∷ linked rs t level x (left_in r) ∷ linked rs t level x (right_in r) ∷ [])
    (sym (linked_node rs level x low t u) ∙ h) in
    let g = f.1.1.1 in
    let j : Joint rs t u (read_tree rs level (left_in r)) x (decode (balance_in r)) (read_tree rs level (right_in r)) =
    record {
      member = record { low = low; high = leb-true x (length rs) f.0; tree = eqb-true (tree_in r) t f.1.0 };
      parent = eqb-true (parent_in r) u f.1.1.0;
      left = sym (top_read rs t level x (left_in r) g.0);
      right = sym (top_read rs t level x (right_in r) g.1.0);
      balance = refl;
    } in
    subst (λ (k : Tree). Hangs rs t u k) (sym (read_node rs level x low))
    (Hangs.joined j (hangs rs t level x (left_in r) g.0) (hangs rs t level x (right_in r) g.1.0))

-- ---- what hangs

-- The slots of the tree are its members.
pub members : {rs : List (List ℕ)} {t u : ℕ} {k : Tree} → Hangs rs t u k → All (Member rs t) (list left k)
unfolding list
members Hangs.bare = All.nil
members (Hangs.joined j a c) = all_append (members a) (All.more j.member (members c))

-- A slot whose row says tree t is a member of it: where there is no row, the tree is 0.
pub member_of : (rs : List (List ℕ)) (t x : ℕ) → 1 ≤ t → tree_in (at [] rs x) ≡ t → Member rs t x
unfolding at
member_of rs t zero low e = absurd (omega (arith, tree_none))
member_of rs t (suc i) low e = go (dec_lt i (length rs))
  where
    go : Dec (i < length rs) → Member rs t (suc i)
    go (yes h) = record { low = omega arith; high = h; tree = e }
    go (no h) =
        let out : length rs ≤ i = omega arith in
        absurd (omega (arith, tree_none, rw (get_or-eq_default rs [] out) at e))

-- A tree's list has every slot as often as the slot's row says: once if it is of the tree, else never.
pub once_each : (rs : List (List ℕ)) (t : ℕ) (e : List ℕ) → 1 ≤ t → TreeFacts rs t e → (x : ℕ)
    → count (eqb x) (list left (read_tree rs (length rs) (root_of e))) ≡ bit (eqb (tree_in (at [] rs x)) t)
once_each rs t e low f x =
    let n = tree_in (at [] rs x) in
    let w = list left (read_tree rs (length rs) (root_of e)) in
    test (eqb n t)
    (λ k. let m = member_of rs t x low (eqb-true n t k) in f.once x m.low m.high)
    (λ k. count_none x w (members (hangs rs t (length rs) 0 (root_of e) f.links)) (λ m. eqb-false n t k m.tree) ∙ ap (λ (c : Bool). bit c) (sym k))

-- the links that a record stores
unfoldable pub links_of : List ℕ → Links
links_of r = record { left = left_in r; right = right_in r; parent = parent_in r; balance = balance_in r }

code_decode : (n : ℕ) → n ≤ 2 → code (decode n) ≡ n
unfolding decode
code_decode zero h = refl
code_decode (suc zero) h = refl
code_decode (suc (suc zero)) h = refl
code_decode (suc (suc (suc n))) h = absurd (omega arith)

joint_links : {rs : List (List ℕ)} {t u : ℕ} {l : Tree} {x : ℕ} {b : Bal} {r : Tree} (y : ℕ)
    → balance_in (at [] rs y) ≤ 2 → Joint rs t u l x b r → y ≡ x
    → record { left = top l; right = top r; parent = u; balance = code b } ≡ links_of (at [] rs y)
unfolding links_of
joint_links {rs = rs} y low j e = let z = code_decode (balance_in (at [] rs y)) low in cc

-- A record finds its own links in the tree if it is there, or if it is given them.
pub links_found : {rs : List (List ℕ)} {t u : ℕ} {v : Tree} → Hangs rs t u v → (y : ℕ) (k : Links) → balance_in (at [] rs y) ≤ 2
    → (count (eqb y) (list left v) ≡ 0 → k ≡ links_of (at [] rs y)) → links_in v u y k ≡ links_of (at [] rs y)
unfolding links_in list count links_of
links_found Hangs.bare y k low given = given refl
links_found {rs} {t} {u} (Hangs.joined {l = l} {x = x} {b = b} {r = r} j a c) y k low given =
    go (eqb y x) refl (λ n. links_found a y (links_in r x y k) low (λ p. links_found c y k low (λ q. given (n p q))))
  where
    go : (h : Bool) → eqb y x ≡ h
        → ((count (eqb y) (list left l) ≡ 0 → count (eqb y) (list left r) ≡ 0 → count (eqb y) (list left l ++ (x ∷ list left r)) ≡ 0)
        → links_in l x y (links_in r x y k) ≡ links_of (at [] rs y))
        → cond h (record { left = top l; right = top r; parent = u; balance = code b }) (links_in l x y (links_in r x y k)) ≡ links_of (at [] rs y)
    go true e below = joint_links y low j (eqb-true y x e)
    go false e below = below (λ p q. rw (count_append (eqb y) (list left l) (x ∷ list left r), e, p, q))
