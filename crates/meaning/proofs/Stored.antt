-- Trees stored in rows: the rows of a well-formed pool store its trees, and a stored tree is read back and its links hold. Assumes nothing.
use Rattle.std.proofs.Common.{◌≡◌, ℕ, zero, suc, ◌+◌, ◌≤◌, true, eqb, leb, List, [], ◌∷◌, length, sym, refl, ap, ◌∙◌, arith, eq-eqb, le-leb}
use Rattle.avl.specs.Tree.{left, right, Bal, even, heavy, code, Tree, leaf, node, top, list, height}
use Rattle.avl.specs.Order.{All}
use Rattle.meaning.specs.Layout.{bit, count, at}
use Rattle.avl.specs.Links.{Links, unlinked, links_in}
use Rattle.meaning.specs.Pool.{Pool, tree_at, links_at, record_rows, left_in, right_in, parent_in, tree_in, decode, read_tree}
use Rattle.meaning.specs.Sound.{linked}
use Rattle.meaning.specs.WellFormed.{WellFormed}
use Rattle.meaning.proofs.Facts.{all_facts, bit_zero}
use Rattle.meaning.proofs.Hanging.{Joint, Hangs, bare, joined, read_node, linked_node}
use Rattle.meaning.proofs.Members.{all_node, count_node, Lives, tree_lives, tree_once, tree_depth}
use Rattle.meaning.proofs.Packed.{rows_many}
use Rattle.meaning.proofs.Rows.{live_row}

-- ---- a tree that hangs in rows

-- A tree that hangs in rows is read back, if it is read to as many levels as it has.
pub hangs_read : (rs : List (List ℕ)) (t level u : ℕ) (tr : Tree) → Hangs rs t u tr → height tr ≤ level → read_tree rs level (top tr) ≡ tr
unfolding read_tree height
hangs_read rs t zero u leaf bare h = refl
hangs_read rs t (suc k) u leaf bare h = refl
hangs_read rs t zero u (node l x b r) (joined j a c) h = absurd (omega arith)
hangs_read rs t (suc k) u (node l x b r) (joined j a c) h =
    let at_l : read_tree rs k (left_in (at [] rs x)) ≡ l = rw j.left (hangs_read rs t k x l a (omega arith)) in
    let at_r : read_tree rs k (right_in (at [] rs x)) ≡ r = rw j.right (hangs_read rs t k x r c (omega arith)) in
    read_node rs k x j.member.low ∙ rw (at_l, at_r, ← j.balance)

-- Its links hold.
pub hangs_linked : (rs : List (List ℕ)) (t level u : ℕ) (tr : Tree) → Hangs rs t u tr → height tr ≤ level → linked rs t level u (top tr) ≡ true
unfolding linked height
hangs_linked rs t zero u leaf bare h = refl
hangs_linked rs t (suc k) u leaf bare h = refl
hangs_linked rs t zero u (node l x b r) (joined j a c) h = absurd (omega arith)
hangs_linked rs t (suc k) u (node l x b r) (joined j a c) h =
    let w = at [] rs x in
    let at_l : linked rs t k x (left_in w) ≡ true = rw j.left (hangs_linked rs t k x l a (omega arith)) in
    let at_r : linked rs t k x (right_in w) ≡ true = rw j.right (hangs_linked rs t k x r c (omega arith)) in
    linked_node rs k x j.member.low t u
    ∙ all_facts (leb x (length rs) ∷ eqb (tree_in w) t ∷ eqb (parent_in w) u ∷ linked rs t k x (left_in w) ∷ linked rs t k x (right_in w) ∷ [])
    (le-leb x (length rs) j.member.high, (eq-eqb (tree_in w) t j.member.tree, (eq-eqb (parent_in w) u j.parent, (at_l, (at_r, tt)))))

-- ---- the trees of a well-formed pool hang in its rows

links_top : (l : Tree) (s : ℕ) (b : Bal) (r : Tree) (u : ℕ) (k : Links)
    → links_in (node l s b r) u s k ≡ record { left = top l; right = top r; parent = u; balance = code b }
unfolding links_in
links_top l s b r u k = rw (eq-eqb s s refl, links_in)

links_below : (l : Tree) (s : ℕ) (b : Bal) (r : Tree) (u x : ℕ) (k : Links) → bit (eqb x s) ≡ 0
    → links_in (node l s b r) u x k ≡ links_in l s x (links_in r s x k)
unfolding links_in
links_below l s b r u x k h = rw (bit_zero (eqb x s) h, links_in)

-- A slot that is not in a tree has no links there.
pub links_out : (t : Tree) (u x : ℕ) (k : Links) → count (eqb x) (list left t) ≡ 0 → links_in t u x k ≡ k
unfolding links_in
links_out leaf u x k h = refl
links_out (node l s b r) u x k h =
    let c = count_node x l s b r in
    links_below l s b r u x k (omega arith) ∙ links_out l s x (links_in r s x k) (omega arith) ∙ links_out r s x k (omega arith)

decode_code : (b : Bal) → b ≡ decode (code b)
unfolding decode
decode_code even = refl
decode_code (heavy left) = refl
decode_code (heavy right) = refl

module _ (p : Pool) (t : ℕ) (v : WellFormed p) where
  joint : (u : ℕ) (l : Tree) (x : ℕ) (b : Bal) (r : Tree) → Lives p t x
      → links_at p t x ≡ record { left = top l; right = top r; parent = u; balance = code b } → Joint (record_rows p 1 p.slots) t u l x b r
  joint u l x b r h e =
      let f = live_row p x h.rec v h.is in
      let k : links_at p h.rec.tree x ≡ record { left = top l; right = top r; parent = u; balance = code b } = rw h.tree_is e in
      record {
        member = record { low = h.low; high = omega (arith, h.high, rows_many p 1 p.slots); tree = f.tree_is ∙ h.tree_is };
        parent = f.parent_is ∙ ap (λ (k : Links). k.parent) k;
        left = f.left_is ∙ ap (λ (k : Links). k.left) k;
        right = f.right_is ∙ ap (λ (k : Links). k.right) k;
        balance = decode_code b ∙ ap decode (sym (f.balance_is ∙ ap (λ (k : Links). k.balance) k));
      }

  -- a part of the tree below u, in which links_at finds its links
  part_hangs : (u : ℕ) (tr : Tree) → All (Lives p t) (list left tr) → ((x : ℕ) → count (eqb x) (list left tr) ≤ 1)
      → ((x : ℕ) → 1 ≤ count (eqb x) (list left tr) → (k : Links) × (links_at p t x ≡ links_in tr u x k)) → Hangs (record_rows p 1 p.slots) t u tr
  part_hangs u leaf a o f = bare
  part_hangs u (node l s b r) a o f =
      joined here (part_hangs s l ends.0 (λ x. omega (arith, c x, o x)) at_left) (part_hangs s r ends.2 (λ x. omega (arith, c x, o x)) at_right)
    where
      ends : All (Lives p t) (list left l) × Lives p t s × All (Lives p t) (list left r)
      ends = all_node l s b r a

      c : (x : ℕ) → count (eqb x) (list left (node l s b r)) ≡ count (eqb x) (list left l) + (bit (eqb x s) + count (eqb x) (list left r))
      c x = count_node x l s b r

      here : Joint (record_rows p 1 p.slots) t u l s b r
      here =
          let k = f s (omega (arith, c s, ap bit (eq-eqb s s refl))) in
          joint u l s b r ends.1 (k.1 ∙ links_top l s b r u k.0)

      at_left : (x : ℕ) → 1 ≤ count (eqb x) (list left l) → (k : Links) × (links_at p t x ≡ links_in l s x k)
      at_left x h =
          let k = f x (omega (arith, c x)) in
          (links_in r s x k.0, k.1 ∙ links_below l s b r u x k.0 (omega (arith, c x, o x)))

      at_right : (x : ℕ) → 1 ≤ count (eqb x) (list left r) → (k : Links) × (links_at p t x ≡ links_in r s x k)
      at_right x h =
          let k = f x (omega (arith, c x)) in
          (k.0, k.1 ∙ links_below l s b r u x k.0 (omega (arith, c x, o x)) ∙ links_out l s x (links_in r s x k.0) (omega (arith, c x, o x)))

  -- The tree hangs in the rows.
  pub tree_hangs : 1 ≤ t → t ≤ length p.trees → Hangs (record_rows p 1 p.slots) t 0 (tree_at p t)
  unfolding links_at
  tree_hangs lo hi =
      let g = v.trees t lo hi in
      part_hangs 0 (tree_at p t) (tree_lives p t g) (tree_once p t g) (λ x h. (unlinked, refl))

  -- The tree is read back.
  pub tree_back : 1 ≤ t → t ≤ length p.trees → read_tree (record_rows p 1 p.slots) (length p.slots) (top (tree_at p t)) ≡ tree_at p t
  tree_back lo hi =
      hangs_read (record_rows p 1 p.slots) t (length p.slots) 0 (tree_at p t) (tree_hangs lo hi) (tree_depth p t v lo hi)
