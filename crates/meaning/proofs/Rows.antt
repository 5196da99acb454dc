-- The fields of what is written for a tree and for a slot: an entry, a live record, a free one. Assumes nothing.
use Rattle.std.proofs.Common.{◌≡◌, ℕ, ◌≤◌, Bool, true, false, cond, eqb, List, [], ◌∷◌, length, drop, replicate, refl, arith}
use Rattle.std.proofs.Math.Option.{none, some}
use Rattle.fields.specs.Number.{digits}
use Rattle.fields.specs.Part.{zeros}
use Rattle.avl.specs.Tree.{left, right, Bal, even, heavy, code, Tree, leaf, node, top, list}
use Rattle.avl.specs.Order.{All}
use Rattle.avl.proofs.Sorting.{all_map}
use Rattle.meaning.specs.Layout.{pack, at}
use Rattle.avl.specs.Links.{Links, unlinked, links_in}
use Rattle.meaning.specs.Pool.{Rec, Pool, rec_at, tree_at, links_at, entry_bytes, record_bytes, record_rows, root_of, count_of, key_in, left_in, right_in, parent_in, balance_in, tree_in, stamp_in, start_in, len_in}
use Rattle.meaning.specs.WellFormed.{GoodRec, WellFormed}
use Rattle.meaning.specs.Demands.{RowSays}
use Rattle.meaning.proofs.Members.{all_node, slot_in, tree_lives, list_short}
use Rattle.meaning.proofs.Packed.{packed_field, row_at}

-- ---- links fit their fields

-- slots of at most 1,024, and a balance of at most 2
pub record Small (k : Links) : Type 0 where
  pub left_high : k.left ≤ 1024
  pub right_high : k.right ≤ 1024
  pub parent_high : k.parent ≤ 1024
  pub balance_high : k.balance ≤ 2

code_high : (b : Bal) → code b ≤ 2
code_high even = omega arith
code_high (heavy left) = omega arith
code_high (heavy right) = omega arith

top_high : (m : ℕ) (t : Tree) → All (λ y. y ≤ m) (list left t) → top t ≤ m
top_high m leaf a = omega arith
top_high m (node l s b r) a = (all_node l s b r a).1

links_small : (t : Tree) (u x : ℕ) (k : Links) → All (λ y. y ≤ 1024) (list left t) → u ≤ 1024 → Small k → Small (links_in t u x k)
unfolding links_in
links_small leaf u x k a h s = s
links_small (node l y b r) u x k a h s =
    let c = all_node l y b r a in
    go (eqb x y)
    (record { left_high = top_high 1024 l c.0; right_high = top_high 1024 r c.2; parent_high = h; balance_high = code_high b })
    (links_small l y x (links_in r y x k) c.0 c.1 (links_small r y x k c.2 c.1 s))
  where
    go : (c : Bool) {a b : Links} → Small a → Small b → Small (cond c a b)
    go true sa sb = sa
    go false sa sb = sb

low_slots : (p : Pool) (t : ℕ) → WellFormed p → 1 ≤ t → t ≤ length p.trees → All (λ y. y ≤ 1024) (list left (tree_at p t))
low_slots p t v lo hi = all_map (λ y h. omega (arith, h.high, v.slots_high)) (tree_lives p t (v.trees t lo hi))

-- The links of a slot in a well-formed pool fit their fields.
pub links_fit : (p : Pool) (t x : ℕ) → WellFormed p → 1 ≤ t → t ≤ length p.trees → Small (links_at p t x)
unfolding links_at
links_fit p t x v lo hi =
    links_small (tree_at p t) 0 x unlinked (low_slots p t v lo hi) (omega arith)
    (record { left_high = omega arith; right_high = omega arith; parent_high = omega arith; balance_high = omega arith })

-- ---- a live record

row_says : (p : Pool) (x : ℕ) (r : Rec) → WellFormed p → GoodRec p r → RowSays (record_bytes p x (some r)) r (links_at p r.tree x)
unfolding record_bytes pack digits zeros key_in left_in right_in parent_in balance_in tree_in stamp_in start_in len_in
row_says p x r v g =
    let k = links_at p r.tree x in let small = links_fit p r.tree x v g.tree_low g.tree_high in
    let fs : List (ℕ × ℕ) =
    (8, r.key) ∷ (2, k.left) ∷ (2, k.right) ∷ (2, k.parent) ∷ (1, k.balance) ∷ (1, r.tree)
    ∷ (4, r.stamp) ∷ (4, r.start) ∷ (2, r.len) ∷ (6, 0) ∷ [] in
    record {
      key_is = packed_field fs 0 [] (omega arith) g.key_high;
      left_is = packed_field fs 1 [] (omega arith) (omega arith);
      right_is = packed_field fs 2 [] (omega arith) (omega arith);
      parent_is = packed_field fs 3 [] (omega arith) (omega arith);
      balance_is = packed_field fs 4 [] (omega arith) (omega arith);
      tree_is = packed_field fs 5 [] (omega arith) (omega arith);
      stamp_is = packed_field fs 6 [] (omega arith) (omega arith);
      start_is = packed_field fs 7 [] (omega arith) (omega arith);
      len_is = packed_field fs 8 [] (omega arith) (omega arith);
      rest_is = refl;
    }

-- The row of a live slot stores its record and its links.
pub live_row : (p : Pool) (x : ℕ) (r : Rec) → WellFormed p → rec_at p x ≡ some r
    → RowSays (at [] (record_rows p 1 p.slots) x) r (links_at p r.tree x)
live_row p x r v e =
    let i = slot_in p x r e in
    rw (row_at p x i.0 i.1, e) (row_says p x r v (v.recs x r e))

-- The row of a free slot is zeros.
pub free_row : (p : Pool) (x : ℕ) → 1 ≤ x → x ≤ length p.slots → rec_at p x ≡ none → at [] (record_rows p 1 p.slots) x ≡ replicate 32 0
unfolding record_bytes
free_row p x lo hi e = rw (row_at p x lo hi, e)

-- ---- an entry

-- A tree's entry has the slot at its top.
pub root_is : (p : Pool) (t : ℕ) → WellFormed p → 1 ≤ t → t ≤ length p.trees → root_of (entry_bytes (tree_at p t)) ≡ top (tree_at p t)
unfolding entry_bytes root_of pack digits
root_is p t v lo hi =
    let w = tree_at p t in
    packed_field ((2, top w) ∷ (2, length (list left w)) ∷ (4, 0) ∷ []) 0 [] (omega arith) (omega (arith, top_high 1024 w (low_slots p t v lo hi)))

-- It has the number of its records.
pub count_is : (p : Pool) (t : ℕ) → WellFormed p → 1 ≤ t → t ≤ length p.trees → count_of (entry_bytes (tree_at p t)) ≡ length (list left (tree_at p t))
unfolding entry_bytes count_of pack digits
count_is p t v lo hi =
    let w = tree_at p t in
    packed_field ((2, top w) ∷ (2, length (list left w)) ∷ (4, 0) ∷ []) 1 [] (omega arith) (omega (arith, list_short p t v lo hi))

-- It ends in four zero bytes.
pub entry_zeros : (t : Tree) → zeros (drop 4 (entry_bytes t)) ≡ true
unfolding entry_bytes pack digits zeros
entry_zeros t = refl
