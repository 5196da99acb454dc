-- What soundness says, as records of named facts: of the header, of an entry, of a record, of a tree and of the whole. Assumes nothing.
use Rattle.std.proofs.Common.{◌≡◌, ℕ, zero, suc, ◌+◌, ◌*◌, ◌<◌, ◌≤◌, Bool, true, false, cond, not, eqb, ltb, leb, List, [], ◌∷◌, map, length, get_or, drop, sym, refl, ◌∙◌, subst, add-zero, arith, ltb-true, lt-ltb, eq-eqb, eqb-true, leb-true}
use Rattle.std.proofs.Math.Bool.{beq}
use Rattle.fields.specs.Part.{zeros}
use Rattle.avl.specs.Tree.{left, right, Tree, leaf, node, list, height, tilt, Balanced}
use Rattle.avl.specs.Order.{All, Sorted}
use Rattle.avl.proofs.Sorting.{all_map}
use Rattle.meaning.specs.Layout.{bit, within, all, every, count, at}
use Rattle.meaning.specs.Pool.{edition, n_slots, n_trees, n_live, at_entries, at_records, at_text, text_size, text_used, next_stamp, root_of, count_of, key_in, balance_in, tree_in, stamp_in, start_in, len_in, entries, records, text_of, read_tree}
use Rattle.meaning.specs.Sound.{header_ok, entry_ok, live_ok, record_ok, text_ok, linked, reached, rising, balanced, tree_ok, trees_ok, sound}
use Rattle.meaning.proofs.Facts.{facts, all_facts, both, both_true, every_at, every_span, length_rows}

-- ---- tests as facts

-- What a test of bounds says.
pub within_is : (lo hi n : ℕ) → within lo hi n ≡ true → (lo ≤ n) × (n ≤ hi)
unfolding within
within_is lo hi n h = let k = both (leb lo n) (leb n hi) h in (leb-true lo n k.0, leb-true n hi k.1)

-- The test of balance is the property.
pub balanced_is : (t : Tree) → balanced t ≡ true → Balanced t
unfolding balanced
balanced_is leaf h = Balanced.none
balanced_is (node l s b r) h =
    let f = facts (balanced l ∷ balanced r ∷ eqb (height l + tilt right b) (height r + tilt left b) ∷ []) h in
    Balanced.both (balanced_is l f.0) (balanced_is r f.1.0) (eqb-true (height l + tilt right b) (height r + tilt left b) f.1.1.0)

-- And a balanced tree passes it.
pub is_balanced : (t : Tree) → Balanced t → balanced t ≡ true
unfolding balanced
is_balanced leaf Balanced.none = refl
is_balanced (node l s b r) (Balanced.both p q e) =
    all_facts (balanced l ∷ balanced r ∷ eqb (height l + tilt right b) (height r + tilt left b) ∷ [])
    (is_balanced l p, (is_balanced r q, (eq-eqb (height l + tilt right b) (height r + tilt left b) e, tt)))

-- The test that numbers rise strictly is that their list is sorted.
pub rising_is : (f : ℕ → ℕ) (w : List ℕ) → rising (map f w) ≡ true → Sorted (λ x y. f x < f y) w
unfolding rising
rising_is f [] h = Sorted.nil
rising_is f (x ∷ []) h = Sorted.rise All.nil Sorted.nil
rising_is f (x ∷ y ∷ w) h =
    let k = both (ltb (f x) (f y)) (rising (f y ∷ map f w)) h in
    step (ltb-true (f x) (f y) k.0) (rising_is f (y ∷ w) k.1)
  where
    step : f x < f y → Sorted (λ x y. f x < f y) (y ∷ w) → Sorted (λ x y. f x < f y) (x ∷ y ∷ w)
    step less (Sorted.rise a s) = Sorted.rise (All.more less (all_map (λ z more. omega arith) a)) (Sorted.rise a s)

-- And the numbers of a sorted list pass it.
pub is_rising : (f : ℕ → ℕ) (w : List ℕ) → Sorted (λ x y. f x < f y) w → rising (map f w) ≡ true
unfolding rising
is_rising f [] s = refl
is_rising f (x ∷ []) s = refl
is_rising f (x ∷ y ∷ w) (Sorted.rise (All.more less a) s) =
    both_true (ltb (f x) (f y)) (rising (f y ∷ map f w)) (lt-ltb (f x) (f y) less) (is_rising f (y ∷ w) s)

-- ---- the header

pub record Header (b : List ℕ) : Type 0 where
  pub edition_is : edition b ≡ 1
  pub slots_low : 1 ≤ n_slots b
  pub slots_high : n_slots b ≤ 1024
  pub trees_low : 1 ≤ n_trees b
  pub trees_high : n_trees b ≤ 8
  pub entries_at : at_entries b ≡ 32
  pub records_at : at_records b ≡ 32 + 8 * n_trees b
  pub text_at : at_text b ≡ 32 + 8 * n_trees b + 32 * n_slots b
  pub size_high : text_size b ≤ 8192
  pub used_fits : text_used b ≤ text_size b
  pub next_low : 1 ≤ next_stamp b
  pub length_is : length b ≡ 32 + 8 * n_trees b + 32 * n_slots b + text_size b

-- What the test of the header says.
pub header_facts : (b : List ℕ) → header_ok b ≡ true → Header b
unfolding header_ok
header_facts b h =
    let N = n_slots b in let T = n_trees b in let X = text_size b in
    let f = facts (eqb (edition b) 1 ∷ within 1 1024 N ∷ within 1 8 T ∷ eqb (at_entries b) 32 ∷ eqb (at_records b) (32 + 8 * T)
    ∷ eqb (at_text b) (32 + 8 * T + 32 * N) ∷ leb X 8192 ∷ leb (text_used b) X ∷ leb 1 (next_stamp b)
    ∷ eqb (length b) (32 + 8 * T + 32 * N + X) ∷ []) h in
    let slots = within_is 1 1024 N f.1.0 in let trees = within_is 1 8 T f.1.1.0 in
    let g = f.1.1.1.1.1 in
    record {
      edition_is = eqb-true _ _ f.0;
      slots_low = slots.0;
      slots_high = slots.1;
      trees_low = trees.0;
      trees_high = trees.1;
      entries_at = eqb-true _ _ f.1.1.1.0;
      records_at = eqb-true _ _ f.1.1.1.1.0;
      text_at = eqb-true _ _ g.0;
      size_high = leb-true _ _ g.1.0;
      used_fits = leb-true _ _ g.1.1.0;
      next_low = leb-true _ _ g.1.1.1.0;
      length_is = eqb-true _ _ g.1.1.1.1.0;
    }

-- ---- an entry

pub record EntryFacts (e : List ℕ) : Type 0 where
  pub no_root : root_of e ≡ 0 → count_of e ≡ 0
  pub no_count : count_of e ≡ 0 → root_of e ≡ 0
  pub rest : zeros (drop 4 e) ≡ true

-- two tests that agree
same : (a c : Bool) → beq a c ≡ true → a ≡ c
same true true h = refl
same true false h = sym h
same false true h = h
same false false h = refl

-- What the test of an entry says.
pub entry_facts : (e : List ℕ) → entry_ok e ≡ true → EntryFacts e
unfolding entry_ok
entry_facts e h =
    let f = facts (beq (eqb (root_of e) 0) (eqb (count_of e) 0) ∷ zeros (drop 4 e) ∷ []) h in
    let g : eqb (root_of e) 0 ≡ eqb (count_of e) 0 = same (eqb (root_of e) 0) (eqb (count_of e) 0) f.0 in
    record {
      no_root = λ z. eqb-true (count_of e) 0 (sym g ∙ eq-eqb (root_of e) 0 z);
      no_count = λ z. eqb-true (root_of e) 0 (g ∙ eq-eqb (count_of e) 0 z);
      rest = f.1.0;
    }

-- ---- a record

pub record LiveFacts (T used next : ℕ) (r : List ℕ) : Type 0 where
  pub balance_high : balance_in r ≤ 2
  pub tree_low : 1 ≤ tree_in r
  pub tree_high : tree_in r ≤ T
  pub stamp_low : 1 ≤ stamp_in r
  pub stamp_high : stamp_in r < next
  pub len_low : 1 ≤ len_in r
  pub len_high : len_in r ≤ 255
  pub name_fits : start_in r + len_in r ≤ used
  pub rest : zeros (drop 26 r) ≡ true

-- What the test of a live record says.
pub live_facts : (T used next : ℕ) (r : List ℕ) → live_ok T used next r ≡ true → LiveFacts T used next r
unfolding live_ok
live_facts T used next r h =
    let f = facts (leb (balance_in r) 2 ∷ within 1 T (tree_in r) ∷ leb 1 (stamp_in r) ∷ ltb (stamp_in r) next ∷ within 1 255 (len_in r)
    ∷ leb (start_in r + len_in r) used ∷ zeros (drop 26 r) ∷ []) h in
    let tree = within_is 1 T (tree_in r) f.1.0 in
    let g = f.1.1.1.1 in
    let len = within_is 1 255 (len_in r) g.0 in
    record {
      balance_high = leb-true _ _ f.0;
      tree_low = tree.0;
      tree_high = tree.1;
      stamp_low = leb-true _ _ f.1.1.0;
      stamp_high = ltb-true _ _ f.1.1.1.0;
      len_low = len.0;
      len_high = len.1;
      name_fits = leb-true _ _ g.1.0;
      rest = g.1.1.0;
    }

-- a record is free and all zero, or live
pub data RowFacts (T used next : ℕ) (r : List ℕ) : Type 0 where
  free : tree_in r ≡ 0 → zeros r ≡ true → RowFacts T used next r
  live : LiveFacts T used next r → RowFacts T used next r

-- What the test of a record says.
pub row_facts : (T used next : ℕ) (r : List ℕ) → record_ok T used next r ≡ true → RowFacts T used next r
unfolding record_ok
row_facts T used next r h = go (eqb (tree_in r) 0) refl h
  where
    go : (c : Bool) → eqb (tree_in r) 0 ≡ c → cond c (zeros r) (live_ok T used next r) ≡ true → RowFacts T used next r
    go true t k = RowFacts.free (eqb-true (tree_in r) 0 t) k
    go false t k = RowFacts.live (live_facts T used next r k)

-- ---- a tree

-- tree t below its entry e: its links hold, its list has every live record of the tree exactly once, keys rise, it is balanced, and the count
-- of its entry is that of its list
pub record TreeFacts (rs : List (List ℕ)) (t : ℕ) (e : List ℕ) : Type 0 where
  pub links : linked rs t (length rs) 0 (root_of e) ≡ true
  pub once : (x : ℕ) → 1 ≤ x → x ≤ length rs
      → count (eqb x) (list left (read_tree rs (length rs) (root_of e))) ≡ bit (eqb (tree_in (at [] rs x)) t)
  pub keys_rise : Sorted (λ x y. key_in (at [] rs x) < key_in (at [] rs y)) (list left (read_tree rs (length rs) (root_of e)))
  pub balanced : Balanced (read_tree rs (length rs) (root_of e))
  pub count_is : count_of e ≡ length (list left (read_tree rs (length rs) (root_of e)))

-- What the test that the links reach every record says of one slot.
pub reached_at : (rs : List (List ℕ)) (t : ℕ) (w : List ℕ) → reached rs t w ≡ true → (x : ℕ) → 1 ≤ x → x ≤ length rs
    → count (eqb x) w ≡ bit (eqb (tree_in (at [] rs x)) t)
unfolding reached
reached_at rs t w h x lo hi =
    eqb-true (count (eqb x) w) (bit (eqb (tree_in (at [] rs x)) t))
    (every_span (λ x. eqb (count (eqb x) w) (bit (eqb (tree_in (at [] rs x)) t))) 1 (length rs) x lo (omega arith) h)

-- What the test of a tree says.
pub tree_facts : (rs : List (List ℕ)) (t : ℕ) (e : List ℕ) → tree_ok rs t e ≡ true → TreeFacts rs t e
unfolding tree_ok
tree_facts rs t e h =
    let tree = read_tree rs (length rs) (root_of e) in let w = list left tree in
    let f = facts (linked rs t (length rs) 0 (root_of e) ∷ reached rs t w ∷ rising (map (λ x. key_in (at [] rs x)) w) ∷ balanced tree
    ∷ eqb (count_of e) (length w) ∷ []) h in
    record {
      links = f.0;
      once = reached_at rs t w f.1.0;
      keys_rise = rising_is (λ x. key_in (at [] rs x)) w f.1.1.0;
      balanced = balanced_is tree f.1.1.1.0;
      count_is = eqb-true (count_of e) (length w) f.1.1.1.1.0;
    }

-- The tests of all trees from t on say it of each.
pub tree_at_lem : (rs : List (List ℕ)) (t : ℕ) (es : List (List ℕ)) (i : ℕ) → i < length es → trees_ok rs t es ≡ true
    → TreeFacts rs (t + i) (get_or es i [])
unfolding trees_ok
tree_at_lem rs t [] i h k = absurd (omega arith)
tree_at_lem rs t (e ∷ es) zero h k = rw add-zero (tree_facts rs t e (both (tree_ok rs t e) (trees_ok rs (suc t) es) k).0)
tree_at_lem rs t (e ∷ es) (suc i) h k =
    let q : suc t + i ≡ t + suc i = omega arith in
    subst (λ (n : ℕ). TreeFacts rs n (get_or es i [])) q (tree_at_lem rs (suc t) es i (omega arith) (both (tree_ok rs t e) (trees_ok rs (suc t) es) k).1)

-- ---- the whole

-- There are T entries.
pub length_entries : (b : List ℕ) → length (entries b) ≡ n_trees b
unfolding entries
length_entries b = length_rows (n_trees b) 8 (drop 32 b)

-- There are N records.
pub length_records : (b : List ℕ) → length (records b) ≡ n_slots b
unfolding records
length_records b = length_rows (n_slots b) 32 (drop (32 + 8 * n_trees b) b)

pub record Clauses (b : List ℕ) : Type 0 where
  pub head : Header b
  pub entry : (i : ℕ) → i < n_trees b → EntryFacts (get_or (entries b) i [])
  pub row : (i : ℕ) → i < n_slots b → RowFacts (n_trees b) (text_used b) (next_stamp b) (get_or (records b) i [])
  pub unused : zeros (drop (text_used b) (text_of b)) ≡ true
  pub tree : (i : ℕ) → i < n_trees b → TreeFacts (records b) (suc i) (get_or (entries b) i [])
  pub live : n_live b ≡ count (λ r. not (eqb (tree_in r) 0)) (records b)

-- What soundness says.
pub clauses : (b : List ℕ) → sound b ≡ true → Clauses b
unfolding sound text_ok
clauses b h = go (header_ok b) refl h
  where
    go : (c : Bool) → header_ok b ≡ c
        → cond c (all (every entry_ok (entries b) ∷ every (record_ok (n_trees b) (text_used b) (next_stamp b)) (records b) ∷ text_ok b
        ∷ trees_ok (records b) 1 (entries b) ∷ eqb (n_live b) (count (λ r. not (eqb (tree_in r) 0)) (records b)) ∷ [])) false ≡ true → Clauses b
    go false e k = let z : ◌≡◌ {A = ℕ} 0 1 = cc in absurd (omega arith)
    go true e k =
        let rs = records b in
        let es = entries b in
        let ok = record_ok (n_trees b) (text_used b) (next_stamp b) in
        let f = facts (every entry_ok es ∷ every ok rs ∷ text_ok b ∷ trees_ok rs 1 es ∷ eqb (n_live b) (count (λ r. not (eqb (tree_in r) 0)) rs) ∷ []) k in
        record {
          head = header_facts b e;
          entry = λ i h. entry_facts (get_or es i []) (every_at entry_ok es i [] (omega (arith, length_entries b)) f.0);
          row = λ i h. row_facts (n_trees b) (text_used b) (next_stamp b) (get_or rs i []) (every_at ok rs i [] (omega (arith, length_records b)) f.1.0);
          unused = f.1.1.0;
          tree = λ i h.
              let q : 1 + i ≡ suc i = omega arith in
              subst (λ (n : ℕ). TreeFacts rs n (get_or es i [])) q (tree_at_lem rs 1 es i (omega (arith, length_entries b)) f.1.1.1.0);
          live = eqb-true (n_live b) (count (λ r. not (eqb (tree_in r) 0)) rs) f.1.1.1.1.0;
        }
