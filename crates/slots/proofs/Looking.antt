-- What is read of the body and the head of a well-formed pool is what `meaning` says of the pool: a slot's own fields, the lowest free slot, a tree
-- by value, where a search ends, the ends of a tree, a record's neighbours. Assumes nothing.
use Rattle.std.proofs.Common.{◌≡◌, ℕ, zero, suc, ◌+◌, ◌-◌, ◌*◌, ◌<◌, ◌≤◌, Bool, true, cond, eqb, List, [], ◌∷◌, ◌++◌, length, get_or, drop, replicate, sym, refl, ap, ◌∙◌, arith, length-append, drop-cons, le-ltb, ne_eqb}
use Rattle.std.proofs.Math.Dec.{eqb-suc-zero}
use Rattle.std.proofs.Math.Option.{Option, none, some}
use Rattle.std.proofs.Math.Seq.{drop-length}
use Prim.Native.Nat.{compare}
use Rattle.fields.specs.Part.{part}
use Rattle.fields.specs.Number.{value, get_le}
use Rattle.avl.specs.Tree.{Dir, left, right, Tree, leaf, top, list}
use Rattle.avl.specs.Search.{entry, compared}
use Rattle.avl.specs.Order.{first}
use Rattle.avl.proofs.Walks.{walk_first}
use Rattle.tree.specs.Node.{key_n}
use Rattle.tree.specs.Search.{seek_n}
use Rattle.tree.specs.Walk.{bottom_n, walk_n}
use Rattle.tree.specs.Held.{tree_of}
use Rattle.tree.proofs.Records.{entry_rows, end_rows, walk_rows}
use Rattle.tree.proofs.Trees.{ending}
use Rattle.meaning.specs.Layout.{concat, at}
use Rattle.meaning.specs.Pool.{Rec, Pool, rec_at, tree_at, key_of, key_at, lives_in, record_rows, key_in, tree_in, stamp_in, start_in, len_in}
use Rattle.meaning.specs.Change.{by_key_in, free_from}
use Rattle.meaning.specs.Cursor.{beyond}
use Rattle.meaning.specs.WellFormed.{WellFormed}
use Rattle.meaning.proofs.Facts.{rows_concat, length_concat}
use Rattle.meaning.proofs.Packed.{rows_many, rows_wide}
use Rattle.meaning.proofs.Rows.{live_row, free_row}
use Rattle.meaning.proofs.Sections.{row_field}
use Rattle.slots.specs.Record.{no_record, fields_at, record_n, lowest_n}
use Rattle.slots.specs.Head.{no_tree, tree_n}
use Rattle.slots.specs.Image.{text_bytes, body_of, table_of, head_of, record_of, shown_of, cargo_of}
use Rattle.slots.specs.declared.record.Record.{Record}
use Rattle.slots.proofs.Bodies.{body_holding, body_rows, tree_fits}
use Rattle.slots.proofs.Standing.{seat_live, seated_body, seat_fits, beyond_seat}

-- ---- a slot's own fields

-- A field of slot i + 1 is that of its row.
pub in_place : (p : Pool) (i k w : ℕ) → i < length p.slots → k + w ≤ 32
    → get_le w (body_of p) (32 * i + k) ≡ get_le w (at [] (record_rows p 1 p.slots) (suc i)) k
unfolding body_of at
in_place p i k w h inside =
    let ls = record_rows p 1 p.slots in
    let n = length ls in
    let wide = rows_wide p 1 p.slots in
    let many : n ≡ length p.slots = rows_many p 1 p.slots in
    let long : 0 + 32 * n ≤ length (concat ls ++ text_bytes p) = omega (arith, length-append (concat ls) (text_bytes p), length_concat 32 ls wide) in
    let place : 32 * i + k ≡ 0 + 32 * i + k = omega arith in
    ap (get_le w (concat ls ++ text_bytes p)) place
    ∙ sym (row_field (concat ls ++ text_bytes p) 0 n 32 i k w (omega arith) inside long)
    ∙ ap (λ (l : List (List ℕ)). get_le w (get_or l i []) k) (rows_concat 32 ls (text_bytes p) wide)

-- the fields of a row
fields_of : List ℕ → Record
fields_of b = record { key = key_in b; stamp = stamp_in b; start = start_in b; len = len_in b; tree = tree_in b }

-- records with the same five fields
five : {a a₂ b b₂ c c₂ d d₂ e e₂ : ℕ} → a ≡ a₂ → b ≡ b₂ → c ≡ c₂ → d ≡ d₂ → e ≡ e₂
    → ◌≡◌ {A = Record} (record { key = a; stamp = b; start = c; len = d; tree = e }) (record { key = a₂; stamp = b₂; start = c₂; len = d₂; tree = e₂ })
five p q r s t = cc

slot_fields : (p : Pool) (i : ℕ) → i < length p.slots → record_n (body_of p) (suc i) ≡ fields_of (at [] (record_rows p 1 p.slots) (suc i))
unfolding record_n fields_at fields_of key_in stamp_in start_in len_in tree_in
slot_fields p i h =
    let m = body_of p in
    let at_key : 32 * (suc i - 1) ≡ 32 * i + 0 = omega arith in
    let base : 32 * (suc i - 1) ≡ 32 * i = omega arith in
    let field : (k w : ℕ) → k + w ≤ 32 → get_le w m (32 * (suc i - 1) + k) ≡ get_le w (at [] (record_rows p 1 p.slots) (suc i)) k =
    λ k w f. ap (λ (y : ℕ). get_le w m (y + k)) base ∙ in_place p i k w h f in
    simp eqb-suc-zero
    (five (ap (get_le 8 m) at_key ∙ in_place p i 0 8 h (omega arith)) (field 16 4 (omega arith)) (field 20 4 (omega arith)) (field 24 2 (omega arith))
    (field 15 1 (omega arith)))

free_fields : fields_of (replicate 32 0) ≡ no_record
unfolding fields_of key_in stamp_in start_in len_in tree_in get_le part value
free_fields = refl

row_shown : (p : Pool) (i : ℕ) → WellFormed p → i < length p.slots → (o : Option Rec) → rec_at p (suc i) ≡ o
    → fields_of (at [] (record_rows p 1 p.slots) (suc i)) ≡ shown_of o
unfolding shown_of record_of fields_of
row_shown p i v h none e = ap fields_of (free_row p (suc i) (omega arith) (omega arith) e) ∙ free_fields
row_shown p i v h (some r) e =
    let s = live_row p (suc i) r v e in
    five s.key_is s.stamp_is s.start_is s.len_is s.tree_is

-- The fields that are read of a slot are those of its record, or none.
pub record_image : (p : Pool) → WellFormed p → (x : ℕ) → x ≤ length p.slots → record_n (body_of p) x ≡ shown_of (rec_at p x)
unfolding record_n rec_at at shown_of
record_image p v zero h = refl
record_image p v (suc i) h = slot_fields p i h ∙ row_shown p i v h (rec_at p (suc i)) refl

shown_key : (o : Option Rec) → (shown_of o).key ≡ key_of o
unfolding shown_of record_of key_of
shown_key none = refl
shown_key (some r) = refl

record_key : (m : List ℕ) (x : ℕ) → key_n m x ≡ (record_n m x).key
unfolding key_n record_n fields_at
record_key m zero = refl
record_key m (suc i) = simp eqb-suc-zero refl

-- The key that is read of a slot is its record's.
pub key_image : (p : Pool) → WellFormed p → (x : ℕ) → x ≤ length p.slots → key_n (body_of p) x ≡ key_at p x
unfolding key_at
key_image p v x h = record_key (body_of p) x ∙ ap (λ (r : Record). r.key) (record_image p v x h) ∙ shown_key (rec_at p x)

-- ---- the lowest free slot

-- the tree of slot i + 1 is that of its record, 0 if it is free
tree_shown : (p : Pool) (i : ℕ) → WellFormed p → i < length p.slots → get_le 1 (body_of p) (32 * i + 15) ≡ (shown_of (rec_at p (suc i))).tree
unfolding fields_of tree_in
tree_shown p i v h = in_place p i 15 1 h (omega arith) ∙ ap (λ (r : Record). r.tree) (row_shown p i v h (rec_at p (suc i)) refl)

-- slot i + 1 if it is free, else what is found behind it
free_here : (p : Pool) (i : ℕ) → WellFormed p → (o : Option Rec) (rs : List (Option Rec)) → rec_at p (suc i) ≡ o → (rest : ℕ)
    → rest ≡ free_from (suc (suc i)) rs → cond (eqb (shown_of o).tree 0) (i + 1) rest ≡ free_from (suc i) (o ∷ rs)
unfolding shown_of record_of free_from
free_here p i v none rs e rest k = omega arith
free_here p i v (some r) rs e rest k =
    ap (λ (c : Bool). cond c (i + 1) rest) (ne_eqb r.tree 0 (λ z. omega (arith, (v.recs (suc i) r e).tree_low))) ∙ k

slot_first : (p : Pool) (i : ℕ) → i < length p.slots → rec_at p (suc i) ∷ drop (suc i) p.slots ≡ drop i p.slots
unfolding rec_at at
slot_first p i h = sym (drop-cons p.slots i none h)

-- of the n slots above i, which are all that there are
free_above : (p : Pool) → WellFormed p → (n i : ℕ) → i + n ≡ length p.slots → lowest_n n (body_of p) i ≡ free_from (suc i) (drop i p.slots)
unfolding lowest_n free_from
free_above p v zero i h =
    let e : i ≡ length p.slots = omega arith in
    sym (ap (free_from (suc i)) (ap (λ (n : ℕ). drop n p.slots) e ∙ drop-length p.slots))
free_above p v (suc n) i h =
    let in_it : i < length p.slots = omega arith in
    let above : i + 1 ≡ suc i = omega arith in
    let rest = lowest_n n (body_of p) (i + 1) in
    let later = ap (lowest_n n (body_of p)) above ∙ free_above p v n (suc i) (omega arith) in
    ap (λ (t : ℕ). cond (eqb t 0) (i + 1) rest) (tree_shown p i v in_it)
    ∙ free_here p i v (rec_at p (suc i)) (drop (suc i) p.slots) refl rest later
    ∙ ap (free_from (suc i)) (slot_first p i in_it)

-- The lowest free slot above slot i is found.
pub lowest_image : (p : Pool) → WellFormed p → (i : ℕ) → i ≤ length p.slots
    → lowest_n (length p.slots - i) (body_of p) i ≡ free_from (suc i) (drop i p.slots)
lowest_image p v i h = free_above p v (length p.slots - i) i (omega arith)

-- ---- a tree by value

table_at : (n : ℕ) (ts : List Tree) (i : ℕ) → i < n → i < length ts
    → get_or (table_of n ts) i no_tree ≡ tree_of (get_or ts i leaf) (length (list left (get_or ts i leaf)))
unfolding table_of
table_at zero ts i h k = absurd (omega arith)
table_at (suc n) [] i h k = absurd (omega arith)
table_at (suc n) (t ∷ ts) zero h k = refl
table_at (suc n) (t ∷ ts) (suc i) h k = table_at n ts i (omega arith) (omega arith)

-- The table gives a tree's top and the number of its records.
pub tree_image : (p : Pool) → WellFormed p → (t : ℕ) → 1 ≤ t → t ≤ length p.trees
    → tree_n (head_of p).table t ≡ tree_of (tree_at p t) (length (list left (tree_at p t)))
unfolding tree_n head_of tree_at at
tree_image p v zero lo hi = absurd (omega arith)
tree_image p v (suc i) lo hi =
    let e : suc i - 1 ≡ i = omega arith in
    simp (eqb-suc-zero i, le-ltb 8 (suc i) (omega (arith, v.trees_high)), e) (table_at 8 p.trees i (omega (arith, v.trees_high)) (omega arith))

-- ---- searches and walks in a tree

cargo_key : (o : Option Rec) → (cargo_of o).key ≡ key_of o
unfolding cargo_of key_of
cargo_key none = refl
cargo_key (some r) = refl

module _ (p : Pool) (v : WellFormed p) (t : ℕ) (low : 1 ≤ t) (high : t ≤ length p.trees) where
  -- A search ends where that in the tree does, after as many keys.
  pub entry_image : (k : ℕ)
      → seek_n 14 (body_of p) k (top (tree_at p t)) 0 right 0 ≡ ending (entry (by_key_in p k) (tree_at p t)) (compared (by_key_in p k) (tree_at p t))
  unfolding by_key_in key_at
  entry_image k =
      let f = tree_fits p t v low high in
      ap (λ (m : List ℕ). seek_n 14 m k (top (tree_at p t)) 0 right 0) (body_holding p t v low high)
      ∙ entry_rows _ _ (length p.slots) (text_bytes p) (body_rows p v) k (by_key_in p k) (tree_at p t) f.0 f.1
      (λ s h. ap (compare k) (cargo_key (rec_at p s)))

  -- First and last are the ends of the tree's list.
  pub end_image : (d : Dir) → bottom_n 14 (body_of p) (top (tree_at p t)) d ≡ first (list d (tree_at p t))
  end_image d =
      let f = tree_fits p t v low high in
      ap (λ (m : List ℕ). bottom_n 14 m (top (tree_at p t)) d) (body_holding p t v low high)
      ∙ end_rows _ _ (length p.slots) (text_bytes p) (body_rows p v) d (tree_at p t) f.0 f.1

  -- The walk from a record ends at its neighbour in the tree.
  pub walk_image : (d : Dir) (x : ℕ) → lives_in t (rec_at p x) ≡ true → walk_n 14 (body_of p) x d ≡ beyond d p t x
  walk_image d x h =
      let w = seat_live p v t low high d x h in
      let f = seat_fits p v t low high d x w in
      ap (λ (m : List ℕ). walk_n 14 m x d) (seated_body p v t low high d x w)
      ∙ walk_rows _ _ (length p.slots) (text_bytes p) (body_rows p v) d w.near x w.bal w.far w.way f.0 f.1
      ∙ walk_first d w.near w.way
      ∙ sym (beyond_seat p v t low high d x w)
