-- A sound pool, read and written again, is the same bytes: its header, its entries, its records and its text, each in turn. Assumes nothing.
use Rattle.std.proofs.Common.{◌≡◌, ℕ, zero, suc, ◌+◌, ◌-◌, ◌*◌, ◌<◌, ◌≤◌, Bool, true, eqb, List, [], ◌∷◌, ◌++◌, map, length, get_or, take, drop, replicate, sym, refl, ap, ◌∙◌, ap₂, append-nil, add-zero, add-suc, suc-add, arith, length-drop, take-append-drop, drop-drop, eq-eqb}
use Rattle.std.proofs.Math.Option.{none, some}
use Rattle.fields.specs.Number.{get_le, Bytes}
use Rattle.fields.specs.Part.{zeros}
use Rattle.fields.proofs.Parts.{zeros_all}
use Rattle.avl.specs.Tree.{left, Tree, list}
use Rattle.meaning.specs.Layout.{bit, count, concat, at}
use Rattle.avl.specs.Links.{unlinked, links_in}
use Rattle.meaning.specs.Pool.{Pool, links_at, live_count, header_bytes, entry_bytes, record_bytes, record_rows, bytes, edition, n_slots, n_trees, n_live, at_entries, at_records, at_text, text_size, text_used, next_stamp, root_of, count_of, key_in, left_in, right_in, parent_in, balance_in, tree_in, stamp_in, start_in, len_in, entries, records, text_of, read_rec, read_tree, read}
use Rattle.meaning.specs.Sound.{sound}
use Rattle.meaning.proofs.Facts.{concat_rows, pack_unpack}
use Rattle.meaning.proofs.Clauses.{EntryFacts, LiveFacts, RowFacts, TreeFacts, Clauses, clauses, length_entries, length_records}
use Rattle.meaning.proofs.Sections.{Row, row_whole, row_packed, get_zeros}
use Rattle.meaning.proofs.Hanging.{top_read, hangs, links_of, links_found}
use Rattle.meaning.proofs.Contents.{length_slots, length_trees, length_text, length_used, rec_of, read_free, read_live, live_read, tree_read}

-- ---- the header

-- The header, read and written again, is the first 32 bytes.
pub header_bytes_lem : (b : List ℕ) → Bytes b → Clauses b → header_bytes (read b) ≡ take 32 b
unfolding header_bytes live_count read edition n_slots n_trees n_live at_entries at_records at_text text_size text_used next_stamp
header_bytes_lem b a c =
    let h = c.head in
    rw (length_slots b, length_trees b, live_read (records b), ← c.live, length_used b h)
    (rw (h.edition_is, h.entries_at, h.records_at, h.text_at)
    at (pack_unpack (2 ∷ 2 ∷ 2 ∷ 2 ∷ 4 ∷ 4 ∷ 4 ∷ 4 ∷ 4 ∷ 4 ∷ []) 0 b a (omega (arith, h.length_is))))

-- ---- the entries

-- An entry, read and written again, is its row.
pub entry_bytes_lem : (rs : List (List ℕ)) (t : ℕ) (e : List ℕ) → Row 8 e → EntryFacts e → TreeFacts rs t e
    → entry_bytes (read_tree rs (length rs) (root_of e)) ≡ e
unfolding entry_bytes root_of count_of
entry_bytes_lem rs t e k h f =
    rw (top_read rs t (length rs) 0 (get_le 2 e 0) f.links, ← f.count_is) (rw (get_zeros 4 e 4 h.rest) at (row_packed (2 ∷ 2 ∷ 4 ∷ []) e k))

map_back : {A B : Type 0} (f : A → B) (g : B → A) (xs : List A) (d : A) → ((i : ℕ) → i < length xs → g (f (get_or xs i d)) ≡ get_or xs i d)
    → map g (map f xs) ≡ xs
map_back f g [] d h = refl
map_back f g (x ∷ xs) d h = ap₂ ◌∷◌ (h 0 (omega arith)) (map_back f g xs d (λ i k. h (suc i) (omega arith)))

-- The entries, read and written again, are their section.
pub entries_bytes : (b : List ℕ) → Bytes b → Clauses b → concat (map entry_bytes (read b).trees) ≡ take (8 * n_trees b) (drop 32 b)
unfolding read entries
entries_bytes b a c =
    let rs = records b in
    let fits : 32 + 8 * n_trees b ≤ length b = omega (arith, c.head.length_is) in
    ap concat
    (map_back (λ e. read_tree rs (n_slots b) (root_of e)) entry_bytes (entries b) [] (λ i k.
    let e = get_or (entries b) i [] in
    let h : i < n_trees b = omega (arith, length_entries b) in
    ap (λ (n : ℕ). entry_bytes (read_tree rs n (root_of e))) (sym (length_records b))
    ∙ entry_bytes_lem rs (suc i) e (row_whole b 32 (n_trees b) 8 i a h fits) (c.entry i h) (c.tree i h)))
    ∙ concat_rows (n_trees b) 8 (drop 32 b)

-- ---- the records

free_bytes : (p : Pool) (x : ℕ) (r : List ℕ) → Row 32 r → zeros r ≡ true → record_bytes p x none ≡ r
unfolding record_bytes
free_bytes p x r k z = ap (λ (n : ℕ). replicate n 0) (sym k.length_is) ∙ sym (zeros_all r z)

live_bytes : (p : Pool) (x : ℕ) (r : List ℕ) → Row 32 r → zeros (drop 26 r) ≡ true → links_at p (tree_in r) x ≡ links_of r
    → record_bytes p x (some (rec_of r)) ≡ r
unfolding record_bytes rec_of links_of key_in left_in right_in parent_in balance_in tree_in stamp_in start_in len_in
live_bytes p x r k z e = rw e (rw (get_zeros 6 r 26 z) at (row_packed (8 ∷ 2 ∷ 2 ∷ 2 ∷ 1 ∷ 1 ∷ 4 ∷ 4 ∷ 2 ∷ 6 ∷ []) r k))

-- A live record has in its tree the links that its row stores.
pub links_read : (b : List ℕ) (i : ℕ) → Clauses b → i < n_slots b → LiveFacts (n_trees b) (text_used b) (next_stamp b) (get_or (records b) i [])
    → links_at (read b) (tree_in (get_or (records b) i [])) (suc i) ≡ links_of (get_or (records b) i [])
unfolding links_at at
links_read b i c h f = go (tree_in (get_or (records b) i [])) refl
  where
    go : (t : ℕ) → tree_in (get_or (records b) i []) ≡ t → links_at (read b) t (suc i) ≡ links_of (get_or (records b) i [])
    go zero e = absurd (omega (arith, f.tree_low))
    go (suc j) e =
        let rs = records b in
        let root = root_of (get_or (entries b) j []) in
        let g = c.tree j (omega (arith, f.tree_high)) in
        let once = g.once (suc i) (omega arith) (omega (arith, length_records b)) in
        let there : count (eqb (suc i)) (list left (read_tree rs (length rs) root)) ≡ 1 =
        once ∙ ap (λ (c : Bool). bit c) (eq-eqb (tree_in (get_or rs i [])) (suc j) e) in
        ap (λ (v : Tree). links_in v 0 (suc i) unlinked) (tree_read b (suc j))
        ∙ links_found (hangs rs (suc j) (length rs) 0 root g.links) (suc i) unlinked f.balance_high (λ z. absurd (omega arith))

-- A record, read and written again, is its row.
pub record_bytes_lem : (b : List ℕ) (i : ℕ) → Bytes b → Clauses b → i < n_slots b
    → record_bytes (read b) (suc i) (read_rec (get_or (records b) i [])) ≡ get_or (records b) i []
unfolding records
record_bytes_lem b i a c h = go (row_whole b (32 + 8 * n_trees b) (n_slots b) 32 i a h (omega (arith, c.head.length_is))) (c.row i h)
  where
    go : Row 32 (get_or (records b) i []) → RowFacts (n_trees b) (text_used b) (next_stamp b) (get_or (records b) i [])
        → record_bytes (read b) (suc i) (read_rec (get_or (records b) i [])) ≡ get_or (records b) i []
    go k (RowFacts.free e z) =
        let r = get_or (records b) i [] in
        ap (record_bytes (read b) (suc i)) (read_free r e) ∙ free_bytes (read b) (suc i) r k z
    go k (RowFacts.live f) =
        let r = get_or (records b) i [] in
        ap (record_bytes (read b) (suc i)) (read_live r f.tree_low) ∙ live_bytes (read b) (suc i) r k f.rest (links_read b i c h f)

rows_back : (p : Pool) (x : ℕ) (rs : List (List ℕ)) → ((i : ℕ) → i < length rs → record_bytes p (x + i) (read_rec (get_or rs i [])) ≡ get_or rs i [])
    → record_rows p x (map read_rec rs) ≡ rs
unfolding record_rows
rows_back p x [] h = refl
rows_back p x (r ∷ rs) h =
    ap₂ ◌∷◌ (rw add-zero at (h 0 (omega arith))) (rows_back p (suc x) rs (λ i k. rw (suc-add, ← add-suc x i) (h (suc i) (omega arith))))

-- The records, read and written again, are their section.
pub records_bytes : (b : List ℕ) → Bytes b → Clauses b
    → concat (record_rows (read b) 1 (read b).slots) ≡ take (32 * n_slots b) (drop (32 + 8 * n_trees b) b)
unfolding read records
records_bytes b a c =
    ap concat
    (rows_back (read b) 1 (records b) (λ i k.
    let q : 1 + i ≡ suc i = omega arith in
    rw q (record_bytes_lem b i a c (omega (arith, length_records b)))))
    ∙ concat_rows (n_slots b) 32 (drop (32 + 8 * n_trees b) b)

-- ---- the text

-- The text and what is unused of it, read and written again, are their section.
pub text_bytes_lem : (b : List ℕ) → Clauses b → (read b).text ++ (replicate ((read b).size - length (read b).text) 0 ++ []) ≡ text_of b
unfolding read
text_bytes_lem b c =
    let rest = drop (text_used b) (text_of b) in
    let n : length rest ≡ text_size b - text_used b = length-drop (text_used b) (text_of b) ∙ ap (λ (k : ℕ). k - text_used b) (length_text b c.head) in
    rw (length_used b c.head, append-nil, ← n, ← zeros_all rest c.unused) (take-append-drop (text_used b) (text_of b))

-- ---- the whole

-- a part and what follows it
seam : (i n m : ℕ) (bs : List ℕ) → i + n ≡ m → take n (drop i bs) ++ drop m bs ≡ drop i bs
seam i n m bs e = rw (← e, ← drop-drop n i bs) (take-append-drop n (drop i bs))

-- A sound pool, read and written again, is the same bytes.
pub round_trip : (b : List ℕ) → Bytes b → sound b ≡ true → bytes (read b) ≡ b
unfolding bytes concat text_of
round_trip b a s =
    let c = clauses b s in
    let T = n_trees b in let N = n_slots b in
    rw (
      header_bytes_lem b a c,
      entries_bytes b a c,
      records_bytes b a c,
      text_bytes_lem b c,
      seam (32 + 8 * T) (32 * N) (32 + 8 * T + 32 * N) b refl,
      seam 32 (8 * T) (32 + 8 * T) b refl,
    )
    (take-append-drop 32 b)
