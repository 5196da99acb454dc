-- What a well-formed pool is written as: its length, that all of it is bytes, the fields of the header, and the sections. Assumes nothing.
use Rattle.std.proofs.Common.{◌≡◌, ℕ, zero, suc, ◌+◌, ◌-◌, ◌*◌, ◌^◌, ◌<◌, ◌≤◌, Bool, List, [], ◌∷◌, ◌++◌, map, length, get_or, take, drop, replicate, sym, refl, ap, ◌∙◌, subst, append-nil, add-zero, add-suc, suc-add, arith, length-append, drop-drop, drop_at}
use Rattle.std.proofs.Math.Option.{Option, none, some}
use Rattle.std.proofs.Math.Seq.{split_at}
use Rattle.std.proofs.lemmas.List.{length-replicate, length-map}
use Rattle.fields.specs.Number.{get_le, Bytes}
use Rattle.avl.specs.Tree.{Tree, leaf}
use Rattle.meaning.specs.Layout.{pack, concat, count, at}
use Rattle.meaning.specs.Pool.{Rec, Pool, rec_at, tree_at, is_live, live_count, header_bytes, entry_bytes, record_bytes, record_rows, bytes, edition, n_slots, n_trees, n_live, at_entries, at_records, at_text, text_size, text_used, next_stamp, entries, records, text_of}
use Rattle.meaning.specs.WellFormed.{WellFormed}
use Rattle.meaning.proofs.Bytes.{bytes_none, bytes_append, bytes_zeros, bytes_pack}
use Rattle.meaning.proofs.Facts.{bit_low, Rows, no_row, one_more, rows_concat, length_concat, total, length_pack, pack_get}

-- ---- fields

-- Field i of a packed row, whatever follows the row, reads as its number.
pub packed_field : (fs : List (ℕ × ℕ)) (i : ℕ) (rest : List ℕ) → i < length fs → (get_or fs i (0, 0)).1 < 256 ^ (get_or fs i (0, 0)).0
    → get_le (get_or fs i (0, 0)).0 (pack fs ++ rest) (total (take i fs)) ≡ (get_or fs i (0, 0)).1
packed_field fs i rest h k =
    let f = get_or fs i (0, 0) in
    subst (λ (l : List (ℕ × ℕ)). get_le f.0 (pack l ++ rest) (total (take i fs)) ≡ f.1) (sym (split_at fs i (0, 0) h))
    (pack_get (take i fs) f.0 f.1 (drop (suc i) fs) rest k)

-- No more pass a test than there are.
pub count_high : {A : Type 0} (f : A → Bool) (xs : List A) → count f xs ≤ length xs
unfolding count
count_high f [] = omega arith
count_high f (x ∷ xs) = omega (arith, bit_low (f x), count_high f xs)

-- the header of b says what p is
pub record HeaderSays (p : Pool) (b : List ℕ) : Type 0 where
  pub edition_is : edition b ≡ 1
  pub slots_are : n_slots b ≡ length p.slots
  pub trees_are : n_trees b ≡ length p.trees
  pub live_are : n_live b ≡ live_count p
  pub entries_at : at_entries b ≡ 32
  pub records_at : at_records b ≡ 32 + 8 * length p.trees
  pub text_at : at_text b ≡ 32 + 8 * length p.trees + 32 * length p.slots
  pub size_is : text_size b ≡ p.size
  pub used_is : text_used b ≡ length p.text
  pub next_is : next_stamp b ≡ p.next

header_says : (p : Pool) (rest : List ℕ) → WellFormed p → HeaderSays p (header_bytes p ++ rest)
unfolding header_bytes live_count edition n_slots n_trees n_live at_entries at_records at_text text_size text_used next_stamp
header_says p rest v =
    let N = length p.slots in let T = length p.trees in let live = count_high is_live p.slots in
    let fs : List (ℕ × ℕ) =
    (2, 1) ∷ (2, N) ∷ (2, T) ∷ (2, live_count p) ∷ (4, 32) ∷ (4, 32 + 8 * T) ∷ (4, 32 + 8 * T + 32 * N)
    ∷ (4, p.size) ∷ (4, length p.text) ∷ (4, p.next) ∷ [] in
    record {
      edition_is = packed_field fs 0 rest (omega arith) (omega arith);
      slots_are = packed_field fs 1 rest (omega arith) (omega arith);
      trees_are = packed_field fs 2 rest (omega arith) (omega arith);
      live_are = packed_field fs 3 rest (omega arith) (omega arith);
      entries_at = packed_field fs 4 rest (omega arith) (omega arith);
      records_at = packed_field fs 5 rest (omega arith) (omega arith);
      text_at = packed_field fs 6 rest (omega arith) (omega arith);
      size_is = packed_field fs 7 rest (omega arith) (omega arith);
      used_is = packed_field fs 8 rest (omega arith) (omega arith);
      next_is = packed_field fs 9 rest (omega arith) v.next_high;
    }

-- ---- the sections

header_length : (p : Pool) → length (header_bytes p) ≡ 32
unfolding header_bytes
header_length p = length_pack _

entries_wide : (ts : List Tree) → Rows 8 (map entry_bytes ts)
unfolding entry_bytes
entries_wide [] = no_row
entries_wide (t ∷ ts) = one_more (length_pack _) (entries_wide ts)

record_length : (p : Pool) (x : ℕ) (r : Option Rec) → length (record_bytes p x r) ≡ 32
unfolding record_bytes
record_length p x none = length-replicate {A = ℕ} 32 0
record_length p x (some r) = length_pack _

-- Each row of a slot has 32 bytes.
pub rows_wide : (p : Pool) (x : ℕ) (rs : List (Option Rec)) → Rows 32 (record_rows p x rs)
unfolding record_rows
rows_wide p x [] = no_row
rows_wide p x (r ∷ rs) = one_more (record_length p x r) (rows_wide p (suc x) rs)

-- There is a row for each slot.
pub rows_many : (p : Pool) (x : ℕ) (rs : List (Option Rec)) → length (record_rows p x rs) ≡ length rs
unfolding record_rows
rows_many p x [] = refl
rows_many p x (r ∷ rs) = ap suc (rows_many p (suc x) rs)

rows_from_lem : (p : Pool) (x : ℕ) (rs : List (Option Rec)) (i : ℕ) → i < length rs
    → get_or (record_rows p x rs) i [] ≡ record_bytes p (x + i) (get_or rs i none)
unfolding record_rows
rows_from_lem p x [] i h = absurd (omega arith)
rows_from_lem p x (r ∷ rs) zero h = rw add-zero
rows_from_lem p x (r ∷ rs) (suc i) h = rw (add-suc, ← suc-add x i) (rows_from_lem p (suc x) rs i (omega arith))

-- Row x is the record of slot x.
pub row_at : (p : Pool) (x : ℕ) → 1 ≤ x → x ≤ length p.slots → at [] (record_rows p 1 p.slots) x ≡ record_bytes p x (rec_at p x)
unfolding at rec_at
row_at p zero h k = absurd (omega arith)
row_at p (suc i) h k = let e : 1 + i ≡ suc i = omega arith in rw e at (rows_from_lem p 1 p.slots i (omega arith))

get_or_mapped : {A B : Type 0} (f : A → B) (xs : List A) (i : ℕ) (d : A) (e : B) → i < length xs → get_or (map f xs) i e ≡ f (get_or xs i d)
get_or_mapped f [] i d e h = absurd (omega arith)
get_or_mapped f (x ∷ xs) zero d e h = refl
get_or_mapped f (x ∷ xs) (suc i) d e h = get_or_mapped f xs i d e (omega arith)

-- Entry t is that of tree t.
pub entry_at_lem : (p : Pool) (t : ℕ) → 1 ≤ t → t ≤ length p.trees → at [] (map entry_bytes p.trees) t ≡ entry_bytes (tree_at p t)
unfolding at tree_at
entry_at_lem p zero h k = absurd (omega arith)
entry_at_lem p (suc i) h k = get_or_mapped entry_bytes p.trees i leaf [] (omega arith)

-- the text in use and the zeros after it
abbrev whole_text : Pool → List ℕ
whole_text p = p.text ++ replicate (p.size - length p.text) 0

abbrev all_entries : Pool → List ℕ
all_entries p = concat (map entry_bytes p.trees)

abbrev all_records : Pool → List ℕ
all_records p = concat (record_rows p 1 p.slots)

shape : (p : Pool) → bytes p ≡ header_bytes p ++ (all_entries p ++ (all_records p ++ whole_text p))
unfolding bytes concat
shape p = simp append-nil

entries_long : (p : Pool) → length (all_entries p) ≡ 8 * length p.trees
entries_long p = length_concat 8 (map entry_bytes p.trees) (entries_wide p.trees) ∙ ap (λ (n : ℕ). 8 * n) (length-map p.trees entry_bytes)

records_long : (p : Pool) → length (all_records p) ≡ 32 * length p.slots
records_long p =
    length_concat 32 (record_rows p 1 p.slots) (rows_wide p 1 p.slots) ∙ ap (λ (n : ℕ). 32 * n) (rows_many p 1 p.slots)

-- The length of the written pool.
pub bytes_length : (p : Pool) → WellFormed p → length (bytes p) ≡ 32 + 8 * length p.trees + 32 * length p.slots + p.size
bytes_length p v =
    ap length (shape p)
    ∙ simp (length-append, header_length, entries_long, records_long, length-replicate) (omega (arith, v.used_fits))

bytes_entries : (ts : List Tree) → Bytes (concat (map entry_bytes ts))
unfolding concat entry_bytes
bytes_entries [] = bytes_none
bytes_entries (t ∷ ts) = bytes_append (entry_bytes t) (concat (map entry_bytes ts)) (bytes_pack _) (bytes_entries ts)

bytes_record : (p : Pool) (x : ℕ) (r : Option Rec) → Bytes (record_bytes p x r)
unfolding record_bytes
bytes_record p x none = bytes_zeros 32
bytes_record p x (some r) = bytes_pack _

bytes_records : (p : Pool) (x : ℕ) (rs : List (Option Rec)) → Bytes (concat (record_rows p x rs))
unfolding concat record_rows
bytes_records p x [] = bytes_none
bytes_records p x (r ∷ rs) = bytes_append (record_bytes p x r) (concat (record_rows p (suc x) rs)) (bytes_record p x r) (bytes_records p (suc x) rs)

-- The written pool is bytes.
pub bytes_are : (p : Pool) → WellFormed p → Bytes (bytes p)
unfolding header_bytes
bytes_are p v =
    let e = shape p in
    let text = bytes_append p.text (replicate (p.size - length p.text) 0) v.text_bytes (bytes_zeros (p.size - length p.text)) in
    let body = bytes_append (all_records p) (whole_text p) (bytes_records p 1 p.slots) text in
    rw e (bytes_append (header_bytes p) (all_entries p ++ (all_records p ++ whole_text p)) (bytes_pack _)
    (bytes_append (all_entries p) (all_records p ++ whole_text p) (bytes_entries p.trees) body))

-- The header of the written pool says what the pool is.
pub written_header : (p : Pool) → WellFormed p → HeaderSays p (bytes p)
written_header p v = rw (shape p) (header_says p (all_entries p ++ (all_records p ++ whole_text p)) v)

after_header : (p : Pool) → drop 32 (bytes p) ≡ all_entries p ++ (all_records p ++ whole_text p)
after_header p = rw (shape p) (drop_at (header_bytes p) (all_entries p ++ (all_records p ++ whole_text p)) 32 (header_length p))

after_entries : (p : Pool) → drop (32 + 8 * length p.trees) (bytes p) ≡ all_records p ++ whole_text p
after_entries p =
    rw (← drop-drop (8 * length p.trees) 32 (bytes p), after_header p)
    (drop_at (all_entries p) (all_records p ++ whole_text p) (8 * length p.trees) (entries_long p))

after_records : (p : Pool) → drop (32 + 8 * length p.trees + 32 * length p.slots) (bytes p) ≡ whole_text p
after_records p =
    rw (← drop-drop (32 * length p.slots) (32 + 8 * length p.trees) (bytes p), after_entries p)
    (drop_at (all_records p) (whole_text p) (32 * length p.slots) (records_long p))

-- The tree entries of the written pool.
pub written_entries : (p : Pool) → WellFormed p → entries (bytes p) ≡ map entry_bytes p.trees
unfolding entries
written_entries p v =
    rw ((written_header p v).trees_are, after_header p, ← length-map p.trees entry_bytes)
    (rows_concat 8 (map entry_bytes p.trees) (all_records p ++ whole_text p) (entries_wide p.trees))

-- The records of the written pool.
pub written_records : (p : Pool) → WellFormed p → records (bytes p) ≡ record_rows p 1 p.slots
unfolding records
written_records p v =
    rw ((written_header p v).slots_are, (written_header p v).trees_are, after_entries p, ← rows_many p 1 p.slots)
    (rows_concat 32 (record_rows p 1 p.slots) (whole_text p) (rows_wide p 1 p.slots))

-- The text of the written pool, with what is unused of it.
pub written_text : (p : Pool) → WellFormed p → text_of (bytes p) ≡ p.text ++ replicate (p.size - length p.text) 0
unfolding text_of
written_text p v = rw ((written_header p v).slots_are, (written_header p v).trees_are) (after_records p)
