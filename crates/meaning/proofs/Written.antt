-- A well-formed pool, written, is sound. Assumes nothing.
use Rattle.std.proofs.Common.{◌≡◌, ℕ, suc, ◌+◌, ◌-◌, ◌*◌, ◌<◌, ◌≤◌, Bool, true, false, not, eqb, leb, List, [], ◌∷◌, ◌++◌, map, length, get_or, replicate, sym, refl, ap, ◌∙◌, add-zero, add-suc, suc-add, arith, length-append, drop_at, lt-ltb, eq-eqb, ne_eqb, le-leb}
use Rattle.std.proofs.Math.Bool.{beq}
use Rattle.std.proofs.lemmas.List.{length-map}
use Rattle.fields.specs.Number.{value, get_le}
use Rattle.fields.specs.Part.{part, zeros}
use Rattle.fields.proofs.Parts.{zeros_replicate}
use Rattle.avl.specs.Tree.{left, Tree, leaf, node, top, list}
use Rattle.avl.specs.Order.{All, nil, more}
use Rattle.avl.proofs.Sorting.{all_map}
use Rattle.meaning.specs.Layout.{bit, within, all, every, count, at}
use Rattle.avl.specs.Links.{Links}
use Rattle.meaning.specs.Pool.{Rec, Pool, rec_at, tree_at, key_of, key_at, is_live, lives_in, live_count, links_at, entry_bytes, record_rows, bytes, key_in, balance_in, tree_in, stamp_in, start_in, len_in, records, read}
use Rattle.meaning.specs.Sound.{header_ok, entry_ok, live_ok, record_ok, text_ok, reached, rising, tree_ok, trees_ok, sound}
use Rattle.meaning.specs.WellFormed.{GoodRec, WellFormed}
use Rattle.meaning.specs.Demands.{RowSays}
use Rattle.meaning.proofs.Facts.{both_true, at_every, span_every}
use Rattle.meaning.proofs.Clauses.{is_balanced, is_rising}
use Rattle.meaning.proofs.Contents.{live_read}
use Rattle.meaning.proofs.Members.{all_node, Lives, tree_lives, tree_depth}
use Rattle.meaning.proofs.Packed.{rows_many, entry_at_lem, bytes_length, written_header, written_entries, written_records, written_text}
use Rattle.meaning.proofs.ReadBack.{on_slot, free_tree, slots_back}
use Rattle.meaning.proofs.Rows.{Small, links_fit, live_row, free_row, root_is, count_is, entry_zeros}
use Rattle.meaning.proofs.Stored.{hangs_linked, tree_hangs, tree_back}

-- the clauses of a list hold, one after the other
infixr 30 ◌&◌
data Hold : List Bool → Type 0 where
  end : Hold []
  ◌&◌ : {c : Bool} {cs : List Bool} → c ≡ true → Hold cs → Hold (c ∷ cs)

hold : {cs : List Bool} → Hold cs → all cs ≡ true
unfolding all
hold end = refl
hold (◌&◌ {c} {cs} e h) = both_true c (all cs) e (hold h)

-- n lies from lo to hi
is_within : (lo hi n : ℕ) → lo ≤ n → n ≤ hi → within lo hi n ≡ true
unfolding within
is_within lo hi n h k = both_true (leb lo n) (leb n hi) (le-leb lo n h) (le-leb n hi k)

-- ---- the header

-- The header agrees with the rest.
pub header_sound : (p : Pool) → WellFormed p → header_ok (bytes p) ≡ true
unfolding header_ok
header_sound p v =
    let h = written_header p v in
    let N = length p.slots in let T = length p.trees in let X = p.size in let A = 32 + 8 * T in let B = A + 32 * N in
    rw (h.edition_is, h.slots_are, h.trees_are, h.entries_at, h.records_at, h.text_at, h.size_is, h.used_is, h.next_is, bytes_length p v)
    (hold (refl & is_within 1 1024 N v.slots_low v.slots_high & is_within 1 8 T v.trees_low v.trees_high & refl & eq-eqb A A refl
    & eq-eqb B B refl & le-leb X 8192 v.size_high & le-leb (length p.text) X v.used_fits & le-leb 1 p.next v.next_low
    & eq-eqb (B + X) (B + X) refl & end))

-- ---- the entries

beq_same : (b : Bool) → beq b b ≡ true
beq_same true = refl
beq_same false = refl

-- the top is 0 exactly if nothing is listed
top_none : (p : Pool) (t : ℕ) (tr : Tree) → All (Lives p t) (list left tr) → eqb (top tr) 0 ≡ eqb (length (list left tr)) 0
unfolding list
top_none p t leaf a = refl
top_none p t (node l s b r) a =
    ne_eqb s 0 (omega (arith, (all_node l s b r a).1.low))
    ∙ sym (ne_eqb (length (list left l ++ (s ∷ list left r))) 0 (omega (arith, length-append (list left l) (s ∷ list left r))))

entry_sound : (p : Pool) (t : ℕ) → WellFormed p → 1 ≤ t → t ≤ length p.trees → entry_ok (entry_bytes (tree_at p t)) ≡ true
unfolding entry_ok
entry_sound p t v lo hi =
    let w = tree_at p t in let n = eqb (length (list left w)) 0 in
    rw (root_is p t v lo hi, count_is p t v lo hi, top_none p t w (tree_lives p t (v.trees t lo hi)))
    (hold (beq_same n & entry_zeros w & end))

entries_sound : (p : Pool) → WellFormed p → every entry_ok (map entry_bytes p.trees) ≡ true
unfolding at
entries_sound p v =
    at_every entry_ok (map entry_bytes p.trees) []
    (λ i h.
    let hi : suc i ≤ length p.trees = omega (arith, length-map p.trees entry_bytes) in
    let e : get_or (map entry_bytes p.trees) i [] ≡ entry_bytes (tree_at p (suc i)) = entry_at_lem p (suc i) (omega arith) hi in
    rw e (entry_sound p (suc i) v (omega arith) hi))

-- ---- the records

free_sound : (T used next : ℕ) → record_ok T used next (replicate 32 0) ≡ true
unfolding record_ok tree_in get_le part value zeros
free_sound T used next = refl

live_sound : (p : Pool) (b : List ℕ) (r : Rec) (k : Links) → GoodRec p r → RowSays b r k → Small k
    → record_ok (length p.trees) (length p.text) p.next b ≡ true
unfolding record_ok live_ok
live_sound p b r k g f s =
    let T = length p.trees in
    rw (ne_eqb (tree_in b) 0 (omega (arith, f.tree_is, g.tree_low)), record_ok)
    (hold (le-leb (balance_in b) 2 (omega (arith, f.balance_is, s.balance_high))
    & is_within 1 T (tree_in b) (omega (arith, f.tree_is, g.tree_low)) (omega (arith, f.tree_is, g.tree_high))
    & le-leb 1 (stamp_in b) (omega (arith, f.stamp_is, g.stamp_low))
    & lt-ltb (stamp_in b) p.next (omega (arith, f.stamp_is, g.stamp_high))
    & is_within 1 255 (len_in b) (omega (arith, f.len_is, g.len_low)) (omega (arith, f.len_is, g.len_high))
    & le-leb (start_in b + len_in b) (length p.text) (omega (arith, f.start_is, f.len_is, g.name_fits))
    & f.rest_is
    & end))

record_sound : (p : Pool) (x : ℕ) → WellFormed p → 1 ≤ x → x ≤ length p.slots
    → record_ok (length p.trees) (length p.text) p.next (at [] (record_rows p 1 p.slots) x) ≡ true
record_sound p x v lo hi =
    on_slot (rec_at p x)
    (λ e. rw (free_row p x lo hi e) (free_sound (length p.trees) (length p.text) p.next))
    (λ r e.
    let g = v.recs x r e in
    live_sound p (at [] (record_rows p 1 p.slots) x) r (links_at p r.tree x) g (live_row p x r v e)
    (links_fit p r.tree x v g.tree_low g.tree_high))

records_sound : (p : Pool) → WellFormed p → every (record_ok (length p.trees) (length p.text) p.next) (record_rows p 1 p.slots) ≡ true
unfolding at
records_sound p v =
    at_every (record_ok (length p.trees) (length p.text) p.next) (record_rows p 1 p.slots) []
    (λ i h. record_sound p (suc i) v (omega arith) (omega (arith, rows_many p 1 p.slots)))

-- ---- the text

text_sound : (p : Pool) → WellFormed p → text_ok (bytes p) ≡ true
unfolding text_ok
text_sound p v =
    rw ((written_header p v).used_is, written_text p v, drop_at p.text (replicate (p.size - length p.text) 0) (length p.text) refl)
    (zeros_replicate (p.size - length p.text))

-- ---- the trees

-- a row says whether its slot lives in a tree
row_lives : (p : Pool) (t x : ℕ) → WellFormed p → 1 ≤ t → 1 ≤ x → x ≤ length p.slots
    → lives_in t (rec_at p x) ≡ eqb (tree_in (at [] (record_rows p 1 p.slots) x)) t
unfolding lives_in
row_lives p t x v lo l h =
    on_slot (rec_at p x) (λ e. rw (e, free_row p x l h e, free_tree) (sym (ne_eqb 0 t (omega arith)))) (λ r e. rw (e, (live_row p x r v e).tree_is))

row_key : (p : Pool) (t x : ℕ) → WellFormed p → Lives p t x → key_in (at [] (record_rows p 1 p.slots) x) ≡ key_at p x
unfolding key_at key_of
row_key p t x v h = (live_row p x h.rec v h.is).key_is ∙ ap key_of (sym h.is)

map_same : (f g : ℕ → ℕ) {w : List ℕ} → All (λ x. f x ≡ g x) w → map f w ≡ map g w
map_same f g nil = refl
map_same f g (more e a) = rw (e, map_same f g a)

reached_sound : (p : Pool) (t : ℕ) → WellFormed p → 1 ≤ t → t ≤ length p.trees
    → reached (record_rows p 1 p.slots) t (list left (tree_at p t)) ≡ true
unfolding reached
reached_sound p t v lo hi =
    let rs = record_rows p 1 p.slots in let w = list left (tree_at p t) in
    span_every (λ x. eqb (count (eqb x) w) (bit (eqb (tree_in (at [] rs x)) t))) 1 (length rs)
    (λ x l h.
    eq-eqb (count (eqb x) w) (bit (eqb (tree_in (at [] rs x)) t))
    ((v.trees t lo hi).once x ∙ ap bit (row_lives p t x v lo l (omega (arith, rows_many p 1 p.slots)))))

rising_sound : (p : Pool) (t : ℕ) → WellFormed p → 1 ≤ t → t ≤ length p.trees
    → rising (map (λ x. key_in (at [] (record_rows p 1 p.slots) x)) (list left (tree_at p t))) ≡ true
rising_sound p t v lo hi =
    let w = list left (tree_at p t) in let g = v.trees t lo hi in
    rw (map_same (λ x. key_in (at [] (record_rows p 1 p.slots) x)) (key_at p) (all_map (λ x h. row_key p t x v h) (tree_lives p t g)))
    (is_rising (key_at p) w g.keys_rise)

tree_sound : (p : Pool) (t : ℕ) → WellFormed p → 1 ≤ t → t ≤ length p.trees
    → tree_ok (record_rows p 1 p.slots) t (entry_bytes (tree_at p t)) ≡ true
unfolding tree_ok
tree_sound p t v lo hi =
    let rs = record_rows p 1 p.slots in let N = length p.slots in let tree = tree_at p t in let w = list left tree in
    rw (rows_many p 1 p.slots, root_is p t v lo hi, count_is p t v lo hi, tree_back p t v lo hi)
    (hold (hangs_linked rs t N 0 tree (tree_hangs p t v lo hi) (tree_depth p t v lo hi) & reached_sound p t v lo hi & rising_sound p t v lo hi
    & is_balanced tree (v.trees t lo hi).balanced & eq-eqb (length w) (length w) refl & end))

trees_ok_lem : (rs : List (List ℕ)) (t : ℕ) (es : List (List ℕ))
    → ((i : ℕ) → i < length es → tree_ok rs (t + i) (get_or es i []) ≡ true) → trees_ok rs t es ≡ true
unfolding trees_ok
trees_ok_lem rs t [] h = refl
trees_ok_lem rs t (e ∷ es) h =
    both_true (tree_ok rs t e) (trees_ok rs (suc t) es) (rw add-zero at (h 0 (omega arith)))
    (trees_ok_lem rs (suc t) es (λ i k. rw (suc-add, ← add-suc t i) (h (suc i) (omega arith))))

trees_sound : (p : Pool) → WellFormed p → trees_ok (record_rows p 1 p.slots) 1 (map entry_bytes p.trees) ≡ true
unfolding at
trees_sound p v =
    trees_ok_lem (record_rows p 1 p.slots) 1 (map entry_bytes p.trees)
    (λ i h.
    let hi : suc i ≤ length p.trees = omega (arith, length-map p.trees entry_bytes) in
    let n : 1 + i ≡ suc i = omega arith in
    let e : get_or (map entry_bytes p.trees) i [] ≡ entry_bytes (tree_at p (suc i)) = entry_at_lem p (suc i) (omega arith) hi in
    rw (n, e) (tree_sound p (suc i) v (omega arith) hi))

-- ---- the whole

live_counted : (p : Pool) → WellFormed p → live_count p ≡ count (λ r. not (eqb (tree_in r) 0)) (record_rows p 1 p.slots)
unfolding live_count read
live_counted p v =
    ap (count is_live) (sym (slots_back p v)) ∙ live_read (records (bytes p)) ∙ ap (count (λ r. not (eqb (tree_in r) 0))) (written_records p v)

-- A well-formed pool, written, is sound.
pub written_sound : (p : Pool) → WellFormed p → sound (bytes p) ≡ true
unfolding sound
written_sound p v =
    let h = written_header p v in let n = count (λ r. not (eqb (tree_in r) 0)) (record_rows p 1 p.slots) in
    rw (header_sound p v, sound)
    (rw (written_records p v, written_entries p v, h.trees_are, h.used_is, h.next_is, h.live_are)
    (hold (entries_sound p v & records_sound p v & text_sound p v & trees_sound p v & eq-eqb (live_count p) n (live_counted p v) & end)))
