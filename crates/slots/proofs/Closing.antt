-- A pool closed: the head stored over the header and the entries gives the pool's bytes, and answers stand in a row. Assumes nothing.
use Rattle.std.proofs.Common.{◌≡◌, ℕ, zero, suc, ◌+◌, ◌*◌, ◌≤◌, List, [], ◌∷◌, ◌++◌, map, length, get_or, take, drop, sym, refl, ap, ◌∙◌, ap₂, append_assoc, append-nil, arith, length-append, take_at, take-add, le-leb}
use Rattle.std.proofs.Math.Option.{Option, none, some}
use Rattle.std.proofs.lemmas.Bool.{lt-leb}
use Rattle.fields.specs.Number.{digits, put_le}
use Rattle.fields.specs.Part.{splice}
use Rattle.fields.proofs.Numbers.{length_digits}
use Rattle.fields.proofs.Parts.{splice_in, splice_append_left, splice_append_right, splice_join, splice_all}
use Rattle.avl.specs.Tree.{left, Tree, top, list}
use Rattle.tree.specs.Held.{tree_of}
use Rattle.tree.specs.declared.node.AvlTree.{AvlTree}
use Rattle.meaning.specs.Layout.{pack, concat}
use Rattle.meaning.specs.Pool.{Rec, Pool, live_count, header_bytes, entry_bytes, bytes, n_trees, entries}
use Rattle.meaning.specs.WellFormed.{WellFormed}
use Rattle.meaning.specs.Command.{answer}
use Rattle.meaning.proofs.Facts.{concat_rows, total, length_pack, pack_append}
use Rattle.meaning.proofs.Packed.{written_header, written_entries}
use Rattle.slots.specs.Record.{no_record}
use Rattle.slots.specs.Head.{no_tree, put_entry_n, put_table_n, store_n}
use Rattle.slots.specs.Answer.{put_answer_n}
use Rattle.slots.specs.Image.{body_of, table_of, head_of, record_of, shown_of}
use Rattle.slots.specs.declared.record.Record.{Record}
use Rattle.slots.proofs.Opening.{bytes_body, values_from, values_are, table_length}

-- ---- a field stored anew

-- a store at the seam of two lists falls into the second
splice_seam : (a r : List ℕ) (at : ℕ) (new : List ℕ) → length a ≡ at → splice (a ++ r) at new ≡ a ++ splice r 0 new
splice_seam a r at new e =
    let i : at ≡ length a + 0 = omega arith in
    ap (λ (k : ℕ). splice (a ++ r) k new) i ∙ splice_append_right a r 0 new

-- a store over the first of two lists replaces it
splice_over : (a r new : List ℕ) → length a ≡ length new → splice (a ++ r) 0 new ≡ new ++ r
splice_over a r new e = splice_append_left a r 0 new (omega arith) ∙ ap (λ (l : List ℕ). l ++ r) (splice_all a new e)

-- A field of a packed row between others, whatever stands around the row, is replaced by a store.
put_field : (a : List ℕ) (fs : List (ℕ × ℕ)) (w m n : ℕ) (gs : List (ℕ × ℕ)) (r : List ℕ) (at : ℕ) → length a + total fs ≡ at
    → put_le w (a ++ (pack (fs ++ ((w, m) ∷ gs)) ++ r)) at n ≡ a ++ (pack (fs ++ ((w, n) ∷ gs)) ++ r)
unfolding put_le pack
put_field a fs w m n gs r at e =
    let apart : (v : ℕ) → a ++ (pack (fs ++ ((w, v) ∷ gs)) ++ r) ≡ (a ++ pack fs) ++ (digits w v ++ (pack gs ++ r)) =
    λ v. ap (λ (x : List ℕ). a ++ (x ++ r)) (pack_append fs ((w, v) ∷ gs)) ∙ simp append_assoc in
    let place : length (a ++ pack fs) ≡ at = omega (arith, length-append a (pack fs), length_pack fs) in
    ap (λ (x : List ℕ). splice x at (digits w n)) (apart m)
    ∙ splice_seam (a ++ pack fs) (digits w m ++ (pack gs ++ r)) at (digits w n) place
    ∙ ap (λ (x : List ℕ). (a ++ pack fs) ++ x)
    (splice_over (digits w m) (pack gs ++ r) (digits w n) (length_digits w m ∙ sym (length_digits w n)))
    ∙ sym (apart n)

-- ---- the entries

entry_length : (t : Tree) → length (entry_bytes t) ≡ 8
unfolding entry_bytes
entry_length t = length_pack _

header_length : (p : Pool) → length (header_bytes p) ≡ 32
unfolding header_bytes
header_length p = length_pack _

entry_stored : (a : List ℕ) (t u : Tree) (r : List ℕ) (T i : ℕ) → length a ≡ 32 + 8 * i → suc i ≤ T
    → put_entry_n (a ++ (entry_bytes t ++ r)) T i (tree_of u (length (list left u))) ≡ a ++ (entry_bytes u ++ r)
unfolding put_entry_n entry_bytes tree_of
entry_stored a t u r T i e h =
    let n = length (list left u) in
    let at = 32 + 8 * i in
    simp (lt-leb T i h)
    (ap (λ (x : List ℕ). put_le 2 x (at + 2) n) (put_field a [] 2 (top t) (top u) ((2, length (list left t)) ∷ (4, 0) ∷ []) r at (omega arith))
    ∙ put_field a ((2, top u) ∷ []) 2 (length (list left t)) n ((4, 0) ∷ []) r (at + 2) (omega arith))

-- beyond the trees nothing is stored
entry_beyond : (b : List ℕ) (T i : ℕ) (v : AvlTree) → T ≤ i → put_entry_n b T i v ≡ b
unfolding put_entry_n
entry_beyond b T i v h = simp (le-leb T i h)

none_stored : (b : List ℕ) (T i n : ℕ) → T ≤ i → put_table_n b T i (table_of n []) ≡ b
unfolding put_table_n table_of
none_stored b T i zero h = refl
none_stored b T i (suc n) h =
    ap (λ (x : List ℕ). put_table_n x T (i + 1) (table_of n [])) (entry_beyond b T i no_tree h) ∙ none_stored b T (i + 1) n (omega arith)

entries_stored : (a : List ℕ) (ts us : List Tree) (r : List ℕ) (i n : ℕ) → length a ≡ 32 + 8 * i → length ts ≡ length us → length us ≤ n
    → put_table_n (a ++ (concat (map entry_bytes ts) ++ r)) (i + length us) i (table_of n us) ≡ a ++ (concat (map entry_bytes us) ++ r)
unfolding concat put_table_n table_of
entries_stored a [] [] r i n e s h = none_stored (a ++ r) (i + 0) i n (omega arith)
entries_stored a (t ∷ ts) [] r i n e s h = absurd (omega arith)
entries_stored a [] (u ∷ us) r i n e s h = absurd (omega arith)
entries_stored a (t ∷ ts) (u ∷ us) r i zero e s h = absurd (omega arith)
entries_stored a (t ∷ ts) (u ∷ us) r i (suc n) e s h =
    let old = concat (map entry_bytes ts) in
    let k : i + suc (length us) ≡ i + 1 + length us = omega arith in
    let here : put_entry_n (a ++ ((entry_bytes t ++ old) ++ r)) (i + suc (length us)) i (tree_of u (length (list left u))) ≡ (a ++ entry_bytes u) ++ (old ++ r) =
    ap (λ (x : List ℕ). put_entry_n (a ++ x) (i + suc (length us)) i (tree_of u (length (list left u)))) (append_assoc (entry_bytes t) old r)
    ∙ entry_stored a t u (old ++ r) (i + suc (length us)) i e (omega arith)
    ∙ sym (append_assoc a (entry_bytes u) (old ++ r)) in
    ap₂ (λ (x : List ℕ) (m : ℕ). put_table_n x m (i + 1) (table_of n us)) here k
    ∙ entries_stored (a ++ entry_bytes u) ts us r (i + 1) n (omega (arith, length-append a (entry_bytes u), entry_length u)) (omega arith) (omega arith)
    ∙ simp append_assoc

-- ---- the whole

-- the header and the entries of a written pool
front : (p : Pool) → WellFormed p → take (32 + 8 * length p.trees) (bytes p) ≡ header_bytes p ++ concat (map entry_bytes p.trees)
unfolding entries
front p v =
    let T = (written_header p v).trees_are in
    take-add 32 (8 * length p.trees) (bytes p)
    ∙ ap₂ (λ (x y : List ℕ). x ++ y)
    (ap (take 32) (bytes_body p) ∙ take_at (header_bytes p) (concat (map entry_bytes p.trees) ++ body_of p) 32 (header_length p))
    (ap (λ (k : ℕ). take (8 * k) (drop 32 (bytes p))) (sym T)
    ∙ sym (concat_rows (n_trees (bytes p)) 8 (drop 32 (bytes p)))
    ∙ ap concat (written_entries p v))

-- the three numbers of the header that a batch changes
header_stored : (p q : Pool) (r : List ℕ) → length p.slots ≡ length q.slots → length p.trees ≡ length q.trees → p.size ≡ q.size
    → put_le 4 (put_le 4 (put_le 2 (header_bytes p ++ r) 6 (live_count q)) 24 (length q.text)) 28 q.next ≡ header_bytes q ++ r
unfolding header_bytes live_count
header_stored p q r n t x =
    let N = length q.slots in let T = length q.trees in
    let sizes : List (ℕ × ℕ) = (2, 1) ∷ (2, N) ∷ (2, T) ∷ [] in
    let places : List (ℕ × ℕ) = (4, 32) ∷ (4, 32 + 8 * T) ∷ (4, 32 + 8 * T + 32 * N) ∷ (4, q.size) ∷ [] in
    let live : List (ℕ × ℕ) = (2, live_count q) ∷ [] in
    let used : List (ℕ × ℕ) = (4, length q.text) ∷ [] in
    rw (n, t, x)
    (ap (λ (y : List ℕ). put_le 4 (put_le 4 y 24 (length q.text)) 28 q.next)
    (put_field [] sizes 2 (live_count p) (live_count q) (places ++ ((4, length p.text) ∷ (4, p.next) ∷ [])) r 6 (omega arith))
    ∙ ap (λ (y : List ℕ). put_le 4 y 28 q.next)
    (put_field [] (sizes ++ (live ++ places)) 4 (length p.text) (length q.text) ((4, p.next) ∷ []) r 24 (omega arith))
    ∙ put_field [] (sizes ++ (live ++ (places ++ used))) 4 p.next q.next [] r 28 (omega arith))

-- a table of eight trees is its elements in turn
eight_are : (ts : List Tree) → values_from (λ i. get_or (table_of 8 ts) i no_tree) 0 8 ≡ table_of 8 ts
eight_are ts =
    let table = table_of 8 ts in
    let f : ℕ → AvlTree = λ i. get_or table i no_tree in
    ap (values_from f 0) (sym (table_length 8 ts)) ∙ values_are f 0 table (λ k h. let z : 0 + k ≡ k = omega arith in ap f z)

-- The head of q stored over the header and the entries of p, whose sizes are the same, with the body of q behind them, is the pool q.
pub store_image : (p q : Pool) → WellFormed p → WellFormed q → length p.slots ≡ length q.slots → length p.trees ≡ length q.trees → p.size ≡ q.size
    → store_n (take (32 + 8 * length p.trees) (bytes p) ++ body_of q) (head_of q) ≡ bytes q
unfolding store_n head_of values_from
store_image p q v w n t x =
    let T = length q.trees in
    let old = concat (map entry_bytes p.trees) in
    let z : 0 + T ≡ T = omega arith in
    let start : take (32 + 8 * length p.trees) (bytes p) ++ body_of q ≡ header_bytes p ++ (old ++ body_of q) =
    ap (λ (l : List ℕ). l ++ body_of q) (front p v) ∙ append_assoc (header_bytes p) old (body_of q) in
    let head : put_le 4 (put_le 4 (put_le 2 (take (32 + 8 * length p.trees) (bytes p) ++ body_of q) 6 (live_count q)) 24 (length q.text)) 28 q.next
    ≡ header_bytes q ++ (old ++ body_of q) =
    ap (λ (l : List ℕ). put_le 4 (put_le 4 (put_le 2 l 6 (live_count q)) 24 (length q.text)) 28 q.next) start
    ∙ header_stored p q (old ++ body_of q) n t x in
    ap₂ (λ (l : List ℕ) (ts : List AvlTree). put_table_n l T 0 ts) head (eight_are q.trees)
    ∙ ap (λ (k : ℕ). put_table_n (header_bytes q ++ (old ++ body_of q)) k 0 (table_of 8 q.trees)) (sym z)
    ∙ entries_stored (header_bytes q) p.trees q.trees (body_of q) 0 8 (header_length q) t w.trees_high
    ∙ sym (bytes_body q)

-- ---- answers

-- An answer is 24 bytes.
pub answer_length : (code kind x : ℕ) (r : Option Rec) → length (answer code kind x r) ≡ 24
unfolding answer
answer_length code kind x none = length_pack _
answer_length code kind x (some r) = length_pack _

-- the first field stored
put_first : (o : List ℕ) (at w v : ℕ) → put_le w o at v ≡ splice o at (pack ((w, v) ∷ []))
unfolding put_le pack
put_first o at w v = ap (splice o at) (sym (append-nil (digits w v)))

-- a field stored behind those that are stored already
put_next : (o : List ℕ) (at : ℕ) (fs : List (ℕ × ℕ)) (w v : ℕ) → at + (total fs + w) ≤ length o
    → put_le w (splice o at (pack fs)) (at + total fs) v ≡ splice o at (pack (fs ++ ((w, v) ∷ [])))
unfolding put_le pack
put_next o at fs w v h =
    let n = length_pack fs in
    let k = length_digits w v in
    ap (λ (i : ℕ). splice (splice o at (pack fs)) (at + i) (digits w v)) (sym n)
    ∙ splice_join o at (pack fs) (digits w v) (omega arith)
    ∙ ap (splice o at) (sym (pack_append fs ((w, v) ∷ []) ∙ ap (λ (l : List ℕ). pack fs ++ l) (append-nil (digits w v))))

-- the fields of an answer, stored one behind the other
fields_stored : (o : List ℕ) (k code kind x : ℕ) (v : Record) → 24 * k + 24 ≤ length o
    → put_answer_n o k code kind x v
    ≡ splice o (24 * k) (pack ((1, code) ∷ (1, kind) ∷ (2, x) ∷ (4, v.stamp) ∷ (8, v.key) ∷ (4, v.start) ∷ (2, v.len) ∷ (2, 0) ∷ []))
unfolding put_answer_n
fields_stored o k code kind x v h =
    let at = 24 * k in
    let fs : List (ℕ × ℕ) = (1, code) ∷ (1, kind) ∷ (2, x) ∷ (4, v.stamp) ∷ (8, v.key) ∷ (4, v.start) ∷ (2, v.len) ∷ [] in
    rw (
      put_first o at 1 code,
      put_next o at (take 1 fs) 1 kind (omega arith),
      put_next o at (take 2 fs) 2 x (omega arith),
      put_next o at (take 3 fs) 4 v.stamp (omega arith),
      put_next o at (take 4 fs) 8 v.key (omega arith),
      put_next o at (take 5 fs) 4 v.start (omega arith),
      put_next o at (take 6 fs) 2 v.len (omega arith),
    )
    (put_next o at fs 2 0 (omega arith))

-- An answer is written in its place.
pub answer_image : (o : List ℕ) (k code kind x : ℕ) (r : Option Rec) → 24 * k + 24 ≤ length o → (r ≡ none → x ≡ 0)
    → put_answer_n o k code kind x (shown_of r) ≡ splice o (24 * k) (answer code kind x r)
unfolding answer shown_of record_of pack digits
answer_image o k code kind x none h z = rw (z refl) (fields_stored o k code kind 0 no_record h)
answer_image o k code kind x (some r) h z = fields_stored o k code kind x (record_of r) h

-- Answers in a row: the k-th stands behind k others.
pub answer_next : (done rest : List ℕ) (k : ℕ) (a : List ℕ) → length done ≡ 24 * k → length a ≡ 24 → 24 ≤ length rest
    → splice (done ++ rest) (24 * k) a ≡ (done ++ a) ++ drop 24 rest
answer_next done rest k a e n h =
    let i : 0 + length a ≡ 24 = omega arith in
    splice_seam done rest (24 * k) a e
    ∙ ap (λ (l : List ℕ). done ++ l) (splice_in rest 0 a (omega arith) ∙ ap (λ (m : ℕ). a ++ drop m rest) i)
    ∙ sym (append_assoc done a (drop 24 rest))
