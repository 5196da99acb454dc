-- A pool opened: its bytes as header, entries and body, and the head that is loaded from them. Assumes nothing.
use Rattle.std.proofs.Common.{◌≡◌, ℕ, zero, suc, ◌+◌, ◌-◌, ◌*◌, ◌<◌, ◌≤◌, true, List, [], ◌∷◌, ◌++◌, map, length, get_or, drop, replicate, sym, refl, ap, ◌∙◌, ap₂, append-nil, add-zero, add-suc, suc-add, arith, take-append-drop, drop-drop, le-leb}
use Rattle.std.proofs.Math.Decide.{dec_lt}
use Rattle.std.proofs.Math.ListN.{get_or-eq_default}
use Rattle.std.proofs.lemmas.Bool.{lt-leb}
use Rattle.fields.specs.Number.{get_le, Bytes}
use Rattle.avl.specs.Tree.{left, Tree, leaf, top, list}
use Rattle.tree.specs.Held.{tree_of}
use Rattle.tree.specs.declared.node.AvlTree.{AvlTree}
use Rattle.meaning.specs.Layout.{concat, at}
use Rattle.meaning.specs.Pool.{Pool, tree_at, live_count, header_bytes, entry_bytes, bytes, n_slots, n_trees, text_size, text_used, next_stamp, root_of, count_of, text_of, read}
use Rattle.meaning.specs.Change.{free_slot}
use Rattle.meaning.specs.Sound.{sound}
use Rattle.meaning.specs.WellFormed.{WellFormed}
use Rattle.meaning.proofs.Clauses.{clauses}
use Rattle.meaning.proofs.Sections.{entry_field}
use Rattle.meaning.proofs.Packed.{bytes_length, written_header, written_entries, entry_at_lem}
use Rattle.meaning.proofs.Rows.{root_is, count_is}
use Rattle.meaning.proofs.RoundTrip.{records_bytes, text_bytes_lem}
use Rattle.meaning.proofs.Pools.{sound_pool}
use Rattle.slots.specs.Head.{no_tree, entry_n, table_n, load_n}
use Rattle.slots.specs.Image.{text_bytes, body_of, table_of, head_of}

-- ---- the body

-- The bytes of a pool are header, entries and body.
pub bytes_body : (p : Pool) → bytes p ≡ header_bytes p ++ (concat (map entry_bytes p.trees) ++ body_of p)
unfolding bytes concat body_of text_bytes
bytes_body p = simp append-nil

-- What stands behind the header and the entries of a sound pool is the body of the pool that is read.
pub body_read : (b : List ℕ) → Bytes b → sound b ≡ true → drop (32 + 8 * n_trees b) b ≡ body_of (read b)
unfolding body_of text_bytes text_of
body_read b a s =
    let c = clauses b s in
    let start = 32 + 8 * n_trees b in
    let unused : List ℕ = replicate ((read b).size - length (read b).text) 0 in
    let text : (read b).text ++ unused ≡ drop (start + 32 * n_slots b) b = ap (λ (l : List ℕ). (read b).text ++ l) (sym (append-nil unused)) ∙ text_bytes_lem b c in
    sym (ap₂ (λ (x y : List ℕ). x ++ y) (records_bytes b a c) (text ∙ sym (drop-drop (32 * n_slots b) start b))
    ∙ take-append-drop (32 * n_slots b) (drop start b))

-- ---- the table

-- the values of f at n numbers from i on
unfoldable pub values_from : (ℕ → AvlTree) → ℕ → ℕ → List AvlTree
values_from f i zero = []
values_from f i (suc n) = f i ∷ values_from f (suc i) n

-- If f has the elements of a list in turn, its values are the list.
pub values_are : (f : ℕ → AvlTree) (i : ℕ) (ts : List AvlTree) → ((k : ℕ) → k < length ts → f (i + k) ≡ get_or ts k no_tree)
    → values_from f i (length ts) ≡ ts
unfolding values_from
values_are f i [] h = refl
values_are f i (t ∷ ts) h =
    ap₂ ◌∷◌ (rw add-zero at (h 0 (omega arith))) (values_are f (suc i) ts (λ k l. rw (suc-add, ← add-suc i k) (h (suc k) (omega arith))))

-- A table of n trees has n trees.
pub table_length : (n : ℕ) (ts : List Tree) → length (table_of n ts) ≡ n
unfolding table_of
table_length zero ts = refl
table_length (suc n) [] = ap suc (table_length n [])
table_length (suc n) (t ∷ ts) = ap suc (table_length n ts)

-- a tree by value, with its count
abbrev by_value : Tree → AvlTree
by_value t = tree_of t (length (list left t))

table_at : (n : ℕ) (ts : List Tree) (k : ℕ) → k < n → get_or (table_of n ts) k no_tree ≡ by_value (get_or ts k leaf)
unfolding table_of tree_of list
table_at zero ts k h = absurd (omega arith)
table_at (suc n) [] zero h = refl
table_at (suc n) [] (suc k) h = table_at n [] k (omega arith)
table_at (suc n) (t ∷ ts) zero h = refl
table_at (suc n) (t ∷ ts) (suc k) h = table_at n ts k (omega arith)

-- ---- the head

-- an entry of the written pool, read in place
entry_in : (p : Pool) (i k w : ℕ) → WellFormed p → i < length p.trees → k + w ≤ 8
    → get_le w (bytes p) (32 + 8 * i + k) ≡ get_le w (entry_bytes (tree_at p (suc i))) k
unfolding at
entry_in p i k w v h fits =
    let T = (written_header p v).trees_are in
    sym (entry_field (bytes p) i k w (omega arith) fits (omega (arith, bytes_length p v)))
    ∙ ap (λ (es : List (List ℕ)). get_le w (get_or es i []) k) (written_entries p v)
    ∙ ap (λ (e : List ℕ). get_le w e k) (entry_at_lem p (suc i) (omega arith) (omega arith))

entry_loaded : (p : Pool) → WellFormed p → (i : ℕ) → entry_n (bytes p) (length p.trees) i ≡ by_value (get_or p.trees i leaf)
unfolding entry_n tree_of list tree_at at root_of count_of
entry_loaded p v i = go (dec_lt i (length p.trees))
  where
    go : Dec (i < length p.trees) → entry_n (bytes p) (length p.trees) i ≡ by_value (get_or p.trees i leaf)
    go (yes h) =
        let z : 32 + 8 * i ≡ 32 + 8 * i + 0 = omega arith in
        let root : get_le 2 (bytes p) (32 + 8 * i) ≡ top (get_or p.trees i leaf) =
        ap (get_le 2 (bytes p)) z ∙ entry_in p i 0 2 v h (omega arith) ∙ root_is p (suc i) v (omega arith) (omega arith) in
        let count : get_le 2 (bytes p) (32 + 8 * i + 2) ≡ length (list left (get_or p.trees i leaf)) =
        entry_in p i 2 2 v h (omega arith) ∙ count_is p (suc i) v (omega arith) (omega arith) in
        simp (lt-leb (length p.trees) i h, root, count)
    go (no h) =
        let past : length p.trees ≤ i = omega arith in
        simp (le-leb (length p.trees) i past, get_or-eq_default p.trees leaf past)

table_loaded : (p : Pool) → WellFormed p → table_n (bytes p) (length p.trees) ≡ table_of 8 p.trees
unfolding table_n values_from
table_loaded p v =
    let f = entry_n (bytes p) (length p.trees) in
    let table = table_of 8 p.trees in
    let n = table_length 8 p.trees in
    let all : values_from f 0 (length table) ≡ table =
    values_are f 0 table (λ k h. let z : 0 + k ≡ k = omega arith in ap f z ∙ entry_loaded p v k ∙ sym (table_at 8 p.trees k (omega arith))) in
    ap (values_from f 0) (sym n) ∙ all

-- The head that is loaded from a written pool is its own.
pub load_bytes : (p : Pool) → WellFormed p → load_n (bytes p) (live_count p) (free_slot p) ≡ head_of p
unfolding load_n head_of n_slots n_trees text_size text_used next_stamp
load_bytes p v =
    let h = written_header p v in
    simp (h.slots_are, h.trees_are, h.size_is, h.used_is, h.next_is, table_loaded p v) refl

-- The head that is loaded from a sound pool is that of the pool that is read.
pub load_read : (b : List ℕ) → Bytes b → sound b ≡ true → load_n b (live_count (read b)) (free_slot (read b)) ≡ head_of (read b)
load_read b a s =
    let r = sound_pool b a s in
    ap (λ (x : List ℕ). load_n x (live_count (read b)) (free_slot (read b))) (sym r.1) ∙ load_bytes (read b) r.0
