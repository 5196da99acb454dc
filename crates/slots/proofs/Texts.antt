-- Changes of the text alone, and of the whole: a name at its end, the text cut back, everything emptied. No record depends on the text.
-- Assumes nothing.
use Rattle.std.proofs.Common.{◌≡◌, ℕ, zero, suc, ◌+◌, ◌-◌, ◌*◌, ◌≤◌, Bool, cond, List, [], ◌∷◌, ◌++◌, map, length, take, drop, replicate, sym, refl, ap, ◌∙◌, ap₂, append_assoc, arith, length-append, length-drop, take-append-drop, length-take-le, le-ltb, ne_eqb}
use Rattle.std.proofs.Math.Option.{Option, none, some}
use Rattle.std.proofs.lemmas.Bool.{lt-leb}
use Rattle.std.proofs.lemmas.List.{length-map, length-replicate, replicate-append-replicate}
use Rattle.fields.specs.Part.{splice}
use Rattle.fields.proofs.Parts.{splice_append_right, splice_all}
use Rattle.avl.specs.Tree.{Tree, leaf, list}
use Rattle.tree.specs.Held.{tree_of}
use Rattle.avl.specs.Links.{unlinked, links_in}
use Rattle.tree.specs.declared.node.AvlTree.{AvlTree}
use Rattle.tree.proofs.Sections.{splice_middle}
use Rattle.meaning.specs.Layout.{pack, concat, count, at}
use Rattle.meaning.specs.Pool.{Rec, Pool, tree_at, is_live, live_count, links_at, record_bytes, record_rows}
use Rattle.meaning.specs.Change.{with_trees, with_text, with_next, free_from, free_slot, emptied}
use Rattle.meaning.specs.WellFormed.{WellFormed}
use Rattle.meaning.proofs.Changes.{grown}
use Rattle.meaning.proofs.Facts.{length_concat}
use Rattle.meaning.proofs.Packed.{rows_many, rows_wide}
use Rattle.slots.specs.Head.{no_tree, with_numbers}
use Rattle.slots.specs.Change.{Image, emptied_n, cut_n, plus_n, rise_n, grown_n}
use Rattle.slots.specs.Image.{text_bytes, body_of, table_of, head_of}
use Rattle.slots.specs.declared.head.Head.{Head}
use Rattle.slots.proofs.Heads.{head_as}

-- ---- the records

-- the records by their trees
row_as : (p q : Pool) → p.trees ≡ q.trees → (x : ℕ) (o : Option Rec) → record_bytes p x o ≡ record_bytes q x o
unfolding record_bytes links_at tree_at
row_as p q e x none = refl
row_as p q e x (some r) =
    ap
    (λ (ts : List Tree).
    let k = links_in (at leaf ts r.tree) 0 x unlinked in
    pack ((8, r.key) ∷ (2, k.left) ∷ (2, k.right) ∷ (2, k.parent) ∷ (1, k.balance) ∷ (1, r.tree) ∷ (4, r.stamp) ∷ (4, r.start) ∷ (2, r.len) ∷ (6, 0) ∷ []))
    e

-- Pools with the same trees have the same rows of records.
pub rows_as : (p q : Pool) → p.trees ≡ q.trees → (x : ℕ) (s : List (Option Rec)) → record_rows p x s ≡ record_rows q x s
unfolding record_rows
rows_as p q e x [] = refl
rows_as p q e x (o ∷ s) = ap₂ ◌∷◌ (row_as p q e x o) (rows_as p q e (suc x) s)

-- the record bytes of a pool
abbrev records_of : Pool → List ℕ
records_of p = concat (record_rows p 1 p.slots)

length_records : (p : Pool) → length (records_of p) ≡ 32 * length p.slots
length_records p = length_concat 32 (record_rows p 1 p.slots) (rows_wide p 1 p.slots) ∙ ap (λ (n : ℕ). 32 * n) (rows_many p 1 p.slots)

-- a store into the text of a body
text_splice : (p : Pool) (i : ℕ) (new : List ℕ) → splice (body_of p) (32 * length p.slots + i) new ≡ records_of p ++ splice (text_bytes p) i new
unfolding body_of
text_splice p i new =
    ap (λ (n : ℕ). splice (records_of p ++ text_bytes p) (n + i) new) (sym (length_records p)) ∙ splice_append_right (records_of p) (text_bytes p) i new

-- ---- a name at the end of the text

-- n bytes 0
abbrev none_of : ℕ → List ℕ
none_of n = replicate n 0

none_join : (a b n : ℕ) → a + b ≡ n → none_of a ++ none_of b ≡ none_of n
none_join a b n e = replicate-append-replicate a b 0 ∙ ap none_of e

-- The name stored behind the text in use is the body of the pool with that name.
pub name_body : (p : Pool) (name : List ℕ) → length p.text + length name ≤ p.size
    → splice (body_of p) (32 * length p.slots + length p.text) name ≡ body_of (grown p name)
unfolding body_of text_bytes with_next with_text
name_body p name h =
    let used = length p.text in
    let rest = none_of (p.size - length (p.text ++ name)) in
    let free : none_of (length name) ++ rest ≡ none_of (p.size - used) =
    none_join (length name) (p.size - length (p.text ++ name)) (p.size - used) (omega (arith, length-append p.text name)) in
    text_splice p used name
    ∙ ap₂ (λ (a b : List ℕ). a ++ b)
    (ap concat (rows_as p (grown p name) refl 1 p.slots))
    (ap (λ (z : List ℕ). splice (p.text ++ z) used name) (sym free)
    ∙ splice_middle p.text (none_of (length name)) name rest used refl (length-replicate (length name) 0)
    ∙ sym (append_assoc p.text name rest))

-- The head with that name, and with the stamp after its own.
pub name_head : (p : Pool) (name : List ℕ) → WellFormed p → (p.next ≡ 4_294_967_295 → ⊥) → grown_n (head_of p) (length name) ≡ head_of (grown p name)
unfolding grown_n head_of plus_n rise_n with_next with_text live_count free_slot
name_head p name w n =
    let used = length p.text in
    let a : plus_n used (length name) ≡ length (p.text ++ name) =
    ap (λ (t : Bool). cond t used (used + length name)) (lt-leb 4_294_901_760 used (omega (arith, w.used_fits, w.size_high)))
    ∙ sym (length-append p.text name) in
    let b : rise_n p.next ≡ suc p.next =
    ap (λ (t : Bool). cond t p.next (p.next + 1)) (ne_eqb p.next 4_294_967_295 n) ∙ omega arith in
    rw (a, b)

-- ---- the text cut back

cut_text : (p : Pool) → WellFormed p → (u : ℕ) → u ≤ length p.text
    → splice (text_bytes p) u (none_of (length p.text - u)) ≡ text_bytes (with_text p (take u p.text))
unfolding text_bytes with_text
cut_text p w u h =
    let used = length p.text in
    let kept = take u p.text in
    let gone = drop u p.text in
    let rest = none_of (p.size - used) in
    let new = none_of (used - u) in
    let n : length kept ≡ u = length-take-le u p.text h in
    ap (λ (l : List ℕ). splice (l ++ rest) u new) (sym (take-append-drop u p.text))
    ∙ ap (λ (l : List ℕ). splice l u new) (append_assoc kept gone rest)
    ∙ splice_middle kept gone new rest u n (length-drop u p.text ∙ sym (length-replicate (used - u) 0))
    ∙ ap (λ (l : List ℕ). kept ++ l) (none_join (used - u) (p.size - used) (p.size - length kept) (omega (arith, w.used_fits)))

-- The text cut back to u bytes.
pub cut_image : (p : Pool) → WellFormed p → (u : ℕ) → u ≤ length p.text
    → cut_n (body_of p) (head_of p) u ≡ (body_of (with_text p (take u p.text)), head_of (with_text p (take u p.text)))
unfolding cut_n body_of head_of with_text live_count free_slot
cut_image p w u h =
    let used = length p.text in
    let q = with_text p (take u p.text) in
    let cut : List ℕ → ℕ → Image = λ m n. (
      m,
      record { numbers = with_numbers (head_of p).numbers (live_count p) (free_slot p) n p.next; table = table_of 8 p.trees },
    ) in
    let shorter = cut (splice (body_of p) (32 * length p.slots + u) (none_of (used - u))) u in
    ap (λ (t : Bool). cond t (body_of p, head_of p) shorter) (le-ltb used u h)
    ∙ ap₂ cut
    (text_splice p u (none_of (used - u)) ∙ ap₂ (λ (a b : List ℕ). a ++ b) (ap concat (rows_as p q refl 1 p.slots)) (cut_text p w u h))
    (sym (length-take-le u p.text h))

-- ---- everything emptied

empty_rows : (q : Pool) (x : ℕ) (s : List (Option Rec)) → concat (record_rows q x (map (λ _. none) s)) ≡ none_of (32 * length s)
unfolding record_rows record_bytes concat
empty_rows q x [] = refl
empty_rows q x (o ∷ s) =
    ap (λ (l : List ℕ). none_of 32 ++ l) (empty_rows q (suc x) s) ∙ none_join 32 (32 * length s) (32 * suc (length s)) (omega arith)

empty_table_lem : (n : ℕ) (ts : List Tree) → replicate n no_tree ≡ table_of n (map (λ _. leaf) ts)
unfolding table_of tree_of list
empty_table_lem zero ts = refl
empty_table_lem (suc n) [] = ap (λ (l : List AvlTree). no_tree ∷ l) (empty_table_lem n [])
empty_table_lem (suc n) (t ∷ ts) = ap (λ (l : List AvlTree). no_tree ∷ l) (empty_table_lem n ts)

none_live : (s : List (Option Rec)) → 0 ≡ count is_live (map (λ _. none) s)
unfolding count is_live
none_live [] = refl
none_live (o ∷ s) = none_live s ∙ omega arith

first_free : (s : List (Option Rec)) → 1 ≤ length s → 1 ≡ free_from 1 (map (λ _. none) s)
unfolding free_from
first_free [] h = absurd (omega arith)
first_free (o ∷ s) h = refl

length_body : (p : Pool) → WellFormed p → length (body_of p) ≡ 32 * length p.slots + p.size
unfolding body_of text_bytes
length_body p w =
    length-append (records_of p) (p.text ++ none_of (p.size - length p.text))
    ∙ omega
    (arith, length_records p, length-append p.text (none_of (p.size - length p.text)), length-replicate {A = ℕ} (p.size - length p.text) 0, w.used_fits)

empty_body : (p : Pool) → WellFormed p → splice (body_of p) 0 (replicate (length (body_of p)) 0) ≡ body_of (emptied p)
unfolding body_of text_bytes emptied with_text with_trees
empty_body p w =
    let n = length (body_of p) in
    splice_all (body_of p) (none_of n) (sym (length-replicate n 0))
    ∙ sym (none_join (32 * length p.slots) (p.size - 0) n (omega (arith, length_body p w)))
    ∙ ap (λ (l : List ℕ). l ++ none_of (p.size - 0)) (sym (empty_rows (emptied p) 1 p.slots))

-- Reset.
pub empty_image : (p : Pool) → WellFormed p → emptied_n (body_of p) (head_of p) ≡ (body_of (emptied p), head_of (emptied p))
unfolding emptied_n head_of emptied with_text with_trees live_count free_slot
empty_image p w =
    ap₂ (λ (m : List ℕ) (h : Head). (m, h)) (empty_body p w)
    (head_as p (emptied p) 0 1 (replicate 8 no_tree) (sym (length-map p.slots _)) (sym (length-map p.trees _)) refl (none_live p.slots)
    (first_free p.slots w.slots_low) (empty_table_lem 8 p.trees))
