-- What a pool that was read holds, in terms of the rows that it was read from. Assumes nothing.
use Rattle.std.proofs.Common.{◌≡◌, ℕ, zero, suc, ◌<◌, ◌≤◌, not, eqb, List, [], ◌∷◌, map, length, get_or, sym, refl, ap, ◌∙◌, arith, length-drop, length-take-le, eq-eqb, ne_eqb, eqb-true}
use Rattle.std.proofs.Math.Decide.{dec_lt}
use Rattle.std.proofs.Math.ListN.{get_or-map, get_or-eq_default}
use Rattle.std.proofs.Math.Option.{none, some}
use Rattle.std.proofs.lemmas.Bool.{eqb-false}
use Rattle.std.proofs.lemmas.List.{length-map}
use Rattle.fields.specs.Number.{get_le, value}
use Rattle.fields.specs.Part.{part, zeros}
use Rattle.avl.specs.Tree.{leaf}
use Rattle.meaning.specs.Layout.{count, at}
use Rattle.meaning.specs.Pool.{Rec, rec_at, tree_at, key_of, key_at, is_live, lives_in, n_slots, n_trees, text_used, text_size, next_stamp, root_of, key_in, tree_in, stamp_in, start_in, len_in, entries, records, text_of, read_rec, read_tree, read}
use Rattle.meaning.proofs.Facts.{test}
use Rattle.meaning.proofs.Clauses.{Header, RowFacts, Clauses, length_entries, length_records}
use Rattle.meaning.proofs.Sections.{get_zeros, tree_none}

-- ---- how much it holds

-- It has N slots.
pub length_slots : (b : List ℕ) → length (read b).slots ≡ n_slots b
unfolding read
length_slots b = length-map (records b) read_rec ∙ length_records b

-- It has T trees.
pub length_trees : (b : List ℕ) → length (read b).trees ≡ n_trees b
unfolding read
length_trees b = length-map (entries b) (λ e. read_tree (records b) (n_slots b) (root_of e)) ∙ length_entries b

-- The text section has X bytes.
pub length_text : (b : List ℕ) → Header b → length (text_of b) ≡ text_size b
unfolding text_of
length_text b h = rw length-drop (omega (arith, h.length_is))

-- Its text is text used long.
pub length_used : (b : List ℕ) → Header b → length (read b).text ≡ text_used b
unfolding read
length_used b h = length-take-le (text_used b) (text_of b) (omega (arith, length_text b h, h.used_fits))

-- ---- its records

-- the record that a row holds if it is live
unfoldable pub rec_of : List ℕ → Rec
rec_of r = record { tree = tree_in r; key = key_in r; stamp = stamp_in r; start = start_in r; len = len_in r }

-- A row with tree 0 is read as free.
pub read_free : (r : List ℕ) → tree_in r ≡ 0 → read_rec r ≡ none
unfolding read_rec
read_free r e = simp (eq-eqb (tree_in r) 0 e)

-- A row with another tree is read as its record.
pub read_live : (r : List ℕ) → 1 ≤ tree_in r → read_rec r ≡ some (rec_of r)
unfolding read_rec rec_of
read_live r low = simp (ne_eqb (tree_in r) 0 (omega arith))

at_map : {A B : Type 0} (f : A → B) (xs : List A) (d : A) (e : B) (x : ℕ) → f d ≡ e → at e (map f xs) x ≡ f (at d xs x)
unfolding at
at_map f xs d e zero h = sym h
at_map f xs d e (suc i) h = ap (get_or (map f xs) i) (sym h) ∙ get_or-map f xs i d

-- The record in a slot is read from the slot's row.
pub rec_read : (b : List ℕ) (x : ℕ) → rec_at (read b) x ≡ read_rec (at [] (records b) x)
unfolding rec_at read
rec_read b x = at_map read_rec (records b) [] none x (read_free [] tree_none)

-- A slot holds a record of tree t exactly if its row says so.
pub lives_read : (b : List ℕ) (t x : ℕ) → 1 ≤ t → lives_in t (rec_at (read b) x) ≡ eqb (tree_in (at [] (records b) x)) t
unfolding lives_in rec_of
lives_read b t x low =
    let r = at [] (records b) x in
    ap (lives_in t) (rec_read b x)
    ∙ test (eqb (tree_in r) 0)
    (λ k. let z = eqb-true (tree_in r) 0 k in ap (lives_in t) (read_free r z) ∙ sym (ne_eqb (tree_in r) t (omega arith)))
    (λ k. ap (lives_in t) (read_live r (omega (arith, eqb-false (tree_in r) 0 k))))

-- The row of a slot, or the empty one where there is no such slot, is free and all zero, or live.
pub row_of : (b : List ℕ) → Clauses b → (x : ℕ) → RowFacts (n_trees b) (text_used b) (next_stamp b) (at [] (records b) x)
unfolding at zeros
row_of b c zero = RowFacts.free tree_none refl
row_of b c (suc i) = go (dec_lt i (n_slots b))
  where
    go : Dec (i < n_slots b) → RowFacts (n_trees b) (text_used b) (next_stamp b) (get_or (records b) i [])
    go (yes h) = c.row i h
    go (no h) =
        let out : length (records b) ≤ i = omega (arith, length_records b) in
        rw (get_or-eq_default (records b) [] out) (RowFacts.free tree_none refl)

-- The key in a slot is that of its row, 0 for a free one.
pub key_read : (b : List ℕ) → Clauses b → (x : ℕ) → key_at (read b) x ≡ key_in (at [] (records b) x)
unfolding key_at key_of rec_of key_in
key_read b c x = ap key_of (rec_read b x) ∙ go (at [] (records b) x) (row_of b c x)
  where
    go : (r : List ℕ) → RowFacts (n_trees b) (text_used b) (next_stamp b) r → key_of (read_rec r) ≡ key_in r
    go r (RowFacts.free e z) = ap key_of (read_free r e) ∙ sym (get_zeros 8 r 0 z)
    go r (RowFacts.live f) = ap key_of (read_live r f.tree_low)

-- It has as many live records as there are rows with a tree.
pub live_read : (rs : List (List ℕ)) → count is_live (map read_rec rs) ≡ count (λ r. not (eqb (tree_in r) 0)) rs
unfolding count is_live
live_read [] = refl
live_read (r ∷ rs) =
    test (eqb (tree_in r) 0)
    (λ t. rw (read_free r (eqb-true (tree_in r) 0 t), t) (omega (arith, live_read rs)))
    (λ t. let low : 1 ≤ tree_in r = omega (arith, eqb-false (tree_in r) 0 t) in rw (read_live r low, t) (omega (arith, live_read rs)))

-- ---- its trees

read_none : (rs : List (List ℕ)) (level : ℕ) → read_tree rs level 0 ≡ leaf
unfolding read_tree
read_none rs zero = refl
read_none rs (suc level) = refl

root_none : root_of [] ≡ 0
unfolding root_of get_le part value
root_none = refl

-- A tree is read from its entry, down to as many levels as there are rows.
pub tree_read : (b : List ℕ) (t : ℕ) → tree_at (read b) t ≡ read_tree (records b) (length (records b)) (root_of (at [] (entries b) t))
unfolding tree_at read
tree_read b t =
    let rs = records b in
    at_map (λ e. read_tree rs (n_slots b) (root_of e)) (entries b) [] leaf t (ap (read_tree rs (n_slots b)) root_none ∙ read_none rs (n_slots b))
    ∙ ap (λ (n : ℕ). read_tree rs n (root_of (at [] (entries b) t))) (sym (length_records b))
