-- A well-formed pool, written, reads back as it was. Assumes nothing.
use Rattle.std.proofs.Common.{◌≡◌, ℕ, suc, ◌-◌, ◌≤◌, List, [], length, take, replicate, sym, refl, ap, ◌∙◌, arith, take_at, ext_get_or}
use Rattle.std.proofs.Math.Option.{Option, none, some}
use Rattle.fields.specs.Number.{value, get_le}
use Rattle.fields.specs.Part.{part}
use Rattle.avl.specs.Tree.{leaf}
use Rattle.meaning.specs.Layout.{at}
use Rattle.avl.specs.Links.{Links}
use Rattle.meaning.specs.Pool.{Rec, Pool, rec_at, tree_at, links_at, record_rows, bytes, tree_in, read_rec, read, text_used, text_of}
use Rattle.meaning.specs.WellFormed.{WellFormed}
use Rattle.meaning.specs.Demands.{RowSays}
use Rattle.meaning.proofs.Contents.{rec_of, length_slots, length_trees, read_free, read_live, rec_read, tree_read}
use Rattle.meaning.proofs.Packed.{written_header, written_entries, written_records, written_text, rows_many, entry_at_lem}
use Rattle.meaning.proofs.Rows.{live_row, free_row, root_is}
use Rattle.meaning.proofs.Stored.{tree_back}

-- by cases on a slot, with its equation
pub on_slot {ℓ} : {P : Type ℓ} (o : Option Rec) → (o ≡ none → P) → ((r : Rec) → o ≡ some r → P) → P
on_slot none f g = f refl
on_slot (some r) f g = g r refl

-- The row of a free slot has tree 0.
pub free_tree : tree_in (replicate 32 0) ≡ 0
unfolding tree_in get_le part value
free_tree = refl

says_rec : (b : List ℕ) (r : Rec) (k : Links) → RowSays b r k → rec_of b ≡ r
unfolding rec_of
says_rec b r k f = rw (f.tree_is, f.key_is, f.stamp_is, f.start_is, f.len_is)

-- The row of a slot reads as what is in the slot.
pub row_back : (p : Pool) (x : ℕ) → WellFormed p → 1 ≤ x → x ≤ length p.slots → read_rec (at [] (record_rows p 1 p.slots) x) ≡ rec_at p x
row_back p x v lo hi =
    let b = at [] (record_rows p 1 p.slots) x in
    on_slot (rec_at p x)
    (λ e. ap read_rec (free_row p x lo hi e) ∙ read_free (replicate 32 0) free_tree ∙ sym e)
    (λ r e.
    let f = live_row p x r v e in
    read_live b (omega (arith, f.tree_is, (v.recs x r e).tree_low)) ∙ ap some (says_rec b r (links_at p r.tree x) f) ∙ sym e)

rec_back : (p : Pool) (x : ℕ) → WellFormed p → 1 ≤ x → x ≤ length p.slots → rec_at (read (bytes p)) x ≡ rec_at p x
rec_back p x v lo hi =
    rec_read (bytes p) x ∙ ap (λ (rs : List (List ℕ)). read_rec (at [] rs x)) (written_records p v) ∙ row_back p x v lo hi

-- The slots read back.
pub slots_back : (p : Pool) → WellFormed p → (read (bytes p)).slots ≡ p.slots
unfolding rec_at at
slots_back p v =
    let n : length (read (bytes p)).slots ≡ length p.slots = length_slots (bytes p) ∙ (written_header p v).slots_are in
    ext_get_or none (read (bytes p)).slots p.slots n (λ i h. rec_back p (suc i) v (omega arith) (omega arith))

tree_same : (p : Pool) (t : ℕ) → WellFormed p → 1 ≤ t → t ≤ length p.trees → tree_at (read (bytes p)) t ≡ tree_at p t
tree_same p t v lo hi =
    tree_read (bytes p) t
    ∙ rw (written_records p v, rows_many p 1 p.slots, written_entries p v, entry_at_lem p t lo hi, root_is p t v lo hi) (tree_back p t v lo hi)

-- The trees read back.
pub trees_back : (p : Pool) → WellFormed p → (read (bytes p)).trees ≡ p.trees
unfolding tree_at at
trees_back p v =
    let n : length (read (bytes p)).trees ≡ length p.trees = length_trees (bytes p) ∙ (written_header p v).trees_are in
    ext_get_or leaf (read (bytes p)).trees p.trees n (λ i h. tree_same p (suc i) v (omega arith) (omega arith))

-- The text reads back.
pub text_back : (p : Pool) → WellFormed p → take (text_used (bytes p)) (text_of (bytes p)) ≡ p.text
text_back p v =
    rw ((written_header p v).used_is, written_text p v) (take_at p.text (replicate (p.size - length p.text) 0) (length p.text) refl)

-- A well-formed pool reads back as it was written.
pub read_back : (p : Pool) → WellFormed p → read (bytes p) ≡ p
unfolding read
read_back p v =
    let h = written_header p v in
    rw (slots_back p v, trees_back p v, text_back p v, h.size_is, h.next_is)
