-- What a line is made of, read of the body of a well-formed pool: a record's links and its name. Assumes nothing.
use Rattle.std.proofs.Common.{◌≡◌, ℕ, zero, suc, ◌+◌, ◌-◌, ◌*◌, ◌≤◌, [], ◌++◌, length, replicate, ap, ◌∙◌, arith}
use Rattle.std.proofs.Math.Dec.{eqb-suc-zero}
use Rattle.std.proofs.Math.Option.{some}
use Rattle.fields.specs.Number.{get_le}
use Rattle.fields.specs.Part.{part}
use Rattle.fields.proofs.Parts.{part_append_left, part_append_right}
use Rattle.tree.specs.Node.{Field, parent, balance, offset, width, get_n}
use Rattle.meaning.specs.Layout.{concat, at}
use Rattle.meaning.specs.Pool.{Rec, Pool, rec_at, links_at, record_rows, parent_in, balance_in}
use Rattle.meaning.specs.WellFormed.{WellFormed}
use Rattle.meaning.proofs.Facts.{length_concat}
use Rattle.meaning.proofs.Members.{slot_in}
use Rattle.meaning.proofs.Packed.{rows_many, rows_wide}
use Rattle.meaning.proofs.Rows.{live_row}
use Rattle.slots.specs.Image.{text_bytes, body_of}
use Rattle.slots.proofs.Looking.{in_place}

-- a link that is read of a slot is that of its row
link_in : (p : Pool) (x : ℕ) (f : Field) → 1 ≤ x → x ≤ length p.slots → offset f + width f ≤ 32
    → get_n (body_of p) x f ≡ get_le (width f) (at [] (record_rows p 1 p.slots) x) (offset f)
unfolding get_n
link_in p zero f lo hi inside = absurd (omega arith)
link_in p (suc i) f lo hi inside =
    let e : suc i - 1 ≡ i = omega arith in
    simp (eqb-suc-zero i, e) (in_place p i (offset f) (width f) (omega arith) inside)

module _ (p : Pool) (v : WellFormed p) (x : ℕ) (r : Rec) (e : rec_at p x ≡ some r) where
  -- The parent that is read of a live slot is its tree's.
  pub parent_image : get_n (body_of p) x parent ≡ (links_at p r.tree x).parent
  unfolding parent_in
  parent_image = let i = slot_in p x r e in link_in p x parent i.0 i.1 (omega arith) ∙ (live_row p x r v e).parent_is

  -- So is its balance.
  pub balance_image : get_n (body_of p) x balance ≡ (links_at p r.tree x).balance
  unfolding balance_in
  balance_image = let i = slot_in p x r e in link_in p x balance i.0 i.1 (omega arith) ∙ (live_row p x r v e).balance_is

  -- Its name stands in the text, which follows the records.
  pub name_image : part (body_of p) (32 * length p.slots + r.start) r.len ≡ part p.text r.start r.len
  unfolding body_of text_bytes
  name_image =
      let ls = record_rows p 1 p.slots in
      let n : 32 * length p.slots ≡ length (concat ls) = omega (arith, length_concat 32 ls (rows_wide p 1 p.slots), rows_many p 1 p.slots) in
      ap (λ (k : ℕ). part (concat ls ++ text_bytes p) (k + r.start) r.len) n
      ∙ part_append_right (concat ls) (text_bytes p) r.start r.len
      ∙ part_append_left p.text (replicate (p.size - length p.text) 0) r.start r.len (v.recs x r e).name_fits
