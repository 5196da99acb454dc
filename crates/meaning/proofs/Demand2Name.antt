-- Demand 2, the door Name over the lists alone. Assumes nothing.
use Rattle.std.proofs.Common.{◌≡◌, ℕ, ◌+◌, ◌≤◌, Bool, true, false, cond, not, eqb, leb, List, [], length, take, drop, sym, refl, ap, ◌∙◌, take-append-drop, eq-eqb, eqb-true, le-leb}
use Rattle.std.proofs.Math.Option.{Option, none, some}
use Rattle.std.proofs.lemmas.Bool.{eqb-false, not-false}
use Rattle.fields.specs.Number.{Bytes}
use Rattle.fields.specs.Part.{part}
use Rattle.fields.proofs.Parts.{part_append_left}
use Rattle.meaning.specs.Layout.{within}
use Rattle.meaning.specs.Pool.{Rec, Pool, rec_at, text_of, text_used, read, lives_in}
use Rattle.meaning.specs.Sound.{sound}
use Rattle.meaning.specs.Cursor.{Command, State}
use Rattle.meaning.specs.Command.{bad_tree, is_stale, stale, refusal}
use Rattle.meaning.specs.Doors.{begun, removal, name_of, name}
use Rattle.meaning.specs.WellFormed.{WellFormed}
use Rattle.meaning.specs.Meant.{Entry, entry_for, entries_of, in_slot, name_in}
use Rattle.meaning.proofs.Batches.{begun_good}
use Rattle.meaning.proofs.Cursors.{lives_is, lives_tree}
use Rattle.meaning.proofs.Demand1Doors.{name_refused}
use Rattle.meaning.proofs.Demand2Codes.{handle_done}
use Rattle.meaning.proofs.Entries.{entry_live}
use Rattle.meaning.proofs.Facts.{test, both_true}
use Rattle.meaning.proofs.Formed.{not_both}
use Rattle.meaning.proofs.Members.{Lives, lives}
use Rattle.meaning.proofs.Pools.{sound_pool}
use Rattle.meaning.proofs.Seen.{handle_lives}
use Rattle.meaning.proofs.Sights.{sees_slot, unlisted}
use Rattle.meaning.proofs.Tables.{never, passed}

module _ (pool : List ℕ) (is_bytes : Bytes pool) (ok : sound pool ≡ true) (t slot stamp : ℕ) where
  abbrev p : Pool
  p = read pool

  abbrev s : State
  s = begun p

  abbrev c : Command
  c = removal t slot stamp

  good : WellFormed p
  good = (sound_pool pool is_bytes ok).0

  -- a name within the text in use reads the same from the text and from the buffer's end
  same_part : (i n : ℕ) → i + n ≤ length p.text → part (text_of pool) i n ≡ part p.text i n
  unfolding read
  same_part i n h =
      ap (λ (l : List ℕ). part l i n) (sym (take-append-drop (text_used pool) (text_of pool)))
      ∙ part_append_left (take (text_used pool) (text_of pool)) (drop (text_used pool) (text_of pool)) i n h

  found_name : Lives p t slot → refusal s c ≡ 0 → name pool t slot stamp ≡ name_in stamp (in_slot slot (entries_of p t))
  unfolding name name_of name_in removal begun stale is_stale entry_for
  found_name l z =
      let r = l.rec in
      let fresh : not (eqb r.stamp stamp) ≡ false = ap (is_stale stamp) (sym l.is) ∙ (passed s c z).not_stale (unfold within in refl) in
      let said : name_in stamp (some (entry_for p.text slot (some r))) ≡ part p.text r.start r.len =
      ap (λ (v : Bool). cond v (part p.text r.start r.len) []) (not-false (eqb r.stamp stamp) fresh) in
      ap (λ (v : Bool). cond v (cond (eqb (refusal s c) 0) (name_of pool (rec_at p slot)) []) []) ok
      ∙ ap (λ (v : Bool). cond v (name_of pool (rec_at p slot)) []) (eq-eqb (refusal s c) 0 z)
      ∙ ap (name_of pool) l.is
      ∙ same_part r.start r.len (good.recs slot r l.is).name_fits
      ∙ sym (ap (name_in stamp) (sym (sees_slot p good t slot l).is ∙ entry_live p l)
      ∙ ap (λ (o : Option Rec). name_in stamp (some (entry_for p.text slot o))) l.is
      ∙ said)

  -- the list has an entry with the handle, so op 4 would be done
  listed_done : (e : Entry) → in_slot slot (entries_of p t) ≡ some e → e.stamp ≡ stamp → refusal s c ≡ 0
  unfolding removal begun bad_tree within
  listed_done e i j =
      let tree : bad_tree s c ≡ false =
      test (lives_in t (rec_at p slot)) (λ h. in_range (lives p t slot h))
      (λ h. absurd (not_both (in_slot slot (entries_of p t)) i (unlisted p good t slot (λ l. never (lives_is p t slot l) h)))) in
      (handle_done _ s c (begun_good p good) refl).1 (tree, record { entry = e; is = i; stamp_is = j })
    where
      in_range : Lives (read pool) t slot → bad_tree (begun (read pool)) (removal t slot stamp) ≡ false
      in_range l =
          let k = lives_tree (read pool) good t slot l in
          let n = length (read pool).trees in
          ap not (both_true (leb 1 t) (leb t n) (le-leb 1 t k.0) (le-leb t n k.1))

  -- Of a sound pool, Name hands back the name of the entry that the tree's list has in the slot, if its stamp is the handle's, and else an empty part.
  pub name_is : name pool t slot stamp ≡ name_in stamp (in_slot slot (entries_of (read pool) t))
  unfolding removal begun
  name_is =
      test (eqb (refusal s c) 0)
      (λ h.
      let z = eqb-true (refusal s c) 0 h in
      let k = passed s c z in
      found_name (handle_lives s c (k.not_stale (unfold within in refl)) (k.in_tree (unfold within in refl))) z)
      (λ h. name_refused pool t slot stamp (eqb-false (refusal s c) 0 h) ∙ sym (go (in_slot slot (entries_of p t)) refl (eqb-false (refusal s c) 0 h)))
    where
      go : (o : Option Entry) → in_slot slot (entries_of (read pool) t) ≡ o → (refusal (begun (read pool)) (removal t slot stamp) ≡ 0 → ⊥) → name_in stamp o ≡ []
      go none i n = unfold name_in in refl
      go (some e) i n =
          let out : name_in stamp (some e) ≡ cond (eqb e.stamp stamp) e.name [] = unfold name_in in refl in
          out ∙ ap (λ (v : Bool). cond v e.name []) (test (eqb e.stamp stamp) (λ h. absurd (n (listed_done e i (eqb-true e.stamp stamp h)))) (λ h. h))
