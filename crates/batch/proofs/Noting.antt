-- The journal keeps the changes of an open mark: from one command to the next, whatever the command was. Assumes nothing.
use Rattle.std.proofs.Common.{◌≡◌, ℕ, suc, ◌+◌, ◌<◌, Bool, true, false, cond, eqb, List, length, set, refl, ap, ◌∙◌, subst, arith, length-set}
use Rattle.std.proofs.Math.Option.{Option, none, some}
use Rattle.meaning.specs.Layout.{within}
use Rattle.meaning.specs.Pool.{Rec}
use Rattle.meaning.specs.Change.{Change, added, removed, Mark, noted as journalled}
use Rattle.meaning.specs.Command.{is_open}
use Rattle.meaning.proofs.Tables.{never}
use Rattle.slots.specs.Image.{record_of}
use Rattle.slots.specs.declared.record.Record.{Record}
use Rattle.journal.specs.Journal.{rec_of, change_at, change_of, changes_in}
use Rattle.journal.specs.declared.Entry.{Entry}
use Rattle.journal.specs.declared.Noted.TheVariants.{Added, Removed}
use Rattle.journal.proofs.Changes.{longer}
use Rattle.cursor.specs.Work.{noted, Did}
use Rattle.ops.proofs.Agreeing.{Marks, same, shut, opens, adds, removes}
use Rattle.batch.specs.Run.{count_n, entry_of, noted_n}

-- the first n entries of the journal are the changes of the mark, if one is open
pub data Notes : Option Mark → ℕ → List Entry → Type 0 where
  closed : {n : ℕ} {es : List Entry} → Notes none n es
  kept : {m : Mark} {n : ℕ} {es : List Entry} → m.changes ≡ changes_in n es → Notes (some m) n es

not_both : (m : Option Mark) {k : Mark} → m ≡ some k → m ≡ none → ⊥
unfolding is_open
not_both m h k = never (ap is_open h) (ap is_open k)

-- The changes of an open mark.
pub kept_changes : {m : Option Mark} {n : ℕ} {es : List Entry} (k : Mark) → Notes m n es → m ≡ some k → k.changes ≡ changes_in n es
kept_changes k closed i = absurd (not_both none i refl)
kept_changes {n = n} {es = es} k (kept {m = m} h) i = let e : m ≡ k = cc in subst (λ (x : Mark). x.changes ≡ changes_in n es) e h

-- no longer, no shorter
pub noted_length : (n : ℕ) (es : List Entry) (d : Did) → length (noted_n es n d) ≡ length es
unfolding noted_n
noted_length n es d = go (noted d.change)
  where
    go : (t : Bool) → length (cond t (set es n (entry_of d)) es) ≡ length es
    go true = length-set es n (entry_of d)
    go false = refl

-- one change more
notes_more : {m : Option Mark} (n : ℕ) (es : List Entry) (e : Entry) (c : Change) → change_of e ≡ c → n < length es → Notes m n es
    → Notes (journalled c m) (n + 1) (set es n e)
unfolding journalled
notes_more n es e c i h closed = closed
notes_more n es e c i h (kept k) =
    let next : suc n ≡ n + 1 = omega arith in
    kept (longer n es e i h k ∙ ap (λ (j : ℕ). changes_in j (set es n e)) next)

-- the journal by what is journalled
module _ (n : ℕ) (es : List Entry) (d : Did) where
  count_at : (i : ℕ) → d.change ≡ i → count_n n d.change ≡ count_n n i
  count_at i h = ap (count_n n) h

  noted_at : (i : ℕ) → d.change ≡ i → noted_n es n d ≡ cond (noted i) (set es n (entry_of d)) es
  unfolding noted_n
  noted_at i h = ap (λ (j : ℕ). cond (noted j) (set es n (entry_of d)) es) h

-- a record and its value
back : (x : ℕ) (r : Rec) → removed x (rec_of (record_of r)) ≡ removed x r
unfolding rec_of record_of
back x r = refl

-- The journal after a command keeps the changes of the mark after it.
pub marks_notes : {j : Option Mark} (n : ℕ) (es : List Entry) (d : Did) {k : Option Mark} → Marks d j k → n < length es → Notes j n es
    → Notes k (count_n n d.change) (noted_n es n d)
unfolding count_n noted within change_at changes_in
marks_notes n es d (same i) h l = rw (count_at n es d 0 i, noted_at n es d 0 i) l
marks_notes n es d shut h l = closed
marks_notes n es d (opens i e) h l = rw (count_at n es d 3 i, noted_at n es d 3 i) (kept e)
marks_notes {j} n es d (adds i) h l =
    rw (count_at n es d 1 i, noted_at n es d 1 i)
    (notes_more n es (entry_of d) (added d.slot) (ap (λ (c : ℕ). change_at d.slot (cond (eqb c 1) Added (Removed d.rec))) i) h l)
marks_notes n es d (removes r i v) h l =
    rw (count_at n es d 2 i, noted_at n es d 2 i)
    (notes_more n es (entry_of d) (removed d.slot r)
    (ap (λ (c : ℕ). change_at d.slot (cond (eqb c 1) Added (Removed d.rec))) i ∙ ap (λ (x : Record). removed d.slot (rec_of x)) v ∙ back d.slot r) h l)
