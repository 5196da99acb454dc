-- A journal undone on the body and the head is the journal undone in the pool. A record that goes back may have its name and its stamp beyond the
-- text and the next stamp of the pool under way, as far as the journal alone says; so each step is taken in the pool with all of its text in use and
-- the highest next stamp, which has the same body. Assumes nothing.
use Rattle.std.proofs.Common.{◌≡◌, ℕ, zero, suc, ◌+◌, ◌-◌, ◌≤◌, List, ◌∷◌, ◌++◌, length, get_or, replicate, sym, refl, ap, ◌∙◌, subst, ap₂, append-nil, arith, length-append}
use Rattle.std.proofs.Math.Option.{Option, some}
use Rattle.std.proofs.lemmas.List.{length-replicate}
use Rattle.fields.specs.Number.{Bytes}
use Rattle.avl.specs.Tree.{right}
use Rattle.avl.specs.Search.{entry, compared}
use Rattle.tree.specs.Held.{tree_of}
use Rattle.tree.specs.Search.{Ending, seek_n}
use Rattle.tree.specs.declared.node.AvlTree.{AvlTree}
use Rattle.tree.proofs.Trees.{ending}
use Rattle.meaning.specs.Layout.{concat}
use Rattle.meaning.specs.Pool.{Rec, Pool, rec_at, tree_at, key_at, live_count}
use Rattle.meaning.specs.Change.{with_trees, with_text, with_next, by_key_in, free_slot, put_rec, drop_rec, Change, added, removed, Mark, undo_add, undo, rollback}
use Rattle.meaning.specs.Cursor.{State}
use Rattle.meaning.specs.WellFormed.{WellFormed}
use Rattle.meaning.specs.States.{Fits, Alike, Since, nothing, then_added, then_removed, Journal, begun, GoodState}
use Rattle.meaning.proofs.Bytes.{bytes_append, bytes_zeros}
use Rattle.meaning.proofs.Changes.{rec_moves, put_good, drop_good}
use Rattle.meaning.proofs.Facts.{length_put}
use Rattle.meaning.proofs.Formed.{formed, formed_as, room}
use Rattle.meaning.proofs.Journals.{undone}
use Rattle.meaning.proofs.Members.{slot_in}
use Rattle.meaning.proofs.Undoing.{alike_same, alike_on, added_live, added_back, removed_room, removed_back, undo_keeps}
use Rattle.slots.specs.Record.{record_n}
use Rattle.slots.specs.Head.{tree_n, with_numbers}
use Rattle.slots.specs.Change.{Image, put_rec_n, drop_rec_n, cut_n}
use Rattle.slots.specs.Image.{text_bytes, body_of, head_of, record_of, shown_of}
use Rattle.slots.specs.declared.head.Head.{Head}
use Rattle.slots.specs.declared.record.Record.{Record}
use Rattle.slots.proofs.Changing.{put_image, drop_image}
use Rattle.slots.proofs.Looking.{record_image, tree_image, entry_image}
use Rattle.slots.proofs.Texts.{rows_as, cut_image}
use Rattle.journal.specs.Journal.{no_entry, rec_of, change_at, change_of, changes_in, undo_at_n, undo_one_n, undo_n, roll_back_n}
use Rattle.journal.specs.declared.Entry.{Entry}
use Rattle.journal.specs.declared.Noted.{Noted}
use Rattle.journal.specs.declared.Noted.TheVariants.{Added, Removed}

-- ---- the pool with all of its text in use and the highest next stamp

unfoldable widened : Pool → Pool
widened p = with_next (with_text p (text_bytes p)) 4_294_967_295

-- it is all of the text that there is room for
text_whole : (p : Pool) → (p.size ≤ length (text_bytes p)) × (length p.text ≤ p.size → length (text_bytes p) ≡ p.size)
unfolding text_bytes
text_whole p =
    let n = p.size - length p.text in
    let e = length-append p.text (replicate n 0) in
    let l = length-replicate {A = ℕ} n 0 in
    (omega arith, λ h. omega arith)

text_bytes_lem : (p : Pool) → WellFormed p → Bytes (text_bytes p)
unfolding text_bytes
text_bytes_lem p w = let n = p.size - length p.text in bytes_append p.text (replicate n 0) w.text_bytes (bytes_zeros n)

-- the same body
body_wide : (p : Pool) → body_of (widened p) ≡ body_of p
unfolding body_of text_bytes widened with_next with_text
body_wide p =
    let rest : p.size - length (text_bytes p) ≡ 0 = omega (arith, (text_whole p).0) in
    ap₂ (λ (a b : List ℕ). a ++ b) (ap concat (rows_as (widened p) p refl 1 p.slots))
    (ap (λ (n : ℕ). text_bytes p ++ replicate n 0) rest ∙ append-nil (text_bytes p))

-- with the text in use and the next stamp of p a head again
unfoldable narrowed : Pool → Image → Image
narrowed p i =
    let n = i.1.numbers in
    (i.0, record { numbers = with_numbers n n.live n.free (length p.text) p.next; table = i.1.table })

wide_good : (p : Pool) → WellFormed p → WellFormed (widened p)
unfolding widened with_next with_text rec_at
wide_good p w =
    let l = (text_whole p).1 w.used_fits in
    record {
      slots_low = w.slots_low;
      slots_high = w.slots_high;
      trees_low = w.trees_low;
      trees_high = w.trees_high;
      size_high = w.size_high;
      used_fits = omega arith;
      text_bytes = text_bytes_lem p w;
      next_low = omega arith;
      next_high = omega arith;
      recs = λ x r e. rec_moves (omega arith) (omega (arith, w.used_fits)) (omega (arith, w.next_high)) (w.recs x r e);
      trees = (formed_as p (text_bytes p) 4_294_967_295 (formed w)).trees;
    }

put_wide : (x : ℕ) (r : Rec) (p : Pool) → put_rec x r (widened p) ≡ widened (put_rec x r p)
unfolding put_rec with_trees widened with_next with_text text_bytes by_key_in key_at tree_at rec_at
put_wide x r p = refl

drop_wide : (x : ℕ) (r : Rec) (p : Pool) → drop_rec x r (widened p) ≡ widened (drop_rec x r p)
unfolding drop_rec with_trees widened with_next with_text text_bytes by_key_in key_at tree_at rec_at
drop_wide x r p = refl

to_wide : {p q : Pool} → Alike p q → Alike p (widened q)
unfolding widened with_next with_text tree_at
to_wide a = record { slots = a.slots; lists = a.lists; trees = a.trees; size = a.size }

from_wide : {p q : Pool} → Alike p (widened q) → Alike p q
unfolding widened with_next with_text tree_at
from_wide a = record { slots = a.slots; lists = a.lists; trees = a.trees; size = a.size }

-- ---- one change undone

-- what an entry says undone
unfoldable undone_n : List ℕ → Head → Change → Image
undone_n m h (added x) = drop_rec_n m h x (record_n m x).tree
undone_n m h (removed x r) =
    let s = seek_n 14 m r.key (tree_n h.table r.tree).root 0 right 0 in put_rec_n m h x (record_of r) s.above s.side

at_undone : (m : List ℕ) (h : Head) (x : ℕ) (c : Noted) → undo_at_n m h x c ≡ undone_n m h (change_at x c)
unfolding undo_at_n undone_n change_at rec_of record_of
at_undone m h x Added = refl
at_undone m h x (Removed v) = refl

one_undone : (m : List ℕ) (h : Head) (e : Entry) → undo_one_n m h e ≡ undone_n m h (change_of e)
one_undone m h e = at_undone m h e.slot e.change

narrow_image : (p : Pool) → narrowed p (body_of (widened p), head_of (widened p)) ≡ (body_of p, head_of p)
unfolding narrowed head_of widened with_next with_text live_count free_slot
narrow_image p = ap (λ (m : List ℕ). (m, head_of p)) (body_wide p)

module _ (q : Pool) (w : WellFormed (widened q)) where
  -- an added record, which is live, taken out
  drop_step : (x : ℕ) (r : Rec) → rec_at (widened q) x ≡ some r → undone_n (body_of q) (head_of q) (added x) ≡ (body_of (drop_rec x r q), head_of (drop_rec x r q))
  unfolding undone_n shown_of record_of narrowed drop_rec_n head_of widened with_next with_text drop_rec with_trees live_count free_slot
  drop_step x r live =
      let tree : (record_n (body_of q) x).tree ≡ r.tree =
      ap (λ (m : List ℕ). (record_n m x).tree) (sym (body_wide q))
      ∙ ap (λ (v : Record). v.tree) (record_image (widened q) w x (slot_in (widened q) x r live).1 ∙ ap shown_of live) in
      ap₂ (λ (m : List ℕ) (t : ℕ). drop_rec_n m (head_of q) x t) (sym (body_wide q)) tree
      ∙ ap (narrowed q) (drop_image (widened q) w x r live ∙ ap (λ (p : Pool). (body_of p, head_of p)) (drop_wide x r q))
      ∙ narrow_image (drop_rec x r q)

  -- the search for the place of a record
  place : (t k : ℕ) → 1 ≤ t → t ≤ length q.trees
      → seek_n 14 (body_of q) k (tree_n (head_of q).table t).root 0 right 0
      ≡ ending (entry (by_key_in (widened q) k) (tree_at (widened q) t)) (compared (by_key_in (widened q) k) (tree_at (widened q) t))
  unfolding head_of widened with_next with_text tree_of
  place t k low high =
      ap₂ (λ (m : List ℕ) (a : AvlTree). seek_n 14 m k a.root 0 right 0) (sym (body_wide q)) (tree_image (widened q) w t low high)
      ∙ entry_image (widened q) w t low high k

  -- a removed record put back
  put_step : (x : ℕ) (r : Rec) → Fits (widened q) x r → undone_n (body_of q) (head_of q) (removed x r) ≡ (body_of (put_rec x r q), head_of (put_rec x r q))
  unfolding undone_n narrowed put_rec_n head_of widened with_next with_text put_rec with_trees live_count free_slot
  put_step x r f =
      ap₂ (λ (m : List ℕ) (s : Ending). put_rec_n m (head_of q) x (record_of r) s.above s.side) (sym (body_wide q))
      (place r.tree r.key f.good.tree_low f.good.tree_high)
      ∙ ap (narrowed q) (put_image (widened q) w x r f ∙ ap (λ (p : Pool). (body_of p, head_of p)) (put_wide x r q))
      ∙ narrow_image (put_rec x r q)

live_narrow : (q : Pool) (x : ℕ) {o : Option Rec} → rec_at (widened q) x ≡ o → rec_at q x ≡ o
unfolding rec_at widened with_next with_text
live_narrow q x e = e

-- ---- a journal undone

-- a journal's first change and the others
first_change : {c d : Change} {cs ds : List Change} → c ∷ cs ≡ d ∷ ds → c ≡ d
first_change e = cc

other_changes : {c d : Change} {cs ds : List Change} → c ∷ cs ≡ d ∷ ds → cs ≡ ds
other_changes e = cc

-- one change undone, and then the others
undo_next : (n : ℕ) (es : List Entry) (q r : Pool) (c : Change) (cs : List Change) → c ∷ cs ≡ changes_in (suc n) es
    → undone_n (body_of q) (head_of q) c ≡ (body_of r, head_of r)
    → undo_n n (body_of r) (head_of r) es ≡ (body_of (undo cs r), head_of (undo cs r))
    → undo_n (suc n) (body_of q) (head_of q) es ≡ (body_of (undo cs r), head_of (undo cs r))
unfolding undo_n changes_in
undo_next n es q r c cs e step rest =
    ap (λ (o : Image). undo_n n o.0 o.1 es)
    (one_undone (body_of q) (head_of q) (get_or es n no_entry) ∙ ap (undone_n (body_of q) (head_of q)) (sym (first_change e)) ∙ step)
    ∙ rest

-- the record that an undone removal puts back fits
back_fits : (x : ℕ) (r : Rec) (p q : Pool) → WellFormed p → WellFormed (widened q) → rec_at p x ≡ some r → Alike (drop_rec x r p) (widened q)
    → Fits (widened q) x r
unfolding drop_rec with_trees widened with_next with_text
back_fits x r p q v w live a =
    let f = removed_room x r p (widened q) (formed v) (formed w) live a in
    let many : length p.trees ≡ length q.trees = sym (length_put p.trees r.tree _) ∙ a.trees in
    record {
      slot_low = f.slot_low;
      slot_high = f.slot_high;
      free = f.free;
      good = rec_moves (omega arith) (omega (arith, v.used_fits, (text_whole q).0, a.size)) (omega (arith, v.next_high)) (v.recs x r live);
      new = f.new;
    }

since_undone : {p₀ : Pool} {cs : List Change} {p : Pool} → Since p₀ cs p → (q : Pool) → Alike p q → WellFormed (widened q) → (n : ℕ) (es : List Entry)
    → cs ≡ changes_in n es → undo_n n (body_of q) (head_of q) es ≡ (body_of (undo cs q), head_of (undo cs q))
unfolding undo_n changes_in undo undo_add
since_undone (nothing a) q b w zero es e = refl
since_undone (nothing a) q b w (suc n) es e = absurd (omega (arith, ap length e))
since_undone (then_added x r s v fits a) q b w zero es e = absurd (omega (arith, ap length e))
since_undone (then_added {cs = cs} {p = p} x r s v fits a) q b w (suc n) es e =
    let c = to_wide (alike_on a b) in
    let live = added_live x r p (widened q) (formed v) (formed w) (room fits) c in
    let back = added_back x r p (widened q) (formed v) (formed w) (room fits) c in
    let r' = drop_rec x r q in
    undo_next n es q r' (added x) cs e (drop_step q w x r live)
    (since_undone s r' (from_wide (subst (Alike p) (drop_wide x r q) back)) (subst WellFormed (drop_wide x r q) (drop_good x r (widened q) w live)) n es
    (other_changes e))
    ∙ ap (λ (o : Option Rec). (body_of (undo cs (undo_add x o q)), head_of (undo cs (undo_add x o q)))) (sym (live_narrow q x live))
since_undone (then_removed x r s v live a) q b w zero es e = absurd (omega (arith, ap length e))
since_undone (then_removed {cs = cs} {p = p} x r s v live a) q b w (suc n) es e =
    let c = to_wide (alike_on a b) in
    let back = removed_back x r p (widened q) (formed v) (formed w) live c in
    let f = back_fits x r p q v w live c in
    let r' = put_rec x r q in
    undo_next n es q r' (removed x r) cs e (put_step q w x r f)
    (since_undone s r' (from_wide (subst (Alike p) (put_wide x r q) back)) (subst WellFormed (put_wide x r q) (put_good x r (widened q) w f)) n es
    (other_changes e))

-- the changes of an open mark undone, the last first
undo_image : (w : Option Pool) (k : Mark) (p : Pool) → Journal w (some k) p → WellFormed p → (n : ℕ) (es : List Entry) → k.changes ≡ changes_in n es
    → undo_n n (body_of p) (head_of p) es ≡ (body_of (undo k.changes p), head_of (undo k.changes p))
undo_image w k p (begun g₀ h) g n es e = since_undone h.since p (alike_same p) (wide_good p g) n es e

-- the pool with its changes undone is well-formed, and has the text that stood at the mark
undone_good : (w : Option Pool) (k : Mark) (p : Pool) → Journal w (some k) p → WellFormed p
    → WellFormed (undo k.changes p) × (k.used ≤ length (undo k.changes p).text)
undone_good w k p (begun {p₀ = p₀} g₀ h) g =
    let long : length p.text ≡ length p₀.text + length h.extra = ap length h.text ∙ length-append p₀.text h.extra in
    let u = undone h.since p (alike_same p) g₀ (omega arith) h.next g in
    (u.1, omega (arith, h.used, ap length (undo_keeps k.changes p).text))

-- The changes of an open mark rolled back.
pub roll_image : (w : Option Pool) (k : Mark) (p : Pool) → Journal w (some k) p → WellFormed p → (n : ℕ) (es : List Entry) → k.changes ≡ changes_in n es
    → roll_back_n n (body_of p) (head_of p) k.used es ≡ (body_of (rollback k p), head_of (rollback k p))
unfolding roll_back_n rollback
roll_image w k p j g n es e =
    let v = undone_good w k p j g in
    ap (λ (x : Image). cut_n x.0 x.1 k.used) (undo_image w k p j g n es e) ∙ cut_image (undo k.changes p) v.0 k.used v.1

-- In a state of `meaning` with an open mark.
pub roll_state : (w : Option Pool) (s : State) → GoodState w s → (k : Mark) → s.mark ≡ some k → (n : ℕ) (es : List Entry) → k.changes ≡ changes_in n es
    → roll_back_n n (body_of s.pool) (head_of s.pool) k.used es ≡ (body_of (rollback k s.pool), head_of (rollback k s.pool))
roll_state w s g k i = roll_image w k s.pool (subst (λ (m : Option Mark). Journal w m s.pool) i g.journal) g.pool
