-- Demand 2, handles over the lists alone: what each of the three tests of a slot and a stamp says. Assumes nothing.
use Rattle.std.proofs.Common.{◌≡◌, ℕ, true, false, not, eqb, leb, length, sym, refl, ap, ◌∙◌, eq-eqb, ne_eqb, eqb-true, le-leb}
use Rattle.std.proofs.Math.Option.{Option, none, some}
use Rattle.std.proofs.lemmas.Bool.{eqb-false, not-true, not-false}
use Rattle.meaning.specs.Layout.{within}
use Rattle.meaning.specs.Pool.{Rec, Pool, rec_at, lives_in}
use Rattle.meaning.specs.Cursor.{Command, State}
use Rattle.meaning.specs.Command.{bad_slot, is_stale, stale, is_elsewhere, other_tree}
use Rattle.meaning.specs.WellFormed.{WellFormed}
use Rattle.meaning.specs.Meant.{Entry, entry_for, entries_of, in_slot}
use Rattle.meaning.specs.States.{GoodState}
use Rattle.meaning.specs.Refused.{◌exactly_if◌}
use Rattle.meaning.specs.Demands.{HasHandle}
use Rattle.meaning.proofs.Cursors.{lives_is}
use Rattle.meaning.proofs.Entries.{entry_at, entry_live}
use Rattle.meaning.proofs.Facts.{test, both_true}
use Rattle.meaning.proofs.Formed.{not_both}
use Rattle.meaning.proofs.Members.{Lives, lives, slot_in}
use Rattle.meaning.proofs.Seen.{handle_lives}
use Rattle.meaning.proofs.Sights.{sees_slot, unlisted}
use Rattle.meaning.proofs.Tables.{never}

-- ---- a live slot and the list of its tree

module _ (p : Pool) (good : WellFormed p) (t x : ℕ) where
  stamp_at : (l : Lives p t x) → (entry_at p x).stamp ≡ l.rec.stamp
  unfolding entry_for
  stamp_at l = ap (λ (o : Option Rec). (entry_for p.text x o).stamp) l.is

  -- its tree's list has its handle
  lives_holds : (l : Lives p t x) (g : ℕ) → l.rec.stamp ≡ g → HasHandle (entries_of p t) x g
  lives_holds l g e =
      record { entry = entry_at p x; is = sym (sees_slot p good t x l).is ∙ entry_live p l; stamp_is = stamp_at l ∙ e }

  same_entry : {a b : Entry} → some a ≡ some b → a ≡ b
  same_entry i = (cc)

  -- and a handle that a list has is that of a live slot of the tree
  holds_lives : (g : ℕ) → HasHandle (entries_of p t) x g → (l : Lives p t x) × (l.rec.stamp ≡ g)
  holds_lives g h =
      test (lives_in t (rec_at p x)) (λ a. alive (lives p t x a))
      (λ a. absurd (not_both (in_slot x (entries_of p t)) h.is (unlisted p good t x (λ l. never (lives_is p t x l) a))))
    where
      alive : Lives p t x → (l : Lives p t x) × (l.rec.stamp ≡ g)
      alive l =
          let e = same_entry (sym (entry_live p l) ∙ (sees_slot p good t x l).is ∙ h.is) in
          (l, sym (stamp_at l) ∙ ap (λ (y : Entry). y.stamp) e ∙ h.stamp_is)

-- ---- the tests

module _ (origin : Option Pool) (s : State) (c : Command) (g : GoodState origin s) where
  -- what the pool has in the slot passes the test of the stamp
  fresh_lives : stale s c ≡ false → (r : Rec) × (rec_at s.pool c.slot ≡ some r) × (r.stamp ≡ c.stamp)
  unfolding stale is_stale
  fresh_lives h = go (rec_at s.pool c.slot) refl h
    where
      go : (o : Option Rec) → rec_at s.pool c.slot ≡ o → is_stale c.stamp o ≡ false
          → (r : Rec) × (rec_at s.pool c.slot ≡ some r) × (r.stamp ≡ c.stamp)
      go none e a = never refl a
      go (some r) e a = (r, e, eqb-true r.stamp c.stamp (not-false (eqb r.stamp c.stamp) a))

  not_stale : (t : ℕ) (l : Lives s.pool t c.slot) → l.rec.stamp ≡ c.stamp → stale s c ≡ false
  unfolding stale is_stale
  not_stale t l e = ap (is_stale c.stamp) l.is ∙ ap not (eq-eqb l.rec.stamp c.stamp e)

  in_its_tree : (r : Rec) → rec_at s.pool c.slot ≡ some r → Lives s.pool r.tree c.slot
  in_its_tree r e = let i = slot_in s.pool c.slot r e in record { low = i.0; high = i.1; rec = r; is = e; tree_is = refl }

  -- STALE: the test is passed exactly if the list of some tree has an entry with the slot and the stamp.
  pub stale_is : (stale s c ≡ false) exactly_if ((t : ℕ) × HasHandle (entries_of s.pool t) c.slot c.stamp)
  unfolding in_its_tree
  stale_is = (
    λ h. let k = fresh_lives h in (k.0.tree, lives_holds s.pool g.pool k.0.tree c.slot (in_its_tree k.0 k.1) c.stamp k.2),
    λ h. let k = holds_lives s.pool g.pool h.0 c.slot c.stamp h.1 in not_stale h.0 k.0 k.1,
  )

  -- OTHER_TREE: for a handle that is not stale the test is met exactly if that list is another tree's.
  pub other_tree_is : ((stale s c ≡ false) × (other_tree s c ≡ true))
      exactly_if ((t : ℕ) × (t ≡ c.tree → ⊥) × HasHandle (entries_of s.pool t) c.slot c.stamp)
  unfolding other_tree is_elsewhere in_its_tree
  other_tree_is = (there, back)
    where
      there : (stale s c ≡ false) × (is_elsewhere c.tree (rec_at s.pool c.slot) ≡ true)
          → (t : ℕ) × (t ≡ c.tree → ⊥) × HasHandle (entries_of s.pool t) c.slot c.stamp
      there h =
          let k = fresh_lives h.0 in
          let t = k.0.tree in
          let out : not (eqb t c.tree) ≡ true = ap (is_elsewhere c.tree) (sym k.1) ∙ h.1 in (
            t,
            eqb-false t c.tree (not-true (eqb t c.tree) out),
            lives_holds s.pool g.pool t c.slot (in_its_tree k.0 k.1) c.stamp k.2,
          )

      back : (t : ℕ) × (t ≡ c.tree → ⊥) × HasHandle (entries_of s.pool t) c.slot c.stamp
          → (stale s c ≡ false) × (is_elsewhere c.tree (rec_at s.pool c.slot) ≡ true)
      back h =
          let k = holds_lives s.pool g.pool h.0 c.slot c.stamp h.2 in
          let l = k.0 in (
            not_stale h.0 l k.1,
            ap (is_elsewhere c.tree) l.is ∙ ap not (ne_eqb l.rec.tree c.tree (λ e. h.1 (sym l.tree_is ∙ e))),
          )

  listed_passes : HasHandle (entries_of s.pool c.tree) c.slot c.stamp → (bad_slot s c ≡ false) × (stale s c ≡ false) × (other_tree s c ≡ false)
  unfolding bad_slot other_tree is_elsewhere within
  listed_passes h =
      let k = holds_lives s.pool g.pool c.tree c.slot c.stamp h in
      let l = k.0 in
      let n = length s.pool.slots in (
        ap not (both_true (leb 1 c.slot) (leb c.slot n) (le-leb 1 c.slot l.low) (le-leb c.slot n l.high)),
        not_stale c.tree l k.1,
        ap (is_elsewhere c.tree) l.is ∙ ap not (eq-eqb l.rec.tree c.tree l.tree_is),
      )

  passes_listed : (bad_slot s c ≡ false) × (stale s c ≡ false) × (other_tree s c ≡ false) → HasHandle (entries_of s.pool c.tree) c.slot c.stamp
  passes_listed h =
      let l = handle_lives s c h.1 h.2 in
      let k = fresh_lives h.1 in
      let same : l.rec.stamp ≡ k.0.stamp = ap (λ (r : Rec). r.stamp) (same_rec (sym l.is ∙ k.1)) in
      lives_holds s.pool g.pool c.tree c.slot l c.stamp (same ∙ k.2)
    where
      same_rec : {a b : Rec} → some a ≡ some b → a ≡ b
      same_rec i = (cc)

  -- BAD_SLOT, STALE, OTHER_TREE: a handle passes all three tests exactly if the list of the command's tree has an entry with its slot and stamp.
  pub handle_is : ((bad_slot s c ≡ false) × (stale s c ≡ false) × (other_tree s c ≡ false))
      exactly_if HasHandle (entries_of s.pool c.tree) c.slot c.stamp
  handle_is = (passes_listed, listed_passes)
