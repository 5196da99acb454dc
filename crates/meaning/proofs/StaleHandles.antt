-- A handle at the doors: one that no live record has is refused as stale by ops 4 to 6 and gives no name; one that is accepted is that of the live
-- record in its slot, in its tree and with its name. Assumes nothing.
use Rattle.std.proofs.Common.{◌≡◌, ℕ, Bool, true, false, cond, not, eqb, List, [], length, take, drop, sym, refl, ap, ◌∙◌, subst, arith, take-append-drop, eq-eqb, ne_eqb, eqb-true, le-leb}
use Rattle.std.proofs.Math.Option.{Option, none, some}
use Rattle.std.proofs.lemmas.Bool.{eqb-false}
use Rattle.fields.specs.Number.{Bytes}
use Rattle.fields.specs.Part.{part}
use Rattle.fields.proofs.Parts.{part_append_left}
use Rattle.meaning.specs.Layout.{within}
use Rattle.meaning.specs.Pool.{Rec, Pool, rec_at, read, text_of, text_used}
use Rattle.meaning.specs.Sound.{sound}
use Rattle.meaning.specs.Cursor.{Command, State}
use Rattle.meaning.specs.Command.{always, bad_tree, bad_slot, is_stale, stale, is_elsewhere, other_tree, among, unknown, adding, refuse◌at◌if◌, refusals, first_of, refusal}
use Rattle.meaning.specs.Doors.{begun, removal, name_of, name}
use Rattle.meaning.specs.WellFormed.{WellFormed}
use Rattle.meaning.specs.Calls.{ByHandle, stale_number}
use Rattle.meaning.proofs.Facts.{test}
use Rattle.meaning.proofs.Clauses.{within_is}
use Rattle.meaning.proofs.Members.{slot_in}
use Rattle.meaning.proofs.Tables.{passed, never}
use Rattle.meaning.proofs.Pools.{sound_pool}
use Rattle.meaning.proofs.Bindings.{Only}

-- no record
abbrev pub Nothing : Rec → List ℕ → Type 0
Nothing r n = ⊥

-- ---- the test

-- The test that a handle is stale says that its slot holds no record with its stamp.
pub stale_only : {p : Pool} {x g : ℕ} → is_stale g (rec_at p x) ≡ true → Only x g Nothing p
unfolding is_stale
stale_only {p} {x} {g} h = record { only = λ r e s. never (sym (ap (is_stale g) e) ∙ h) (ap not (eq-eqb r.stamp g s)) }

-- If it holds none, the test says so.
pub only_stale : {p : Pool} {x g : ℕ} → Only x g Nothing p → is_stale g (rec_at p x) ≡ true
unfolding is_stale
only_stale {p} {x} {g} h = go (rec_at p x) refl
  where
    go : (o : Option Rec) → rec_at p x ≡ o → is_stale g o ≡ true
    go none e = refl
    go (some r) e = ap not (ne_eqb r.stamp g (λ s. h.only r e s))

-- the record that a handle is accepted for
pub record Accepted (p : Pool) (t x g : ℕ) : Type 0 where
  pub rec : Rec
  pub is : rec_at p x ≡ some rec
  pub stamp : rec.stamp ≡ g
  pub tree : t ≡ rec.tree

accepted_by : {p : Pool} {t x g : ℕ} → is_stale g (rec_at p x) ≡ false → is_elsewhere t (rec_at p x) ≡ false → Accepted p t x g
unfolding is_stale is_elsewhere
accepted_by {p} {t} {x} {g} h k = go (rec_at p x) refl h k
  where
    same : (m n : ℕ) → not (eqb m n) ≡ false → m ≡ n
    same m n e = test (eqb m n) (λ u. eqb-true m n u) (λ u. never (ap not u) e)

    go : (o : Option Rec) → rec_at p x ≡ o → is_stale g o ≡ false → is_elsewhere t o ≡ false → Accepted p t x g
    go none e h k = never refl h
    go (some r) e h k = record { rec = r; is = e; stamp = same r.stamp g h; tree = sym (same r.tree t k) }

-- ---- ops 4 to 6

-- what holds of 4, 5 and 6 holds of a number from 4 to 6
pub four_to_six : (P : ℕ → Type 0) → P 4 → P 5 → P 6 → (n : ℕ) → within 4 6 n ≡ true → P n
four_to_six P a b c n h =
    let l = within_is 4 6 n h in
    test (eqb n 4) (λ t. subst P (sym (eqb-true n 4 t)) a)
    (λ t. test (eqb n 5) (λ u. subst P (sym (eqb-true n 5 u)) b)
    (λ u. subst P (let i : 6 ≡ n = omega (arith, l.0, l.1, eqb-false n 4 t, eqb-false n 5 u) in i) c))

-- A stale handle is refused as stale, if its tree and its slot are the pool's.
stale_refused : (s : State) (c : Command) → within 4 6 c.op ≡ true → stale s c ≡ true → refusal s c ≡ stale_number s c
unfolding refusal refusals first_of refuse◌at◌if◌ always unknown within among adding stale_number
stale_refused s c h t =
    four_to_six (λ n. first_of refusals n s c ≡ cond (bad_tree s c) 11 (cond (bad_slot s c) 14 15)) (rw t) (rw t) (rw t) c.op h

-- A handle that no live record has is refused.
pub none_refused : (s : State) (c : Command) (x g : ℕ) → Only x g Nothing s.pool → ByHandle c x g → refusal s c ≡ stale_number s c
unfolding stale
none_refused s c x g o h = stale_refused s c h.op (rw (h.slot_is, h.stamp_is) (only_stale o))

-- A command by handle that is not refused is for the live record that has the handle.
pub command_accepted : (s : State) (c : Command) (x g : ℕ) → ByHandle c x g → refusal s c ≡ 0 → Accepted s.pool c.tree x g
unfolding stale other_tree
command_accepted s c x g h z =
    let t = passed s c z in
    accepted_by (rw (h.slot_is, h.stamp_is) at (t.not_stale h.op)) (rw h.slot_is at (t.in_tree h.op))

-- ---- the door name

by_removal : (t x g : ℕ) → ByHandle (removal t x g) x g
unfolding removal within
by_removal t x g = record { op = refl; slot_is = refl; stamp_is = refl }

-- It gives nothing for a handle that no live record has.
pub none_named : (b : List ℕ) (t x g : ℕ) → Only x g Nothing (read b) → name b t x g ≡ []
unfolding name begun removal
none_named b t x g o = go (sound b) (eqb (refusal (begun (read b)) (removal t x g)) 0) refl
  where
    go : (k j : Bool) → eqb (refusal (begun (read b)) (removal t x g)) 0 ≡ j
        → cond k (cond j (name_of b (rec_at (read b) x)) []) [] ≡ []
    go false j e = refl
    go true false e = refl
    go true true e =
        let a = command_accepted (begun (read b)) (removal t x g) x g (by_removal t x g) (eqb-true (refusal (begun (read b)) (removal t x g)) 0 e) in
        absurd (o.only a.rec a.is a.stamp)

-- the record that it gives the name of
pub record NamedFor (b : List ℕ) (t x g : ℕ) : Type 0 where
  pub accepted : Accepted (read b) t x g
  pub is : name b t x g ≡ part (read b).text accepted.rec.start accepted.rec.len

-- a name within the text in use, read from the bytes
name_in_use : (b : List ℕ) (x : ℕ) (r : Rec) → Bytes b → sound b ≡ true → rec_at (read b) x ≡ some r
    → part (text_of b) r.start r.len ≡ part (read b).text r.start r.len
unfolding read
name_in_use b x r a h e =
    let fits = ((sound_pool b a h).0.recs x r e).name_fits in
    ap (λ (l : List ℕ). part l r.start r.len) (sym (take-append-drop (text_used b) (text_of b)))
    ∙ part_append_left (take (text_used b) (text_of b)) (drop (text_used b) (text_of b)) r.start r.len fits

-- If it gives a name, it is that of the live record that has the handle.
pub name_accepted : (b : List ℕ) (t x g : ℕ) → Bytes b → (name b t x g ≡ [] → ⊥) → NamedFor b t x g
unfolding name begun removal name_of
name_accepted b t x g a n = go (sound b) refl (eqb (refusal (begun (read b)) (removal t x g)) 0) refl
  where
    go : (k : Bool) → sound b ≡ k → (j : Bool) → eqb (refusal (begun (read b)) (removal t x g)) 0 ≡ j → NamedFor b t x g
    go false h j e = absurd (n (rw h))
    go true h false e = absurd (n (rw (h, e)))
    go true h true e =
        let c = command_accepted (begun (read b)) (removal t x g) x g (by_removal t x g) (eqb-true (refusal (begun (read b)) (removal t x g)) 0 e) in
        record { accepted = c; is = rw (h, e) (ap (name_of b) c.is ∙ name_in_use b x c.rec a h c.is) }

-- ---- a live record's handle

-- A live record can be removed by its handle, in its tree.
pub live_accepted : (s : State) (slot : ℕ) (r : Rec) → WellFormed s.pool → rec_at s.pool slot ≡ some r → refusal s (removal r.tree slot r.stamp) ≡ 0
unfolding refusal refusals first_of refuse◌at◌if◌ always unknown within among adding bad_tree bad_slot stale other_tree is_stale is_elsewhere removal
live_accepted s slot r w e =
    let g = w.recs slot r e in
    let i = slot_in s.pool slot r e in
    rw (
      e,
      le-leb 1 r.tree g.tree_low,
      le-leb r.tree (length s.pool.trees) g.tree_high,
      le-leb 1 slot i.0,
      le-leb slot (length s.pool.slots) i.1,
      eq-eqb r.stamp r.stamp refl,
      eq-eqb r.tree r.tree refl,
    )

-- The door name gives its name.
pub live_named : (b : List ℕ) (x : ℕ) (r : Rec) → Bytes b → sound b ≡ true → rec_at (read b) x ≡ some r
    → name b r.tree x r.stamp ≡ part (read b).text r.start r.len
unfolding name begun name_of
live_named b x r a h e =
    rw (h, live_accepted (begun (read b)) x r (sound_pool b a h).0 e) (ap (name_of b) e ∙ name_in_use b x r a h e)
