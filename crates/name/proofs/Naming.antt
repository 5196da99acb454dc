-- When op 4 would take a handle, field by field, and where its name stands: the name is the part of the pool there. Assumes nothing.
use Rattle.std.proofs.Common.{◌≡◌, ℕ, ◌+◌, ◌*◌, ◌≤◌, Bool, true, false, cond, not, eqb, List, [], length, take, drop, sym, refl, ap, ◌∙◌, arith, length-drop, drop-drop}
use Rattle.std.proofs.Math.Option.{Option}
use Rattle.std.proofs.lemmas.Bool.{false≢true, eqb-false}
use Rattle.meaning.specs.Layout.{within, at}
use Rattle.meaning.specs.Layout
use Rattle.fields.specs.Part.{part}
use Rattle.fields.proofs.Parts.{part_in}
use Rattle.meaning.specs.Pool.{Rec, Pool, rec_at, records, n_slots, n_trees, text_used, next_stamp, read, read_rec, text_of, tree_in, stamp_in, start_in, len_in}
use Rattle.meaning.specs.Sound.{sound}
use Rattle.meaning.specs.Command.{refusal, is_stale, is_elsewhere}
use Rattle.meaning.specs.Command
use Rattle.meaning.specs.Doors.{begun, removal, name_of, name, Place, no_place, place_in, place_of}
use Rattle.meaning.proofs.Facts.{test}
use Rattle.meaning.proofs.Clauses.{RowFacts, clauses}
use Rattle.meaning.proofs.Contents.{length_slots, length_trees, rec_read, row_of}
use Rattle.name.specs.Name.{matches, handle_ok}

-- the tests that op 4 meets
pub removal_refused : (p : Pool) (t x g : ℕ) → refusal (begun p) (removal t x g)
    ≡ cond (not (within 1 (length p.trees) t)) 11
    (cond (not (within 1 (length p.slots) x)) 14 (cond (is_stale g (rec_at p x)) 15 (cond (is_elsewhere t (rec_at p x)) 16 0)))
unfolding Command.opened Layout.opened begun removal
removal_refused p t x g = refl

-- the tests of a record, as one
judged : (t g : ℕ) (r : List ℕ) → eqb (cond (is_stale g (read_rec r)) 15 (cond (is_elsewhere t (read_rec r)) 16 0)) 0 ≡ matches t g r
unfolding is_stale is_elsewhere read_rec matches
judged t g r =
    test (eqb (tree_in r) 0) (λ u. simp u refl)
    (λ u. test (eqb (stamp_in r) g) (λ v. test (eqb (tree_in r) t) (λ w. simp (u, v, w) refl) (λ w. simp (u, v, w) refl)) (λ v. simp (u, v) refl))

-- Op 4 takes a handle exactly if it is good.
pub handle_taken : (b : List ℕ) (t x g : ℕ) → eqb (refusal (begun (read b)) (removal t x g)) 0 ≡ handle_ok b t x g
unfolding handle_ok
handle_taken b t x g =
    ap (λ (n : ℕ). eqb n 0) (removal_refused (read b) t x g)
    ∙ simp (length_trees b, length_slots b, rec_read b x)
    (test (within 1 (n_trees b) t)
    (λ u. test (within 1 (n_slots b) x) (λ v. simp (u, v) (judged t g (at [] (records b) x))) (λ v. simp (u, v) refl))
    (λ u. simp u refl))

-- a good handle's record is live
live_row : (b : List ℕ) (t x g : ℕ) → handle_ok b t x g ≡ true → eqb (tree_in (at [] (records b) x)) 0 ≡ false
unfolding handle_ok matches
live_row b t x g h =
    test (eqb (tree_in (at [] (records b) x)) 0) (λ u. absurd (false≢true (sym (cut u) ∙ h))) (λ u. u)
  where
    cut : eqb (tree_in (at [] (records b) x)) 0 ≡ true → handle_ok b t x g ≡ false
    cut u = test (within 1 (n_trees b) t) (λ v. test (within 1 (n_slots b) x) (λ w. simp (v, w, u) refl) (λ w. simp (v, w) refl)) (λ v. simp v refl)

-- so its name is a part of the text
row_name : (b r : List ℕ) → eqb (tree_in r) 0 ≡ false → name_of b (read_rec r) ≡ part (text_of b) (start_in r) (len_in r)
unfolding read_rec name_of
row_name b r u = simp u refl

-- and has a place in the pool
abbrev place_of_row : List ℕ → List ℕ → Place
place_of_row b r = record { at = 32 + 8 * n_trees b + 32 * n_slots b + start_in r; len = len_in r }

row_place : (b r : List ℕ) → eqb (tree_in r) 0 ≡ false → place_in b (read_rec r) ≡ place_of_row b r
unfolding read_rec place_in
row_place b r u = simp u refl

-- what is told of the record of a handle, whatever it is, by the fields of the record
told : {A : Type 0} (b : List ℕ) (t x g : ℕ) (of : Option Rec → A) (refused found : A)
    → (eqb (tree_in (at [] (records b) x)) 0 ≡ false → of (read_rec (at [] (records b) x)) ≡ found)
    → cond (sound b) (cond (eqb (refusal (begun (read b)) (removal t x g)) 0) (of (rec_at (read b) x)) refused) refused
    ≡ cond (sound b) (cond (handle_ok b t x g) found refused) refused
told {A} b t x g of refused found live =
    ap (λ (n : A). cond (sound b) n refused)
    (ap (λ (c : Bool). cond c (of (rec_at (read b) x)) refused) (handle_taken b t x g)
    ∙ test (handle_ok b t x g) (λ u. simp (u, rec_read b x) (live (live_row b t x g u))) (λ u. simp u refl))

-- the name door, by the fields of the record
name_is : (b : List ℕ) (t x g : ℕ) → let r = at [] (records b) x in
    name b t x g ≡ cond (sound b) (cond (handle_ok b t x g) (part (text_of b) (start_in r) (len_in r)) []) []
unfolding name begun
name_is b t x g = told b t x g (name_of b) [] _ (row_name b (at [] (records b) x))

-- The place of the name, by the fields of the record.
pub place_is : (b : List ℕ) (t x g : ℕ) → let r = at [] (records b) x in
    place_of b t x g ≡ cond (sound b) (cond (handle_ok b t x g) (place_of_row b r) no_place) no_place
unfolding place_of begun
place_is b t x g = told b t x g (place_in b) no_place _ (row_place b (at [] (records b) x))

-- ---- the name is the part of the pool at its place

module _ (b : List ℕ) (t x g : ℕ) where
  -- the name of a good handle's record lies in the text in use
  in_text : sound b ≡ true → handle_ok b t x g ≡ true
      → start_in (at [] (records b) x) + len_in (at [] (records b) x) ≤ text_used b
  in_text s h = go (row_of b (clauses b s) x)
    where
      go : RowFacts (n_trees b) (text_used b) (next_stamp b) (at [] (records b) x)
          → start_in (at [] (records b) x) + len_in (at [] (records b) x) ≤ text_used b
      go (RowFacts.free e z) = absurd (eqb-false (tree_in (at [] (records b) x)) 0 (live_row b t x g h) e)
      go (RowFacts.live f) = f.name_fits

  -- so it ends within the pool
  in_pool : sound b ≡ true → handle_ok b t x g ≡ true → let p = place_of_row b (at [] (records b) x) in p.at + p.len ≤ length b
  in_pool s h =
      let f = (clauses b s).head in
      omega (arith, f.length_is, f.used_fits, in_text s h)

  part_of_text : sound b ≡ true → handle_ok b t x g ≡ true → let p = place_of_row b (at [] (records b) x) in
      take p.len (drop p.at b) ≡ part (text_of b) (start_in (at [] (records b) x)) (len_in (at [] (records b) x))
  unfolding text_of
  part_of_text s h =
      let q = 32 + 8 * n_trees b + 32 * n_slots b in
      let r = at [] (records b) x in
      ap (take (len_in r)) (sym (drop-drop (start_in r) q b))
      ∙ sym (part_in (drop q b) (start_in r) (len_in r) (rw length-drop (omega (arith, in_pool s h))))

  -- what holds of no place and no name, and of the place and the name of a good handle, holds of place and name
  by_handle : (P : Place → List ℕ → Type 0) → P no_place []
      → (sound b ≡ true → handle_ok b t x g ≡ true → let r = at [] (records b) x in P (place_of_row b r) (part (text_of b) (start_in r) (len_in r)))
      → P (place_of b t x g) (name b t x g)
  by_handle P refused good =
      rw (place_is b t x g, name_is b t x g)
      (test (sound b)
      (λ s. test (handle_ok b t x g) (λ h. simp (s, h) (good s h)) (λ h. simp (s, h) refused))
      (λ s. simp s refused))

  -- The place lies within the pool.
  pub place_fits : (place_of b t x g).at + (place_of b t x g).len ≤ length b
  place_fits = by_handle (λ p n. p.at + p.len ≤ length b) (omega arith) in_pool

  -- The name is the part of the pool that begins at its place and is as long as its place says.
  pub name_at : take (place_of b t x g).len (drop (place_of b t x g).at b) ≡ name b t x g
  name_at = by_handle (λ p n. take p.len (drop p.at b) ≡ n) refl part_of_text

  -- A pool has at most 41,056 bytes.
  pub place_low : (place_of b t x g).at ≤ 41_056
  place_low = by_handle (λ p n. p.at ≤ 41_056) (omega arith) small
    where
      small : sound b ≡ true → handle_ok b t x g ≡ true → 32 + 8 * n_trees b + 32 * n_slots b + start_in (at [] (records b) x) ≤ 41_056
      small s h =
          let f = (clauses b s).head in
          omega (arith, f.slots_high, f.trees_high, f.size_high, f.used_fits, in_text s h)
