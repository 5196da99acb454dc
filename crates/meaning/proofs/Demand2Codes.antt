-- Demand 2, the numbers that commands are refused with, over the lists alone, kind by kind of op; and the free slot. Assumes nothing.
use Rattle.std.proofs.Common.{◌≡◌, ℕ, ◌<◌, ◌≤◌, Bool, true, false, cond, not, ◌&&◌, [], ◌∷◌, length, sym, refl, ap, ◌∙◌, ap₂, arith, eq-eqb, eqb-true}
use Rattle.std.proofs.Math.Option.{Option, none, some}
use Rattle.avl.specs.Tree.{Dir, left, right, flip, pick}
use Rattle.avl.specs.Order.{nil, more}
use Rattle.meaning.specs.Layout.{within, span}
use Rattle.meaning.specs.Pool.{Pool, rec_at}
use Rattle.meaning.specs.Change.{free_slot}
use Rattle.meaning.specs.Cursor.{Command, State, standing, cursor_tree, entry_key, next_of_cursor}
use Rattle.meaning.specs.Command.{bad_tree, no_cursor, not_at_record, not_kind, bad_name, bad_slot, stale, other_tree, past, not_between, is_other, not_the_entrys, none_there, no_slot, among, last_op, refusal}
use Rattle.meaning.specs.WellFormed.{WellFormed}
use Rattle.meaning.specs.Meant.{Entry, entries_of, lookup, in_slot, front, facing, is_none, on_side, total, of_cursor, seen}
use Rattle.meaning.specs.States.{GoodState}
use Rattle.meaning.specs.Refused.{first_met, tests_of, tests_in, ◌exactly_if◌}
use Rattle.meaning.specs.Demands.{HasHandle, seeing, room, out_of_order, not_past_end}
use Rattle.meaning.proofs.Adding.{kind_ok}
use Rattle.meaning.proofs.Among.{among_all}
use Rattle.meaning.proofs.Changes.{free_slot_lem}
use Rattle.meaning.proofs.Demand1.{tests_of_op}
use Rattle.meaning.proofs.Demand2Handles.{handle_is}
use Rattle.meaning.proofs.Demand2Looks.{none_is, present_is, order_is}
use Rattle.meaning.proofs.Entries.{entry_at, entry_live}
use Rattle.meaning.proofs.Facts.{test}
use Rattle.meaning.proofs.Formed.{not_both}
use Rattle.meaning.proofs.FreeSlots.{below_free, none_free}
use Rattle.meaning.proofs.Members.{Lives, slot_in}
use Rattle.meaning.proofs.Seen.{past_seen, end_seen}
use Rattle.meaning.proofs.Sights.{none_zero, sees_slot, sees_standing, unlisted}
use Rattle.meaning.proofs.Tables.{never}
use Rattle.meaning.proofs.Totals.{live_total}

-- ---- tests in a row

and_true : (b : Bool) → (b && true) ≡ b
and_true true = refl
and_true false = refl

-- there is nothing to lie past where there is no record
none_past : (d : Dir) (p : Pool) (k : ℕ) → past p d 0 k ≡ true
unfolding past
none_past d p k = refl

four : (a b d e : Bool) (n : ℕ) → (cond a 11 (cond b 14 (cond d 15 (cond e 16 n))) ≡ 0)
    exactly_if ((a ≡ false) × ((b ≡ false) × (d ≡ false) × (e ≡ false)) × (n ≡ 0))
four true b d e n = (λ h. absurd (omega (arith, h)), λ h. never refl h.0)
four false true d e n = (λ h. absurd (omega (arith, h)), λ h. never refl h.1.0)
four false false true e n = (λ h. absurd (omega (arith, h)), λ h. never refl h.1.1)
four false false false true n = (λ h. absurd (omega (arith, h)), λ h. never refl h.1.2)
four false false false false n = (λ h. (refl, (refl, refl, refl), h), λ h. h.2)

last : (b : Bool) → (◌≡◌ {A = ℕ} (cond b 19 0) 0) exactly_if (b ≡ false)
last true = (λ h. absurd (omega (arith, h)), λ h. never refl h)
last false = (λ h. refl, λ h. refl)

codes_opened : Unit {0}
unfolding span within among first_met tests_in tests_of
codes_opened = tt

module _ (origin : Option Pool) (s : State) (c : Command) (g : GoodState origin s) where
  -- the tests of op n are these two, the second that no entry is seen
  abbrev TwoTests : (State → Command → Bool) → ℕ → ℕ → Type 0
  TwoTests f e n =
      (first_met (tests_in tests_of n) s c ≡ cond (f s c) e (cond (none_there s c) 19 0)) × (seeing n ≡ true) × (within 1 last_op n ≡ true)

  two_tests : (f : State → Command → Bool) (e : ℕ) → TwoTests f e c.op → refusal s c ≡ cond (f s c) e (cond (is_none (seen s.pool s.cursor c)) 19 0)
  two_tests f e k = tests_of_op s c k.2 ∙ k.0 ∙ ap (λ (b : Bool). cond (f s c) e (cond b 19 0)) (none_is origin s c g k.1)

  -- Ops 2, 3, 7 and 8 are refused with BAD_TREE, or else with NONE exactly if they see no entry: none with the key, or none at all.
  pub look_code : among ((2, 3) ∷ (7, 8) ∷ []) c.op ≡ true
      → refusal s c ≡ cond (bad_tree s c) 11 (cond (is_none (seen s.pool s.cursor c)) 19 0)
  unfolding codes_opened
  look_code h =
      two_tests bad_tree 11 (among_all (TwoTests bad_tree 11) ((2, 3) ∷ (7, 8) ∷ []) c.op h
      (more (refl, refl, refl) (more (refl, refl, refl) (more (refl, refl, refl) (more (refl, refl, refl) nil)))))

  -- Ops 9 to 11 are refused with BAD_TREE only.
  pub entry_code : among ((9, 11) ∷ []) c.op ≡ true → refusal s c ≡ cond (bad_tree s c) 11 0
  unfolding codes_opened
  entry_code h =
      let k = among_all (λ n. (first_met (tests_in tests_of n) s c ≡ cond (bad_tree s c) 11 0) × (within 1 last_op n ≡ true)) ((9, 11) ∷ []) c.op h
      (more (refl, refl) (more (refl, refl) (more (refl, refl) nil))) in
      tests_of_op s c k.1 ∙ k.0

  -- Ops 12 to 15 are refused with BAD_CURSOR without a cursor, or else with NONE exactly if there is no entry on that side.
  pub walk_code : among ((12, 15) ∷ []) c.op ≡ true → refusal s c ≡ cond (no_cursor s c) 12 (cond (is_none (seen s.pool s.cursor c)) 19 0)
  unfolding codes_opened
  walk_code h =
      two_tests no_cursor 12 (among_all (TwoTests no_cursor 12) ((12, 15) ∷ []) c.op h
      (more (refl, refl, refl) (more (refl, refl, refl) (more (refl, refl, refl) (more (refl, refl, refl) nil)))))

  -- The cursor stands at no record exactly if its tree's list has no entry in its slot.
  pub at_record_is : not_at_record s c ≡ is_none (of_cursor (entries_of s.pool) s.cursor c)
  unfolding not_at_record of_cursor
  at_record_is = none_zero (standing s.cursor) (sees_standing s.pool g.pool s.cursor g.cursor)

  -- Op 21 is refused with BAD_CURSOR only, exactly if the cursor is at no record.
  pub remove_code : c.op ≡ 21 → refusal s c ≡ cond (is_none (of_cursor (entries_of s.pool) s.cursor c)) 12 0
  unfolding codes_opened
  remove_code i =
      tests_of_op s c (rw i) ∙ ap (λ (n : ℕ). first_met (tests_in tests_of n) s c) i ∙ ap (λ (b : Bool). cond b 12 0) at_record_is

  -- Ops 22 and 23 so too, or else with NONE exactly if there is no entry on that side.
  pub remove_beside_code : among ((22, 23) ∷ []) c.op ≡ true
      → refusal s c ≡ cond (is_none (of_cursor (entries_of s.pool) s.cursor c)) 12 (cond (is_none (seen s.pool s.cursor c)) 19 0)
  unfolding codes_opened
  remove_beside_code h =
      two_tests not_at_record 12 (among_all (TwoTests not_at_record 12) ((22, 23) ∷ []) c.op h
      (more (refl, refl, refl) (more (refl, refl, refl) nil)))
      ∙ ap (λ (b : Bool). cond b 12 (cond (is_none (seen s.pool s.cursor c)) 19 0)) at_record_is

  -- Op 1 is refused with BAD_TREE, BAD_NAME, PRESENT exactly if an entry has the key, and for want of room.
  pub add_code : c.op ≡ 1
      → refusal s c ≡ cond (bad_tree s c) 11 (cond (bad_name s c) 13 (cond (not (is_none (lookup c.key (entries_of s.pool c.tree)))) 17 (room s c)))
  unfolding codes_opened
  add_code i =
      tests_of_op s c (rw i) ∙ ap (λ (n : ℕ). first_met (tests_in tests_of n) s c) i
      ∙ ap (λ (b : Bool). cond (bad_tree s c) 11 (cond (bad_name s c) 13 (cond b 17 (room s c)))) (present_is origin s c g)

  abbrev PutTests : Dir → (State → Command → Bool) → ℕ → Type 0
  PutTests d f n =
      (first_met (tests_in tests_of n) s c ≡ cond (f s c) 12 (cond (bad_name s c) 13 (cond (not_between d s c) 18 (room s c)))) × (within 1 last_op n ≡ true)

  put_tests : (d : Dir) (f : State → Command → Bool) → PutTests d f c.op
      → refusal s c ≡ cond (f s c) 12 (cond (bad_name s c) 13 (cond (out_of_order s c d) 18 (room s c)))
  put_tests d f k =
      tests_of_op s c k.1 ∙ k.0 ∙ ap (λ (b : Bool). cond (f s c) 12 (cond (bad_name s c) 13 (cond b 18 (room s c)))) (order_is origin s c g d)

  -- Ops 16 to 19 are refused with BAD_CURSOR, BAD_NAME, ORDER exactly if the key is out of order on their side, and for want of room: 16 and 18,
  pub before_code : among ((16, 16) ∷ (18, 18) ∷ []) c.op ≡ true
      → refusal s c ≡ cond (is_none (of_cursor (entries_of s.pool) s.cursor c)) 12 (cond (bad_name s c) 13 (cond (out_of_order s c left) 18 (room s c)))
  unfolding codes_opened
  before_code h =
      put_tests left not_at_record (among_all (PutTests left not_at_record) ((16, 16) ∷ (18, 18) ∷ []) c.op h (more (refl, refl) (more (refl, refl) nil)))
      ∙ ap (λ (b : Bool). cond b 12 (cond (bad_name s c) 13 (cond (out_of_order s c left) 18 (room s c)))) at_record_is

  -- and 17 and 19.
  pub behind_code : among ((17, 17) ∷ (19, 19) ∷ []) c.op ≡ true
      → refusal s c ≡ cond (is_none (of_cursor (entries_of s.pool) s.cursor c)) 12 (cond (bad_name s c) 13 (cond (out_of_order s c right) 18 (room s c)))
  unfolding codes_opened
  behind_code h =
      put_tests right not_at_record (among_all (PutTests right not_at_record) ((17, 17) ∷ (19, 19) ∷ []) c.op h (more (refl, refl) (more (refl, refl) nil)))
      ∙ ap (λ (b : Bool). cond b 12 (cond (bad_name s c) 13 (cond (out_of_order s c right) 18 (room s c)))) at_record_is

  end_order : (e : Dir) → not_kind (pick e 3 4) s c ≡ false → not_between e s c ≡ not_past_end s c e
  unfolding not_between next_of_cursor
  end_order e h =
      let k = s.cursor in
      let p = s.pool in
      let f = end_seen e p g.pool k g.cursor (kind_ok (pick e 3 4) s c h) in
      ap₂ (λ (a b : Bool). not (a && b)) (past_seen e (standing k) c.key f.0)
      (ap (λ (x : ℕ). past p (flip e) x c.key) f.1 ∙ none_past (flip e) p c.key)
      ∙ ap not (and_true (on_side e c.key (front (facing (flip e) (entries_of p (cursor_tree k))))))

  end_tests : (e : Dir) → PutTests e (not_kind (pick e 3 4)) c.op
      → refusal s c ≡ cond (not_kind (pick e 3 4) s c) 12 (cond (bad_name s c) 13 (cond (not_past_end s c e) 18 (room s c)))
  end_tests e k =
      tests_of_op s c k.1 ∙ k.0
      ∙ test (not_kind (pick e 3 4) s c) (λ t. choose _ t ∙ sym (choose _ t))
      (λ t. ap (λ (b : Bool). cond (not_kind (pick e 3 4) s c) 12 (cond (bad_name s c) 13 (cond b 18 (room s c)))) (end_order e t))
    where
      choose : (x : ℕ) → not_kind (pick e 3 4) s c ≡ true → cond (not_kind (pick e 3 4) s c) 12 x ≡ 12
      choose x t = ap (λ (b : Bool). cond b 12 x) t

  -- Op 24 is refused with BAD_CURSOR but at the last entry, with BAD_NAME, with ORDER exactly if the key is not above the last entry's, and for want of
  -- room;
  pub append_code : c.op ≡ 24 → refusal s c ≡ cond (not_kind 4 s c) 12 (cond (bad_name s c) 13 (cond (not_past_end s c right) 18 (room s c)))
  unfolding codes_opened
  append_code i = end_tests right (rw i (refl, refl))

  -- op 25 so but at the first entry, and with ORDER exactly if the key is not below the first entry's.
  pub prepend_code : c.op ≡ 25 → refusal s c ≡ cond (not_kind 3 s c) 12 (cond (bad_name s c) 13 (cond (not_past_end s c left) 18 (room s c)))
  unfolding codes_opened
  prepend_code i = end_tests left (rw i (refl, refl))

  -- Op 20 is refused with BAD_CURSOR but at a vacant entry, with BAD_NAME, with ORDER exactly if the key is not the entry's, and for want of room.
  pub insert_code : c.op ≡ 20 → refusal s c ≡ cond (not_kind 2 s c) 12 (cond (bad_name s c) 13 (cond (is_other c.key (entry_key s.cursor)) 18 (room s c)))
  unfolding codes_opened not_the_entrys
  insert_code i = tests_of_op s c (rw i) ∙ ap (λ (n : ℕ). first_met (tests_in tests_of n) s c) i

  -- ---- handles

  -- Op 4 is done exactly if the tree is one of the pool's and its list has an entry with the slot and the stamp.
  pub handle_done : c.op ≡ 4 → (refusal s c ≡ 0) exactly_if ((bad_tree s c ≡ false) × HasHandle (entries_of s.pool c.tree) c.slot c.stamp)
  unfolding codes_opened
  handle_done i =
      let k = handle_is origin s c g in
      let e : refusal s c ≡ cond (bad_tree s c) 11 (cond (bad_slot s c) 14 (cond (stale s c) 15 (cond (other_tree s c) 16 0))) =
      tests_of_op s c (rw i) ∙ ap (λ (n : ℕ). first_met (tests_in tests_of n) s c) i in
      let f = four (bad_tree s c) (bad_slot s c) (stale s c) (other_tree s c) 0 in
      (λ z. let h = f.0 (sym e ∙ z) in (h.0, k.0 h.1), λ h. e ∙ f.1 (h.0, k.1 h.1, refl))

  -- Ops 5 and 6 are done exactly if, besides, there is an entry on that side of it.
  pub beside_done : among ((5, 6) ∷ []) c.op ≡ true
      → (refusal s c ≡ 0) exactly_if ((bad_tree s c ≡ false) × HasHandle (entries_of s.pool c.tree) c.slot c.stamp
      × (is_none (seen s.pool s.cursor c) ≡ false))
  unfolding codes_opened
  beside_done h =
      let k = handle_is origin s c g in
      let T : ℕ → Type 0 = λ n.
      (first_met (tests_in tests_of n) s c ≡ cond (bad_tree s c) 11 (cond (bad_slot s c) 14 (cond (stale s c) 15 (cond (other_tree s c) 16 (cond (none_there s c) 19 0)))))
      × (seeing n ≡ true) × (within 1 last_op n ≡ true) in
      let t = among_all T ((5, 6) ∷ []) c.op h (more (refl, refl, refl) (more (refl, refl, refl) nil)) in
      let e = tests_of_op s c t.2 ∙ t.0 in
      let n = none_is origin s c g t.1 in
      let f = four (bad_tree s c) (bad_slot s c) (stale s c) (other_tree s c) (cond (none_there s c) 19 0) in (
        λ z. let j = f.0 (sym e ∙ z) in (j.0, k.0 j.1, sym n ∙ (last (none_there s c)).0 j.2),
        λ j. e ∙ f.1 (j.0, k.1 j.1, (last (none_there s c)).1 (n ∙ j.2)),
      )

-- ---- the free slot

-- NO_SLOT: no slot is free exactly if the trees' lists have as many entries as the pool has slots.
pub no_slot_is : (origin : Option Pool) (s : State) (c : Command) → GoodState origin s
    → (no_slot s c ≡ true) exactly_if (total s.pool 1 (length s.pool.trees) ≡ length s.pool.slots)
unfolding no_slot
no_slot_is origin s c g =
    let p = s.pool in
    let k = none_free p in
    let n = live_total p g.pool in
    (λ h. sym n ∙ k.0 (eqb-true (free_slot p) 0 h), λ h. eq-eqb (free_slot p) 0 (k.1 (n ∙ h)))

-- The slot that an add takes is in no list, and every slot below it is in one: it is the lowest free slot.
pub lowest_free : (p : Pool) → WellFormed p → (free_slot p ≡ 0 → ⊥)
    → ((t : ℕ) → in_slot (free_slot p) (entries_of p t) ≡ none)
    × ((y : ℕ) → 1 ≤ y → y < free_slot p → (t : ℕ) × (e : Entry) × (in_slot y (entries_of p t) ≡ some e))
lowest_free p good n = (
  λ t. unlisted p good t (free_slot p) (λ l. not_both (rec_at p (free_slot p)) l.is (free_slot_lem p n).2),
  λ y low h.
      let k = below_free p y low h in
      let i = slot_in p y k.0 k.1 in
      let l : Lives p k.0.tree y = record { low = i.0; high = i.1; rec = k.0; is = k.1; tree_is = refl } in
      (k.0.tree, entry_at p y, sym (sees_slot p good k.0.tree y l).is ∙ entry_live p l),
)
