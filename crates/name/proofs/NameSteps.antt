-- The answers of the name door, of its place and of its tests, each from what was read and found on the way to it. Assumes nothing.
use Rattle.std.proofs.Common.{◌≡◌, ℕ, zero, suc, ◌+◌, ◌-◌, ◌*◌, ◌≤◌, Bool, true, false, not, ◌&&◌, eqb, leb, List, [], length, take, drop, sym, refl, ap, ◌∙◌, subst, ap₂, arith, drop-drop}
use Rattle.std.proofs.Math.Bool.{and_assoc}
use Rattle.fields.specs.Number.{get_le}
use Rattle.meaning.specs.Layout.{within, at}
use Rattle.meaning.specs.Pool.{n_slots, n_trees, records, tree_in, stamp_in, start_in, len_in}
use Rattle.meaning.specs.Sound.{sound}
use Rattle.meaning.specs.Doors.{name, Place, no_place, place_of}
use Rattle.meaning.proofs.Facts.{both, rows_at}
use Rattle.meaning.proofs.Clauses.{within_is, clauses}
use Rattle.fields.proofs.Spans.{get_part}
use Rattle.name.specs.Name.{matches, handle_ok}
use Rattle.name.proofs.Naming.{place_is, place_fits, place_low, name_at}

-- ---- a record against a handle

pub match_row : (t g : ℕ) (r : List ℕ) {a s : ℕ} → a ≡ get_le 1 r 15 → s ≡ get_le 4 r 16 → ((not (eqb a 0) && eqb s g) && eqb a t) ≡ matches t g r
unfolding matches tree_in stamp_in
match_row t g r e f = simp (e, f, and_assoc) refl

-- ---- a handle against the pool

-- the record of a slot, in place
row_part : (b : List ℕ) (x : ℕ) → 1 ≤ x → x ≤ n_slots b → at [] (records b) x ≡ take 32 (drop (32 + 8 * n_trees b + 32 * (x - 1)) b)
unfolding at records
row_part b zero lo hi = absurd (omega arith)
row_part b (suc i) lo hi =
    let s = 32 + 8 * n_trees b in
    let k : i ≡ suc i - 1 = omega arith in
    rows_at (n_slots b) 32 (drop s b) i (omega arith)
    ∙ ap (take 32) (drop-drop (32 * i) s b ∙ ap (λ (j : ℕ). drop (s + 32 * j) b) k)

module _ (b : List ℕ) (t x g : ℕ) {n m : ℕ} (ne : n ≡ get_le 2 b 4) (me : m ≡ get_le 2 b 2) where
  -- the tests of tree and slot
  abbrev v : Bool
  v = ((leb 1 t && leb t n) && leb 1 x) && leb x m

  trees_are : n ≡ n_trees b
  unfolding n_trees
  trees_are = ne

  -- the handle's tree and slot are the pool's
  named : v ≡ (within 1 (n_trees b) t && within 1 (n_slots b) x)
  unfolding within n_trees n_slots
  named = simp (ne, me, and_assoc) refl

  handle_is : handle_ok b t x g ≡ (v && matches t g (at [] (records b) x))
  unfolding handle_ok
  handle_is = rw named (sym (and_assoc (within 1 (n_trees b) t) (within 1 (n_slots b) x) _))

  pub handle_none : v ≡ false → false ≡ handle_ok b t x g
  handle_none h = simp (handle_is, h)

  module _ (vh : v ≡ true) where
    slot_in : (1 ≤ x) × (x ≤ n_slots b)
    slot_in = within_is 1 (n_slots b) x (both (within 1 (n_trees b) t) (within 1 (n_slots b) x) (sym named ∙ vh)).1

    pub slot_low : 1 ≤ x
    slot_low = slot_in.0

    pub slot_fits : 32 + 8 * n_trees b + 32 * n_slots b ≤ length b → 32 + 8 * n + 32 * (x - 1) + 32 ≤ length b
    slot_fits h = omega (arith, slot_in.0, slot_in.1, trees_are)

    pub slot_matches : {z : Bool}
        → z ≡ matches t g (take (32 + 8 * n + 32 * (x - 1) + 32 - (32 + 8 * n + 32 * (x - 1))) (drop (32 + 8 * n + 32 * (x - 1)) b))
        → z ≡ handle_ok b t x g
    slot_matches e =
        let w : 32 + 8 * n + 32 * (x - 1) + 32 - (32 + 8 * n + 32 * (x - 1)) ≡ 32 = omega arith in
        simp (handle_is, vh)
        (e
        ∙ ap (λ (k : ℕ). matches t g (take k (drop (32 + 8 * n + 32 * (x - 1)) b))) w
        ∙ ap (λ (k : ℕ). matches t g (take 32 (drop (32 + 8 * k + 32 * (x - 1)) b))) trees_are
        ∙ ap (matches t g) (sym (row_part b x slot_in.0 slot_in.1)))

-- ---- the place of the name

module _ (b : List ℕ) (t x g : ℕ) {s : Bool} (se : s ≡ sound b) where
  pub unsound : s ≡ false → no_place ≡ place_of b t x g
  unsound h = let k : sound b ≡ false = sym se ∙ h in sym (place_is b t x g ∙ simp k refl)

  module _ (sh : s ≡ true) where
    is_good : sound b ≡ true
    is_good = sym se ∙ sh

    pub room : 32 + 8 * n_trees b + 32 * n_slots b ≤ length b
    room = omega (arith, (clauses b is_good).head.length_is)

    module _ {h : Bool} (he : h ≡ handle_ok b t x g) where
      pub refused : h ≡ false → no_place ≡ place_of b t x g
      refused k =
          let j : handle_ok b t x g ≡ false = sym he ∙ k in
          sym (place_is b t x g ∙ simp (is_good, j) refl)

      module _ (hh : h ≡ true) where
        taken : handle_ok b t x g ≡ true
        taken = sym he ∙ hh

        slot : (1 ≤ x) × (x ≤ n_slots b)
        unfolding handle_ok
        slot = within_is 1 (n_slots b) x (both (within 1 (n_slots b) x) _ (both (within 1 (n_trees b) t) _ taken).1).0

        pub low : 1 ≤ x
        low = slot.0

        module _ {n m : ℕ} (ne : n ≡ get_le 2 b 4) (me : m ≡ get_le 2 b 2) {start len : ℕ}
            (de : start ≡ get_le 4 b (32 + 8 * n + 32 * (x - 1) + 20)) (le : len ≡ get_le 2 b (32 + 8 * n + 32 * (x - 1) + 24)) where
          n_is : n ≡ n_trees b
          unfolding n_trees
          n_is = ne

          m_is : m ≡ n_slots b
          unfolding n_slots
          m_is = me

          field : (k w : ℕ) → k + w ≤ 32 → get_le w b (32 + 8 * n + 32 * (x - 1) + k) ≡ get_le w (at [] (records b) x) k
          field k w h =
              ap (λ (i : ℕ). get_le w b (32 + 8 * i + 32 * (x - 1) + k)) n_is
              ∙ sym (ap (λ (r : List ℕ). get_le w r k) (row_part b x slot.0 slot.1)
              ∙ get_part b (32 + 8 * n_trees b + 32 * (x - 1)) 32 k w h (omega (arith, room, slot.0, slot.1)))

          start_is : start ≡ start_in (at [] (records b) x)
          unfolding start_in
          start_is = de ∙ field 20 4 (omega arith)

          len_is : len ≡ len_in (at [] (records b) x)
          unfolding len_in
          len_is = le ∙ field 24 2 (omega arith)

          at_is : 32 + 8 * n + 32 * m + start ≡ 32 + 8 * n_trees b + 32 * n_slots b + start_in (at [] (records b) x)
          at_is = omega (arith, start_is, n_is, m_is)

          pub placed : ◌≡◌ {A = Place} (record { at = 32 + 8 * n + 32 * m + start; len = len }) (place_of b t x g)
          placed =
              let made : ℕ → ℕ → Place = λ a l. record { at = a; len = l } in
              ap₂ made at_is len_is
              ∙ sym (place_is b t x g ∙ simp (is_good, taken) refl)

          pub place_small : 32 + 8 * n + 32 * m + start ≤ 41_056
          place_small = rw (ap (λ (p : Place). p.at) placed) (place_low b t x g)

-- ---- the name

module _ (b : List ℕ) (t x g : ℕ) {a n : ℕ} (pe : ◌≡◌ {A = Place} (record { at = a; len = n }) (place_of b t x g)) where
  pub name_inside : a + n ≤ length b
  name_inside = subst (λ (q : Place). q.at + q.len ≤ length b) (sym pe) (place_fits b t x g)

  pub name_part : take (a + n - a) (drop a b) ≡ name b t x g
  name_part =
      let w : a + n - a ≡ n = omega arith in
      ap (λ (k : ℕ). take k (drop a b)) w ∙ ap (λ (q : Place). take q.len (drop q.at b)) pe ∙ name_at b t x g
