-- The answers of `judge`, each from what was read and found on the way to it. Assumes nothing.
use Rattle.std.specs.Prelude.{Some, None, Ok, Err, Result}
use Rattle.std.proofs.Common.{◌≡◌, ℕ, ◌+◌, ◌-◌, ◌*◌, ◌/◌, ◌≤◌, Bool, true, false, cond, not, ◌&&◌, eqb, List, length, take, drop, sym, refl, ap, ◌∙◌, arith, length-drop, eq-eqb, ne_eqb}
use Rattle.std.proofs.Math.Bool.{and-true, and-false}
use Rattle.std.proofs.lemmas.Bool.{false≢true}
use Rattle.std.specs.Result.{is_ok}
use Rattle.std.specs.Simd.{first_chunks}
use Rattle.fields.specs.Number.{get_le, Bytes}
use Rattle.fields.specs.Part.{part, zeros}
use Rattle.format.specs.Refusal.{code}
use Rattle.format.specs.declared.refusal.Refusal.{Refusal}
use Rattle.format.specs.declared.refusal.Refusal.TheVariants.{Damaged}
use Rattle.meaning.specs.Layout.{rows, every, count, concat}
use Rattle.meaning.specs.Pool.{n_slots, n_trees, n_live, text_used, next_stamp, entries, records, tree_in, live_count, read}
use Rattle.meaning.specs.Change.{free_slot}
use Rattle.meaning.specs.Doors.{check}
use Rattle.meaning.specs.Sound.{header_ok, entry_ok, record_ok, text_ok, sound}
use Rattle.meaning.proofs.Facts.{test, length_rows, concat_rows, bytes_take, bytes_drop}
use Rattle.meaning.proofs.Clauses.{header_facts}
use Rattle.meaning.proofs.Contents.{live_read}
use Rattle.judge.specs.Check.{trees_n}
use Rattle.judge.specs.Rows.{record_in, counted, judged}
use Rattle.judge.specs.declared.verdict.Census.{Census}
use Rattle.judge.proofs.Sections.{counted_is}
use Rattle.judge.proofs.Decided.{sound_is, text_part, trees_part, records_part}
use Rattle.judge.proofs.Complete.{rows_weak}
use Rattle.judge.proofs.Flat.{Wide, section_rows, section_length, rows_wide}

-- the answer where the pool is not sound
refused : (b : List ℕ) → sound b ≡ false → Err Damaged ≡ judged b
unfolding judged
refused b e = rw e refl

-- whether a judged pool is sound
pub judged_ok : (b : List ℕ) {j : Result Census Refusal} → j ≡ judged b → is_ok j ≡ sound b
unfolding judged
judged_ok b e = ap is_ok e ∙ test (sound b) (λ t. rw t refl) (λ t. rw t refl)

-- what is known of a pool that is judged sound, and of one that is not
pub judged_sound : (b : List ℕ) {q : Census} → Ok q ≡ judged b → (sound b ≡ true) × (q ≡ record { live = live_count (read b); free = free_slot (read b) })
unfolding judged
judged_sound b {q} e =
    test (sound b)
    (λ t. let same : Ok q ≡ Ok (record { live = live_count (read b); free = free_slot (read b) }) = rw t at e in (t, cc))
    (λ t. let other : Ok q ≡ Err Damaged = rw t at e in absurd cc)

pub judged_damaged : (b : List ℕ) {why : Refusal} → Err why ≡ judged b → sound b ≡ false
unfolding judged
judged_damaged b {why} e =
    test (sound b)
    (λ t. let other : Err why ≡ Ok (record { live = live_count (read b); free = free_slot (read b) }) = rw t at e in absurd cc) (λ t. t)

-- the number by which the door tells it
pub judged_number : (b : List ℕ) {j : Result Census Refusal} → j ≡ judged b → code j ≡ check b
unfolding judged check
judged_number b e = ap code e ∙ test (sound b) (λ t. rw t refl) (λ t. rw t refl)

-- a bad header
pub bad_header : (b : List ℕ) {h : Bool} → h ≡ header_ok b → h ≡ false → Err Damaged ≡ judged b
unfolding sound
bad_header b e n = refused b (simp (sym e ∙ n) refl)

-- what a good header gives: the numbers read, and that the sections lie within the pool
pub record Read (b : List ℕ) (n t used next : ℕ) : Type 0 where
  pub good : header_ok b ≡ true
  pub slots : n ≡ n_slots b
  pub trees : t ≡ n_trees b
  pub text : used ≡ text_used b
  pub stamp : next ≡ next_stamp b

pub have_read : (b : List ℕ) {h : Bool} {n t used next : ℕ} → h ≡ header_ok b → h ≡ true → n ≡ get_le 2 b 2 → t ≡ get_le 2 b 4 → used ≡ get_le 4 b 24
    → next ≡ get_le 4 b 28 → Read b n t used next
unfolding n_slots n_trees text_used next_stamp
have_read b e h n t u x = record { good = sym e ∙ h; slots = n; trees = t; text = u; stamp = x }

pub record Fits (b : List ℕ) (n t used : ℕ) : Type 0 where
  pub trees_high : t ≤ 8
  pub slots_high : n ≤ 1024
  pub inside : 32 + 8 * t + 32 * n + used ≤ length b

pub fits : {b : List ℕ} {n t used next : ℕ} → Read b n t used next → Fits b n t used
fits {b} r =
    let f = header_facts b r.good in
    record {
      trees_high = omega (arith, f.trees_high, r.trees);
      slots_high = omega (arith, f.slots_high, r.slots);
      inside = omega (arith, f.length_is, f.used_fits, r.slots, r.trees, r.text);
    }

module _ (b : List ℕ) {n t used next : ℕ} (r : Read b n t used next) where
  -- the sections as the code lends them
  abbrev end : ℕ
  end = 32 + 8 * t + 32 * n

  abbrev heads : List ℕ
  heads = take (32 + 8 * t - 32) (drop 32 b)

  abbrev bodies : List ℕ
  bodies = take (end - (32 + 8 * t)) (drop (32 + 8 * t) b)

  pub entries_are : {es : List (List ℕ)} → es ≡ first_chunks 8 (length heads / 8) heads → es ≡ entries b
  unfolding entries
  entries_are e =
      let f = (fits r).inside in
      let l = section_length 32 (32 + 8 * t) b (omega arith) in
      section_rows 8 t 32 (32 + 8 * t) b (omega arith) (omega arith) e ∙ ap (λ (k : ℕ). rows k 8 (drop 32 b)) r.trees

  pub records_are : {rs : List (List ℕ)} → rs ≡ first_chunks 32 (length bodies / 32) bodies → rs ≡ records b
  unfolding records
  records_are e =
      let f = (fits r).inside in
      let l = section_length (32 + 8 * t) end b (omega arith) in
      section_rows 32 n (32 + 8 * t) end b (omega arith) (omega arith) e ∙ simp (r.slots, r.trees) refl

  -- and what is known of them
  pub few_entries : {es : List (List ℕ)} → es ≡ entries b → length es ≤ 8
  unfolding entries
  few_entries e = let f = (fits r).trees_high in omega (arith, ap length e, length_rows (n_trees b) 8 (drop 32 b), r.trees)

  slots_are : {rs : List (List ℕ)} → rs ≡ records b → length rs ≡ n_slots b
  unfolding records
  slots_are e = ap length e ∙ length_rows (n_slots b) 32 (drop (32 + 8 * n_trees b) b)

  pub few_records : {rs : List (List ℕ)} → rs ≡ records b → length rs ≤ 65_535
  few_records e = let f = (fits r).slots_high in omega (arith, slots_are e, r.slots)

  pub wide_records : {rs : List (List ℕ)} → rs ≡ records b → Wide rs
  unfolding records
  wide_records e =
      let f = (fits r).inside in
      rw e (rows_wide (n_slots b) (drop (32 + 8 * n_trees b) b) (simp length-drop (omega (arith, r.slots, r.trees))))

  flat_is : {rs : List (List ℕ)} → rs ≡ records b → concat rs ≡ take (32 * n_slots b) (drop (32 + 8 * n_trees b) b)
  unfolding records
  flat_is e = ap concat e ∙ concat_rows (n_slots b) 32 (drop (32 + 8 * n_trees b) b)

  pub byte_records : Bytes b → {rs : List (List ℕ)} → rs ≡ records b → Bytes (concat rs)
  byte_records all e = rw (flat_is e) (bytes_take (32 * n_slots b) _ (bytes_drop (32 + 8 * n_trees b) b all))

  module _ {es : List (List ℕ)} (es_is : es ≡ entries b) {e : Bool} (ee : e ≡ every entry_ok es) where
    entries_ok : every entry_ok (entries b) ≡ e
    entries_ok = ap (every entry_ok) (sym es_is) ∙ sym ee

    -- an entry that is not good
    pub bad_entries : e ≡ false → Err Damaged ≡ judged b
    bad_entries h = refused b (sound_is b r.good (entries_ok ∙ h) refl refl refl refl)

    module _ (good_e : e ≡ true) {rs : List (List ℕ)} (rs_is : rs ≡ records b) where
      abbrev rows_ok : Bool
      rows_ok = every (record_in (text_used b) (next_stamp b)) (records b)

      abbrev live : ℕ
      live = count (λ r. not (eqb (tree_in r) 0)) (records b)

      abbrev all_ok : Bool
      all_ok = every (record_ok (n_trees b) (text_used b) (next_stamp b)) (records b)

      e_true : every entry_ok (entries b) ≡ true
      e_true = entries_ok ∙ good_e

      abbrev whole : Census
      whole = record { live = live; free = free_slot (read b) }

      counted_rows : counted used next 1 0 0 rs ≡ cond rows_ok (Some whole) None
      unfolding free_slot read
      counted_rows =
          let e : 0 + live ≡ live = omega arith in
          simp (rs_is, r.text, r.stamp)
          (counted_is (text_used b) (next_stamp b) 1 0 0 (records b) (omega arith)
          ∙ ap (λ (i : ℕ). cond rows_ok (Some (record { live = i; free = free_slot (read b) })) None) e)

      -- a record that is not good
      pub bad_records : None ≡ counted used next 1 0 0 rs → Err Damaged ≡ judged b
      bad_records h =
          refused b (sound_is b r.good e_true
          (test all_ok
          (λ k.
          let q : None ≡ Some whole =
          h ∙ counted_rows ∙ ap (λ (o : Bool). cond o (Some whole) None) (rows_weak (n_trees b) (text_used b) (next_stamp b) (records b) k) in
          absurd cc)
          (λ k. k))
          refl refl refl)

      module _ {q : Census} (qe : Some q ≡ counted used next 1 0 0 rs) where
        r_true : rows_ok ≡ true
        r_true = test rows_ok (λ k. k) (λ k.
            let none : Some q ≡ None = qe ∙ counted_rows ∙ ap (λ (o : Bool). cond o (Some whole) None) k in absurd cc)

        census_is : q ≡ whole
        census_is = let same : Some q ≡ Some whole = qe ∙ counted_rows ∙ ap (λ (o : Bool). cond o (Some whole) None) r_true in cc

        live_is : q.live ≡ live
        live_is = ap (λ (k : Census). k.live) census_is

        text_is : text_ok b ≡ zeros (part b (end + used) (length b - (end + used)))
        text_is =
            let e : length b - (end + used) ≡ length b - end - used = omega arith in
            sym (ap (λ (k : ℕ). zeros (part b (end + used) k)) e ∙ simp (r.slots, r.trees, r.text) (text_part b (inside_pool (fits r))))
          where
            inside_pool : Fits b n t used → 32 + 8 * n_trees b + 32 * n_slots b + text_used b ≤ length b
            inside_pool f = omega (arith, f.inside, r.slots, r.trees, r.text)

        abbrev walks : Bool
        walks = trees_n (concat rs) (length rs) q.live 1 0 es

        walks_are : walks ≡ trees_n (take (32 * n_slots b) (drop (32 + 8 * n_trees b) b)) (n_slots b) live 1 0 (entries b)
        walks_are = simp (flat_is rs_is, slots_are rs_is, live_is, es_is) refl

        -- if the walks are good, so are the records
        sound_rest : sound b ≡ (text_ok b && (walks && eqb (n_live b) live))
        sound_rest =
            test all_ok
            (λ k. sound_is b r.good e_true k refl (sym (walks_are ∙ trees_part b r.good k)) refl ∙ simp and-true refl)
            (λ k. sound_is b r.good e_true k refl refl refl ∙ sym (unmet k))
          where
            unmet : all_ok ≡ false → (text_ok b && (walks && eqb (n_live b) live)) ≡ false
            unmet k =
                test walks (λ v. absurd (false≢true (sym k ∙ records_part b r.good r_true (sym walks_are ∙ v))))
                (λ v. simp (v, and-false) refl)

        -- unused text that is not zero
        module _ {z : Bool} (ze : z ≡ zeros (part b (end + used) (length b - (end + used)))) where
          pub bad_text : z ≡ false → Err Damaged ≡ judged b
          bad_text h = refused b (sound_rest ∙ simp (text_is ∙ sym ze ∙ h) refl)

          -- a header with another number of live records
          module _ {l : ℕ} (le : l ≡ get_le 2 b 6) where
            live_clause : eqb (n_live b) live ≡ eqb l q.live
            unfolding n_live
            live_clause = simp (← le, ← live_is) refl

            pub bad_live : (l ≡ q.live → ⊥) → Err Damaged ≡ judged b
            bad_live h = refused b (sound_rest ∙ simp (live_clause ∙ ne_eqb l q.live h, and-false) refl)

            -- a tree that is not good
            module _ {w : Bool} (we : w ≡ walks) where
              pub bad_trees : w ≡ false → Err Damaged ≡ judged b
              bad_trees h = refused b (sound_rest ∙ simp (sym we ∙ h, and-false) refl)

              -- all is good: what the records told is what is judged
              pub all_good : z ≡ true → l ≡ q.live → w ≡ true → Ok q ≡ judged b
              unfolding judged live_count read
              all_good x y v =
                  let good : sound b ≡ true = sound_rest ∙ simp (text_is ∙ sym ze ∙ x, sym we ∙ v, live_clause ∙ eq-eqb l q.live y) refl in
                  rw good (ap (λ (k : Census). Ok k) (census_is ∙ simp (live_read (records b)) refl))
