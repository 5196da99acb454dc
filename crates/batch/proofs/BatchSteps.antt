-- The steps of the door `batch`: its three refusals, the places that it cuts at, and a batch that is carried out. Assumes nothing.
use Rattle.std.specs.Prelude.{Ok, Err, Result}
use Rattle.std.proofs.Common.{◌≡◌, ℕ, ◌+◌, ◌-◌, ◌*◌, ◌<◌, ◌≤◌, Bool, true, false, cond, List, [], ◌++◌, length, take, drop, sym, ap, ◌∙◌, ap₂, append-nil, arith, length-drop}
use Rattle.std.proofs.Math.Seq.{take-length, drop-length}
use Rattle.fields.specs.Number.{get_le, Bytes}
use Rattle.format.specs.Refusal.{number, code}
use Rattle.format.specs.declared.refusal.Refusal.{Refusal}
use Rattle.format.specs.declared.refusal.Refusal.TheVariants.{Damaged, BadBatch, BadOut}
use Rattle.meaning.specs.Pool.{n_trees, live_count, read}
use Rattle.meaning.specs.Change.{free_slot}
use Rattle.meaning.specs.Sound.{sound}
use Rattle.meaning.specs.Doors.{check, n_commands, batch_ok, Outcome, carried_out, batch}
use Rattle.meaning.proofs.Clauses.{clauses}
use Rattle.judge.specs.Rows.{judged}
use Rattle.judge.proofs.CheckAnswers.{judged_ok, judged_number}
use Rattle.judge.specs.declared.verdict.Census.{Census}
use Rattle.slots.specs.Head.{load_n, store_n}
use Rattle.slots.specs.declared.head.Head.{Head}
use Rattle.batch.specs.Answered.{answered}
use Rattle.batch.specs.Run.{ran_n}
use Rattle.batch.proofs.Batching.{order_is, batch_bad, batch_short, batch_unsound, batch_done, batch_image}

-- what the door returns, with the lent bytes as they are then
abbrev pub outcome : Result ℕ Refusal → List ℕ → List ℕ → Outcome
outcome r p a = record { code = code r; answered = answered r; pool = p; answers = a }

-- all from a place on
rest_of : (at : ℕ) (l : List ℕ) → at ≤ length l → take (length l - at) (drop at l) ≡ drop at l
rest_of at l h = ap (λ (n : ℕ). take n (drop at l)) (sym (length-drop at l)) ∙ take-length (drop at l)

nothing_left : (at : ℕ) (l : List ℕ) → at ≤ length l → drop (length l - at) (drop at l) ≡ []
nothing_left at l h = ap (λ (n : ℕ). drop n (drop at l)) (sym (length-drop at l)) ∙ drop-length (drop at l)

abbrev of_parts : ℕ → ℕ → List ℕ → List ℕ → Outcome
of_parts code answered p a = record { code = code; answered = answered; pool = p; answers = a }

same_outcome : {q : Outcome} {code answered : ℕ} {p a : List ℕ} → q.code ≡ code → q.answered ≡ answered → p ≡ q.pool → a ≡ q.answers
    → of_parts code answered p a ≡ q
same_outcome {q} {p = p} {a = a} e f g h = ap₂ (λ (c n : ℕ). of_parts c n p a) (sym e) (sym f) ∙ ap₂ (of_parts q.code q.answered) g h

-- ---- the batch

module _ (w : List ℕ) {t : Bool} (e1 : t ≡ batch_ok w) (h1 : t ≡ true) {C : ℕ} (e2 : C ≡ get_le 2 w 2) where
  in_order : batch_ok w ≡ true
  in_order = sym e1 ∙ h1

  -- Its commands are few,
  pub few : C ≤ 256
  unfolding n_commands
  few = omega (arith, e2, (order_is w in_order).0)

  -- and its names begin within it.
  pub names_fit : 16 + 24 * C ≤ length w
  unfolding n_commands
  names_fit = omega (arith, e2, (order_is w in_order).1)

-- ---- the pool

module _ (p : List ℕ) {k : Census} (e3 : ◌≡◌ {A = Result Census Refusal} (Ok k) (judged p)) {h : Head} (e4 : h ≡ load_n p k.live k.free) where
  is_sound : sound p ≡ true
  is_sound = sym (judged_ok p e3)

  trees_are : h.numbers.trees ≡ n_trees p
  unfolding load_n n_trees
  trees_are = ap (λ (x : Head). x.numbers.trees) e4

  -- Its records begin within it.
  pub records_fit : 32 + 8 * h.numbers.trees ≤ length p
  records_fit = omega (arith, trees_are, (clauses p is_sound).head.length_is)

  census_is : k ≡ record { live = live_count (read p); free = free_slot (read p) }
  unfolding judged
  census_is =
      let known : Census = record { live = live_count (read p); free = free_slot (read p) } in
      let same : ◌≡◌ {A = Result Census Refusal} (Ok k) (Ok known) = e3 ∙ ap (λ (s : Bool). cond {A = Result Census Refusal} s (Ok known) (Err Damaged)) is_sound in
      cc

  head_is : h ≡ load_n p (live_count (read p)) (free_slot (read p))
  head_is = e4 ∙ ap (λ (i : Census). load_n p i.live i.free) census_is

-- ---- the door

module _ (p w a : List ℕ) {t : Bool} (e1 : t ≡ batch_ok w) where
  -- BAD_BATCH
  pub bad_header : t ≡ false → outcome (Err BadBatch) p a ≡ batch p w a
  bad_header h = sym (batch_bad p w a (sym e1 ∙ h))

  module _ (h1 : t ≡ true) {C : ℕ} (e2 : C ≡ get_le 2 w 2) where
    -- BAD_OUT
    pub no_room : length a < 24 * C → outcome (Err BadOut) p a ≡ batch p w a
    unfolding n_commands
    no_room s = sym (batch_short p w a (in_order w e1 h1 e2) (omega (arith, e2, s)))

    module _ (h2 : 24 * C ≤ length a) where
      room : 24 * n_commands w ≤ length a
      unfolding n_commands
      room = omega (arith, e2, h2)

      -- DAMAGED
      pub not_sound : (why : Refusal) → ◌≡◌ {A = Result Census Refusal} (Err why) (judged p) → outcome (Err why) p a ≡ batch p w a
      unfolding check
      not_sound why e =
          let unsound : sound p ≡ false = sym (judged_ok p e) in
          let one : number why ≡ 1 = judged_number p e ∙ ap (λ (s : Bool). cond s 0 1) unsound in
          ap (λ (n : ℕ). of_parts n 0 p a) one ∙ sym (batch_unsound p w a (in_order w e1 h1 e2) room unsound)

      -- The commands carried out, and the head stored.
      module _ {k : Census} (e3 : ◌≡◌ {A = Result Census Refusal} (Ok k) (judged p)) {h : Head} (e4 : h ≡ load_n p k.live k.free) where
        abbrev at : ℕ
        at = 32 + 8 * h.numbers.trees

        abbrev from : ℕ
        from = 16 + 24 * C

        ran_all : {r : List ℕ × (List ℕ × Head)} → r ≡ ran_n C (take (length p - at) (drop at p)) w (take (length w - from) (drop from w)) a h
            → r
            ≡ ran_n (n_commands w) (drop (32 + 8 * n_trees p) p) w (drop (16 + 24 * n_commands w) w) a (load_n p (live_count (read p)) (free_slot (read p)))
        unfolding n_commands
        ran_all ran =
            ran
            ∙ ap₂ (λ (x y : List ℕ). ran_n C x w y a h) (rest_of at p (records_fit p e3 e4)) (rest_of from w (names_fit w e1 h1 e2))
            ∙ ap (λ (n : ℕ). ran_n n (drop at p) w (drop (16 + 24 * n) w) a h) e2
            ∙ ap₂ (λ (i : ℕ) (x : Head). ran_n (n_commands w) (drop (32 + 8 * i) p) w (drop (16 + 24 * n_commands w) w) a x) (trees_are p e3 e4)
            (head_is p e3 e4)

        stored_all : (m b : List ℕ) (g : Head) → b ≡ store_n (take at p ++ (m ++ drop (length p - at) (drop at p))) g
            → b ≡ store_n (take (32 + 8 * n_trees p) p ++ m) g
        stored_all m b g stored =
            stored
            ∙ ap (λ (l : List ℕ). store_n (take at p ++ l) g)
            (ap (λ (l : List ℕ). m ++ l) (nothing_left at p (records_fit p e3 e4)) ∙ append-nil m)
            ∙ ap (λ (i : ℕ). store_n (take (32 + 8 * i) p ++ m) g) (trees_are p e3 e4)

        pub carried_out_lem : Bytes p → Bytes w → {m o b : List ℕ} {g : Head}
            → ◌≡◌ {A = List ℕ × (List ℕ × Head)} (m, (o, g))
            (ran_n C (take (length p - (32 + 8 * h.numbers.trees)) (drop (32 + 8 * h.numbers.trees) p)) w (take (length w - (16 + 24 * C)) (drop (16 + 24 * C) w)) a h)
            → b ≡ store_n (take (32 + 8 * h.numbers.trees) p ++ (m ++ drop (length p - (32 + 8 * h.numbers.trees)) (drop (32 + 8 * h.numbers.trees) p))) g
            → record { code = 0; answered = C; pool = b; answers = o } ≡ batch p w a
        unfolding n_commands carried_out
        carried_out_lem pb wb {m} {o} {b} {g} ran stored =
            let q = batch p w a in
            let sound_is = is_sound p e3 e4 in
            let order = in_order w e1 h1 e2 in
            let left : ◌≡◌ {A = List ℕ × List ℕ} (b, o) (q.pool, q.answers) =
            ap (λ (l : List ℕ). (l, o)) (stored_all m b g stored)
            ∙ ap (λ (r : List ℕ × (List ℕ × Head)). (store_n (take (32 + 8 * n_trees p) p ++ r.0) r.1.1, r.1.0)) (ran_all ran)
            ∙ batch_image p w a pb wb order room sound_is in
            let done = batch_done p w a order room sound_is in
            same_outcome (ap (λ (x : Outcome). x.code) done) (ap (λ (x : Outcome). x.answered) done ∙ sym e2)
            (ap (λ (x : List ℕ × List ℕ). x.0) left) (ap (λ (x : List ℕ × List ℕ). x.1) left)
