-- The answers of `listing`: a buffer that is too short, a pool that is refused, and the text of a sound one. Assumes nothing.
use Rattle.std.proofs.Common.{◌≡◌, ℕ, ◌+◌, ◌-◌, ◌*◌, ◌<◌, ◌≤◌, Bool, true, false, cond, ltb, List, ◌++◌, length, get_or, take, drop, sym, refl, ap, ◌∙◌, subst, ap₂, arith, length-append, length-drop, w8, Fits, ltb-false, le-ltb, lt-ltb, Ok, Err}
use Rattle.std.proofs.Math.Seq.{take-length}
use Rattle.fields.specs.Number.{Bytes}
use Rattle.fields.specs.Part.{splice}
use Rattle.fields.proofs.Parts.{length_splice}
use Rattle.meaning.specs.Pool.{n_trees, live_count, read}
use Rattle.meaning.specs.Change.{free_slot}
use Rattle.meaning.specs.Sound.{sound}
use Rattle.meaning.specs.Listing.{decimal, tree_lines, first_line, listing, listed}
use Rattle.meaning.proofs.Clauses.{clauses}
use Rattle.meaning.proofs.Pools.{sound_pool}
use Rattle.format.specs.Refusal.{number}
use Rattle.format.specs.declared.refusal.Refusal.{Refusal}
use Rattle.format.specs.declared.refusal.Refusal.TheVariants.{Damaged}
use Rattle.judge.specs.Rows.{judged}
use Rattle.judge.specs.declared.verdict.Census.{Census}
use Rattle.judge.proofs.CheckAnswers.{judged_ok}
use Rattle.slots.specs.Head.{load_n}
use Rattle.slots.specs.Image.{body_of, head_of}
use Rattle.slots.specs.declared.head.Head.{Head}
use Rattle.slots.proofs.Opening.{body_read, load_read}
use Rattle.lines.specs.Text.{wrote, field}
use Rattle.lines.specs.Line.{first_n, refused_n, trees_n}
use Rattle.lines.specs.Writer.{HasRoom, Wrote}
use Rattle.lines.specs.declared.text.Writer.{Writer}
use Rattle.lines.proofs.Writing.{second_fits, both_wrote}
use Rattle.lines.proofs.Printed.{first_printed, trees_printed}
use Rattle.lines.proofs.Bounds.{text_short}

-- the line of a refused pool
refused_long : length (refused_n 1) ≡ 10
unfolding refused_n field decimal
refused_long = refl

listing_refused : (b : List ℕ) → sound b ≡ false → listing b ≡ refused_n 1
unfolding listing refused_n field decimal
listing_refused b s = simp s

listing_sound : (b : List ℕ) → sound b ≡ true → listing b ≡ first_line (read b) ++ tree_lines (read b) 1 (read b).trees
unfolding listing
listing_sound b s = simp s

-- Every listing fits in 655,360 bytes.
pub listing_short : (b : List ℕ) → Bytes b → length (listing b) ≤ 655_360
listing_short b a = go (sound b) refl
  where
    go : (c : Bool) → sound b ≡ c → length (listing b) ≤ 655_360
    go true s = subst (λ (l : List ℕ). length l ≤ 655_360) (sym (listing_sound b s)) (text_short (read b) (sound_pool b a s).0)
    go false s = subst (λ (l : List ℕ). length l ≤ 655_360) (sym (listing_refused b s)) (omega (arith, refused_long))

-- The elements of a slice of u8 are bytes.
pub all_bytes : (b : List ℕ) → ((i : ℕ) → Fits w8 (get_or b i 0)) → Bytes b
all_bytes b h = record { below = λ i. omega (arith, h i) }

-- ---- what is left in the buffer

-- The buffer is too short.
pub listed_none : (b o : List ℕ) → length o < 655_360 → (o, 0) ≡ listed b o
unfolding listed
listed_none b o h = simp (lt-ltb (length o) 655_360 h)

listed_text : (b o : List ℕ) → 655_360 ≤ length o → listed b o ≡ wrote o 0 (listing b)
unfolding listed wrote
listed_text b o h =
    let n : length (listing b) ≡ 0 + length (listing b) = omega arith in
    simp (le-ltb (length o) 655_360 h) (ap (λ (k : ℕ). (splice o 0 (listing b), k)) n)

-- The answer lies within the buffer.
pub listed_within : (b o : List ℕ) → Bytes b → {o₁ : List ℕ} {r : ℕ} → (o₁, r) ≡ listed b o → r ≤ length o₁
unfolding listed
listed_within b o a {o₁} {r} e = subst (λ (q : List ℕ × ℕ). q.1 ≤ length q.0) (sym e) (go (ltb (length o) 655_360) refl)
  where
    go : (c : Bool) → ltb (length o) 655_360 ≡ c
        → let q : List ℕ × ℕ = cond c (o, 0) (splice o 0 (listing b), length (listing b)) in q.1 ≤ length q.0
    go true t = omega arith
    go false t = omega (arith, ltb-false (length o) 655_360 t, length_splice o 0 (listing b), listing_short b a)

-- ---- what the judgement says

sound_judged : (b : List ℕ) → sound b ≡ true → judged b ≡ Ok (record { live = live_count (read b); free = free_slot (read b) })
unfolding judged
sound_judged b s = simp s

judged_refused : (b : List ℕ) → sound b ≡ false → judged b ≡ Err Damaged
unfolding judged
judged_refused b s = simp s

module _ (b : List ℕ) {why : Refusal} (je : Err why ≡ judged b) where
  -- what is listed of a refused pool is the line of its refusal
  refused_is : listing b ≡ refused_n (number why)
  refused_is =
      let s : sound b ≡ false = sym (judged_ok b je) in
      let e : Err why ≡ Err Damaged = je ∙ judged_refused b s in
      let d : why ≡ Damaged = cc in
      rw d (listing_refused b s)

  -- Its line is no longer than any listing.
  pub refused_short : length (refused_n (number why)) ≤ 655_360
  refused_short =
      let s : sound b ≡ false = sym (judged_ok b je) in
      omega (arith, ap length refused_is, ap length (listing_refused b s), refused_long)

module _ (b : List ℕ) {census : Census} (je : Ok census ≡ judged b) where
  is_sound : sound b ≡ true
  is_sound = sym (judged_ok b je)

  census_is : census ≡ record { live = live_count (read b); free = free_slot (read b) }
  census_is = let e : Ok census ≡ Ok (record { live = live_count (read b); free = free_slot (read b) }) = je ∙ sound_judged b is_sound in cc

  -- The pool is sound.
  module _ {h : Head} (he : h ≡ load_n b census.live census.free) where
    trees_are : h.numbers.trees ≡ n_trees b
    unfolding load_n n_trees
    trees_are = ap (λ (y : Head). y.numbers.trees) he

    -- Its header and its tree entries lie within it.
    pub body_inside : 32 + 8 * h.numbers.trees ≤ length b
    body_inside = omega (arith, trees_are, (clauses b is_sound).head.length_is)

    abbrev from : ℕ
    from = 32 + 8 * h.numbers.trees

    abbrev body : List ℕ
    body = take (length b - from) (drop from b)

    module _ (a : Bytes b) where
      head_is : h ≡ head_of (read b)
      head_is =
          he
          ∙ ap (λ (y : Census). load_n b y.live y.free) census_is
          ∙ load_read b a is_sound

      body_is : body ≡ body_of (read b)
      body_is =
          ap (λ (k : ℕ). take k (drop from b)) (sym (length-drop from b))
          ∙ take-length (drop from b)
          ∙ ap (λ (k : ℕ). drop (32 + 8 * k) b) trees_are
          ∙ body_read b a is_sound

      text_is : listing b ≡ first_n h ++ trees_n 8 body h 1
      text_is =
          listing_sound b is_sound
          ∙ sym (ap₂ ◌++◌ (ap first_n head_is ∙ first_printed (read b))
          (ap₂ (λ (m : List ℕ) (y : Head). trees_n 8 m y 1) body_is head_is ∙ trees_printed (read b) (sound_pool b a is_sound).0))

      text_long : length (first_n h ++ trees_n 8 body h 1) ≤ 655_360
      text_long = subst (λ (l : List ℕ). length l ≤ 655_360) text_is (listing_short b a)

      -- The first line is no longer.
      pub first_long : length (first_n h) ≤ 655_360
      first_long = omega (arith, text_long, length-append (first_n h) (trees_n 8 body h 1))

-- ---- what the writer leaves, which had written nothing before

module _ (b : List ℕ) (w : Writer) (none : w.at ≡ 0) (big : 655_360 ≤ length w.out.now) where
  -- the listing is written, and what the buffer holds in the end is what the writer left in it
  listed_wrote : {text : List ℕ} → listing b ≡ text → {w₁ : Writer} → Wrote w text w₁ → {o : List ℕ} → o ≡ w₁.out.now → (o, w₁.at) ≡ listed b w.out.now
  listed_wrote is {w₁} f e =
      ap (λ (l : List ℕ). (l, w₁.at)) e
      ∙ f.is
      ∙ ap₂ (wrote w.out.now) none (sym is)
      ∙ sym (listed_text b w.out.now big)

  -- The pool is refused.
  pub listed_refused : {why : Refusal} → Err why ≡ judged b → {w₁ : Writer} → Wrote w (refused_n (number why)) w₁ → {o : List ℕ} → o ≡ w₁.out.now
      → (o, w₁.at) ≡ listed b w.out.now
  listed_refused je f e = listed_wrote (refused_is b je) f e

  -- The pool is sound: the trees' lines fit behind the first line, and all are written.
  module _ {census : Census} (je : Ok census ≡ judged b) {h : Head} (he : h ≡ load_n b census.live census.free) (a : Bytes b) {w₁ : Writer}
      (f : Wrote w (first_n h) w₁) where
    abbrev trees : List ℕ
    trees = trees_n 8 (take (length b - (32 + 8 * h.numbers.trees)) (drop (32 + 8 * h.numbers.trees) b)) h 1

    room : HasRoom w (first_n h ++ trees)
    room = omega (arith, none, big, text_long b je he a)

    pub trees_room : HasRoom w₁ trees
    trees_room = second_fits (first_n h) trees room f

    pub listed_sound : {w₂ : Writer} → Wrote w₁ trees w₂ → {o : List ℕ} → o ≡ w₂.out.now → (o, w₂.at) ≡ listed b w.out.now
    listed_sound g e = listed_wrote (text_is b je he a) (both_wrote (first_n h) trees room f g) e
