-- An answer's bytes: the first is the number by which the command is refused, 0 if it is done; and the whole answer of a command whose handle has
-- gone. Assumes nothing.
use Rattle.std.proofs.Common.{◌≡◌, ℕ, suc, ◌+◌, ◌*◌, ◌%◌, ◌≤◌, Bool, true, false, cond, not, eqb, List, [], ◌∷◌, length, get_or, drop, replicate, sym, refl, ap, ◌∙◌, arith, get_or-drop, get_or-take, eqb-true}
use Rattle.std.proofs.Math.Option.{Option, none, some}
use Rattle.std.proofs.lemmas.Bool.{eqb-false}
use Rattle.std.proofs.lemmas.List.{length-map}
use Rattle.fields.specs.Number.{digits}
use Rattle.fields.specs.Part.{part}
use Rattle.fields.proofs.Parts.{within?, part_in, part_out}
use Rattle.meaning.specs.Layout.{pack, within}
use Rattle.meaning.specs.Pool.{Rec, n_slots, n_trees, entries, records, read}
use Rattle.meaning.specs.Cursor.{Command, Cursor, nowhere, occupied, vacant, first_entry, last_entry, State, kind}
use Rattle.meaning.specs.Command.{bad_tree, bad_slot, op_of, refusal, after_refusal, answer, refused, carried_out, perform}
use Rattle.meaning.specs.Doors.{begun, batch_refusal, carried_out as carried, batch}
use Rattle.meaning.specs.Calls.{Point, state_after, stale_number}
use Rattle.meaning.specs.Told.{answer_at, code_at, gone_number, gone_answer}
use Rattle.meaning.proofs.Demand1.{refused_command, no_others}
use Rattle.meaning.proofs.Demand2.{in_turn}
use Rattle.meaning.proofs.Facts.{test, length_rows}
use Rattle.meaning.proofs.Sizes.{run_sizes}
use Rattle.meaning.proofs.StaleHandles.{four_to_six}
use Rattle.meaning.proofs.Turns.{answer_long}

-- ---- the first byte

first_byte : (code k x : ℕ) (o : Option Rec) → get_or (answer code k x o) 0 0 ≡ code % 256
unfolding answer pack digits
first_byte code k x none = refl
first_byte code k x (some r) = refl

-- The first byte of what a command answers is the number by which it is refused, 0 if it is done.
code_of : (s : State) (c : Command) → get_or (perform s c).answer 0 0 ≡ refusal s c
unfolding perform carried_out refused
code_of s c = go (eqb (refusal s c) 0) refl
  where
    go : (b : Bool) → eqb (refusal s c) 0 ≡ b
        → get_or (cond b (carried_out (op_of c) s c) (refused (refusal s c) s c)).answer 0 0 ≡ refusal s c
    go true t = first_byte 0 _ _ _ ∙ sym (eqb-true (refusal s c) 0 t)
    go false t =
        let e = refusal s c in
        let n = no_others s c (eqb-false e 0 t) in
        first_byte e (kind (after_refusal c.op e s.cursor)) 0 none ∙ omega (arith, n.1)

-- ---- at its place

-- the first byte of a part that is not empty
part_first : (l : List ℕ) (i n : ℕ) → length (part l i (suc n)) ≡ suc n → get_or l i 0 ≡ get_or (part l i (suc n)) 0 0
part_first l i n h = within? (i + suc n) (length l)
    (λ k.
    ap (λ (j : ℕ). get_or l j 0) (let e : i ≡ i + 0 = omega arith in e)
    ∙ sym (get_or-drop i l 0 0) ∙ sym (get_or-take (suc n) (drop i l) 0 0 (omega arith))
    ∙ ap (λ (m : List ℕ). get_or m 0 0) (sym (part_in l i (suc n) k)))
    (λ k. absurd (let e : length (part l i (suc n)) ≡ 0 = ap length (part_out l i (suc n) k) in omega (arith, e, h)))

-- a batch whose code is 0 is not refused
allowed : (pool request answers : List ℕ) → (batch pool request answers).code ≡ 0 → batch_refusal pool request answers ≡ 0
unfolding batch carried
allowed b w a h = test (eqb (batch_refusal b w a) 0) (λ t. eqb-true (batch_refusal b w a) 0 t) (λ t. rw t at h)

module _ {pool request answers : List ℕ} {before : List Command} {c : Command} {rest : List Command}
    (p : Point pool request answers before (c ∷ rest)) where
  -- The answer of a command stands at its place.
  pub answer_told : answer_at (batch pool request answers).answers (length before) ≡ (perform (state_after pool before) c).answer
  unfolding answer_at state_after
  answer_told =
      (in_turn pool request answers p.pool_bytes p.batch_bytes (allowed pool request answers p.done) before c rest p.split).answer

  -- The first byte of a command's answer is the number by which it is refused, 0 if it is done.
  pub code_told : code_at (batch pool request answers).answers (length before) ≡ refusal (state_after pool before) c
  unfolding code_at answer_at
  code_told =
      let s = state_after pool before in
      part_first (batch pool request answers).answers (24 * length before) 23 (ap length answer_told ∙ answer_long s c)
      ∙ ap (λ (l : List ℕ). get_or l 0 0) answer_told ∙ code_of s c

-- ---- a refused command

kind_low : (k : Cursor) → kind k ≤ 4
unfolding kind
kind_low nowhere = omega arith
kind_low (occupied t x) = omega arith
kind_low (vacant t x d k) = omega arith
kind_low (first_entry t x) = omega arith
kind_low (last_entry t x) = omega arith

packed : (e k : ℕ) → e ≤ 24 → k ≤ 4 → pack ((1, e) ∷ (1, k) ∷ (22, 0) ∷ []) ≡ e ∷ k ∷ replicate 22 0
unfolding pack digits
packed e k h l =
    ap (λ (m : ℕ). m ∷ (k % 256) ∷ replicate 22 0) (let i : e % 256 ≡ e = omega (arith, h) in i)
    ∙ ap (λ (m : ℕ). e ∷ m ∷ replicate 22 0) (let i : k % 256 ≡ k = omega (arith, l) in i)

-- Every refused command of a batch is answered with 24 bytes: its number, the cursor kind after it, and 22 zeros.
pub refused_told : {pool request answers : List ℕ} {before : List Command} {c : Command} {rest : List Command}
    → Point pool request answers before (c ∷ rest) → (code_at (batch pool request answers).answers (length before) ≡ 0 → ⊥)
    → let s = state_after pool before in
    answer_at (batch pool request answers).answers (length before) ≡ refusal s c ∷ kind (perform s c).state.cursor ∷ replicate 22 0
refused_told {pool = pool} {before = before} {c = c} p n =
    let s = state_after pool before in
    let e = refusal s c in
    let m : (e ≡ 0 → ⊥) = λ z. n (code_told p ∙ z) in
    answer_told p ∙ (refused_command s c e refl m).answer
    ∙ packed e (kind (perform s c).state.cursor) (no_others s c m).1 (kind_low (perform s c).state.cursor)

-- ---- a handle that has gone

-- the pool keeps as many trees and slots as its header counts
pub trees_kept : (pool : List ℕ) (before : List Command) → length (state_after pool before).pool.trees ≡ n_trees pool
unfolding state_after begun read entries
trees_kept b before = (run_sizes (begun (read b)) before).trees ∙ length-map (entries b) _ ∙ length_rows (n_trees b) 8 _

slots_kept : (pool : List ℕ) (before : List Command) → length (state_after pool before).pool.slots ≡ n_slots pool
unfolding state_after begun read records
slots_kept b before = (run_sizes (begun (read b)) before).slots ∙ length-map (records b) _ ∙ length_rows (n_slots b) 32 _

-- so the number by which it is refused is one of the pool's bytes and the command
pub gone_number_lem : (pool : List ℕ) (before : List Command) (c : Command) → stale_number (state_after pool before) c ≡ gone_number pool c
unfolding stale_number bad_tree bad_slot gone_number
gone_number_lem pool before c =
    rw (trees_kept pool before, slots_kept pool before) (go (within 1 (n_trees pool) c.tree) (within 1 (n_slots pool) c.slot))
  where
    go : (x y : Bool) → ◌≡◌ {A = ℕ} (cond (not x) 11 (cond (not y) 14 15)) (cond x (cond y 15 14) 11)
    go true true = refl
    go true false = refl
    go false y = refl

gone_range : (pool : List ℕ) (c : Command) → (11 ≤ gone_number pool c) × (gone_number pool c ≤ 15)
unfolding gone_number
gone_range pool c = go (within 1 (n_trees pool) c.tree) (within 1 (n_slots pool) c.slot)
  where
    go : (x y : Bool) → (11 ≤ cond x (cond y 15 14) 11) × (cond x (cond y 15 14) 11 ≤ 15)
    go true true = (omega arith, omega arith)
    go true false = (omega arith, omega arith)
    go false y = (omega arith, omega arith)

-- a refusal of ops 4 to 6 loses the cursor
cursor_lost : (n e : ℕ) (k : Cursor) → within 4 6 n ≡ true → after_refusal n e k ≡ nowhere
unfolding after_refusal within
cursor_lost n e k h = four_to_six (λ m. after_refusal m e k ≡ nowhere) refl refl refl n h

-- A command that is refused because its handle has gone is answered with the number, the cursor kind 0 and zeros.
pub gone_told : {pool request answers : List ℕ} {before : List Command} {c : Command} {rest : List Command}
    → Point pool request answers before (c ∷ rest) → within 4 6 c.op ≡ true
    → refusal (state_after pool before) c ≡ stale_number (state_after pool before) c
    → answer_at (batch pool request answers).answers (length before) ≡ gone_answer pool c
unfolding gone_answer kind
gone_told {pool = pool} {before = before} {c = c} p o h =
    let s = state_after pool before in
    let e = gone_number pool c in
    let k = gone_range pool c in
    let l = refused_command s c e (h ∙ gone_number_lem pool before c) (λ z. omega (arith, k.0, z)) in
    answer_told p ∙ l.answer
    ∙ ap (λ (m : Cursor). pack ((1, e) ∷ (1, kind m) ∷ (22, 0) ∷ [])) (l.cursor ∙ cursor_lost c.op e s.cursor o)
    ∙ packed e (kind nowhere) (omega (arith, k.1)) (kind_low nowhere)

-- What is so answered is so refused.
pub told_gone : {pool request answers : List ℕ} {before : List Command} {c : Command} {rest : List Command}
    → Point pool request answers before (c ∷ rest) → answer_at (batch pool request answers).answers (length before) ≡ gone_answer pool c
    → refusal (state_after pool before) c ≡ stale_number (state_after pool before) c
unfolding gone_answer
told_gone {pool = pool} {before = before} {c = c} p h =
    let s = state_after pool before in
    sym (code_of s c) ∙ ap (λ (l : List ℕ). get_or l 0 0) (sym (answer_told p) ∙ h) ∙ sym (gone_number_lem pool before c)
