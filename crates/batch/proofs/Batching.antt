-- A batch as a whole: its commands as they stand in its bytes, and what it leaves of pool and answers, stored, is what the door says.
-- Assumes nothing.
use Rattle.std.proofs.Common.{◌≡◌, ℕ, zero, suc, ◌+◌, ◌*◌, ◌<◌, ◌≤◌, true, false, cond, ◌&&◌, eqb, leb, List, [], ◌∷◌, ◌++◌, map, length, take, drop, replicate, sym, refl, ap, ◌∙◌, subst, ap₂, arith, drop-drop, le-ltb, lt-ltb, eqb-true, leb-true}
use Rattle.std.proofs.Math.Option.{none}
use Rattle.std.proofs.lemmas.List.{length-replicate}
use Rattle.fields.specs.Number.{get_le, Bytes}
use Rattle.fields.specs.Part.{part}
use Rattle.meaning.specs.Layout.{rows, within, span}
use Rattle.meaning.specs.Pool.{Pool, live_count, bytes, read, n_trees}
use Rattle.meaning.specs.Sound.{sound}
use Rattle.meaning.specs.Change.{free_slot}
use Rattle.meaning.specs.Cursor.{Command}
use Rattle.meaning.specs.Doors.{n_commands, names_length, batch_ok, command, commands, run, begun, ended, batch_refusal, Outcome, carried_out, batch}
use Rattle.meaning.specs.WellFormed.{WellFormed}
use Rattle.meaning.specs.States.{Parsed}
use Rattle.meaning.proofs.Facts.{facts}
use Rattle.meaning.proofs.Batches.{AllParsed, and_then, commands_parsed, begun_good, run_good, ended_good}
use Rattle.meaning.proofs.Packed.{written_header}
use Rattle.meaning.proofs.Pools.{sound_pool}
use Rattle.fields.proofs.Spans.{get_part}
use Rattle.meaning.proofs.Sizes.{batch_sizes}
use Rattle.slots.specs.Head.{load_n, store_n}
use Rattle.slots.specs.Image.{body_of, head_of}
use Rattle.slots.specs.declared.head.Head.{Head}
use Rattle.slots.proofs.Opening.{body_read, load_read}
use Rattle.slots.proofs.Closing.{store_image}
use Rattle.journal.specs.Journal.{no_entry}
use Rattle.cursor.specs.Tests.{command_n, named_n}
use Rattle.cursor.specs.Work.{begun_n}
use Rattle.ops.specs.Image.{mark_of, work_in, meant_by}
use Rattle.batch.specs.Run.{Ran, ran_n}
use Rattle.batch.proofs.Noting.{closed}
use Rattle.batch.proofs.Running.{meant_parts, meant_from, run_image}

-- ---- the commands of a batch

-- a command by the numbers of its row
abbrev from : List ℕ → ℕ → ℕ → ℕ → ℕ → ℕ → ℕ → ℕ → Command
from names op tree slot stamp key at len =
    record {
      op = op;
      tree = tree;
      slot = slot;
      stamp = stamp;
      key = key;
      name = part names at len;
      named = within 1 255 len && leb (at + len) (length names);
    }

seven : (names : List ℕ) {a a₂ b b₂ c c₂ d d₂ e e₂ f f₂ g g₂ : ℕ} → a ≡ a₂ → b ≡ b₂ → c ≡ c₂ → d ≡ d₂ → e ≡ e₂ → f ≡ f₂ → g ≡ g₂
    → from names a b c d e f g ≡ from names a₂ b₂ c₂ d₂ e₂ f₂ g₂
seven names p q r s t u v = cc

-- the row of command i
command_is : (names w : List ℕ) (i : ℕ) → 16 + 24 * i + 24 ≤ length w → command names (take 24 (drop (16 + 24 * i) w)) ≡ meant_by names (command_n w i)
unfolding command meant_by command_n named_n
command_is names w i h =
    let start = 16 + 24 * i in
    let field : (k n : ℕ) → k + n ≤ 24 → get_le n (take 24 (drop start w)) k ≡ get_le n w (start + k) = λ k n f. get_part w start 24 k n f h in
    let begin : start + 0 ≡ start = omega arith in
    seven names (field 0 1 (omega arith) ∙ ap (get_le 1 w) begin) (field 1 1 (omega arith)) (field 2 2 (omega arith)) (field 4 4 (omega arith))
    (field 8 8 (omega arith)) (field 16 4 (omega arith)) (field 20 2 (omega arith))

-- the n rows from command i on
rows_are : (names w : List ℕ) (n i : ℕ) → 16 + 24 * (i + n) ≤ length w
    → map (command names) (rows n 24 (drop (16 + 24 * i) w)) ≡ meant_from w names i n
unfolding rows span
rows_are names w zero i h = refl
rows_are names w (suc n) i h =
    let on : 16 + 24 * i + 24 ≡ 16 + 24 * suc i = omega arith in
    ap₂ ◌∷◌ (command_is names w i (omega arith))
    (ap (λ (r : List ℕ). map (command names) (rows n 24 r)) (drop-drop 24 (16 + 24 * i) w ∙ ap (λ (j : ℕ). drop j w) on) ∙ rows_are names w n (suc i) (omega arith))

-- What a batch in order says of itself.
pub order_is : (b : List ℕ) → batch_ok b ≡ true → (n_commands b ≤ 256) × (length b ≡ 16 + 24 * n_commands b + names_length b)
unfolding batch_ok
order_is b h =
    let C = n_commands b in let L = names_length b in
    let f = facts (eqb (get_le 2 b 0) 1 ∷ leb C 256 ∷ eqb (get_le 4 b 4) 16 ∷ eqb (get_le 4 b 8) (16 + 24 * C) ∷ leb L 16_384
    ∷ eqb (length b) (16 + 24 * C + L) ∷ []) h in
    (leb-true C 256 f.1.0, eqb-true (length b) (16 + 24 * C + L) f.1.1.1.1.1.0)

-- The commands of a batch in order are those at their places in its bytes.
pub commands_are : (b : List ℕ) → batch_ok b ≡ true
    → commands b ≡ map (λ i. meant_by (drop (16 + 24 * n_commands b) b) (command_n b i)) (span 0 (n_commands b))
unfolding commands
commands_are b h =
    let names = drop (16 + 24 * n_commands b) b in
    rows_are names b (n_commands b) 0 (omega (arith, (order_is b h).1))

-- each of them is as bytes give it
parsed_at : (c : ℕ → Command) (k n i : ℕ) → AllParsed (map c (span k n)) → i < n → Parsed (c (k + i))
unfolding span
parsed_at c k zero i a h = absurd (omega arith)
parsed_at c k (suc n) zero (and_then p a) h = let e : k ≡ k + 0 = omega arith in subst (λ (j : ℕ). Parsed (c j)) e p
parsed_at c k (suc n) (suc i) (and_then p a) h =
    let e : suc k + i ≡ k + suc i = omega arith in subst (λ (j : ℕ). Parsed (c j)) e (parsed_at c (suc k) n i a (omega arith))

-- ---- the door

-- refused or carried out, by the number of the refusal
batch_as : (p b a : List ℕ) (e : ℕ) → batch_refusal p b a ≡ e
    → batch p b a ≡ cond (eqb e 0) (carried_out p b a) (record { code = e; answered = 0; pool = p; answers = a })
unfolding batch
batch_as p b a e h = ap (λ (n : ℕ). cond (eqb n 0) (carried_out p b a) (record { code = n; answered = 0; pool = p; answers = a })) h

-- A batch that is not in order is refused,
pub batch_bad : (p b a : List ℕ) → batch_ok b ≡ false → batch p b a ≡ record { code = 2; answered = 0; pool = p; answers = a }
unfolding batch_refusal
batch_bad p b a h = batch_as p b a 2 (rw h refl)

-- then one with too little room for its answers,
pub batch_short : (p b a : List ℕ) → batch_ok b ≡ true → length a < 24 * n_commands b
    → batch p b a ≡ record { code = 3; answered = 0; pool = p; answers = a }
unfolding batch_refusal
batch_short p b a h s = batch_as p b a 3 (rw (h, lt-ltb (length a) (24 * n_commands b) s) refl)

-- then one on a pool that is not sound.
pub batch_unsound : (p b a : List ℕ) → batch_ok b ≡ true → 24 * n_commands b ≤ length a → sound p ≡ false
    → batch p b a ≡ record { code = 1; answered = 0; pool = p; answers = a }
unfolding batch_refusal
batch_unsound p b a h s u = batch_as p b a 1 (rw (h, le-ltb (length a) (24 * n_commands b) s, u) refl)

-- Every other is carried out.
pub batch_done : (p b a : List ℕ) → batch_ok b ≡ true → 24 * n_commands b ≤ length a → sound p ≡ true → batch p b a ≡ carried_out p b a
unfolding batch_refusal
batch_done p b a h s u = batch_as p b a 0 (rw (h, le-ltb (length a) (24 * n_commands b) s, u) refl)

-- what is left of pool and answers, from the head and the body
abbrev stored : List ℕ → Ran → List ℕ × List ℕ
stored front r = (store_n (front ++ r.0) r.1.1, r.1.0)

module _ (p b a : List ℕ) (pb : Bytes p) (bb : Bytes b) (h : batch_ok b ≡ true) (s : 24 * n_commands b ≤ length a) (u : sound p ≡ true) where
  abbrev names : List ℕ
  names = drop (16 + 24 * n_commands b) b

  -- the commands in turn from the pool that is read
  ran_image : ran_n (n_commands b) (body_of (read p)) b names a (head_of (read p)) ≡ meant_parts (begun (read p)) (commands b) [] (drop (24 * n_commands b) a)
  unfolding ran_n begun_n begun work_in mark_of
  ran_image =
      let C = n_commands b in
      let parsed = subst AllParsed (commands_are b h) (commands_parsed b bb) in
      run_image none (begun (read p)) (begun_good (read p) (sound_pool p pb u).0) b names a [] C 0 0 (replicate 256 no_entry) (length-replicate 256 no_entry)
      (omega arith) (omega (arith, (order_is b h).0)) closed (λ i. parsed_at (λ j. meant_by names (command_n b j)) 0 C i parsed) refl s
      ∙ ap (λ (cs : List Command). meant_parts (begun (read p)) cs [] (drop (24 * C) a)) (sym (commands_are b h))

  -- the pool that is left
  abbrev over : Pool
  over = ended (run (begun (read p)) (commands b)).state

  over_good : WellFormed over
  over_good =
      let g = begun_good (read p) (sound_pool p pb u).0 in
      let r = run_good none (begun (read p)) (commands b) (commands_parsed b bb) g in
      ended_good r.0 (run (begun (read p)) (commands b)).state r.1

  -- its bytes, stored over those of the pool that was lent
  over_stored : store_n (take (32 + 8 * n_trees p) p ++ body_of over) (head_of over) ≡ bytes over
  unfolding begun
  over_stored =
      let q = read p in
      let k = sound_pool p pb u in
      let n = batch_sizes (begun q) (commands b) in
      let trees : n_trees p ≡ length q.trees = ap n_trees (sym k.1) ∙ (written_header q k.0).trees_are in
      ap₂ (λ (t : ℕ) (l : List ℕ). store_n (take (32 + 8 * t) l ++ body_of over) (head_of over)) trees (sym k.1)
      ∙ store_image q over k.0 over_good (sym n.slots) (sym n.trees) (sym n.size)

-- A batch that is carried out on the head and the body of the pool, then stored, leaves pool and answers as the door says.
pub batch_image : (p b a : List ℕ) → Bytes p → Bytes b → batch_ok b ≡ true → 24 * n_commands b ≤ length a → sound p ≡ true
    → (let C = n_commands b in
    let at = 32 + 8 * n_trees p in
    let r = ran_n C (drop at p) b (drop (16 + 24 * C) b) a (load_n p (live_count (read p)) (free_slot (read p))) in
    ◌≡◌ {A = List ℕ × List ℕ} (store_n (take at p ++ r.0) r.1.1, r.1.0) ((batch p b a).pool, (batch p b a).answers))
unfolding carried_out
batch_image p b a pb bb h s u =
    let C = n_commands b in
    let at = 32 + 8 * n_trees p in
    let ran =
    ap₂ (λ (m : List ℕ) (x : Head). ran_n C m b (drop (16 + 24 * C) b) a x) (body_read p pb u) (load_read p pb u) ∙ ran_image p b a pb bb h s u in
    ap (stored (take at p)) ran
    ∙ ap (λ (l : List ℕ). (l, (run (begun (read p)) (commands b)).answers ++ drop (24 * C) a)) (over_stored p b a pb bb h s u)
    ∙ ap (λ (o : Outcome). (o.pool, o.answers)) (sym (batch_done p b a h s u))
