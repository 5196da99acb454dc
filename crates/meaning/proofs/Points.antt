-- Points of a batch and door calls over bytes: what every act keeps holds at every later point of the batch, of the pool that the batch leaves, and
-- after any door calls at every point of every batch. Assumes nothing.
use Rattle.std.proofs.Common.{◌≡◌, ℕ, ◌*◌, Bool, true, false, cond, eqb, ltb, List, [], ◌∷◌, ◌++◌, length, sym, refl, ap, ◌∙◌, subst, append_assoc, arith, eqb-true}
use Rattle.std.proofs.Math.Option.{Option, none}
use Rattle.std.proofs.lemmas.Bool.{eqb-false}
use Rattle.fields.specs.Number.{Bytes}
use Rattle.meaning.specs.Pool.{Pool, bytes, read}
use Rattle.meaning.specs.Sound.{sound}
use Rattle.meaning.specs.Cursor.{Command, State}
use Rattle.meaning.specs.Command.{perform}
use Rattle.meaning.specs.Doors.{create, sizes_ok, n_commands, batch_ok, commands, run, begun, ended, batch_refusal, carried_out, batch}
use Rattle.meaning.specs.WellFormed.{WellFormed}
use Rattle.meaning.specs.Calls.{Calls, no_call, then_batch, then_name, then_check, then_refused_create, Point, state_after}
use Rattle.meaning.specs.States.{GoodState}
use Rattle.meaning.proofs.Facts.{test}
use Rattle.meaning.proofs.Batches.{AllParsed, none_left, and_then, commands_parsed, begun_good, ended_good}
use Rattle.meaning.proofs.Pools.{sound_pool, good_state}
use Rattle.meaning.proofs.Histories.{Keeps, With, run_keeps, ended_keeps}

-- ---- rows of commands

-- Commands run in two parts.
run_append : (s : State) (cs ds : List Command) → (run s (cs ++ ds)).state ≡ (run (run s cs).state ds).state
unfolding run
run_append s [] ds = refl
run_append s (c ∷ cs) ds = run_append (perform s c).state cs ds

-- Both parts of parsed commands are.
pub parsed_parts : (cs ds : List Command) → AllParsed (cs ++ ds) → AllParsed cs × AllParsed ds
parsed_parts [] ds h = (none_left, h)
parsed_parts (c ∷ cs) ds (and_then p ps) = let h = parsed_parts cs ds ps in (and_then p h.0, h.1)

-- ---- one batch

-- a batch that is not refused: the pool was sound, and is left as what its commands and its end leave
record CarriedOut (b w a : List ℕ) : Type 0 where
  was_sound : sound b ≡ true
  leaves : (batch b w a).pool ≡ bytes (ended (run (begun (read b)) (commands w)).state)

not_refused : (b w a : List ℕ) → batch_refusal b w a ≡ 0 → sound b ≡ true
unfolding batch_refusal
not_refused b w a = go (batch_ok w) (ltb (length a) (24 * n_commands w)) (sound b)
  where
    go : (x y z : Bool) → ◌≡◌ {A = ℕ} (cond x (cond y 3 (cond z 0 1)) 2) 0 → z ≡ true
    go true true z h = absurd (omega (arith, h))
    go true false true h = refl
    go true false false h = absurd (omega (arith, h))
    go false y z h = absurd (omega (arith, h))

-- A batch whose code is 0 is carried out.
batch_done : (b w a : List ℕ) → (batch b w a).code ≡ 0 → CarriedOut b w a
unfolding batch carried_out
batch_done b w a h =
    test (eqb (batch_refusal b w a) 0)
    (λ t. record { was_sound = not_refused b w a (eqb-true (batch_refusal b w a) 0 t); leaves = rw t })
    (λ t. absurd (eqb-false (batch_refusal b w a) 0 t (rw t at h)))

-- Any other leaves the pool.
batch_refused : (b w a : List ℕ) → ((batch b w a).code ≡ 0 → ⊥) → (batch b w a).pool ≡ b
unfolding batch carried_out
batch_refused b w a h = test (eqb (batch_refusal b w a) 0) (λ t. absurd (h (rw t))) (λ t. rw t)

-- A refused create leaves the buffer.
create_refused : (N T X : ℕ) (b : List ℕ) → ((create N T X b).code ≡ 0 → ⊥) → (create N T X b).buffer ≡ b
unfolding create
create_refused N T X b h = test (sizes_ok N T X b) (λ t. absurd (h (rw t))) (λ t. rw t)

-- ---- what every act keeps

-- a sound pool of bytes whose state has the property
pub record Stored (Q : Option Pool → Pool → Type 0) (b : List ℕ) : Type 0 where
  pub are_bytes : Bytes b
  pub is_sound : sound b ≡ true
  pub has : Q none (read b)

-- a well-formed state with the property, written
pub written : (Q : Option Pool → Pool → Type 0) (p : Pool) → WellFormed p → Q none p → Stored Q (bytes p)
written Q p w q = let g = good_state p w in record { are_bytes = g.0; is_sound = g.1; has = subst (Q none) (sym g.2) q }

-- A batch on such a pool begins in a good state with the property.
begun_with : {Q : Option Pool → Pool → Type 0} (b : List ℕ) → Stored Q b → With Q (begun (read b))
unfolding begun
begun_with b h = record { at_mark = none; good = begun_good (read b) (sound_pool b h.are_bytes h.is_sound).0; has = h.has }

module _ {Q : Option Pool → Pool → Type 0} (k : Keeps Q) where
  -- What a batch that ends in such a state leaves.
  ended_stored : (s : State) → With Q s → Stored Q (bytes (ended s))
  ended_stored s h = written Q (ended s) (ended_good h.at_mark s h.good) (ended_keeps k s h)

  -- It holds at every point of a batch on a pool that has it.
  pub point_keeps : {b w a : List ℕ} {before rest : List Command} → Stored Q b → Point b w a before rest → With Q (state_after b before)
  unfolding state_after
  point_keeps {b} {w} {a} {before} {rest} h p =
      let parsed = (parsed_parts before rest (subst AllParsed p.split (commands_parsed w p.batch_bytes))).0 in
      run_keeps k (begun (read b)) before parsed (begun_with b h)

  -- From a point on it holds at every later point of the batch.
  pub later_keeps : {b w a : List ℕ} {before rest : List Command} → Point b w a before rest → With Q (state_after b before)
      → (more rest' : List Command) → commands w ≡ before ++ (more ++ rest') → With Q (state_after b (before ++ more))
  unfolding state_after
  later_keeps {b} {w} {before = before} p h more rest' e =
      let parsed = (parsed_parts before (more ++ rest') (subst AllParsed e (commands_parsed w p.batch_bytes))).1 in
      subst (With Q) (sym (run_append (begun (read b)) before more))
      (run_keeps k (run (begun (read b)) before).state more (parsed_parts more rest' parsed).0 h)

  -- It holds of the pool that the batch leaves.
  pub batch_keeps : {b w a : List ℕ} {before rest : List Command} → Point b w a before rest → With Q (state_after b before)
      → Stored Q (batch b w a).pool
  unfolding state_after
  batch_keeps {b} {w} {a} {before} {rest} p h =
      let parsed = (parsed_parts before rest (subst AllParsed p.split (commands_parsed w p.batch_bytes))).1 in
      let end = (run (begun (read b)) before).state in
      let left : (batch b w a).pool ≡ bytes (ended (run end rest).state) =
      (batch_done b w a p.done).leaves
      ∙ ap (λ (cs : List Command). bytes (ended (run (begun (read b)) cs).state)) p.split
      ∙ ap (λ (s : State). bytes (ended s)) (run_append (begun (read b)) before rest) in
      subst (Stored Q) (sym left) (ended_stored (run end rest).state (run_keeps k end rest parsed h))

  -- It holds of a pool after any door calls.
  pub calls_keep : {b c : List ℕ} → Stored Q b → Calls b c → Stored Q c
  unfolding state_after run
  calls_keep h no_call = h
  calls_keep h (then_batch {later = c} l w a v) =
      let now = calls_keep h l in
      test (eqb (batch c w a).code 0)
      (λ t.
      batch_keeps {before = []} {rest = commands w}
      (record { pool_bytes = now.are_bytes; batch_bytes = v; done = eqb-true (batch c w a).code 0 t; split = refl }) (begun_with c now))
      (λ t. subst (Stored Q) (sym (batch_refused c w a (eqb-false (batch c w a).code 0 t))) now)
  calls_keep h (then_name l t x g) = calls_keep h l
  calls_keep h (then_check l) = calls_keep h l
  calls_keep h (then_refused_create {later = c} l N T X n) = subst (Stored Q) (sym (create_refused N T X c n)) (calls_keep h l)

-- ---- the state at a point

-- no property
pub record Anything (w : Option Pool) (p : Pool) : Type 0 where

anything_keeps : Keeps Anything
anything_keeps = record {
  forward = record {
    takes = λ w p x r g e h. record {};
    adds = λ w p t k name g a h. record {};
    opens = λ w p g h. record {};
    shuts = λ w p h. record {};
    empties = λ w p h. record {};
  };
  restores = λ p₀ p q r e h. record {};
}

module _ {b w a : List ℕ} {before rest : List Command} (p : Point b w a before rest) where
  -- A batch that has a point is carried out on a sound pool.
  pub point_stored : (Q : Option Pool → Pool → Type 0) → Q none (read b) → Stored Q b
  point_stored Q q = record { are_bytes = p.pool_bytes; is_sound = (batch_done b w a p.done).was_sound; has = q }

  -- At every point of a batch the state is good.
  pub point_good : (v : Option Pool) × GoodState v (state_after b before)
  point_good = let h = point_keeps anything_keeps (point_stored Anything (record {})) p in (h.at_mark, h.good)

  -- The batch leaves a sound pool of bytes.
  pub batch_stored : Stored Anything (batch b w a).pool
  batch_stored = batch_keeps anything_keeps p (point_keeps anything_keeps (point_stored Anything (record {})) p)

  -- The commands after it are parsed ones.
  pub point_parsed : AllParsed rest
  point_parsed = (parsed_parts before rest (subst AllParsed p.split (commands_parsed w p.batch_bytes))).1

  -- The batch leaves the state after its last command, ended.
  pub point_leaves : (batch b w a).pool ≡ bytes (ended (state_after b (before ++ rest)))
  unfolding state_after
  point_leaves = (batch_done b w a p.done).leaves ∙ ap (λ (cs : List Command). bytes (ended (run (begun (read b)) cs).state)) p.split

-- A point further on.
pub point_on : {b w a : List ℕ} {before rest : List Command} (more : List Command) → Point b w a before (more ++ rest)
    → Point b w a (before ++ more) rest
point_on {before = before} {rest = rest} more p = record {
  pool_bytes = p.pool_bytes;
  batch_bytes = p.batch_bytes;
  done = p.done;
  split = p.split ∙ sym (append_assoc before more rest);
}

-- The state there.
pub state_on : (b : List ℕ) (before more : List Command) → state_after b (before ++ more) ≡ (run (state_after b before) more).state
unfolding state_after
state_on b before more = run_append (begun (read b)) before more
