-- Demand 2. What a sound pool means: for each tree a list of entries, sorted by distinct keys, with slot, stamp and name. Here: the lists and the numbers
-- tied to them, and that every command of a batch begins in a state to which the laws of single commands apply. Those are in Demand2Looks (what is shown),
-- Demand2Changes (what is added and removed), Demand2Shapes (the trees), Demand2Codes and Demand2Handles (when it
-- is refused). Assumes nothing.
use Rattle.std.proofs.Common.{◌≡◌, ℕ, ◌*◌, ◌<◌, ◌≤◌, Bool, true, cond, List, [], ◌∷◌, ◌++◌, map, length, drop, sym, ap, ◌∙◌, subst, arith, eq-eqb}
use Rattle.std.proofs.Math.Option.{Option, some}
use Rattle.std.proofs.lemmas.List.{length-map}
use Rattle.fields.specs.Number.{Bytes}
use Rattle.fields.specs.Part.{part}
use Rattle.avl.specs.Tree.{left, top, list, Balanced}
use Rattle.avl.specs.Order.{All, nil, more, Sorted, rise, LessKey}
use Rattle.meaning.specs.Layout.{at}
use Rattle.meaning.specs.Pool.{Rec, Pool, rec_at, tree_at, key_at, links_at, entry_bytes, record_rows, bytes, n_trees, n_live, root_of, count_of, entries, records, read}
use Rattle.meaning.specs.Sound.{sound}
use Rattle.meaning.specs.Cursor.{Command, State}
use Rattle.meaning.specs.Command.{perform}
use Rattle.meaning.specs.Doors.{n_commands, commands, run, begun, ended, batch_refusal, Outcome, carried_out, batch}
use Rattle.meaning.specs.WellFormed.{WellFormed}
use Rattle.meaning.specs.Meant.{Entry, entries_of, total}
use Rattle.meaning.specs.States.{GoodState, Parsed}
use Rattle.meaning.specs.Demands.{RowSays, SameSizes, InTurn}
use Rattle.meaning.proofs.Batches.{AllParsed, commands_parsed, begun_good, run_good, ended_good}
use Rattle.meaning.proofs.Commands.{perform_good}
use Rattle.meaning.proofs.Demand1Doors.{batch_allowed}
use Rattle.meaning.proofs.Entries.{entry_at, entry_key_lem, any_sorted}
use Rattle.meaning.proofs.Packed.{HeaderSays, entry_at_lem, written_header, written_entries, written_records}
use Rattle.meaning.proofs.Pools.{sound_pool, good_state}
use Rattle.meaning.proofs.Rows.{live_row, root_is, count_is}
use Rattle.meaning.proofs.Sizes.{command_sizes, batch_sizes}
use Rattle.meaning.proofs.Totals.{live_total}
use Rattle.meaning.proofs.Turns.{answers_long, turn_state, turn_part, parsed_split, commands_many}

-- ---- the lists

keys_of : (p : Pool) (w : List ℕ) → Sorted (LessKey (key_at p)) w → Sorted (λ x y. x < y) (map (λ (e : Entry). e.key) (map (entry_at p) w))
keys_of p [] nil = nil
keys_of p (x ∷ w) (rise a s) = rise (above w a) (keys_of p w s)
  where
    above : (w : List ℕ) → All (λ y. key_at p x < key_at p y) w → All (λ k. (entry_at p x).key < k) (map (λ (e : Entry). e.key) (map (entry_at p) w))
    above [] nil = nil
    above (y ∷ w) (more h a) = more {x = (entry_at p y).key} (omega (arith, h, entry_key_lem p x, entry_key_lem p y)) (above w a)

-- A sound pool is the bytes of the state that it is read as, and that state is well-formed: its lists are what the pool means.
pub sound_means : (pool : List ℕ) → Bytes pool → sound pool ≡ true → WellFormed (read pool) × (bytes (read pool) ≡ pool)
sound_means pool is_bytes is_sound = sound_pool pool is_bytes is_sound

-- Each tree's list is sorted strictly by key: each key is below every later one, so no two are equal.
pub keys_rise : (p : Pool) → WellFormed p → (t : ℕ) → Sorted (λ x y. x < y) (map (λ (e : Entry). e.key) (entries_of p t))
unfolding entries_of
keys_rise p good t = keys_of p (list left (tree_at p t)) (any_sorted p good t)

-- ---- the counts

module _ (pool : List ℕ) (is_bytes : Bytes pool) (is_sound : sound pool ≡ true) where
  -- The live records that the header of a sound pool counts are as many as the entries of all its trees' lists.
  pub live_is : n_live pool ≡ total (read pool) 1 (n_trees pool)
  live_is =
      let q = sound_pool pool is_bytes is_sound in
      let h = subst (HeaderSays (read pool)) q.1 (written_header (read pool) q.0) in
      h.live_are ∙ live_total (read pool) q.0 ∙ ap (total (read pool) 1) (sym h.trees_are)

  entries_are : entries pool ≡ map entry_bytes (read pool).trees
  entries_are = let q = sound_pool pool is_bytes is_sound in subst (λ (c : List ℕ). entries c ≡ map entry_bytes (read pool).trees) q.1 (written_entries (read pool) q.0)

  -- The count of a tree's entry is the length of its list.
  pub count_of_tree : (t : ℕ) → 1 ≤ t → t ≤ n_trees pool → count_of (at [] (entries pool) t) ≡ length (entries_of (read pool) t)
  unfolding entries_of
  count_of_tree t low high =
      let p = read pool in
      let q = sound_pool pool is_bytes is_sound in
      let trees = (subst (HeaderSays p) q.1 (written_header p q.0)).trees_are in
      ap (λ (es : List (List ℕ)). count_of (at [] es t)) entries_are
      ∙ ap count_of (entry_at_lem p t low (omega arith))
      ∙ count_is p t q.0 low (omega arith)
      ∙ sym (length-map (list left (tree_at p t)) (entry_at p))

  -- The links and the balance that a record stores are those of its place in its tree, with its key, stamp and name.
  pub links_of_record : (slot : ℕ) (r : Rec) → rec_at (read pool) slot ≡ some r → RowSays (at [] (records pool) slot) r (links_at (read pool) r.tree slot)
  links_of_record slot r e =
      let p = read pool in
      let q = sound_pool pool is_bytes is_sound in
      let all : records pool ≡ record_rows p 1 p.slots = subst (λ (c : List ℕ). records c ≡ record_rows p 1 p.slots) q.1 (written_records p q.0) in
      subst (λ (rs : List (List ℕ)). RowSays (at [] rs slot) r (links_at p r.tree slot)) (sym all) (live_row p slot r q.0 e)

  -- The root that a tree's entry stores is the slot at the top of the tree.
  pub root_of_tree : (t : ℕ) → 1 ≤ t → t ≤ n_trees pool → root_of (at [] (entries pool) t) ≡ top (tree_at (read pool) t)
  root_of_tree t low high =
      let p = read pool in
      let q = sound_pool pool is_bytes is_sound in
      let trees = (subst (HeaderSays p) q.1 (written_header p q.0)).trees_are in
      ap (λ (es : List (List ℕ)). root_of (at [] es t)) entries_are
      ∙ ap root_of (entry_at_lem p t low (omega arith)) ∙ root_is p t q.0 low (omega arith)

-- ---- a batch

-- A batch that is not refused answers all of its commands, in a row, and leaves the answers' other bytes as they were; its pool is what the commands
-- leave in turn, after the rollback of a mark that is still open.
pub batch_done : (pool request answers : List ℕ) → batch_refusal pool request answers ≡ 0
    → let r = run (begun (read pool)) (commands request) in
    batch pool request answers ≡ record { code = 0; answered = n_commands request; pool = bytes (ended r.state); answers = r.answers ++ drop (24 * n_commands request) answers }
unfolding batch carried_out
batch_done pool request answers z =
    ap (λ (c : Bool). cond c (carried_out pool request answers) (record { code = batch_refusal pool request answers; answered = 0; pool = pool; answers = answers })) (eq-eqb (batch_refusal pool request answers) 0 z)

-- The number answered is C, the number of commands, and the answers are 24 bytes for each.
pub answered_is : (pool request answers : List ℕ) → batch_refusal pool request answers ≡ 0
    → ((batch pool request answers).answered ≡ length (commands request)) × (length (run (begun (read pool)) (commands request)).answers ≡ 24 * (batch pool request answers).answered)
answered_is pool request answers z =
    let n : (batch pool request answers).answered ≡ length (commands request) = ap (λ (o : Outcome). o.answered) (batch_done pool request answers z) ∙ sym (commands_many request) in
    (n, answers_long (begun (read pool)) (commands request) ∙ ap (λ (m : ℕ). 24 * m) (sym n))

-- Every command of a batch is performed in turn, in the state that the commands before it left.
pub in_turn : (pool request answers : List ℕ) → Bytes pool → Bytes request → batch_refusal pool request answers ≡ 0 → (before : List Command) (c : Command) (behind : List Command)
    → commands request ≡ before ++ (c ∷ behind) → InTurn pool request answers before c behind
unfolding run
in_turn pool request answers bb bw z before c behind e =
    let s = begun (read pool) in
    let ok = ((batch_allowed pool request answers).0 z).2 in
    let k = parsed_split before c behind (subst AllParsed e (commands_parsed request bw)) in
    let g = run_good _ s before k.0 (begun_good (read pool) (sound_pool pool bb ok).0) in
    record {
      mark = g.0;
      good = g.1;
      parsed = k.1;
      answer =
          ap (λ (o : Outcome). part o.answers (24 * length before) 24) (batch_done pool request answers z)
          ∙ ap (λ (cs : List Command). part ((run s cs).answers ++ drop (24 * n_commands request) answers) (24 * length before) 24) e
          ∙ turn_part s before c behind (drop (24 * n_commands request) answers);
      goes_on = ap (λ (cs : List Command). (run s cs).state) e ∙ turn_state s before (c ∷ behind);
    }

-- The pool that a batch leaves is sound and means the state at its end; so the laws above on live records and counts hold of it.
pub batch_means : (pool request answers : List ℕ) → Bytes pool → Bytes request → batch_refusal pool request answers ≡ 0
    → let p = ended (run (begun (read pool)) (commands request)).state in
    WellFormed p × (read (batch pool request answers).pool ≡ p) × (sound (batch pool request answers).pool ≡ true) × Bytes (batch pool request answers).pool
batch_means pool request answers bb bw z =
    let ok = ((batch_allowed pool request answers).0 z).2 in
    let g = run_good _ (begun (read pool)) (commands request) (commands_parsed request bw) (begun_good (read pool) (sound_pool pool bb ok).0) in
    let good = ended_good g.0 _ g.1 in
    let i = ap (λ (o : Outcome). o.pool) (batch_done pool request answers z) in
    (good, ap read i ∙ (good_state _ good).2, ap sound i ∙ (good_state _ good).1, subst Bytes (sym i) (good_state _ good).0)

-- No command changes how many slots and trees there are, nor how much text the pool can hold;
pub sizes_stay : (s : State) (c : Command) → SameSizes s.pool (perform s c).state.pool
sizes_stay s c = command_sizes s c

-- so no batch does.
pub batch_sizes_stay : (pool request : List ℕ) → SameSizes (read pool) (ended (run (begun (read pool)) (commands request)).state)
unfolding begun
batch_sizes_stay pool request = batch_sizes (begun (read pool)) (commands request)

-- ---- balance

-- Every command leaves every tree balanced: it leaves a good state, and so do all in turn.
pub balanced_after : (origin : Option Pool) (s : State) (c : Command) → Parsed c → GoodState origin s → (t : ℕ) → 1 ≤ t → t ≤ length (perform s c).state.pool.trees
    → Balanced (tree_at (perform s c).state.pool t)
balanced_after origin s c parsed g t low high = ((perform_good origin s c parsed g).pool.trees t low high).balanced

-- Every tree of a sound pool is balanced, with the balances that its records store; by `batch_means` that is so of the pool that a batch leaves.
pub balanced_pool : (pool : List ℕ) → Bytes pool → sound pool ≡ true → (t : ℕ) → 1 ≤ t → t ≤ length (read pool).trees → Balanced (tree_at (read pool) t)
balanced_pool pool is_bytes is_sound t low high = ((sound_pool pool is_bytes is_sound).0.trees t low high).balanced
