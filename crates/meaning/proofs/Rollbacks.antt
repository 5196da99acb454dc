-- Between a mark and its close: the state leads back to the pool at the mark, and the stamps handed out in between are those of no record that a
-- rollback gives back. Assumes nothing.
use Rattle.std.proofs.Common.{◌≡◌, ℕ, suc, ◌<◌, ◌≤◌, List, [], ◌∷◌, ◌++◌, sym, ap, ◌∙◌, subst, append_assoc, arith}
use Rattle.std.proofs.Math.Option.{Option, none, some}
use Rattle.meaning.specs.Pool.{Pool}
use Rattle.meaning.specs.Cursor.{Command, State, tree_of}
use Rattle.meaning.specs.Command.{refusal, perform}
use Rattle.meaning.specs.Doors.{run, ended}
use Rattle.meaning.specs.Calls.{Point, state_after, Inside, Marked, AddedBetween}
use Rattle.meaning.specs.States.{GoodState, Parsed}
use Rattle.meaning.proofs.Adding.{adding_ok}
use Rattle.meaning.proofs.Batches.{AllParsed, and_then}
use Rattle.meaning.proofs.Histories.{ended_keeps}
use Rattle.meaning.proofs.Bindings.{added_next, next_keeps, Only, no_mark, Bound, restored_only}
use Rattle.meaning.proofs.Doing.{adds_shown}
use Rattle.meaning.proofs.Marks.{mark_good, inside_good, ended_restored}
use Rattle.meaning.proofs.Points.{parsed_parts, later_keeps, point_good, point_parsed, point_on, state_on}
use Rattle.meaning.proofs.StaleHandles.{Nothing}

-- ---- over states

module _ (w : Option Pool) (s : State) (g : GoodState w s) (m : Command) (is_mark : m.op ≡ 26) (done : refusal s m ≡ 0) (parsed : Parsed m)
    (between : List Command) (all_parsed : AllParsed between) (inside : Inside between) where
  -- The state before the close leads back to the pool at the mark.
  pub open_good : GoodState (some s.pool) (run (perform s m).state between).state
  open_good = inside_good s.pool (perform s m).state between all_parsed inside (mark_good w s m parsed g is_mark done)

-- ---- over bytes

-- the first of parsed commands is parsed
first_parsed : {c : Command} {cs : List Command} → AllParsed (c ∷ cs) → Parsed c
first_parsed (and_then h hs) = h

module _ {b w a : List ℕ} {before : List Command} {m : Command} {between rest : List Command} (k : Marked b w a before m between rest) where
  -- The state before the close leads back to the pool at the mark.
  pub open_at : GoodState (some (state_after b before).pool) (state_after b (before ++ (m ∷ between)))
  unfolding run
  open_at = go (point_parsed k.point)
    where
      go : AllParsed (m ∷ (between ++ rest)) → GoodState (some (state_after b before).pool) (state_after b (before ++ (m ∷ between)))
      go (and_then h hs) =
          subst (GoodState (some (state_after b before).pool)) (sym (state_on b before (m ∷ between)))
          (open_good (point_good k.point).0 (state_after b before) (point_good k.point).1 m k.is_mark k.done h between
          (parsed_parts between rest hs).0 k.inside)

  -- The point before the close.
  pub open_point : Point b w a (before ++ (m ∷ between)) rest
  open_point = point_on (m ∷ between) k.point

  -- A stamp handed out since the mark is one of no record at the mark.
  pub new_only : (x g : ℕ) → (state_after b before).pool.next ≤ g → Only x g Nothing (state_after b before).pool
  new_only x g low = record { only = λ r e s. omega (arith, ((point_good k.point).1.pool.recs x r e).stamp_high, s, low) }

  -- Nor is it one of a record that the close gives back.
  pub new_bound : (x g : ℕ) → (state_after b before).pool.next ≤ g → g < (state_after b (before ++ (m ∷ between))).pool.next
      → Bound x g Nothing none (ended (state_after b (before ++ (m ∷ between))))
  new_bound x g low high =
      let u = state_after b (before ++ (m ∷ between)) in
      let next = ended_keeps (next_keeps (suc g)) u
      (record { at_mark = some (state_after b before).pool; good = open_at; has = record { next = high } }) in
      record {
        handed_out = next.next;
        now = restored_only (ended_restored (state_after b before).pool u open_at) (new_only x g low);
        marked = no_mark;
      }

  -- The stamp of a record added in between was handed out in between.
  pub added_range : {x g : ℕ} → AddedBetween b before m between x g
      → ((state_after b before).pool.next ≤ g) × (g < (state_after b (before ++ (m ∷ between))).pool.next)
  unfolding run
  added_range {x} {g} d =
      let c = d.command in
      let v = state_after b (before ++ (m ∷ d.first)) in
      let start = k.point in
      let here : Point b w a before ((m ∷ d.first) ++ (c ∷ (d.others ++ rest))) = record {
        pool_bytes = start.pool_bytes;
        batch_bytes = start.batch_bytes;
        done = start.done;
        split = start.split ∙ ap (λ (l : List Command). before ++ (m ∷ l))
            (ap (λ (l : List Command). l ++ rest) d.split ∙ append_assoc d.first (c ∷ d.others) rest);
      } in
      let at_add = point_on (m ∷ d.first) here in
      let good = point_good at_add in
      let low = later_keeps (next_keeps (state_after b before).pool.next) here
      (record { at_mark = (point_good here).0; good = (point_good here).1; has = record { next = omega arith } }) (m ∷ d.first)
      (c ∷ (d.others ++ rest)) here.split in
      let can = adding_ok good.0 v c (first_parsed (point_parsed at_add)) good.1 d.adds d.done in
      let shown = adds_shown v c good.1.pool can d.adds d.done in
      let is : g ≡ v.pool.next = sym d.stamp_shown ∙ shown.stamp in
      let added : (perform v c).state.pool.next ≡ suc v.pool.next =
      ap (λ (p : Pool). p.next) shown.pool ∙ added_next v.pool (tree_of v c) c.key c.name can in
      let after = point_on (c ∷ []) at_add in
      let next : (state_after b ((before ++ (m ∷ d.first)) ++ (c ∷ []))).pool.next ≡ suc v.pool.next =
      ap (λ (s : State). s.pool.next) (state_on b (before ++ (m ∷ d.first)) (c ∷ [])) ∙ added in
      let high = later_keeps (next_keeps (suc g)) after
      (record { at_mark = (point_good after).0; good = (point_good after).1; has = record { next = omega (arith, next, is) } }) d.others rest
      after.split in
      let all : ((before ++ (m ∷ d.first)) ++ (c ∷ [])) ++ d.others ≡ before ++ (m ∷ between) =
      append_assoc (before ++ (m ∷ d.first)) (c ∷ []) d.others
      ∙ append_assoc before (m ∷ d.first) (c ∷ d.others)
      ∙ ap (λ (l : List Command). before ++ (m ∷ l)) (sym d.split) in
      (omega (arith, is, low.has.next), subst (λ (l : List Command). suc g ≤ (state_after b l).pool.next) all high.has.next)
