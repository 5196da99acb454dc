-- Demand 3: a rollback, by command or at the batch's end, gives back what the pool held at the mark, and every handle handed out in between is
-- refused from then on. Over the bytes that the doors are lent and leave, and over what a batch means; Calls has the words. Assumes nothing.
use Rattle.std.proofs.Common.{◌≡◌, ℕ, ◌<◌, ◌≤◌, List, [], ◌∷◌, ◌++◌, sym, ap, ◌∙◌, subst, append-nil}
use Rattle.std.proofs.Math.Option.{Option, none, some}
use Rattle.meaning.specs.Pool.{Pool, bytes, read}
use Rattle.meaning.specs.Change.{rolled_back}
use Rattle.meaning.specs.Cursor.{Command, State}
use Rattle.meaning.specs.Command.{refusal, perform}
use Rattle.meaning.specs.Doors.{run, ended, batch}
use Rattle.meaning.specs.Calls.{Calls, state_after, Inside, Marked, SameContents, AddedBetween, RefusedOn, RefusedFrom}
use Rattle.meaning.specs.States.{GoodState, Parsed}
use Rattle.meaning.proofs.Batches.{AllParsed, ended_good}
use Rattle.meaning.proofs.Pools.{good_state}
use Rattle.meaning.proofs.Bindings.{Bound, shut_bound}
use Rattle.meaning.proofs.Doing.{rolls_back}
use Rattle.meaning.proofs.Marks.{restored_same, ended_restored, rollback_done}
use Rattle.meaning.proofs.Points.{point_good, point_leaves, point_on, state_on, written, Stored}
use Rattle.meaning.proofs.Rollbacks.{open_good, open_at, open_point, new_bound, added_range}
use Rattle.meaning.proofs.StaleHandles.{Nothing}
use Rattle.meaning.proofs.Reach.{refused_from, refused_after}

-- ---- over states: from any good state, whatever came before it

module _ (origin : Option Pool) (s : State) (good : GoodState origin s) (mark : Command) (is_mark : mark.op ≡ 26) (done : refusal s mark ≡ 0) (parsed : Parsed mark)
    (between : List Command) (all_parsed : AllParsed between) (inside : Inside between) where
  -- A rollback at the batch's end gives back the contents of the pool at the mark.
  pub end_gives_back : SameContents s.pool (ended (run (perform s mark).state between).state)
  end_gives_back =
      restored_same (ended_restored s.pool (run (perform s mark).state between).state
      (open_good origin s good mark is_mark done parsed between all_parsed inside))

  -- A rollback by command is done, leaves no mark open, and gives back the contents of the pool at the mark.
  pub command_gives_back : (back : Command) → back.op ≡ 27 → let u = (run (perform s mark).state between).state in
      (refusal u back ≡ 0) × ((perform u back).state.mark ≡ none) × SameContents s.pool (perform u back).state.pool
  command_gives_back back e =
      let u = (run (perform s mark).state between).state in
      let z = rollback_done s.pool u back (open_good origin s good mark is_mark done parsed between all_parsed inside) e in
      let l = rolls_back u back z e in
      (z, l.mark, subst (SameContents s.pool) (sym l.pool) end_gives_back)

-- ---- over bytes, closed by command

module _ {pool request answers : List ℕ} {before : List Command} {mark : Command} {between : List Command} {back : Command} {rest : List Command}
    (k : Marked pool request answers before mark between (back ∷ rest)) (e : back.op ≡ 27) where
  -- The rollback is answered as done.
  pub rollback_is_done : refusal (state_after pool (before ++ (mark ∷ between))) back ≡ 0
  rollback_is_done = rollback_done (state_after pool before).pool (state_after pool (before ++ (mark ∷ between))) back (open_at k) e

  -- After it the pool has the contents that it had at the mark, and no mark is open.
  pub rollback_gives_back : let t = state_after pool ((before ++ (mark ∷ between)) ++ (back ∷ [])) in
      SameContents (state_after pool before).pool t.pool × (t.mark ≡ none)
  unfolding run
  rollback_gives_back =
      let u = state_after pool (before ++ (mark ∷ between)) in
      let l = rolls_back u back rollback_is_done e in
      let same = restored_same (ended_restored (state_after pool before).pool u (open_at k)) in
      subst (λ (t : State). SameContents (state_after pool before).pool t.pool × (t.mark ≡ none))
      (sym (state_on pool (before ++ (mark ∷ between)) (back ∷ [])))
      (subst (SameContents (state_after pool before).pool) (sym l.pool) same, l.mark)

  -- Every handle whose stamp was handed out between the mark and the rollback is refused from then on: by the rest of the batch, and over any door
  -- calls by every later batch and by name.
  pub new_refused : (slot stamp : ℕ) → (state_after pool before).pool.next ≤ stamp → stamp < (state_after pool (before ++ (mark ∷ between))).pool.next
      → RefusedFrom pool request answers ((before ++ (mark ∷ between)) ++ (back ∷ [])) slot stamp
  unfolding run
  new_refused slot stamp low high =
      let u = state_after pool (before ++ (mark ∷ between)) in
      let p = point_on {rest = rest} (back ∷ []) (open_point k) in
      let t = state_after pool ((before ++ (mark ∷ between)) ++ (back ∷ [])) in
      let same : t.pool ≡ ended u =
      ap (λ (s : State). s.pool) (state_on pool (before ++ (mark ∷ between)) (back ∷ [])) ∙ (rolls_back u back rollback_is_done e).pool in
      refused_from p (shut_bound (point_good p).0 t (point_good p).1 rollback_gives_back.1
      (subst (Bound slot stamp Nothing none) (sym same) (new_bound k slot stamp low high)))

  -- So is the handle of every record added in between.
  pub added_refused : {slot stamp : ℕ} → AddedBetween pool before mark between slot stamp → RefusedFrom pool request answers ((before ++ (mark ∷ between)) ++ (back ∷ [])) slot stamp
  added_refused {slot} {stamp} added = let h = added_range k added in new_refused slot stamp h.0 h.1

-- Where the rollback is the batch's last command, the pool that the batch leaves has the contents that the pool had at the mark.
pub rollback_gives_back_bytes : {pool request answers : List ℕ} {before : List Command} {mark : Command} {between : List Command} {back : Command}
    → Marked pool request answers before mark between (back ∷ []) → back.op ≡ 27 → SameContents (state_after pool before).pool (read (batch pool request answers).pool)
unfolding ended rolled_back
rollback_gives_back_bytes {pool} {request} {answers} {before} {mark} {between} {back} k e =
    let h = rollback_gives_back k e in
    let t = state_after pool ((before ++ (mark ∷ between)) ++ (back ∷ [])) in
    let p = point_good (point_on {rest = []} (back ∷ []) (open_point k)) in
    let same : ended t ≡ t.pool = rw h.1 in
    let left : (batch pool request answers).pool ≡ bytes (ended t) = point_leaves (open_point k) in
    subst (SameContents (state_after pool before).pool) (sym (ap read left ∙ (good_state (ended t) (ended_good p.0 t p.1)).2 ∙ same)) h.0

-- ---- over bytes, closed by the batch's end

module _ {pool request answers : List ℕ} {before : List Command} {mark : Command} {between : List Command} (k : Marked pool request answers before mark between []) where
  ended_is : (batch pool request answers).pool ≡ bytes (ended (state_after pool (before ++ (mark ∷ between))))
  ended_is = point_leaves k.point ∙ ap (λ (l : List Command). bytes (ended (state_after pool (before ++ (mark ∷ l))))) (append-nil between)

  -- The pool that the batch leaves has the contents that the pool had at the mark.
  pub end_gives_back_bytes : SameContents (state_after pool before).pool (read (batch pool request answers).pool)
  end_gives_back_bytes =
      let u = state_after pool (before ++ (mark ∷ between)) in
      let o = open_at k in
      subst (SameContents (state_after pool before).pool)
      (sym (ap read ended_is ∙ (good_state (ended u) (ended_good (some (state_after pool before).pool) u o)).2))
      (restored_same (ended_restored (state_after pool before).pool u o))

  -- Every handle whose stamp was handed out between the mark and the batch's end is refused from then on: over any door calls, by every later batch
  -- and by name.
  pub new_refused_later : (slot stamp : ℕ) → (state_after pool before).pool.next ≤ stamp → stamp < (state_after pool (before ++ (mark ∷ between))).pool.next
      → (later : List ℕ) → Calls (batch pool request answers).pool later → RefusedOn later slot stamp
  new_refused_later slot stamp low high later l =
      let u = state_after pool (before ++ (mark ∷ between)) in
      refused_after (subst (Stored (Bound slot stamp Nothing)) (sym ended_is)
      (written (Bound slot stamp Nothing) (ended u) (ended_good (some (state_after pool before).pool) u (open_at k)) (new_bound k slot stamp low high))) l

  -- So is the handle of every record added in between.
  pub added_refused_later : {slot stamp : ℕ} → AddedBetween pool before mark between slot stamp → (later : List ℕ) → Calls (batch pool request answers).pool later → RefusedOn later slot stamp
  added_refused_later {slot} {stamp} added = let h = added_range k added in new_refused_later slot stamp h.0 h.1
