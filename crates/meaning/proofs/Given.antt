-- A handle given for a record, and a handle whose record has gone: what each means at most, now and at the open mark. Assumes nothing.
use Rattle.std.proofs.Common.{◌≡◌, ℕ, suc, ◌<◌, true, ◌⊎◌, List, [], ◌∷◌, ◌++◌, sym, refl, ap, ◌∙◌, subst, inl, inr, arith}
use Rattle.std.proofs.Math.Option.{Option, none, some, some-injective}
use Rattle.fields.specs.Part.{part}
use Rattle.fields.proofs.Parts.{part_append_left}
use Rattle.meaning.specs.Pool.{Rec, Pool, rec_at}
use Rattle.meaning.specs.Change.{Mark}
use Rattle.meaning.specs.Cursor.{Command, State}
use Rattle.meaning.specs.Command.{is_stale, meant, refusal, perform}
use Rattle.meaning.specs.Doors.{run, ended}
use Rattle.meaning.specs.Meant.{removing}
use Rattle.meaning.specs.Calls.{Point, state_after, Inside, SameContents, shown_slot, shown_stamp, RefusedFrom, Holds, GivenFor}
use Rattle.meaning.specs.States.{Journal, shut, begun, GoodState}
use Rattle.meaning.proofs.Undoing.{alike_rec}
use Rattle.meaning.proofs.Formed.{not_both}
use Rattle.meaning.proofs.Batches.{AllParsed, none_left, and_then}
use Rattle.meaning.proofs.Histories.{With, run_keeps, inside_keeps}
use Rattle.meaning.proofs.Bindings.{dropped_next, dropped_free, next_keeps, Only, AtMark, no_mark, at_mark, Bound, BoundNow, bound_now, bound_keeps, SameSince, since, same_keeps, shut_bound}
use Rattle.meaning.proofs.Doing.{removes}
use Rattle.meaning.proofs.Marks.{ended_restored}
use Rattle.meaning.proofs.Points.{parsed_parts, point_keeps, later_keeps, point_stored, point_good, point_parsed, point_on, state_on}
use Rattle.meaning.proofs.StaleHandles.{Nothing, stale_only}
use Rattle.meaning.proofs.Reach.{Is, refused_from, reaches_from}

-- ---- given

-- The record that a slot holds is the only one that it holds with its stamp.
pub holds_only : (p : Pool) (x : ℕ) (r : Rec) → rec_at p x ≡ some r → Only x r.stamp (Is r (part p.text r.start r.len)) p
holds_only p x r e = record {
  only = λ q i s.
      let same : q ≡ r = some-injective q r (sym i ∙ e) in
      record { rec = same; name = ap (λ (z : Rec). part p.text z.start z.len) same };
}

-- also at the open mark, if it was there
marked_only : {w : Option Pool} {m : Option Mark} {p : Pool} (x : ℕ) (r : Rec) → rec_at p x ≡ some r → Journal w m p → SameSince w p
    → AtMark (Only x r.stamp (Is r (part p.text r.start r.len))) w
marked_only x r e shut h = no_mark
marked_only {p = p} x r e (begun {p₀ = p₀} good held) (since old same) = at_mark (record {
  only = λ q i s.
      let is : q ≡ r = same x q r i e s in
      let there : part p.text q.start q.len ≡ part p₀.text q.start q.len =
      ap (λ (l : List ℕ). part l q.start q.len) held.text
      ∙ part_append_left p₀.text held.extra q.start q.len (good.recs x q i).name_fits in
      record { rec = is; name = sym there ∙ ap (λ (z : Rec). part p.text z.start z.len) is };
})

-- At a point of a batch the handle of a live record means that record at most.
pub given_bound : {b w a : List ℕ} {before rest : List Command} → Point b w a before rest → (x : ℕ) (r : Rec)
    → rec_at (state_after b before).pool x ≡ some r
    → With (Bound x r.stamp (Is r (part (state_after b before).pool.text r.start r.len))) (state_after b before)
given_bound {b} {before = before} p x r e =
    let h = point_keeps same_keeps (point_stored p SameSince no_mark) p in
    record {
      at_mark = h.at_mark;
      good = h.good;
      has = record {
        handed_out = (h.good.pool.recs x r e).stamp_high;
        now = holds_only (state_after b before).pool x r e;
        marked = marked_only x r e h.good.journal h.has;
      };
    }

-- The handle of a record that a slot holds before a command or after it reaches no other after the command.
pub given_for : {b w a : List ℕ} {before : List Command} {c : Command} {rest : List Command} → Point b w a before (c ∷ rest) → (r : Rec)
    → r.stamp ≡ shown_stamp (perform (state_after b before) c).answer
    → let x = shown_slot (perform (state_after b before) c).answer in
    (rec_at (state_after b before).pool x ≡ some r) ⊎ (rec_at (perform (state_after b before) c).state.pool x ≡ some r) → GivenFor b w a before c
unfolding run
given_for {b} {before = before} {c = c} {rest = rest} p r stamp (inl h) =
    let s = state_after b before in
    let x = shown_slot (perform s c).answer in
    let n = part s.pool.text r.start r.len in
    let on = later_keeps (bound_keeps x r.stamp (Is r n)) p (given_bound p x r h) (c ∷ []) rest p.split in
    record {
      rec = r;
      name = n;
      stamp = stamp;
      held = inl (record { rec = h; name = refl });
      reaches = reaches_from (point_on {rest = rest} (c ∷ []) p) on;
    }
given_for {b} {before = before} {c = c} {rest = rest} p r stamp (inr h) =
    let s = state_after b before in
    let t = state_after b (before ++ (c ∷ [])) in
    let x = shown_slot (perform s c).answer in
    let q = point_on {rest = rest} (c ∷ []) p in
    let there : rec_at t.pool x ≡ some r = ap (λ (u : State). rec_at u.pool x) (state_on b before (c ∷ [])) ∙ h in
    record {
      rec = r;
      name = part t.pool.text r.start r.len;
      stamp = stamp;
      held = inr (record { rec = there; name = refl });
      reaches = reaches_from q (given_bound q x r there);
    }

-- A pool with the same contents holds the same record with the same name.
pub holds_same : {p q : Pool} → SameContents p q → (x : ℕ) (r : Rec) → rec_at p x ≡ some r → Holds q x r (part p.text r.start r.len)
unfolding rec_at
holds_same h x r live = record { rec = rw h.slots live; name = rw h.text }

-- ---- gone

-- At the open mark the pool held what a rollback would give back.
pub ended_marked : {x g : ℕ} (w : Option Pool) (s : State) → GoodState w s → is_stale g (rec_at (ended s) x) ≡ true → AtMark (Only x g Nothing) w
ended_marked none s good e = no_mark
ended_marked {x} {g} (some p₀) s good e = at_mark (stale_only (ap (is_stale g) (sym (alike_rec (ended_restored p₀ s good).alike x)) ∙ e))

-- A slot that is free has no handle.
pub free_only : {p : Pool} {x g : ℕ} → rec_at p x ≡ none → Only x g Nothing p
free_only {p} {x} e = record { only = λ r i s. not_both (rec_at p x) i e }

-- After a removal, and after commands without a rollback that follow it, no record has the handle of the one removed.
pub removed_now : {pool request answers : List ℕ} {before : List Command} {c : Command} (between rest : List Command) → Point pool request answers before (c ∷ (between ++ rest))
    → Inside between → let s = state_after pool before in removing c.op ≡ true → refusal s c ≡ 0 → (r : Rec) → rec_at s.pool (meant s c) ≡ some r
    → With (BoundNow (meant s c) r.stamp Nothing) (state_after pool (before ++ (c ∷ between)))
unfolding run
removed_now {pool} {before = before} {c = c} between rest p inside h z r live =
    let s = state_after pool before in
    let x = meant s c in
    let one = point_on {rest = between ++ rest} (c ∷ []) p in
    let at : state_after pool (before ++ (c ∷ [])) ≡ (perform s c).state = state_on pool before (c ∷ []) in
    let dropped : (perform s c).state.pool ≡ _ = (removes s c x r h z refl live).pool in
    let now : With (BoundNow x r.stamp Nothing) (perform s c).state = record {
      at_mark = (point_good one).0;
      good = subst (GoodState (point_good one).0) at (point_good one).1;
      has = subst (BoundNow x r.stamp Nothing (point_good one).0) (sym dropped) (record {
        handed_out = omega (arith, ((point_good p).1.pool.recs x r live).stamp_high, dropped_next s.pool x r);
        now = free_only (dropped_free s.pool x r live);
      });
    } in
    subst (With (BoundNow x r.stamp Nothing)) (sym (state_on pool before (c ∷ between)))
    (inside_keeps (bound_now x r.stamp Nothing) (perform s c).state between (parsed_parts between rest (point_parsed one)).0 inside now)

-- After a command that leaves no mark open and no record with the handle it is refused.
pub after_command : {b w a : List ℕ} {before : List Command} {c : Command} {rest : List Command} → Point b w a before (c ∷ rest) → (x g : ℕ)
    → g < (state_after b before).pool.next → (perform (state_after b before) c).state.mark ≡ none
    → Only x g Nothing (perform (state_after b before) c).state.pool → RefusedFrom b w a (before ++ (c ∷ [])) x g
unfolding run
after_command {b} {before = before} {c = c} {rest = rest} p x g out closed gone =
    let q = point_on {rest = rest} (c ∷ []) p in
    let t = state_on b before (c ∷ []) in
    let h = point_good p in
    let next = (run_keeps (next_keeps (suc g)) (state_after b before) (c ∷ []) (first_only (point_parsed p))
    (record { at_mark = h.0; good = h.1; has = record { next = out } })).has.next in
    refused_from q (shut_bound (point_good q).0 (state_after b (before ++ (c ∷ []))) (point_good q).1 (ap (λ (s : State). s.mark) t ∙ closed)
    (subst (λ (s : State). Bound x g Nothing none s.pool) (sym t) (record { handed_out = next; now = gone; marked = no_mark })))
  where
    first_only : {k : Command} {ks : List Command} → AllParsed (k ∷ ks) → AllParsed (k ∷ [])
    first_only (and_then i is) = and_then i none_left
