-- What a kept handle can reach: it is accepted only for the very record that it was given for; once that record has gone for good it is refused for
-- ever; and a rollback brings a removed record back with its handle. Over bytes; Calls has the words. Assumes nothing.
use Rattle.std.proofs.Common.{◌≡◌, ℕ, ◌<◌, ◌≤◌, true, List, [], ◌∷◌, ◌++◌, sym, refl, ap, ◌∙◌, subst, arith}
use Rattle.std.proofs.Math.Option.{none, some}
use Rattle.fields.specs.Number.{Bytes}
use Rattle.fields.specs.Part.{part}
use Rattle.meaning.specs.Pool.{Rec, rec_at, read}
use Rattle.meaning.specs.Sound.{sound}
use Rattle.meaning.specs.Change.{noted}
use Rattle.meaning.specs.Cursor.{Command, State}
use Rattle.meaning.specs.Command.{is_stale, meant, refusal, perform}
use Rattle.meaning.specs.Doors.{run, ended, batch, removal, name}
use Rattle.meaning.specs.WellFormed.{WellFormed}
use Rattle.meaning.specs.Meant.{removing}
use Rattle.meaning.specs.Calls.{Calls, Point, state_after, Inside, Marked, shown_slot, RefusedOn, RefusedFrom, Holds, ReachesOn, ReachesFrom, GivenFor}
use Rattle.meaning.proofs.Pools.{sound_pool}
use Rattle.meaning.proofs.Bindings.{dropped_free, emptied_rec, next_keeps, Only, no_mark, at_mark}
use Rattle.meaning.proofs.Doing.{removes, commits, resets}
use Rattle.meaning.proofs.Points.{calls_keep, batch_stored, point_good, point_on, state_on}
use Rattle.meaning.proofs.StaleHandles.{Nothing, stale_only, live_accepted, live_named}
use Rattle.meaning.proofs.Reach.{refused_after, refused_from, reaches_after, reaches_from}
use Rattle.meaning.proofs.Rollbacks.{open_at, open_point, new_only}
use Rattle.meaning.proofs.ShownHandles.{answer_given}
use Rattle.meaning.proofs.Given.{holds_only, given_bound, given_for, holds_same, ended_marked, free_only, removed_now, after_command}
use Rattle.meaning.proofs.Demand3.{rollback_gives_back, end_gives_back_bytes}

-- ---- accepted only for its record

-- At a point of a batch a slot holds the record r. From then on its handle is accepted only for r, with r's tree and name: by the rest of the batch,
-- and over any door calls by every later batch and by name.
pub reaches_its_record : {pool request answers : List ℕ} {before rest : List Command} → Point pool request answers before rest → (slot : ℕ) (r : Rec)
    → rec_at (state_after pool before).pool slot ≡ some r
    → ReachesFrom pool request answers before slot r (part (state_after pool before).pool.text r.start r.len)
reaches_its_record p slot r e = reaches_from p (given_bound p slot r e)

-- The same between door calls: a sound pool holds the record r in a slot.
pub reaches_its_record_later : (pool later : List ℕ) → Bytes pool → sound pool ≡ true → (slot : ℕ) (r : Rec) → rec_at (read pool) slot ≡ some r → Calls pool later
    → ReachesOn later slot r (part (read pool).text r.start r.len)
reaches_its_record_later pool later is_bytes h slot r e l =
    reaches_after (record {
      are_bytes = is_bytes;
      is_sound = h;
      has = record { handed_out = ((sound_pool pool is_bytes h).0.recs slot r e).stamp_high; now = holds_only (read pool) slot r e; marked = no_mark };
    }) l

-- Every handle that an answer gives, of a command that is done, is one of a record that its slot holds before the command or after it; from then on
-- it is accepted only for that record.
pub given_reaches : {pool request answers : List ℕ} {before : List Command} {c : Command} {rest : List Command} → Point pool request answers before (c ∷ rest)
    → refusal (state_after pool before) c ≡ 0 → (shown_slot (perform (state_after pool before) c).answer ≡ 0 → ⊥) → GivenFor pool request answers before c
unfolding run
given_reaches {pool} {before = before} {c = c} {rest = rest} p z n =
    let s = state_after pool before in
    let q = point_on {rest = rest} (c ∷ []) p in
    let after : state_after pool (before ++ (c ∷ [])) ≡ (perform s c).state = state_on pool before (c ∷ []) in
    let given = answer_given s c z (point_good p).1.pool (subst (λ (t : State). WellFormed t.pool) after (point_good q).1.pool) n in
    given_for p given.rec given.stamp given.held

-- While the record lives its handle is accepted, and gives its name.
pub live_handle : (pool : List ℕ) → Bytes pool → sound pool ≡ true → (slot : ℕ) (r : Rec) → rec_at (read pool) slot ≡ some r
    → name pool r.tree slot r.stamp ≡ part (read pool).text r.start r.len
live_handle pool is_bytes h slot r e = live_named pool slot r is_bytes h e

-- ---- gone for ever

-- A stamp that was handed out stays so: over any door calls the next stamp never falls.
pub next_never_falls : (pool later : List ℕ) → Bytes pool → sound pool ≡ true → Calls pool later → (read pool).next ≤ (read later).next
next_never_falls pool later is_bytes h l =
    (calls_keep (next_keeps (read pool).next) (record { are_bytes = is_bytes; is_sound = h; has = record { next = omega arith } }) l).has.next

-- In a sound pool no live record has the handle, whose stamp was handed out: over any door calls it is refused for ever.
pub gone_later : (pool later : List ℕ) → Bytes pool → sound pool ≡ true → (slot stamp : ℕ) → stamp < (read pool).next → is_stale stamp (rec_at (read pool) slot) ≡ true → Calls pool later
    → RefusedOn later slot stamp
gone_later pool later is_bytes h slot stamp out e l =
    refused_after (record { are_bytes = is_bytes; is_sound = h; has = record { handed_out = out; now = stale_only e; marked = no_mark } }) l

-- At a point of a batch neither the pool nor what a rollback would give back has the handle, whose stamp was handed out: no open mark can bring its
-- record back. From then on it is refused for ever.
pub gone_for_ever : {pool request answers : List ℕ} {before rest : List Command} → Point pool request answers before rest → (slot stamp : ℕ) → stamp < (state_after pool before).pool.next
    → is_stale stamp (rec_at (state_after pool before).pool slot) ≡ true → is_stale stamp (rec_at (ended (state_after pool before)) slot) ≡ true → RefusedFrom pool request answers before slot stamp
gone_for_ever {pool} {before = before} p slot stamp out here back =
    let h = point_good p in
    refused_from p (record {
      at_mark = h.0;
      good = h.1;
      has = record { handed_out = out; now = stale_only here; marked = ended_marked h.0 (state_after pool before) h.1 back };
    })

-- A stamp handed out since the open mark that is no longer one of a live record is that of a record which the mark cannot bring back: it is refused
-- for ever, even before the mark is closed. (A record whose addition was rolled back: added_refused and added_refused_later of Demand3.)
pub gone_since_mark : {pool request answers : List ℕ} {before : List Command} {mark : Command} {between rest : List Command} → Marked pool request answers before mark between rest
    → (slot stamp : ℕ) → (state_after pool before).pool.next ≤ stamp → let u = state_after pool (before ++ (mark ∷ between)) in stamp < u.pool.next
    → is_stale stamp (rec_at u.pool slot) ≡ true → RefusedFrom pool request answers (before ++ (mark ∷ between)) slot stamp
gone_since_mark {pool} {before = before} k slot stamp low out here =
    refused_from (open_point k) (record {
      at_mark = some (state_after pool before).pool;
      good = open_at k;
      has = record { handed_out = out; now = stale_only here; marked = at_mark (new_only k slot stamp low) };
    })

-- A record removed while no mark is open: its handle is refused for ever.
pub removed_for_ever : {pool request answers : List ℕ} {before : List Command} {c : Command} {rest : List Command} → Point pool request answers before (c ∷ rest)
    → let s = state_after pool before in s.mark ≡ none → removing c.op ≡ true → refusal s c ≡ 0 → (r : Rec) → rec_at s.pool (meant s c) ≡ some r
    → RefusedFrom pool request answers (before ++ (c ∷ [])) (meant s c) r.stamp
unfolding noted
removed_for_ever {pool} {before = before} {c = c} p closed h z r live =
    let s = state_after pool before in
    let d = removes s c (meant s c) r h z refl live in
    after_command p (meant s c) r.stamp ((point_good p).1.pool.recs (meant s c) r live).stamp_high (d.mark ∙ ap (noted _) closed)
    (subst (Only (meant s c) r.stamp Nothing) (sym d.pool) (free_only (dropped_free s.pool (meant s c) r live)))

-- After a reset every handle whose stamp was handed out is refused for ever.
pub reset_for_ever : {pool request answers : List ℕ} {before : List Command} {c : Command} {rest : List Command} → Point pool request answers before (c ∷ rest)
    → c.op ≡ 29 → refusal (state_after pool before) c ≡ 0 → (slot stamp : ℕ) → stamp < (state_after pool before).pool.next → RefusedFrom pool request answers (before ++ (c ∷ [])) slot stamp
reset_for_ever {pool} {before = before} {c = c} p e z slot stamp out =
    let s = state_after pool before in
    let d = resets s c z e in
    after_command p slot stamp out d.mark (subst (Only slot stamp Nothing) (sym d.pool) (free_only (emptied_rec s.pool slot)))

-- A record removed and the mark then committed, with no rollback in between: its handle is refused for ever.
pub committed_for_ever : {pool request answers : List ℕ} {before : List Command} {c : Command} (between : List Command) (commit : Command) (rest : List Command)
    → Point pool request answers before (c ∷ (between ++ (commit ∷ rest))) → Inside between
    → let s = state_after pool before in removing c.op ≡ true → refusal s c ≡ 0 → (r : Rec) → rec_at s.pool (meant s c) ≡ some r
    → commit.op ≡ 28 → refusal (state_after pool (before ++ (c ∷ between))) commit ≡ 0
    → RefusedFrom pool request answers ((before ++ (c ∷ between)) ++ (commit ∷ [])) (meant s c) r.stamp
committed_for_ever {pool} {before = before} {c = c} between commit rest p inside h z r live e y =
    let slot = meant (state_after pool before) c in
    let gone = removed_now between (commit ∷ rest) p inside h z r live in
    let l = commits (state_after pool (before ++ (c ∷ between))) commit y e in
    after_command (point_on {rest = commit ∷ rest} (c ∷ between) p) slot r.stamp gone.has.handed_out l.mark
    (subst (Only slot r.stamp Nothing) (sym l.pool) gone.has.now)

-- ---- brought back

-- A record that lives at a mark is there with its handle and its name after the rollback by command, even if it was removed in between, and its
-- handle is accepted.
pub brought_back : {pool request answers : List ℕ} {before : List Command} {mark : Command} {between : List Command} {close : Command} {rest : List Command}
    → Marked pool request answers before mark between (close ∷ rest) → close.op ≡ 27 → (slot : ℕ) (r : Rec) → rec_at (state_after pool before).pool slot ≡ some r
    → let t = state_after pool ((before ++ (mark ∷ between)) ++ (close ∷ [])) in
    Holds t.pool slot r (part (state_after pool before).pool.text r.start r.len) × (refusal t (removal r.tree slot r.stamp) ≡ 0)
brought_back {pool} {before = before} {mark = mark} {between = between} {close = close} {rest = rest} h e slot r live =
    let t = state_after pool ((before ++ (mark ∷ between)) ++ (close ∷ [])) in
    let back = holds_same (rollback_gives_back h e).0 slot r live in
    (back, live_accepted t slot r (point_good (point_on {rest = rest} (close ∷ []) (point_on (mark ∷ between) h.point))).1.pool back.rec)

-- So it is after the rollback at the batch's end, and the door name gives its name for the handle.
pub brought_back_at_end : {pool request answers : List ℕ} {before : List Command} {mark : Command} {between : List Command} → Marked pool request answers before mark between []
    → (slot : ℕ) (r : Rec) → rec_at (state_after pool before).pool slot ≡ some r
    → let named = part (state_after pool before).pool.text r.start r.len in
    Holds (read (batch pool request answers).pool) slot r named × (name (batch pool request answers).pool r.tree slot r.stamp ≡ named)
brought_back_at_end {pool} {request} {answers} {before} {mark} {between} h slot r live =
    let back = holds_same (end_gives_back_bytes h) slot r live in
    let left = batch_stored h.point in
    (back, live_named (batch pool request answers).pool slot r left.are_bytes left.is_sound back.rec ∙ back.name)
