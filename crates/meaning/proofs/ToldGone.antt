-- Handles that have gone, over the bytes of the answers: a record removed, removed under a mark that is committed, added and removed under a mark, or
-- reset. What the answers said before tells what every later answer says. Assumes nothing.
use Rattle.std.proofs.Common.{◌≡◌, ℕ, suc, ◌<◌, ◌≤◌, ◌⊎◌, List, [], ◌∷◌, ◌++◌, length, sym, refl, ap, ◌∙◌, subst, inl, inr, append_assoc, arith}
use Rattle.std.proofs.Math.Option.{some}
use Rattle.meaning.specs.Pool.{rec_at, read}
use Rattle.meaning.specs.Cursor.{Command, State}
use Rattle.meaning.specs.Command.{meant, perform}
use Rattle.meaning.specs.Doors.{run, begun, batch}
use Rattle.meaning.specs.WellFormed.{WellFormed}
use Rattle.meaning.specs.Calls.{Point, state_after, Inside, one_more, RefusedFrom, shown_slot, shown_stamp}
use Rattle.meaning.specs.Told.{answer_at, code_at, ToldGoneFrom, ToldMark, ToldAdded, ToldRemoved, ToldShut, ToldOut, in_header, in_answer}
use Rattle.meaning.proofs.Answers.{answer_told, code_told}
use Rattle.meaning.proofs.Bindings.{next_keeps}
use Rattle.meaning.proofs.Given.{removed_now}
use Rattle.meaning.proofs.KeptHandles.{gone_since_mark, removed_for_ever, committed_for_ever, reset_for_ever}
use Rattle.meaning.proofs.Points.{later_keeps, point_good, point_on, state_on}
use Rattle.meaning.proofs.Rollbacks.{open_point, added_range}
use Rattle.meaning.proofs.ShownHandles.{Given, answer_given}
use Rattle.meaning.proofs.StaleHandles.{only_stale}
use Rattle.meaning.proofs.ToldHandles.{refused_from_told, mark_told, between_point, added_told}
use Rattle.meaning.proofs.ToldShuts.{was_there, shut_at}

-- the handle of the record that a command meant is the one shown
same_handle : {pool request answers : List ℕ} {before : List Command} {x y g h : ℕ} → x ≡ y → g ≡ h → RefusedFrom pool request answers before x g
    → RefusedFrom pool request answers before y h
same_handle {pool} {request} {answers} {before} {x} {y} {g} {h} e f r =
    subst (λ (z : ℕ). RefusedFrom pool request answers before y z) f (subst (λ (z : ℕ). RefusedFrom pool request answers before z g) e r)

-- A record was removed while no mark was open, answered with 0 and with this slot and stamp. Every later command of the batch that names the handle, and
-- over any door calls every command of every later batch, is answered with the number, the cursor kind 0 and zeros; name hands back nothing for it.
pub removed_gone_told : {pool request answers : List ℕ} {before : List Command} {c : Command} {rest : List Command}
    → Point pool request answers before (c ∷ rest) → ToldShut pool request answers before → (slot stamp : ℕ)
    → ToldRemoved pool request answers before c slot stamp → ToldGoneFrom pool request answers (before ++ (c ∷ [])) slot stamp
removed_gone_told {pool = pool} {before = before} {c = c} {rest = rest} p closed slot stamp h =
    let t = was_there p slot stamp h in
    let s = state_after pool before in
    let live : rec_at s.pool (meant s c) ≡ some t.rec = ap (rec_at s.pool) t.meant_is ∙ t.is in
    (refused_from_told (point_on {rest = rest} (c ∷ []) p) slot stamp).0
    (same_handle t.meant_is t.stamp_is (removed_for_ever p (shut_at p closed) h.removes t.done t.rec live))

-- So it is of a record removed under a mark, once the mark is committed, answered with 0, with no rollback in between.
pub committed_gone_told : {pool request answers : List ℕ} {before : List Command} {c : Command} (between : List Command) (commit : Command) (rest : List Command)
    → Point pool request answers before (c ∷ (between ++ (commit ∷ rest))) → Inside between → (slot stamp : ℕ)
    → ToldRemoved pool request answers before c slot stamp → commit.op ≡ 28
    → code_at (batch pool request answers).answers (length (before ++ (c ∷ between))) ≡ 0
    → ToldGoneFrom pool request answers ((before ++ (c ∷ between)) ++ (commit ∷ [])) slot stamp
committed_gone_told {pool = pool} {before = before} {c = c} between commit rest p inside slot stamp h e z =
    let t = was_there p slot stamp h in
    let s = state_after pool before in
    let live : rec_at s.pool (meant s c) ≡ some t.rec = ap (rec_at s.pool) t.meant_is ∙ t.is in
    let at_commit = point_on {rest = commit ∷ rest} (c ∷ between) p in
    (refused_from_told (point_on {rest = rest} (commit ∷ []) at_commit) slot stamp).0
    (same_handle t.meant_is t.stamp_is
    (committed_for_ever between commit rest p inside h.removes t.done t.rec live e (sym (code_told at_commit) ∙ z)))

-- ---- added and removed under one mark

inside_rest : (first : List Command) (c : Command) (others : List Command) → Inside (first ++ (c ∷ others)) → Inside others
inside_rest [] c others (one_more n m i) = i
inside_rest (d ∷ first) c others (one_more n m i) = inside_rest first c others i

-- A record was added under a mark, and removed again under it, both answered with 0 and with this slot and stamp: so it is before the mark is closed.
pub added_removed_gone_told : {pool request answers : List ℕ} {before : List Command} {mark : Command} {between rest : List Command}
    → ToldMark pool request answers before mark between rest → (slot stamp : ℕ) → ToldAdded pool request answers before mark between slot stamp
    → (first : List Command) (c : Command) (others : List Command) → between ≡ first ++ (c ∷ others)
    → ToldRemoved pool request answers (before ++ (mark ∷ first)) c slot stamp
    → ToldGoneFrom pool request answers (before ++ (mark ∷ between)) slot stamp
added_removed_gone_told {pool} {request} {answers} {before} {mark} {between} {rest} k slot stamp d first c others e h =
    let m = (mark_told pool request answers before mark between rest).1 k in
    let range = added_range m ((added_told between rest k.point slot stamp).1 d) in
    let q = between_point between rest k.point first c others e in
    let start = before ++ (mark ∷ first) in
    let s = state_after pool start in
    let t = was_there q slot stamp h in
    let live : rec_at s.pool (meant s c) ≡ some t.rec = ap (rec_at s.pool) t.meant_is ∙ t.is in
    let gone = (removed_now others rest q (inside_rest first c others (subst Inside e k.inside)) h.removes t.done t.rec live).has.now in
    let all : start ++ (c ∷ others) ≡ before ++ (mark ∷ between) =
    append_assoc before (mark ∷ first) (c ∷ others) ∙ ap (λ (l : List Command). before ++ (mark ∷ l)) (sym e) in
    let stale = only_stale gone in
    (refused_from_told (open_point m) slot stamp).0
    (gone_since_mark m slot stamp range.0 range.1 (rw (t.meant_is, t.stamp_is, all) at stale))

-- ---- a reset

-- the next stamp never falls from one point of a batch to a later one
next_later : {pool request answers : List ℕ} {before rest : List Command} → Point pool request answers before rest → (more behind : List Command)
    → rest ≡ more ++ behind → (n : ℕ) → n ≤ (state_after pool before).pool.next → n ≤ (state_after pool (before ++ more)).pool.next
next_later {before = before} p more behind e n h =
    let g = point_good p in
    (later_keeps (next_keeps n) p (record { at_mark = g.0; good = g.1; has = record { next = h } }) more behind
    (p.split ∙ ap (λ (l : List Command). before ++ l) e)).has.next

-- what an answer gives a handle of has a stamp below the next one
given_out : (s : State) (c : Command) (stamp : ℕ) (g : Given s c) → shown_stamp (perform s c).answer ≡ stamp → WellFormed s.pool
    → WellFormed (perform s c).state.pool → (stamp < s.pool.next) ⊎ (stamp < (perform s c).state.pool.next)
given_out s c stamp g is good good' = go g.held
  where
    x : ℕ
    x = shown_slot (perform s c).answer

    go : (rec_at s.pool x ≡ some g.rec) ⊎ (rec_at (perform s c).state.pool x ≡ some g.rec)
        → (stamp < s.pool.next) ⊎ (stamp < (perform s c).state.pool.next)
    go (inl i) = inl (omega (arith, g.stamp, is, (good.recs x g.rec i).stamp_high))
    go (inr i) = inr (omega (arith, g.stamp, is, (good'.recs x g.rec i).stamp_high))

-- The stamp that an answer with the code 0 shows beside a slot was handed out when its command was done.
shown_out : {pool request answers : List ℕ} {before : List Command} {c : Command} {rest : List Command}
    → Point pool request answers before (c ∷ rest) → (stamp : ℕ) → code_at (batch pool request answers).answers (length before) ≡ 0
    → (shown_slot (answer_at (batch pool request answers).answers (length before)) ≡ 0 → ⊥)
    → shown_stamp (answer_at (batch pool request answers).answers (length before)) ≡ stamp
    → stamp < (state_after pool (before ++ (c ∷ []))).pool.next
unfolding run
shown_out {pool} {request} {answers} {before} {c} {rest} p stamp z n h =
    let s = state_after pool before in
    let after : state_after pool (before ++ (c ∷ [])) ≡ (perform s c).state = state_on pool before (c ∷ []) in
    let good = (point_good p).1.pool in
    let good' = subst (λ (t : State). WellFormed t.pool) after (point_good (point_on {rest = rest} (c ∷ []) p)).1.pool in
    let g = answer_given s c (sym (code_told p) ∙ z) good good' (λ i. n (ap shown_slot (answer_told p) ∙ i)) in
    go after (given_out s c stamp g (ap shown_stamp (sym (answer_told p)) ∙ h) good good')
  where
    go : state_after pool (before ++ (c ∷ [])) ≡ (perform (state_after pool before) c).state
        → (stamp < (state_after pool before).pool.next) ⊎ (stamp < (perform (state_after pool before) c).state.pool.next)
        → stamp < (state_after pool (before ++ (c ∷ []))).pool.next
    go after (inl i) = next_later p (c ∷ []) rest refl (suc stamp) i
    go after (inr i) = subst (λ (t : State). stamp < t.pool.next) (sym after) i

-- A stamp of which the pool's header or an answer says so was handed out.
pub out_at : {pool request answers : List ℕ} {before rest : List Command} → Point pool request answers before rest → (stamp : ℕ)
    → ToldOut pool request answers before stamp → stamp < (state_after pool before).pool.next
unfolding read run begun state_after
out_at {pool} {request} {answers} {before} {rest} p stamp (in_header h) =
    next_later {pool = pool} {request = request} {answers = answers} {before = []} {rest = before ++ rest}
    (record { pool_bytes = p.pool_bytes; batch_bytes = p.batch_bytes; done = p.done; split = p.split }) before rest refl (suc stamp) h
out_at {pool} {request} {answers} {before} {rest} p stamp (in_answer earlier c since e z n h) =
    let q : Point pool request answers earlier (c ∷ (since ++ rest)) = record {
      pool_bytes = p.pool_bytes;
      batch_bytes = p.batch_bytes;
      done = p.done;
      split = p.split ∙ ap (λ (l : List Command). l ++ rest) e ∙ append_assoc earlier (c ∷ since) rest;
    } in
    let all : (earlier ++ (c ∷ [])) ++ since ≡ before = append_assoc earlier (c ∷ []) since ∙ sym e in
    subst (λ (l : List Command). suc stamp ≤ (state_after pool l).pool.next) all
    (next_later (point_on {rest = since ++ rest} (c ∷ []) q) since rest refl (suc stamp) (shown_out q stamp z n h))

-- After a reset, answered with 0, so it is of every handle whose stamp was handed out before it.
pub reset_gone_told : {pool request answers : List ℕ} {before : List Command} {reset : Command} {rest : List Command}
    → Point pool request answers before (reset ∷ rest) → reset.op ≡ 29 → code_at (batch pool request answers).answers (length before) ≡ 0
    → (slot stamp : ℕ) → ToldOut pool request answers before stamp → ToldGoneFrom pool request answers (before ++ (reset ∷ [])) slot stamp
reset_gone_told {reset = reset} {rest = rest} p e z slot stamp h =
    (refused_from_told (point_on {rest = rest} (reset ∷ []) p) slot stamp).0
    (reset_for_ever p e (sym (code_told p) ∙ z) slot stamp (out_at p stamp h))
