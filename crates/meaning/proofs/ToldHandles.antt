-- Demand 3 over the bytes of the answers: what is told of a handle that has gone, from what was told before. Calls and Told have the words.
-- Assumes nothing.
use Rattle.std.proofs.Common.{◌≡◌, ℕ, List, [], ◌∷◌, ◌++◌, length, sym, ap, ◌∙◌, append_assoc}
use Rattle.meaning.specs.Cursor.{Command}
use Rattle.meaning.specs.Pool.{read}
use Rattle.meaning.specs.Doors.{commands, run, begun, batch}
use Rattle.meaning.specs.Calls.{Calls, Point, state_after, Marked, SameContents, AddedBetween, RefusedOn, RefusedFrom, shown_slot, shown_stamp}
use Rattle.meaning.specs.Told.{code_at, ToldGoneOn, ToldGoneFrom, ToldMark, ToldAdded}
use Rattle.meaning.proofs.Answers.{answer_told, code_told, gone_told, told_gone}
use Rattle.meaning.proofs.Demand3.{rollback_is_done, added_refused, rollback_gives_back_bytes, end_gives_back_bytes, added_refused_later}
use Rattle.meaning.proofs.Points.{point_on}
use Rattle.meaning.specs.Refused.{◌exactly_if◌}

-- ---- refused is told

-- Every door refuses a handle on a pool exactly if every batch on it answers every command that names the handle with the number, the cursor kind 0 and
-- zeros, and name hands back nothing for it.
pub refused_on_told : (pool : List ℕ) (slot stamp : ℕ) → RefusedOn pool slot stamp exactly_if ToldGoneOn pool slot stamp
refused_on_told pool slot stamp = (
  λ h. record { by_batch = λ w a before c rest p n. gone_told p n.op (h.by_batch w a before c rest p n); by_name = h.by_name },
  λ h. record { by_batch = λ w a before c rest p n. told_gone p (h.by_batch w a before c rest p n); by_name = h.by_name },
)

-- the point of a later command of a batch
later : {pool request answers : List ℕ} {before rest : List Command} → Point pool request answers before rest
    → (more : List Command) (c : Command) (behind : List Command) → commands request ≡ before ++ (more ++ (c ∷ behind))
    → Point pool request answers (before ++ more) (c ∷ behind)
later {before = before} p more c behind e = record {
  pool_bytes = p.pool_bytes;
  batch_bytes = p.batch_bytes;
  done = p.done;
  split = e ∙ sym (append_assoc before more (c ∷ behind));
}

-- From a point of a batch on a handle is refused exactly if it is so told: in the answers of this batch, and by every door after any door calls.
pub refused_from_told : {pool request answers : List ℕ} {before rest : List Command} → Point pool request answers before rest → (slot stamp : ℕ)
    → RefusedFrom pool request answers before slot stamp exactly_if ToldGoneFrom pool request answers before slot stamp
refused_from_told p slot stamp = (
  λ h. record {
    in_this_batch = λ more c rest e n. gone_told (later p more c rest e) n.op (h.in_this_batch more c rest e n);
    ever_after = λ d l. (refused_on_told d slot stamp).0 (h.ever_after d l);
  },
  λ h. record {
    in_this_batch = λ more c rest e n. told_gone (later p more c rest e) (h.in_this_batch more c rest e n);
    ever_after = λ d l. (refused_on_told d slot stamp).1 (h.ever_after d l);
  },
)

-- ---- a mark, and a record added under it

-- A mark is done exactly if the code of its answer is 0.
pub mark_told : (pool request answers : List ℕ) (before : List Command) (mark : Command) (between rest : List Command)
    → Marked pool request answers before mark between rest exactly_if ToldMark pool request answers before mark between rest
mark_told pool request answers before mark between rest = (
  λ h. record { point = h.point; is_mark = h.is_mark; done = code_told h.point ∙ h.done; inside = h.inside },
  λ h. record { point = h.point; is_mark = h.is_mark; done = sym (code_told h.point) ∙ h.done; inside = h.inside },
)

-- the point of a command between the mark and what follows
pub between_point : {pool request answers : List ℕ} {before : List Command} {mark : Command} (between rest : List Command)
    → Point pool request answers before (mark ∷ (between ++ rest)) → (first : List Command) (c : Command) (others : List Command)
    → between ≡ first ++ (c ∷ others) → Point pool request answers (before ++ (mark ∷ first)) (c ∷ (others ++ rest))
between_point {before = before} {mark = mark} between rest p first c others e =
    later p (mark ∷ first) c (others ++ rest) (p.split ∙ ap (λ (l : List Command). before ++ (mark ∷ l))
    (ap (λ (l : List Command). l ++ rest) e ∙ append_assoc first (c ∷ others) rest))

-- A record was added between a mark and its close with this handle exactly if an answer in between says so.
pub added_told : {pool request answers : List ℕ} {before : List Command} {mark : Command} (between rest : List Command)
    → Point pool request answers before (mark ∷ (between ++ rest)) → (slot stamp : ℕ)
    → AddedBetween pool before mark between slot stamp exactly_if ToldAdded pool request answers before mark between slot stamp
added_told between rest p slot stamp = (
  λ h.
      let q = between_point between rest p h.first h.command h.others h.split in
      record {
        first = h.first;
        command = h.command;
        others = h.others;
        split = h.split;
        adds = h.adds;
        done = code_told q ∙ h.done;
        slot_shown = ap shown_slot (answer_told q) ∙ h.slot_shown;
        stamp_shown = ap shown_stamp (answer_told q) ∙ h.stamp_shown;
      },
  λ h.
      let q = between_point between rest p h.first h.command h.others h.split in
      record {
        first = h.first;
        command = h.command;
        others = h.others;
        split = h.split;
        adds = h.adds;
        done = sym (code_told q) ∙ h.done;
        slot_shown = ap shown_slot (sym (answer_told q)) ∙ h.slot_shown;
        stamp_shown = ap shown_stamp (sym (answer_told q)) ∙ h.stamp_shown;
      },
)

-- ---- an abandoned plan

-- A mark was answered with 0; a record was added under it, answered with 0 and with this slot and stamp; then comes a rollback. The rollback is answered
-- with 0. Every later command of the batch that names that handle, and over any door calls every command of every later batch, is answered with the
-- number, the cursor kind 0 and zeros; and name hands back nothing for it.
pub added_gone_told : {pool request answers : List ℕ} {before : List Command} {mark : Command} {between : List Command} {back : Command} {rest : List Command}
    → ToldMark pool request answers before mark between (back ∷ rest) → back.op ≡ 27 → (slot stamp : ℕ)
    → ToldAdded pool request answers before mark between slot stamp
    → (code_at (batch pool request answers).answers (length (before ++ (mark ∷ between))) ≡ 0)
    × ToldGoneFrom pool request answers ((before ++ (mark ∷ between)) ++ (back ∷ [])) slot stamp
added_gone_told {pool} {request} {answers} {before} {mark} {between} {back} {rest} k e slot stamp d =
    let m = (mark_told pool request answers before mark between (back ∷ rest)).1 k in
    let at_back = point_on {rest = back ∷ rest} (mark ∷ between) k.point in
    let behind = point_on {rest = rest} (back ∷ []) at_back in (
      code_told at_back ∙ rollback_is_done m e,
      (refused_from_told behind slot stamp).0 (added_refused m e ((added_told between (back ∷ rest) k.point slot stamp).1 d)),
    )

-- So it is where the batch's end closes the mark: over any door calls on the pool that the batch leaves.
pub added_gone_told_later : {pool request answers : List ℕ} {before : List Command} {mark : Command} {between : List Command}
    → ToldMark pool request answers before mark between [] → (slot stamp : ℕ) → ToldAdded pool request answers before mark between slot stamp
    → (later : List ℕ) → Calls (batch pool request answers).pool later → ToldGoneOn later slot stamp
added_gone_told_later {pool} {request} {answers} {before} {mark} {between} k slot stamp d later l =
    (refused_on_told later slot stamp).0
    (added_refused_later ((mark_told pool request answers before mark between []).1 k) ((added_told between [] k.point slot stamp).1 d) later l)

-- A batch whose first command is a mark, answered with 0 and not closed by a command, leaves the contents of the pool that it was lent.
pub plan_abandoned : {pool request answers : List ℕ} {mark : Command} {between : List Command} → ToldMark pool request answers [] mark between []
    → SameContents (read pool) (read (batch pool request answers).pool)
unfolding state_after run begun
plan_abandoned {pool} {request} {answers} {mark} {between} k = end_gives_back_bytes ((mark_told pool request answers [] mark between []).1 k)

-- So does one whose last command is the rollback.
pub plan_rolled_back : {pool request answers : List ℕ} {mark : Command} {between : List Command} {back : Command}
    → ToldMark pool request answers [] mark between (back ∷ []) → back.op ≡ 27 → SameContents (read pool) (read (batch pool request answers).pool)
unfolding state_after run begun
plan_rolled_back {pool} {request} {answers} {mark} {between} {back} k e =
    rollback_gives_back_bytes ((mark_told pool request answers [] mark between (back ∷ [])).1 k) e
