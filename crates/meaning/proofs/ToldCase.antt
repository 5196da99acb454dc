-- A batch to which the statements over the answers' bytes apply, so that they are not empty: under a mark a record is added, the mark is rolled back, and
-- then the record is to be removed by its handle. Assumes nothing.
use Rattle.std.proofs.Common.{◌≡◌, ℕ, List, [], ◌∷◌, replicate, refl}
use Rattle.std.proofs.lemmas.Bool.{eqb-false}
use Rattle.meaning.specs.Cursor.{Command}
use Rattle.meaning.specs.Doors.{batch}
use Rattle.meaning.specs.Calls.{Calls, none_more, one_more, shown_slot, shown_stamp}
use Rattle.meaning.specs.Told
use Rattle.meaning.specs.Told.{answer_at, ToldMark, ToldAdded, ToldGoneOn}
use Rattle.meaning.proofs.Lines
use Rattle.meaning.proofs.Lines.{Line, ◌⇒◌, add, remove_handle, mark, rollback, refused◌kind◌, kind◌nothing, kind◌slot◌stamp◌key◌text◌}
use Rattle.meaning.proofs.RollbackCase.{pool, asking, asks, are_bytes}
use Rattle.meaning.proofs.ToldHandles.{added_gone_told}

unfoldable lines : List Line
lines =
    mark ⇒ kind 0 nothing
    ∷ add 20 ⇒ kind 0 slot 1 stamp 1 key 20 text 0
    ∷ rollback ⇒ kind 0 nothing
    ∷ remove_handle 1 1 ⇒ refused 15 kind 0
    ∷ []

unfoldable asked : List ℕ
asked = asking lines

unfoldable answers : List ℕ
answers = replicate 96 7

unfoldable nth : ℕ → Command
nth i = asks lines i

-- the mark's answer has the code 0, and no command closes it before the rollback
applies : ToldMark pool asked answers [] (nth 0) (nth 1 ∷ []) (nth 2 ∷ nth 3 ∷ [])
unfolding Lines.opened Told.opened lines pool asking asked answers asks nth
applies = record {
  point = record { pool_bytes = are_bytes pool refl; batch_bytes = are_bytes asked refl; done = refl; split = refl };
  is_mark = refl;
  done = refl;
  inside = one_more {c = nth 1} {cs = []} (eqb-false (nth 1).op 27 refl) (eqb-false (nth 1).op 28 refl) none_more;
}

-- the answer of the command behind it has the code 0 and shows slot 1 and stamp 1
added : ToldAdded pool asked answers [] (nth 0) (nth 1 ∷ []) 1 1
unfolding Lines.opened Told.opened shown_slot shown_stamp lines pool asking asked answers asks nth
added = record { first = []; command = nth 1; others = []; split = refl; adds = refl; done = refl; slot_shown = refl; stamp_shown = refl }

-- The removal by that handle is answered with 15 and 23 zeros.
removal_answered : answer_at (batch pool asked answers).answers 3 ≡ 15 ∷ replicate 23 0
unfolding Lines.opened Told.opened lines pool asking asked answers asks nth
removal_answered =
    (added_gone_told applies refl 1 1 added).1.in_this_batch [] (nth 3) [] refl (record { op = refl; slot_is = refl; stamp_is = refl })

-- It is so answered for ever.
gone_for_ever : (later : List ℕ) → Calls (batch pool asked answers).pool later → ToldGoneOn later 1 1
unfolding Lines.opened Told.opened lines pool asking asked answers asks nth
gone_for_ever later l = (added_gone_told applies refl 1 1 added).1.ever_after later l
