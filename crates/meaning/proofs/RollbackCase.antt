-- A batch to which demand 3 applies, so that its statements are not empty: a record is added, then under a mark a second one is added and the first
-- removed, and the mark is rolled back. Assumes nothing.
use Rattle.std.proofs.Common.{◌≡◌, ℕ, ◌<◌, true, ltb, List, [], ◌∷◌, length, get_or, take, replicate, sym, refl, subst, arith, ltb-true}
use Rattle.std.proofs.Math.Decide.{dec_lt}
use Rattle.std.proofs.Math.ListN.{get_or-eq_default}
use Rattle.std.proofs.lemmas.Bool.{eqb-false}
use Rattle.fields.specs.Number.{Bytes}
use Rattle.meaning.specs.Layout.{every}
use Rattle.meaning.specs.Pool.{read}
use Rattle.meaning.specs.Cursor.{Command}
use Rattle.meaning.specs.Doors.{commands, batch, removal}
use Rattle.meaning.specs.Calls.{Calls, state_after, none_more, one_more, Marked, SameContents, AddedBetween, shown_slot, shown_stamp, RefusedOn}
use Rattle.meaning.proofs.Facts.{every_at}
use Rattle.meaning.proofs.Lines
use Rattle.meaning.proofs.Lines.{Line, ◌⇒◌, add, remove_by_key, mark, rollback, kind◌nothing, kind◌slot◌stamp◌key◌text◌, batch_of, letters, fresh}
use Rattle.meaning.proofs.Demand3.{rollback_gives_back_bytes, added_refused}

unfoldable lines : List Line
lines =
    add 10 ⇒ kind 0 slot 1 stamp 1 key 10 text 0
    ∷ mark ⇒ kind 0 nothing
    ∷ add 20 ⇒ kind 0 slot 2 stamp 2 key 20 text 1
    ∷ remove_by_key 10 ⇒ kind 0 slot 1 stamp 1 key 10 text 0
    ∷ rollback ⇒ kind 0 nothing
    ∷ []

unfoldable pub pool : List ℕ
pool = fresh 2 1 4

unfoldable pub asking : List Line → List ℕ
asking l = batch_of l (letters l)

unfoldable asked : List ℕ
asked = asking lines

unfoldable answers : List ℕ
answers = replicate 120 0

-- the commands that lines ask, counted from 0
unfoldable pub asks : List Line → ℕ → Command
asks l i = get_or (commands (asking l)) i (removal 0 0 0)

unfoldable nth : ℕ → Command
nth i = asks lines i

pub are_bytes : (b : List ℕ) → every (λ n. ltb n 256) b ≡ true → Bytes b
are_bytes b h = record { below = λ j. go j (dec_lt j (length b)) }
  where
    go : (j : ℕ) → Dec (j < length b) → get_or b j 0 < 256
    go j (yes l) = ltb-true (get_or b j 0) 256 (every_at (λ n. ltb n 256) b j 0 l h)
    go j (no l) = subst (λ (k : ℕ). k < 256) (sym (get_or-eq_default b 0 (omega arith))) (omega arith)

-- the mark is done, and the rollback closes it
applies : Marked pool asked answers (take 1 (commands asked)) (nth 1) (nth 2 ∷ nth 3 ∷ []) (nth 4 ∷ [])
unfolding Lines.opened state_after lines pool asking asked answers asks nth
applies = record {
  point = record { pool_bytes = are_bytes pool refl; batch_bytes = are_bytes asked refl; done = refl; split = refl };
  is_mark = refl;
  done = refl;
  inside = one_more {c = nth 2} {cs = nth 3 ∷ []} (eqb-false (nth 2).op 27 refl) (eqb-false (nth 2).op 28 refl)
      (one_more {c = nth 3} {cs = []} (eqb-false (nth 3).op 27 refl) (eqb-false (nth 3).op 28 refl) none_more);
}

-- the second record was given slot 2 and stamp 2
second : AddedBetween pool (take 1 (commands asked)) (nth 1) (nth 2 ∷ nth 3 ∷ []) 2 2
unfolding Lines.opened state_after shown_slot shown_stamp lines pool asking asked answers asks nth
second = record { first = []; command = nth 2; others = nth 3 ∷ []; split = refl; adds = refl; done = refl; slot_shown = refl; stamp_shown = refl }

-- The pool that the batch leaves has the contents that it had at the mark, the first record again.
gives_back : SameContents (state_after pool (take 1 (commands asked))).pool (read (batch pool asked answers).pool)
unfolding Lines.opened state_after lines pool asking asked answers asks nth
gives_back = rollback_gives_back_bytes applies refl

-- The second record's handle is refused for ever.
refused_for_ever : (d : List ℕ) → Calls (batch pool asked answers).pool d → RefusedOn d 2 2
unfolding Lines.opened state_after lines pool asking asked answers asks nth
refused_for_ever d l = (added_refused applies refl second).ever_after d l
