-- What a command that is done does, by its kind: it adds a record and shows its handle, removes the record meant, or is a mark, a rollback, a commit
-- or a reset. Assumes nothing.
use Rattle.std.proofs.Common.{◌≡◌, ℕ, ◌^◌, ◌<◌, true, List, [], ◌∷◌, sym, refl, ap, ◌∙◌, append-nil, arith, eq-eqb}
use Rattle.std.proofs.Math.Option.{Option, none, some}
use Rattle.fields.specs.Number.{get_le}
use Rattle.avl.specs.Order.{nil, more}
use Rattle.meaning.specs.Layout.{within, every, count, span}
use Rattle.meaning.specs.Pool.{Rec, Pool, rec_at}
use Rattle.meaning.specs.Change.{free_slot, new_rec, add_rec, drop_rec, emptied, removed, Mark, noted}
use Rattle.meaning.specs.Cursor.{Command, State, kind, tree_of}
use Rattle.meaning.specs.Command.{taken_out, take_out, add_new, silent, roll_back, commit, reset, op◌means◌does◌then◌, ops, op_in, op_of, meant, among, adding, refusal, answer, carried_out, perform}
use Rattle.meaning.specs.Doors.{ended}
use Rattle.meaning.specs.WellFormed.{WellFormed}
use Rattle.meaning.specs.Meant.{removing}
use Rattle.meaning.specs.Calls.{shown_slot, shown_stamp}
use Rattle.meaning.proofs.Facts.{pack_get}
use Rattle.meaning.proofs.Good.{Addable}
use Rattle.meaning.proofs.Changes.{free_slot_lem}
use Rattle.meaning.proofs.Adding.{adders}
use Rattle.meaning.proofs.Bindings.{added_rec}
use Rattle.meaning.proofs.Tables.{at_ops}

-- A command that is not refused is carried out.
pub performed : (s : State) (c : Command) → refusal s c ≡ 0 → perform s c ≡ carried_out (op_of c) s c
unfolding perform
performed s c z = rw (eq-eqb (refusal s c) 0 z)

-- ---- records added

does_add : (s : State) (c : Command) → adding c.op ≡ true → refusal s c ≡ 0 → (op_of c).does s c ((op_of c).means s c) ≡ add_new s c 0
unfolding op_of ops op_in op◌means◌does◌then◌ adding among within every count span add_new
does_add s c h z =
    at_ops (λ n. (op_in ops n).does s c ((op_in ops n).means s c) ≡ add_new s c 0) adding adders refl s c z h
    (more (λ _. refl) (more (λ _. refl) (more (λ _. refl) (more (λ _. refl) (more (λ _. refl) (more (λ _. refl) (more (λ _. refl)
    (more (λ _. refl) nil))))))))

-- what an adding command that is done leaves and shows: the new record, in the lowest free slot and with the next stamp
pub record Added (s : State) (c : Command) : Type 0 where
  pub pool : (perform s c).state.pool ≡ add_rec (tree_of s c) c.key c.name s.pool
  pub slot : shown_slot (perform s c).answer ≡ free_slot s.pool
  pub stamp : shown_stamp (perform s c).answer ≡ s.pool.next

-- The answer shows its record's slot and stamp.
pub answer_shows : (k x : ℕ) (r : Rec) → x < 256 ^ 2 → r.stamp < 256 ^ 4
    → (shown_slot (answer 0 k x (some r)) ≡ x) × (shown_stamp (answer 0 k x (some r)) ≡ r.stamp)
unfolding shown_slot shown_stamp answer
answer_shows k x r h l = (
  ap (λ (b : List ℕ). get_le 2 b 2) (sym (append-nil _)) ∙ pack_get ((1, 0) ∷ (1, k) ∷ []) 2 x _ [] h,
  ap (λ (b : List ℕ). get_le 4 b 4) (sym (append-nil _)) ∙ pack_get ((1, 0) ∷ (1, k) ∷ (2, x) ∷ []) 4 r.stamp _ [] l,
)

-- An adding command that is done does so.
pub adds_shown : (s : State) (c : Command) → WellFormed s.pool → Addable s.pool (tree_of s c) c.key c.name → adding c.op ≡ true
    → refusal s c ≡ 0 → Added s c
unfolding carried_out add_new new_rec
adds_shown s c w a h z =
    let d = does_add s c h z in
    let p = s.pool in
    let f = free_slot_lem p a.slot in
    let r = new_rec (tree_of s c) c.key c.name p in
    let k = kind ((op_of c).then s c (free_slot p)) in
    let done : (carried_out (op_of c) s c).answer ≡ answer 0 k (free_slot p) (some r) =
    rw d (ap (answer 0 k (free_slot p)) (added_rec p (tree_of s c) c.key c.name a)) in
    let shows = answer_shows k (free_slot p) r (omega (arith, f.1, w.slots_high)) w.next_high in
    record {
      pool = rw (performed s c z, d);
      slot = ap shown_slot (rw (performed s c z) done) ∙ shows.0;
      stamp = ap shown_stamp (rw (performed s c z) done) ∙ shows.1;
    }

-- ---- records removed

pub does_take : (s : State) (c : Command) → removing c.op ≡ true → refusal s c ≡ 0
    → (op_of c).does s c ((op_of c).means s c) ≡ take_out s c ((op_of c).means s c)
unfolding op_of ops op_in op◌means◌does◌then◌ among within every count span
does_take s c h z =
    at_ops (λ n. (op_in ops n).does s c ((op_in ops n).means s c) ≡ take_out s c ((op_in ops n).means s c)) removing (3 ∷ 4 ∷ 21 ∷ 22 ∷ 23 ∷ []) refl s c z h
    (more (λ _. refl) (more (λ _. refl) (more (λ _. refl) (more (λ _. refl) (more (λ _. refl) nil)))))

-- the record r is taken out of its slot x, and a mark that is open notes it
pub record Removed (s : State) (c : Command) (x : ℕ) (r : Rec) : Type 0 where
  pub pool : (perform s c).state.pool ≡ drop_rec x r s.pool
  pub mark : (perform s c).state.mark ≡ noted (removed x r) s.mark

-- A removing command that is done takes out the record meant.
pub removes : (s : State) (c : Command) (x : ℕ) (r : Rec) → removing c.op ≡ true → refusal s c ≡ 0 → meant s c ≡ x → rec_at s.pool x ≡ some r
    → Removed s c x r
unfolding carried_out take_out taken_out meant
removes s c x r h z e live =
    let d = does_take s c h z in
    record { pool = rw (performed s c z, d, e, live); mark = rw (performed s c z, d, e, live) }

-- ---- marks, rollbacks, commits and resets

-- the pool and the mark that a command leaves
pub record Leaves (s : State) (c : Command) (p : Pool) (m : Option Mark) : Type 0 where
  pub pool : (perform s c).state.pool ≡ p
  pub mark : (perform s c).state.mark ≡ m

module _ (s : State) (c : Command) (z : refusal s c ≡ 0) where
  -- A rollback leaves what the batch's end would, and no mark.
  pub rolls_back : c.op ≡ 27 → Leaves s c (ended s) none
  unfolding ended op_of ops op_in op◌means◌does◌then◌ carried_out silent roll_back
  rolls_back e = record { pool = rw (performed s c z, e); mark = rw (performed s c z, e) }

  -- A commit leaves the pool, and no mark.
  pub commits : c.op ≡ 28 → Leaves s c s.pool none
  unfolding op_of ops op_in op◌means◌does◌then◌ carried_out silent commit
  commits e = record { pool = rw (performed s c z, e); mark = rw (performed s c z, e) }

  -- A reset leaves the pool emptied, and no mark.
  pub resets : c.op ≡ 29 → Leaves s c (emptied s.pool) none
  unfolding op_of ops op_in op◌means◌does◌then◌ carried_out silent reset
  resets e = record { pool = rw (performed s c z, e); mark = rw (performed s c z, e) }
