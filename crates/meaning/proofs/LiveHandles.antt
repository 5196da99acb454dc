-- A live record's handle is accepted by the door batch: ops 4 to 6 in its tree are not refused for their tree, slot or handle. Assumes nothing.
use Rattle.std.proofs.Common.{◌≡◌, ℕ, Bool, true, false, cond, List, [], ◌∷◌, length, sym, refl, ◌∙◌, subst, arith, eq-eqb, le-leb}
use Rattle.std.proofs.Math.Option.{some}
use Rattle.meaning.specs.Layout.{within}
use Rattle.meaning.specs.Pool.{Rec, rec_at}
use Rattle.meaning.specs.Cursor.{Command, State}
use Rattle.meaning.specs.Command.{always, bad_tree, bad_slot, is_stale, stale, is_elsewhere, other_tree, none_there, among, unknown, adding, refuse◌at◌if◌, refusals, first_of, refusal}
use Rattle.meaning.specs.Doors.{run, begun, batch, name}
use Rattle.meaning.specs.WellFormed.{WellFormed}
use Rattle.meaning.specs.Calls.{Point, state_after, ByHandle}
use Rattle.meaning.specs.Told.{code_at, AcceptedWith, with_done, with_none}
use Rattle.meaning.proofs.Answers.{code_told}
use Rattle.meaning.proofs.Members.{slot_in}
use Rattle.meaning.proofs.Points.{point_good}
use Rattle.meaning.proofs.StaleHandles.{four_to_six, name_accepted}

module _ (s : State) (c : Command) (x : ℕ) (r : Rec) (w : WellFormed s.pool) (live : rec_at s.pool x ≡ some r) (h : ByHandle c x r.stamp)
    (home : c.tree ≡ r.tree) where
  tree_passed : bad_tree s c ≡ false
  unfolding bad_tree within
  tree_passed =
      let g = w.recs x r live in
      rw (home, le-leb 1 r.tree g.tree_low, le-leb r.tree (length s.pool.trees) g.tree_high)

  slot_passed : bad_slot s c ≡ false
  unfolding bad_slot within
  slot_passed = let i = slot_in s.pool x r live in rw (h.slot_is, le-leb 1 x i.0, le-leb x (length s.pool.slots) i.1)

  stamp_passed : stale s c ≡ false
  unfolding stale is_stale
  stamp_passed = rw (h.slot_is, h.stamp_is, live, eq-eqb r.stamp r.stamp refl)

  home_passed : other_tree s c ≡ false
  unfolding other_tree is_elsewhere
  home_passed = rw (h.slot_is, live, home, eq-eqb r.tree r.tree refl)

  only_none_there : refusal s c ≡ cond (within 5 6 c.op) (cond (none_there s c) 19 0) 0
  unfolding refusal refusals first_of refuse◌at◌if◌ always unknown within among adding
  only_none_there =
      four_to_six (λ n. first_of refusals n s c ≡ cond (within 5 6 n) (cond (none_there s c) 19 0) 0)
      (rw (tree_passed, slot_passed, stamp_passed, home_passed)) (rw (tree_passed, slot_passed, stamp_passed, home_passed))
      (rw (tree_passed, slot_passed, stamp_passed, home_passed)) c.op h.op

  -- A command by the handle of a live record, in its tree, is done; next and previous may find that there is none.
  pub live_passes : AcceptedWith c (refusal s c)
  live_passes = go (within 5 6 c.op) refl (none_there s c) only_none_there
    where
      go : (a : Bool) → within 5 6 c.op ≡ a → (b : Bool) → refusal s c ≡ cond a (cond b 19 0) 0 → AcceptedWith c (refusal s c)
      go true e true z = with_none e z
      go true e false z = with_done z
      go false e b z = with_done z

-- A code with which a command is accepted is no refusal of a tree (11), a slot (14), a stale handle (15) or another tree's (16).
pub accepted_is_no_refusal : {c : Command} {code : ℕ} → AcceptedWith c code → (code ≡ 11 → ⊥) × (code ≡ 14 → ⊥) × (code ≡ 15 → ⊥) × (code ≡ 16 → ⊥)
accepted_is_no_refusal (with_done e) = (λ z. omega (arith, e, z), λ z. omega (arith, e, z), λ z. omega (arith, e, z), λ z. omega (arith, e, z))
accepted_is_no_refusal (with_none h e) = (λ z. omega (arith, e, z), λ z. omega (arith, e, z), λ z. omega (arith, e, z), λ z. omega (arith, e, z))

-- ---- at the door

-- At a point of a batch a slot holds the record r. A command there that names r's handle in r's tree is answered with the code 0, or for next and previous
-- with 19 where there is no record on that side: never with 11, 14, 15 or 16.
pub live_in_batch : {pool request answers : List ℕ} {before : List Command} {c : Command} {rest : List Command}
    → Point pool request answers before (c ∷ rest) → (slot : ℕ) (r : Rec) → rec_at (state_after pool before).pool slot ≡ some r
    → ByHandle c slot r.stamp → c.tree ≡ r.tree → AcceptedWith c (code_at (batch pool request answers).answers (length before))
live_in_batch {pool = pool} {before = before} {c = c} p slot r live h home =
    subst (AcceptedWith c) (sym (code_told p)) (live_passes (state_after pool before) c slot r (point_good p).1.pool live h home)

-- What name gives a name for, batch accepts: the first command of a batch on the same pool that names the handle in that tree is answered so.
pub named_in_batch : {pool request answers : List ℕ} {c : Command} {rest : List Command} → Point pool request answers [] (c ∷ rest)
    → (tree slot stamp : ℕ) → (name pool tree slot stamp ≡ [] → ⊥) → ByHandle c slot stamp → c.tree ≡ tree
    → AcceptedWith c (code_at (batch pool request answers).answers 0)
unfolding state_after run begun
named_in_batch {pool = pool} p tree slot stamp n h home =
    let a = (name_accepted pool tree slot stamp p.pool_bytes n).accepted in
    live_in_batch p slot a.rec a.is (record { op = h.op; slot_is = h.slot_is; stamp_is = h.stamp_is ∙ sym a.stamp }) (home ∙ a.tree)
