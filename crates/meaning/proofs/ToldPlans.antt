-- An abandoned plan at the door name: every handle has the name that it had, or none if it had none. Assumes nothing.
use Rattle.std.proofs.Common.{◌≡◌, ℕ, List, [], ◌∷◌, sym, refl, ap, ◌∙◌, arith}
use Rattle.std.proofs.Math.Option.{some}
use Rattle.fields.specs.Part.{part}
use Rattle.meaning.specs.Pool.{rec_at, read}
use Rattle.meaning.specs.Cursor.{Command}
use Rattle.meaning.specs.Doors.{batch, name}
use Rattle.meaning.specs.Calls.{SameContents}
use Rattle.meaning.specs.Told.{ToldMark}
use Rattle.meaning.proofs.Points.{Stored, Anything, point_stored, batch_stored}
use Rattle.meaning.proofs.StaleHandles.{name_accepted, live_named}
use Rattle.meaning.proofs.ToldHandles.{plan_abandoned, plan_rolled_back}

-- what name gives of one pool it gives of another with the same slots and text
gives_too : (b d : List ℕ) → Stored Anything b → Stored Anything d → (read d).slots ≡ (read b).slots → (read d).text ≡ (read b).text
    → (tree slot stamp : ℕ) → (name b tree slot stamp ≡ [] → ⊥) → name d tree slot stamp ≡ name b tree slot stamp
unfolding rec_at
gives_too b d h k slots text tree slot stamp n =
    let f = name_accepted b tree slot stamp h.are_bytes n in
    let a = f.accepted in
    let r = a.rec in
    let live : rec_at (read d) slot ≡ some r = rw slots a.is in
    let given : name d r.tree slot r.stamp ≡ part (read d).text r.start r.len =
    live_named d slot r k.are_bytes k.is_sound live in
    ap (λ (t : ℕ). name d t slot stamp) a.tree ∙ ap (name d r.tree slot) (sym a.stamp) ∙ given
    ∙ ap (λ (l : List ℕ). part l r.start r.len) text ∙ sym f.is

-- Two sound pools with the same contents give the same names for all handles.
pub same_names : (b d : List ℕ) → Stored Anything b → Stored Anything d → SameContents (read b) (read d) → (tree slot stamp : ℕ)
    → name d tree slot stamp ≡ name b tree slot stamp
same_names b d h k same tree slot stamp = go (name b tree slot stamp) refl (name d tree slot stamp) refl
  where
    some_left : {x : ℕ} {l m : List ℕ} → m ≡ x ∷ l → m ≡ [] → ⊥
    some_left e f = let z : ◌≡◌ {A = ℕ} 0 1 = cc in absurd (omega arith)

    go : (l : List ℕ) → name b tree slot stamp ≡ l → (m : List ℕ) → name d tree slot stamp ≡ m → name d tree slot stamp ≡ name b tree slot stamp
    go [] e [] f = f ∙ sym e
    go [] e (x ∷ m) f = sym (gives_too d b k h (sym same.slots) (sym same.text) tree slot stamp (some_left f))
    go (x ∷ l) e m f = gives_too b d h k same.slots same.text tree slot stamp (some_left e)

module _ {pool request answers : List ℕ} {mark : Command} {between : List Command} where
  -- A batch whose first command is a mark, answered with 0 and not closed by a command: on the pool that it leaves name hands back for every handle what it
  -- hands back on the pool that the batch was lent.
  pub plan_leaves_names : ToldMark pool request answers [] mark between [] → (tree slot stamp : ℕ)
      → name (batch pool request answers).pool tree slot stamp ≡ name pool tree slot stamp
  plan_leaves_names k tree slot stamp =
      same_names pool (batch pool request answers).pool (point_stored k.point Anything (record {})) (batch_stored k.point) (plan_abandoned k)
      tree slot stamp

  -- So it is where the batch's last command is the rollback.
  pub rollback_leaves_names : {back : Command} → ToldMark pool request answers [] mark between (back ∷ []) → back.op ≡ 27 → (tree slot stamp : ℕ)
      → name (batch pool request answers).pool tree slot stamp ≡ name pool tree slot stamp
  rollback_leaves_names k e tree slot stamp =
      same_names pool (batch pool request answers).pool (point_stored k.point Anything (record {})) (batch_stored k.point) (plan_rolled_back k e)
      tree slot stamp
