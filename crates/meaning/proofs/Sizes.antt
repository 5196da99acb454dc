-- No command changes how many slots and trees a pool has, nor how much text it can hold. Assumes nothing.
use Rattle.std.proofs.Common.{◌≡◌, ℕ, suc, Bool, true, false, cond, eqb, List, [], ◌∷◌, ◌++◌, refl, ◌∙◌, eqb-true}
use Rattle.std.proofs.Math.Option.{Option, none, some}
use Rattle.std.proofs.lemmas.List.{length-map}
use Rattle.avl.specs.Tree.{leaf}
use Rattle.avl.specs.Order.{nil, more}
use Rattle.meaning.specs.Layout.{span}
use Rattle.meaning.specs.Pool.{Rec, Pool, rec_at}
use Rattle.meaning.specs.Change.{with_trees, with_text, with_next, free_slot, put_rec, drop_rec, new_rec, add_rec, emptied, Change, added, removed, Mark, undo_add, undo, rollback, rolled_back}
use Rattle.meaning.specs.Cursor.{Command, State, tree_of}
use Rattle.meaning.specs.Command.{show, taken_out, take_out, add_new, silent, open_mark, roll_back, commit, reset, op◌means◌does◌then◌, ops, op_in, op_of, refusal, refused, carried_out, perform}
use Rattle.meaning.specs.Doors.{run, ended}
use Rattle.meaning.specs.Demands.{SameSizes}
use Rattle.meaning.proofs.Facts.{length_put}
use Rattle.meaning.proofs.Tables.{at_every_op}

same : (p : Pool) → SameSizes p p
same p = record { slots = refl; trees = refl; size = refl }

then_same : {p q r : Pool} → SameSizes p q → SameSizes q r → SameSizes p r
then_same a b = record { slots = b.slots ∙ a.slots; trees = b.trees ∙ a.trees; size = b.size ∙ a.size }

put_sizes : (x : ℕ) (r : Rec) (p : Pool) → SameSizes p (put_rec x r p)
unfolding put_rec with_trees
put_sizes x r p = record { slots = length_put p.slots x (some r); trees = length_put p.trees r.tree _; size = refl }

drop_sizes : (x : ℕ) (r : Rec) (p : Pool) → SameSizes p (drop_rec x r p)
unfolding drop_rec with_trees
drop_sizes x r p = record { slots = length_put p.slots x none; trees = length_put p.trees r.tree _; size = refl }

add_sizes : (t k : ℕ) (name : List ℕ) (p : Pool) → SameSizes p (add_rec t k name p)
unfolding add_rec with_next with_text
add_sizes t k name p =
    let h = put_sizes (free_slot p) (new_rec t k name p) (with_next (with_text p (p.text ++ name)) (suc p.next)) in
    record { slots = h.slots; trees = h.trees; size = h.size }

undo_sizes : (cs : List Change) (p : Pool) → SameSizes p (undo cs p)
unfolding undo
undo_sizes [] p = same p
undo_sizes (added x ∷ cs) p = then_same (go (rec_at p x)) (undo_sizes cs (undo_add x (rec_at p x) p))
  where
    go : (o : Option Rec) → SameSizes p (undo_add x o p)
    go none = unfold undo_add in same p
    go (some r) = unfold undo_add in drop_sizes x r p
undo_sizes (removed x r ∷ cs) p = then_same (put_sizes x r p) (undo_sizes cs (put_rec x r p))

rolled_sizes : (m : Option Mark) (p : Pool) → SameSizes p (rolled_back m p)
unfolding rolled_back rollback with_text
rolled_sizes none p = same p
rolled_sizes (some m) p = let h = undo_sizes m.changes p in record { slots = h.slots; trees = h.trees; size = h.size }

emptied_sizes : (p : Pool) → SameSizes p (emptied p)
unfolding emptied with_text with_trees
emptied_sizes p = record { slots = length-map p.slots (λ _. none); trees = length-map p.trees (λ _. leaf); size = refl }

taken_sizes : (s : State) (x : ℕ) (o : Option Rec) → SameSizes s.pool (taken_out s x o).pool
unfolding taken_out
taken_sizes s x none = same s.pool
taken_sizes s x (some r) = drop_sizes x r s.pool

module _ (s : State) (c : Command) where
  -- what op n does keeps the sizes
  abbrev Stays : ℕ → Type 0
  Stays n = SameSizes s.pool (carried_out (op_in ops n) s c).state.pool

  stays_all : refusal s c ≡ 0 → Stays c.op
  unfolding ops op_in op◌means◌does◌then◌ span carried_out show take_out add_new silent open_mark roll_back commit reset
  stays_all z =
      let p = s.pool in
      let looks : SameSizes p p = same p in
      let takes : (x : ℕ) → SameSizes p (taken_out s x (rec_at p x)).pool = λ x. taken_sizes s x (rec_at p x) in
      let new : SameSizes p (add_rec (tree_of s c) c.key c.name p) = add_sizes (tree_of s c) c.key c.name p in
      at_every_op Stays s c z
      (more (λ _. new) (more (λ _. looks) (more (λ _. takes _) (more (λ _. takes _) (more (λ _. looks) (more (λ _. looks) (more (λ _. looks)
      (more (λ _. looks) (more (λ _. looks) (more (λ _. looks) (more (λ _. looks) (more (λ _. looks) (more (λ _. looks) (more (λ _. looks)
      (more (λ _. looks) (more (λ _. new) (more (λ _. new) (more (λ _. new) (more (λ _. new) (more (λ _. new) (more (λ _. takes _) (more (λ _. takes _)
      (more (λ _. takes _) (more (λ _. new) (more (λ _. new) (more (λ _. looks) (more (λ _. rolled_sizes s.mark p) (more (λ _. looks)
      (more (λ _. emptied_sizes p) nil)))))))))))))))))))))))))))))

  -- A command keeps the sizes.
  pub command_sizes : SameSizes s.pool (perform s c).state.pool
  unfolding perform op_of refused
  command_sizes = go (eqb (refusal s c) 0) (λ t. stays_all (eqb-true (refusal s c) 0 t))
    where
      go : (b : Bool) → (b ≡ true → Stays c.op)
          → SameSizes s.pool (cond b (carried_out (op_in ops c.op) s c) (refused (refusal s c) s c)).state.pool
      go true f = f refl
      go false f = same s.pool

-- So does a row of commands,
pub run_sizes : (s : State) (cs : List Command) → SameSizes s.pool (run s cs).state.pool
unfolding run
run_sizes s [] = same s.pool
run_sizes s (c ∷ cs) = then_same (command_sizes s c) (run_sizes (perform s c).state cs)

-- and a batch at its end.
pub ended_sizes : (s : State) → SameSizes s.pool (ended s)
unfolding ended
ended_sizes s = rolled_sizes s.mark s.pool

-- A batch from its beginning to its end.
pub batch_sizes : (s : State) (cs : List Command) → SameSizes s.pool (ended (run s cs).state)
batch_sizes s cs = then_same (run_sizes s cs) (ended_sizes (run s cs).state)
