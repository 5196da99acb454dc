-- What a result does to the state, by how the command ended: it showed a record, took one out, added one, or was refused. Assumes nothing.
use Rattle.std.proofs.Common.{◌≡◌, ℕ, List, sym, ap, eq-eqb, ne_eqb}
use Rattle.avl.specs.Tree.{Dir}
use Rattle.meaning.specs.Layout.{within}
use Rattle.meaning.specs.Cursor.{Cursor}
use Rattle.slots.specs.Record.{no_record, record_n}
use Rattle.slots.specs.Head.{tree_n}
use Rattle.slots.specs.Change.{Image, drop_rec_n, put_rec_n, grown_n, add_rec_n}
use Rattle.slots.specs.declared.head.Head.{Head}
use Rattle.slots.specs.declared.record.Record.{Record}
use Rattle.cursor.specs.Cursor.{after_n}
use Rattle.cursor.specs.Work.{Work, placed, noted, numbers_after, table_after, Did, sight_of, step_of}
use Rattle.cursor.specs.declared.command.Command.{Command}
use Rattle.cursor.specs.declared.cursor.Next.{Next}
use Rattle.ops.specs.Ending.{look_n, Changed, take_out_n, new_record, add_new_n}
use Rattle.ops.specs.Perform.{Out}

-- refused: no record, nothing to be journalled
abbrev pub refusal : Work → ℕ → Did
refusal w e = record { work = w; code = e; slot = 0; rec = no_record; change = 0 }

-- the state with another head and cursor
abbrev pub headed : Work → Head → Cursor → Work
headed w h k = record { head = h; cursor = k; mark = w.mark }

-- the record v of slot x taken out or added: the body and the head after it
abbrev pub moved : Work → Image → Cursor → ℕ → Record → ℕ → Out
moved w o k x v change = (o.0, record { work = headed w o.1 k; code = 0; slot = x; rec = v; change = change })

-- a step with the body that it leaves
abbrev pub stepped_by : Work → Command → Changed → Out
stepped_by w c o = (o.0, step_of w c o.1)

module _ (m : List ℕ) (w : Work) (c : Command) (e x : ℕ) (then : Next) where
  -- ---- a record shown

  pub look_done : e ≡ 0
      → sight_of m w c (look_n e x then)
      ≡ record { work = placed w (after_n w.cursor c then x); code = 0; slot = x; rec = record_n m x; change = 0 }
  unfolding look_n
  look_done z = simp (eq-eqb e 0 z)

  pub look_refused : (e ≡ 0 → ⊥) → sight_of m w c (look_n e x then) ≡ refusal (placed w (after_n w.cursor c then 0)) e
  unfolding look_n record_n
  look_refused z = simp (ne_eqb e 0 z)

  -- ---- a record taken out of the command's tree

  abbrev taken : Changed
  taken = take_out_n m w.head.numbers.free (tree_n w.head.table c.tree) x e then

  in_tree : (v : Record) → v.tree ≡ c.tree
      → record { key = v.key; stamp = v.stamp; start = v.start; len = v.len; tree = c.tree } ≡ v
  in_tree v h = ap (λ (t : ℕ). record { key = v.key; stamp = v.stamp; start = v.start; len = v.len; tree = t }) (sym h)

  pub take_done : e ≡ 0 → (record_n m x).tree ≡ c.tree
      → stepped_by w c taken ≡ moved w (drop_rec_n m w.head x c.tree) (after_n w.cursor c then x) x (record_n m x) 2
  unfolding take_out_n drop_rec_n numbers_after table_after noted within
  take_done z h =
      simp (eq-eqb e 0 z)
      (ap (λ (v : Record). moved w (drop_rec_n m w.head x c.tree) (after_n w.cursor c then x) x v 2) (in_tree (record_n m x) h))

  pub take_refused : (e ≡ 0 → ⊥) → stepped_by w c taken ≡ (m, refusal (placed w (after_n w.cursor c then 0)) e)
  unfolding take_out_n numbers_after table_after noted within
  take_refused z = simp (ne_eqb e 0 z)

-- ---- the command's record added to its tree

module _ (m names : List ℕ) (w : Work) (c : Command) (s : ℕ × Dir) (e : ℕ) (then : Next) where
  abbrev grown : Changed
  grown = add_new_n m names w.head.numbers (tree_n w.head.table c.tree) c s e then

  pub add_done : e ≡ 0
      → (let v = new_record w.head.numbers c in let x = w.head.numbers.free in
      stepped_by w c grown ≡ moved w (add_rec_n m w.head v names c.at s.0 s.1) (after_n w.cursor c then x) x v 1)
  unfolding add_new_n add_rec_n put_rec_n grown_n numbers_after table_after noted within
  add_done z = simp (eq-eqb e 0 z)

  pub add_refused : (e ≡ 0 → ⊥) → stepped_by w c grown ≡ (m, refusal (placed w (after_n w.cursor c then 0)) e)
  unfolding add_new_n numbers_after table_after noted within
  add_refused z = simp (ne_eqb e 0 z)
