-- What each act of a command leaves: a well-formed pool with its journal, and the records that live on, so that a cursor put on one of them fits.
-- Assumes nothing.
use Rattle.std.proofs.Common.{◌≡◌, ℕ, ◌≤◌, List, length, refl, ap, ◌∙◌, eq-eqb}
use Rattle.std.proofs.Math.Option.{Option, none, some}
use Rattle.avl.specs.Tree.{Dir, left, right, pick, list}
use Rattle.avl.specs.Search.{toward, add}
use Rattle.avl.specs.Order.{first}
use Rattle.avl.proofs.Sorting.{Says}
use Rattle.meaning.specs.Pool.{Rec, Pool, rec_at, tree_at, key_at, lives_in}
use Rattle.meaning.specs.Change.{with_trees, with_text, with_next, by_key_in, free_slot, drop_rec, new_rec, add_rec}
use Rattle.meaning.specs.Cursor.{Command, first_entry, last_entry, State, tree_of}
use Rattle.meaning.specs.Command.{Done, show, taken_out, take_out, add_new, silent, open_mark, roll_back, commit, reset}
use Rattle.meaning.specs.WellFormed.{WellFormed}
use Rattle.meaning.specs.States.{Journal, shut, CursorOk, at_first, at_last, GoodState}
use Rattle.meaning.proofs.Facts.{at_put_other}
use Rattle.meaning.proofs.Good.{Addable}
use Rattle.meaning.proofs.Changes.{put_list, free_slot_lem, grown, add_fits, grown_good, drop_good, add_good, emptied_good}
use Rattle.meaning.proofs.Formed.{formed, room, not_both, Edited, put_edited}
use Rattle.meaning.proofs.Journals.{journal_opens, journal_adds, journal_removes, rolled_good}
use Rattle.meaning.proofs.Cursors.{lives_is}
use Rattle.meaning.proofs.Members.{Lives, lives}
use Rattle.meaning.proofs.Neighbours.{into_first}

-- ---- the records that live on

-- An entry at an end of a tree fits.
pub end_cursor : (e : Dir) (p : Pool) (t x : ℕ) → 1 ≤ t → t ≤ length p.trees → x ≡ first (list e (tree_at p t))
    → CursorOk p (pick e (first_entry t x) (last_entry t x))
end_cursor left p t x low high i = at_first low high i
end_cursor right p t x low high i = at_last low high i

-- A removal leaves every other record where it lives.
pub drop_lives : (x : ℕ) (r : Rec) (p : Pool) (t y : ℕ) → (y ≡ x → ⊥) → Lives p t y → Lives (drop_rec x r p) t y
unfolding rec_at drop_rec with_trees
drop_lives x r p t y n h = lives (drop_rec x r p) t y (ap (lives_in t) (at_put_other none p.slots x y none n) ∙ lives_is p t y h)

module _ (p : Pool) (t k : ℕ) (name : List ℕ) (good : WellFormed p) (a : Addable p t k name) where
  -- What an add changes.
  pub as_put : Edited (grown p name) (add_rec t k name p) (free_slot p) (some (new_rec t k name p)) t
      (add (by_key_in (grown p name) k) (free_slot p) (tree_at (grown p name) t))
  unfolding add_rec new_rec
  as_put = put_edited (free_slot p) (new_rec t k name p) (grown p name) (formed (grown_good p t k name good a)) (room (add_fits p t k name good a))

  -- A record added lives in its tree.
  pub add_lives : Lives (add_rec t k name p) t (free_slot p)
  unfolding lives_in new_rec
  add_lives = lives (add_rec t k name p) t (free_slot p) (ap (lives_in t) as_put.slot ∙ eq-eqb t t refl)

  -- It leaves every other record where it lives.
  pub add_keeps : (u y : ℕ) → Lives p u y → Lives (add_rec t k name p) u y
  unfolding rec_at with_next with_text
  add_keeps u y h = lives (add_rec t k name p) u y (ap (lives_in u) (as_put.slots y other) ∙ lives_is p u y h)
    where
      other : y ≡ free_slot p → ⊥
      other e = not_both (rec_at p y) h.is (ap (rec_at p) e ∙ (free_slot_lem p a.slot).2)

  -- There are as many trees as before.
  pub add_trees : length (add_rec t k name p).trees ≡ length p.trees
  unfolding with_next with_text
  add_trees = as_put.many

  -- One whose key lies past the whole tree on side e is the first from there.
  pub add_first : (e : Dir) → Says (by_key_in p k) (toward e) (list left (tree_at p t)) → free_slot p ≡ first (list e (tree_at (add_rec t k name p) t))
  unfolding add_rec new_rec with_next with_text by_key_in key_at rec_at tree_at
  add_first e s =
      into_first (by_key_in p k) e (tree_at p t) (tree_at (add_rec t k name p) t) (free_slot p) s
      (put_list (free_slot p) (new_rec t k name p) (grown p name) (grown_good p t k name good a) (add_fits p t k name good a))

-- ---- the acts

-- what is done leaves a well-formed pool, and a journal of it
pub record Kept (w : Option Pool) (d : Done) : Type 0 where
  pub pool : WellFormed d.pool
  pub journal : Journal w d.mark d.pool

module _ (w : Option Pool) (s : State) (c : Command) (g : GoodState w s) (x : ℕ) where
  -- To show a record changes nothing.
  pub show_kept : Kept w (show s c x)
  unfolding show
  show_kept = record { pool = g.pool; journal = g.journal }

  -- To take one out keeps the pool well-formed and is noted.
  pub take_kept : Kept w (take_out s c x)
  unfolding take_out taken_out
  take_kept = go (rec_at s.pool x) refl
    where
      go : (o : Option Rec) → rec_at s.pool x ≡ o → Kept w (taken_out s x o)
      go none e = record { pool = g.pool; journal = g.journal }
      go (some r) e =
          record { pool = drop_good x r s.pool g.pool e; journal = journal_removes w s.mark s.pool x r g.pool e g.journal }

  -- To add one that can be added does so too.
  pub add_kept : Addable s.pool (tree_of s c) c.key c.name → Kept w (add_new s c x)
  unfolding add_new
  add_kept a =
      record {
        pool = add_good s.pool (tree_of s c) c.key c.name g.pool a;
        journal = journal_adds w s.mark s.pool (tree_of s c) c.key c.name g.pool a g.journal;
      }

  -- A mark opens at the pool as it is.
  pub open_kept : Kept (some s.pool) (open_mark s c x)
  unfolding open_mark silent
  open_kept = record { pool = g.pool; journal = journal_opens s.pool g.pool }

  -- A rollback leaves none open.
  pub roll_kept : Kept none (roll_back s c x)
  unfolding roll_back silent
  roll_kept = record { pool = rolled_good w s.mark s.pool g.pool g.journal; journal = shut }

  -- Nor does a commit.
  pub commit_kept : Kept none (commit s c x)
  unfolding commit silent
  commit_kept = record { pool = g.pool; journal = shut }

  -- Nor does a reset, which empties the pool.
  pub reset_kept : Kept none (reset s c x)
  unfolding reset silent
  reset_kept = record { pool = emptied_good s.pool g.pool; journal = shut }

  -- What is not taken out lives on.
  pub take_lives : (t y : ℕ) → (y ≡ x → ⊥) → Lives s.pool t y → Lives (take_out s c x).pool t y
  unfolding take_out taken_out
  take_lives t y n h = go (rec_at s.pool x)
    where
      go : (o : Option Rec) → Lives (taken_out s x o).pool t y
      go none = h
      go (some r) = drop_lives x r s.pool t y n h
