-- Every command keeps a state good: one law for each way to place the cursor after an act, and the table of the ops. Assumes nothing.
use Rattle.std.proofs.Common.{◌≡◌, ℕ, ◌^◌, ◌<◌, ◌≤◌, Bool, true, false, cond, not, ◌&&◌, ◌||◌, eqb, [], ◌∷◌, length, sym, refl, ap, ◌∙◌, subst, arith, eqb-true}
use Rattle.std.proofs.Math.Option.{Option, none, some}
use Rattle.std.proofs.lemmas.Bool.{eqb-false}
use Rattle.avl.specs.Tree.{Dir, left, right, pick, Tree, leaf, node, list}
use Rattle.avl.specs.Way.{Way}
use Rattle.avl.specs.Search.{Spot, toward, entry}
use Rattle.avl.specs.Order.{All, nil, more, first}
use Rattle.avl.proofs.Sorting.{Says}
use Rattle.meaning.specs.Layout.{within, span}
use Rattle.meaning.specs.Pool.{Pool, tree_at}
use Rattle.meaning.specs.Change.{by_key_in, free_slot, add_rec}
use Rattle.meaning.specs.Cursor.{Command, Cursor, nowhere, occupied, first_entry, last_entry, State, cursor_tree, standing, tree_of, no_record, first_from, next_of, next_of_cursor, entry_of, gone, kept, at_shown, where_it_stood, at_first, at_last, entered_at, entered}
use Rattle.meaning.specs.Command.{show, take_out, add_new, op◌means◌does◌then◌, ops, op_in, op_of, meant, bad_tree, not_at_record, not_kind, not_between, none_there, among, adding, refusal, after_refusal, refused, carried_out, perform}
use Rattle.meaning.specs.States.{CursorOk, at_nowhere, at_vacant, GoodState, Parsed}
use Rattle.meaning.proofs.Good.{Addable}
use Rattle.meaning.proofs.Changes.{add_good}
use Rattle.meaning.proofs.Cursors.{lives_cursor, found_lives, next_lives, next_other}
use Rattle.meaning.proofs.Members.{Lives}
use Rattle.meaning.proofs.NewKeys.{end_says}
use Rattle.meaning.proofs.Tables.{Passed, tree_is, meant_is, every_op, at_every_op}
use Rattle.meaning.proofs.Adding.{tree_ok_lem, record_ok_lem, order_ok, kind_ok, end_ok, adding_ok}
use Rattle.meaning.proofs.Acts.{end_cursor, add_lives, add_keeps, add_first, add_trees, Kept, show_kept, take_kept, add_kept, open_kept, roll_kept, commit_kept, reset_kept, take_lives}

-- ---- the pool at the open mark

-- after op n is done: a mark opens one, a rollback, commit or reset leaves none
unfoldable pub after_op : ℕ → Option Pool → State → Option Pool
after_op n w s = cond (eqb n 26) (some s.pool) (cond (within 27 29 n) none w)

-- after a command, which may be refused
unfoldable pub marked_at : Option Pool → State → Command → Option Pool
marked_at w s c = cond (eqb (refusal s c) 0) (after_op c.op w s) w

-- ---- a refused command

refused_cursor : (p : Pool) (o e : ℕ) (k : Cursor) → CursorOk p k → CursorOk p (after_refusal o e k)
unfolding after_refusal
refused_cursor p o e k h = go (within 12 25 o && not (within 14 15 o && eqb e 19 || within 24 25 o && eqb e 18))
  where
    go : (b : Bool) → CursorOk p (cond b k nowhere)
    go true = h
    go false = at_nowhere

-- A refused command changes neither pool nor mark, and keeps the cursor or loses it.
pub refused_good : (w : Option Pool) (e : ℕ) (s : State) (c : Command) → GoodState w s → GoodState w (refused e s c).state
unfolding refused
refused_good w e s c g = record { pool = g.pool; cursor = refused_cursor s.pool c.op e s.cursor g.cursor; journal = g.journal }

-- ---- where the cursor is after a command that is done

-- the pool with the command's record added
abbrev with_new : State → Command → Pool
with_new s c = add_rec (tree_of s c) c.key c.name s.pool

module _ (w : Option Pool) (s : State) (c : Command) (g : GoodState w s) where
  -- `entry`: at the record found, or at the empty place.
  entered_cursor : (x : ℕ) → bad_tree s c ≡ false → c.key < 256 ^ 8 → CursorOk s.pool (entered s c x)
  unfolding entered entry_of entered_at
  entered_cursor x h small = go f.part f.way refl
    where
      f : Spot
      f = entry (by_key_in s.pool c.key) (tree_at s.pool c.tree)

      go : (u : Tree) (q : Way) → f ≡ record { part = u; way = q } → CursorOk s.pool (entered_at c.tree c.key u q)
      go leaf q i = at_vacant (tree_ok_lem s c h).0 (tree_ok_lem s c h).1 small i refl refl
      go (node l y b r) q i =
          lives_cursor s.pool g.pool c.tree y
          (found_lives s.pool g.pool c.tree (tree_ok_lem s c h).0 (tree_ok_lem s c h).1 (by_key_in s.pool c.key) i)

  -- `first_entry` and `last_entry`: at that end of the tree.
  ended_cursor : (e : Dir) → bad_tree s c ≡ false → tree_of s c ≡ c.tree
      → CursorOk s.pool (pick e (first_entry (tree_of s c) (first_from e s c)) (last_entry (tree_of s c) (first_from e s c)))
  unfolding first_from
  ended_cursor e h i =
      let b = tree_ok_lem s c h in
      end_cursor e s.pool (tree_of s c) (first_from e s c) (rw i b.0) (rw i b.1) (ap (λ (t : ℕ). first (list e (tree_at s.pool t))) (sym i))

  module _ (i : tree_of s c ≡ cursor_tree s.cursor) where
    -- A move: at the neighbour.
    moved_cursor : (d : Dir) → (next_of d s.pool s.cursor ≡ 0 → ⊥) → CursorOk s.pool (occupied (tree_of s c) (next_of d s.pool s.cursor))
    moved_cursor d n =
        lives_cursor s.pool g.pool (tree_of s c) (next_of d s.pool s.cursor)
        (subst (λ (t : ℕ). Lives s.pool t (next_of d s.pool s.cursor)) (sym i) (next_lives d s.pool g.pool s.cursor g.cursor n))

    stands : not_at_record s c ≡ false → Lives s.pool (tree_of s c) (standing s.cursor)
    stands h = subst (λ (t : ℕ). Lives s.pool t (standing s.cursor)) (sym i) (record_ok_lem s c g.pool g.cursor h)

    -- The neighbour taken out: where it stood.
    stayed_cursor : (d : Dir) → not_at_record s c ≡ false → (next_of d s.pool s.cursor ≡ 0 → ⊥)
        → CursorOk (take_out s c (next_of d s.pool s.cursor)).pool (occupied (tree_of s c) (standing s.cursor))
    unfolding not_at_record
    stayed_cursor d h n =
        let y = next_of d s.pool s.cursor in
        lives_cursor (take_out s c y).pool (take_kept w s c g y).pool (tree_of s c) (standing s.cursor)
        (take_lives w s c g y (tree_of s c) (standing s.cursor)
        (next_other d s.pool g.pool s.cursor g.cursor (eqb-false (standing s.cursor) 0 h) n) (stands h))

    module _ (a : Addable s.pool (tree_of s c) c.key c.name) where
      -- A record put in beside it: where it stood.
      kept_cursor : not_at_record s c ≡ false → CursorOk (with_new s c) (occupied (tree_of s c) (standing s.cursor))
      kept_cursor h =
          lives_cursor (with_new s c) (add_good s.pool (tree_of s c) c.key c.name g.pool a) (tree_of s c) (standing s.cursor)
          (add_keeps s.pool (tree_of s c) c.key c.name g.pool a (tree_of s c) (standing s.cursor) (stands h))

      -- A record put in at an end: at that end, which is the new record.
      grown_cursor : (e : Dir) → not_kind (pick e 3 4) s c ≡ false → not_between e s c ≡ false
          → CursorOk (with_new s c) (pick e (first_entry (tree_of s c) (free_slot s.pool)) (last_entry (tree_of s c) (free_slot s.pool)))
      grown_cursor e k h =
          let p = s.pool in
          let t = tree_of s c in
          let z = end_ok e p s.cursor g.cursor (kind_ok (pick e 3 4) s c k) in
          let past_all : Says (by_key_in p c.key) (toward e) (list left (tree_at p t)) =
          subst (λ (u : ℕ). Says (by_key_in p c.key) (toward e) (list left (tree_at p u))) (sym i)
          (end_says p g.pool (cursor_tree s.cursor) c.key z.tree_low z.tree_high e (standing s.cursor) z.is_first
          (order_ok e s c h).0) in
          let high : t ≤ length (with_new s c).trees = omega (arith, a.tree_high, add_trees p t c.key c.name g.pool a) in
          end_cursor e (with_new s c) t (free_slot p) a.tree_low high (add_first p t c.key c.name g.pool a e past_all)

  -- A record put in, and moved to: at the new record.
  new_cursor : Addable s.pool (tree_of s c) c.key c.name → CursorOk (with_new s c) (occupied (tree_of s c) (free_slot s.pool))
  new_cursor a =
      lives_cursor (with_new s c) (add_good s.pool (tree_of s c) c.key c.name g.pool a) (tree_of s c) (free_slot s.pool)
      (add_lives s.pool (tree_of s c) c.key c.name g.pool a)

-- ---- the table

-- what a command of op n that is done leaves
abbrev After : Option Pool → State → Command → ℕ → Type 0
After w s c n = GoodState (after_op n w s) (carried_out (op_in ops n) s c).state

-- the record that a command looks for is there
there : {n : ℕ} {s : State} {c : Command} → Passed n s c → among ((2, 3) ∷ (5, 8) ∷ (12, 15) ∷ (22, 23) ∷ []) n ≡ true → (op_in ops n).means s c ≡ 0 → ⊥
unfolding none_there
there {s = s} {c = c} t h z = eqb-false (meant s c) 0 (t.one_there h) (meant_is t ∙ z)

module _ (w : Option Pool) (s : State) (c : Command) (g : GoodState w s) where
  -- a row: what is done leaves a good pool, and the cursor after it fits
  row : (n : ℕ) → let o = op_in ops n in let d = o.does s c (o.means s c) in
      Kept (after_op n w s) d → CursorOk d.pool (o.then s c d.shown) → After w s c n
  unfolding carried_out
  row n h k = record { pool = h.pool; cursor = k; journal = h.journal }

  -- Every op that is not refused leaves a good state.
  table : Parsed c → refusal s c ≡ 0 → All (λ n. Passed n s c → After w s c n) every_op
  unfolding after_op ops op_in op◌means◌does◌then◌ span within among adding show add_new no_record next_of_cursor gone kept at_shown where_it_stood at_first at_last
  table parsed z =
      let can : (n : ℕ) → Passed n s c → adding n ≡ true → Addable s.pool (tree_of s c) c.key c.name =
      λ n t h. adding_ok w s c parsed g (ap adding t.op_is ∙ h) z in
      let new : (n : ℕ) → Passed n s c → adding n ≡ true → Kept w (add_new s c (no_record s c)) = λ n t h. add_kept w s c g (no_record s c) (can n t h) in
      let looks : (x : ℕ) → Kept w (show s c x) = show_kept w s c g in
      let takes : (x : ℕ) → Kept w (take_out s c x) = take_kept w s c g in
      more (λ t. row 1 (new _ t refl) at_nowhere)
      (more (λ t. row 2 (looks _) at_nowhere)
      (more (λ t. row 3 (takes _) at_nowhere)
      (more (λ t. row 4 (takes _) at_nowhere)
      (more (λ t. row 5 (looks _) at_nowhere)
      (more (λ t. row 6 (looks _) at_nowhere)
      (more (λ t. row 7 (looks _) at_nowhere)
      (more (λ t. row 8 (looks _) at_nowhere)
      (more (λ t. row 9 (looks _) (entered_cursor w s c g _ (t.tree_good refl) parsed.key_high))
      (more (λ t. row 10 (looks _) (ended_cursor w s c g left (t.tree_good refl) (tree_is t)))
      (more (λ t. row 11 (looks _) (ended_cursor w s c g right (t.tree_good refl) (tree_is t)))
      (more (λ t. row 12 (looks _) g.cursor)
      (more (λ t. row 13 (looks _) g.cursor)
      (more (λ t. row 14 (looks _) (moved_cursor w s c g (tree_is t) right (there t refl)))
      (more (λ t. row 15 (looks _) (moved_cursor w s c g (tree_is t) left (there t refl)))
      (more (λ t. row 16 (new _ t refl) (kept_cursor w s c g (tree_is t) (can _ t refl) (t.at_record refl)))
      (more (λ t. row 17 (new _ t refl) (kept_cursor w s c g (tree_is t) (can _ t refl) (t.at_record refl)))
      (more (λ t. row 18 (new _ t refl) (new_cursor w s c g (can _ t refl)))
      (more (λ t. row 19 (new _ t refl) (new_cursor w s c g (can _ t refl)))
      (more (λ t. row 20 (new _ t refl) (new_cursor w s c g (can _ t refl)))
      (more (λ t. row 21 (takes _) at_nowhere)
      (more (λ t. row 22 (takes _) (stayed_cursor w s c g (tree_is t) left (t.at_record refl) (there t refl)))
      (more (λ t. row 23 (takes _) (stayed_cursor w s c g (tree_is t) right (t.at_record refl) (there t refl)))
      (more (λ t. row 24 (new _ t refl) (grown_cursor w s c g (tree_is t) (can _ t refl) right (t.at_last refl) (t.key_behind refl)))
      (more (λ t. row 25 (new _ t refl) (grown_cursor w s c g (tree_is t) (can _ t refl) left (t.at_first refl) (t.key_before refl)))
      (more (λ t. row 26 (open_kept w s c g _) at_nowhere)
      (more (λ t. row 27 (roll_kept w s c g _) at_nowhere)
      (more (λ t. row 28 (commit_kept w s c g _) at_nowhere)
      (more (λ t. row 29 (reset_kept w s c g _) at_nowhere)
      nil))))))))))))))))))))))))))))

-- ---- one command

-- Every command keeps a state good.
pub perform_good : (w : Option Pool) (s : State) (c : Command) → Parsed c → GoodState w s → GoodState (marked_at w s c) (perform s c).state
unfolding marked_at perform op_of
perform_good w s c parsed g = go (eqb (refusal s c) 0) refl
  where
    go : (b : Bool) → eqb (refusal s c) 0 ≡ b
        → GoodState (cond b (after_op c.op w s) w) (cond b (carried_out (op_in ops c.op) s c) (refused (refusal s c) s c)).state
    go true t = let z = eqb-true (refusal s c) 0 t in at_every_op (After w s c) s c z (table w s c g parsed z)
    go false t = refused_good w (refusal s c) s c g
