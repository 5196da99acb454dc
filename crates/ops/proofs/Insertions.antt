-- The ops that add a record do on the body and the state what `meaning` says: `add`, the inserts beside the cursor's record, `insert_node`,
-- append and prepend. Assumes nothing.
use Rattle.std.proofs.Common.{◌≡◌, ℕ, Bool, true, false, cond, not, eqb, List, sym, refl, ap, ◌∙◌, subst, arith, eqb-true}
use Rattle.std.proofs.Math.Option.{Option}
use Rattle.std.proofs.lemmas.Bool.{eqb-false, not-false}
use Rattle.avl.specs.Tree.{Dir, left, right, flip, pick, Tree}
use Rattle.avl.specs.Way.{above, side}
use Rattle.avl.specs.Search.{Spot, get, seek, entry, compared}
use Rattle.tree.specs.Node.{get_n}
use Rattle.tree.specs.Search.{Ending}
use Rattle.tree.specs.Insert as insertion
use Rattle.tree.specs.declared.node.AvlTree.{AvlTree}
use Rattle.tree.proofs.Trees.{ending}
use Rattle.meaning.specs.Pool.{Pool, tree_at}
use Rattle.meaning.specs.Change.{by_key_in, free_slot}
use Rattle.meaning.specs.Cursor.{Command, Cursor, nowhere, occupied, vacant, first_entry, last_entry, State, kind, cursor_tree, standing, entry_key, tree_of, with_key, gone, at_shown, where_it_stood, at_first as then_first, at_last as then_last}
use Rattle.meaning.specs.Command.{bad_tree, not_at_record, not_kind, present, past, not_between, is_other, not_the_entrys, perform}
use Rattle.meaning.specs.States.{CursorOk, at_nowhere, at_occupied, at_vacant, at_first, at_last, GoodState, Parsed}
use Rattle.meaning.proofs.Facts.{test}
use Rattle.meaning.proofs.Cursors.{lives_is, lives_tree, standing_lives, standing_next}
use Rattle.meaning.proofs.Tables.{never}
use Rattle.meaning.proofs.Adding.{tree_ok_lem, order_ok, kind_ok, AtEnd, end_ok}
use Rattle.slots.specs.Head.{tree_n}
use Rattle.slots.specs.Image.{body_of, head_of}
use Rattle.slots.specs.declared.head.Numbers.{Numbers}
use Rattle.slots.proofs.Placing.{beside_image}
use Rattle.cursor.specs.Tests.{tree_test, between_n}
use Rattle.cursor.specs.Cursor.{beside_n, hung_n, after_n}
use Rattle.cursor.specs.declared.cursor.Next.TheVariants.{Gone, Kept, Shown, End}
use Rattle.ops.specs.Ending.{either_n, Changed, add_new_n}
use Rattle.ops.specs.Ops.{sought_n, code_dir, name_test, kept_unless, add_n, insert_beside_n, insert_node_n, kind_at, insert_end_n}
use Rattle.ops.specs.Image.{work_in, meant_by}
use Rattle.cursor.specs.declared.command.Command.{Command as CodeCommand}
use Rattle.ops.proofs.Agreeing.{Agrees}
use Rattle.ops.proofs.Finding.{sought_image, beside_found}
use Rattle.ops.proofs.Additions.{Hangs}
use Rattle.ops.proofs.AddRows.{beside_op, beside_next, beside_then, end_op, end_then, add_row, beside_row, node_row, end_row, add_row_agrees}
use Rattle.ops.proofs.Nexts.{where_done, where_lost, where_kept, on}
use Rattle.ops.proofs.Views as view
use Rattle.ops.proofs.Orders.{order_image, end_empty, end_beside}

-- the key of a vacant entry has its place there
entry_hangs : (p : Pool) (k : Cursor) (key : ℕ) → CursorOk p k → is_other key (entry_key k) ≡ false → Hangs p (cursor_tree k) key (hung_n k).0 (hung_n k).1
unfolding is_other entry_key cursor_tree hung_n
entry_hangs p nowhere key at_nowhere h = never refl h
entry_hangs p (occupied t x) key (at_occupied low high l) h = never refl h
entry_hangs p (vacant t x d k) key (at_vacant low high i q a b) h =
    subst (λ (j : ℕ). Hangs p t j x d) (eqb-true k key (not-false (eqb k key) h))
    (record { above_is = sym (ap (λ (o : Spot). above o.way) q ∙ a); side_is = λ _. sym (ap (λ (o : Spot). side o.way) q ∙ b) })
entry_hangs p (first_entry t x) key (at_first low high i) h = never refl h
entry_hangs p (last_entry t x) key (at_last low high i) h = never refl h

module _ (w : Option Pool) (s : State) (g : GoodState w s) (names : List ℕ) (c : CodeCommand) (f : Parsed (meant_by names c)) where
  -- the body and the numbers
  abbrev m : List ℕ
  m = body_of s.pool

  abbrev n : Numbers
  n = (head_of s.pool).numbers

  abbrev meant : Command
  meant = meant_by names c

  -- the command on tree t, and that tree
  abbrev tree_on : ℕ → AvlTree
  tree_on t = tree_n (head_of s.pool).table t

  -- the command is done as `meaning` says, if it leaves and hands back this
  abbrev Grew : CodeCommand → Changed → Type 0
  Grew a o = Agrees s (perform s meant) (view.stepped_by (work_in s) a o)

  -- ---- add

  -- `add`.
  pub add_agrees : c.op ≡ 1 → Grew c (add_n m names n (tree_on c.tree) c)
  unfolding add_n tree_test bad_tree present with_key get gone meant_by head_of work_in
  add_agrees i =
      let q = sought_n m (tree_on c.tree) c in
      let spot = entry (by_key_in s.pool c.key) (tree_at s.pool c.tree) in
      let n = compared (by_key_in s.pool c.key) (tree_at s.pool c.tree) in
      let same : bad_tree s meant ≡ false → q ≡ ending spot n =
      λ h. let b = tree_ok_lem s meant h in sought_image s c g.pool b.0 b.1 in
      add_row_agrees w s g names c f (add_row s meant i) (omega arith) (omega arith) (not (eqb q.slot 0))
      (λ h. ap (λ (o : Ending). not (eqb o.slot 0)) (same h)) q.above q.side
      (λ h k. record { above_is = ap (λ (o : Ending). o.above) (same h); side_is = λ n. ap (λ (o : Ending). o.side) (same h) })
      Gone (λ _. refl) (λ _. refl)

  -- ---- beside the cursor's record

  -- a key that is not refused for its order has its place beside the record
  beside_hangs : (d : Dir) → (standing s.cursor ≡ 0 → ⊥) → not_between d s meant ≡ false
      → (let q = insertion.beside_n 14 m (standing s.cursor) d in Hangs s.pool (cursor_tree s.cursor) c.key q.0 q.1)
  unfolding meant_by
  beside_hangs d n h =
      let p = s.pool in
      let k = s.cursor in
      let t = cursor_tree k in
      let x = standing k in
      let l = standing_lives p g.pool k g.cursor n in
      let b = lives_tree p g.pool t x l in
      let o = order_ok d s meant h in
      let that = subst (λ (y : ℕ). past p (flip d) y c.key ≡ true) (standing_next d p k n) o.1 in
      let e = (beside_image p g.pool t b.0 b.1 d x c.key (lives_is p t x l) o.0 that).spot_is in
      record { above_is = ap (λ (q : ℕ × Dir). q.0) e; side_is = λ _. ap (λ (q : ℕ × Dir). q.1) e }

  -- the cursor's tree, and the command on it
  abbrev home : ℕ
  home = cursor_tree s.cursor

  abbrev a : CodeCommand
  a = on c home

  -- the cursor after it is that of `meaning`
  after_insert : (moves : Bool) → tree_of s meant ≡ home
      → after_n s.cursor a (beside_next moves) (free_slot s.pool) ≡ beside_then moves s meant (free_slot s.pool)
  unfolding at_shown where_it_stood
  after_insert true i = ap (λ (t : ℕ). occupied t (free_slot s.pool)) (sym i)
  after_insert false i = ap (λ (t : ℕ). occupied t (standing s.cursor)) (sym i)

  -- The inserts beside the cursor's record: ops 16 to 19.
  pub insert_beside_agrees : (d : Dir) (moves : Bool) → c.op ≡ beside_op d moves
      → Grew a (insert_beside_n m names n s.cursor (tree_on home) a d (beside_next moves))
  unfolding insert_beside_n name_test not_at_record meant_by
  insert_beside_agrees d moves i =
      let p = s.pool in
      let k = s.cursor in
      let x = standing k in
      let q = insertion.beside_n 14 m x d in
      let own = not (between_n m d x (beside_n m d k) c.key) in
      let e : ℕ = cond (eqb x 0) 12 (name_test names n c 18 own) in
      let r = beside_row s meant d moves i in
      add_row_agrees w s g names c f r (omega arith) (omega arith) own
      (λ h. order_image d s meant g.pool g.cursor (beside_n m d k) (beside_found d p g.pool k g.cursor))
      q.0 q.1 (λ h o. beside_hangs d (eqb-false x 0 h) o) (either_n e (beside_next moves) Kept)
      (λ z. where_done k a e (free_slot p) (beside_next moves) Kept z (after_insert moves r.tree_is))
      (λ z. where_lost k a e 0 (beside_next moves) Kept z refl)

  -- ---- at the vacant entry

  -- `insert_node`.
  pub insert_node_agrees : c.op ≡ 20 → Grew a (insert_node_n m names n s.cursor (tree_on home) a)
  unfolding insert_node_n name_test not_kind not_the_entrys at_shown meant_by
  insert_node_agrees i =
      let k = s.cursor in
      let own = is_other c.key (entry_key k) in
      let e : ℕ = cond (not (eqb (kind k) 2)) 12 (name_test names n c 18 own) in
      let r = node_row s meant i in
      add_row_agrees w s g names c f r (omega arith) (omega arith) own (λ h. refl) (hung_n k).0 (hung_n k).1
      (λ h o. entry_hangs s.pool k c.key g.cursor o) (either_n e Shown Kept)
      (λ z. where_done k a e (free_slot s.pool) Shown Kept z (ap (λ (t : ℕ). occupied t (free_slot s.pool)) (sym r.tree_is)))
      (λ z. where_lost k a e 0 Shown Kept z refl)

  -- ---- at an end

  -- the cursor is an entry at that end
  kind_at_lem : (d : Dir) → not_kind (kind_at d) s meant ≡ false → kind s.cursor ≡ pick d 3 4
  kind_at_lem left h = kind_ok 3 s meant h
  kind_at_lem right h = kind_ok 4 s meant h

  -- the cursor after it is that of `meaning`
  after_end : (d : Dir) → tree_of s meant ≡ home
      → after_n s.cursor a (End (code_dir d)) (free_slot s.pool) ≡ end_then d s meant (free_slot s.pool)
  unfolding then_first then_last
  after_end left i = ap (λ (t : ℕ). first_entry t (free_slot s.pool)) (sym i)
  after_end right i = ap (λ (t : ℕ). last_entry t (free_slot s.pool)) (sym i)

  -- the place is beside the record at the end, or it is the root of an empty tree
  end_hangs : (d : Dir) → AtEnd d s.pool s.cursor → not_between d s meant ≡ false
      → (let q = insertion.beside_n 14 m (standing s.cursor) d in Hangs s.pool home c.key q.0 q.1)
  unfolding insertion.beside_n get_n entry seek
  end_hangs d e h =
      let p = s.pool in
      let x = standing s.cursor in
      test (eqb x 0)
      (λ z. let i = eqb-true x 0 z in
      let empty = end_empty p g.pool home e.tree_low e.tree_high d (sym e.is_first ∙ i) in
      let none : (insertion.beside_n 14 m x d).0 ≡ 0 = ap (λ (y : ℕ). (insertion.beside_n 14 m y d).0) i in
      record { above_is = none ∙ sym (ap (λ (u : Tree). above (entry (by_key_in p c.key) u).way) empty); side_is = λ n. absurd (n none) })
      (λ z. beside_hangs d (eqb-false x 0 z) h)

  -- what it leaves, on the side as the definitions have it
  abbrev ended : Dir → Changed
  ended d =
      let k = s.cursor in let x = standing k in
      let e : ℕ = cond (not (eqb (kind k) (kind_at d))) 12 (name_test names n c 18 (not (between_n m d x 0 c.key))) in
      add_new_n m names n (tree_on home) a (insertion.beside_n 14 m x d) e (either_n e (End (code_dir d)) (kept_unless e 18))

  insert_end : (d : Dir) → c.op ≡ end_op d → Grew a (ended d)
  unfolding not_kind meant_by
  insert_end d i =
      let p = s.pool in
      let k = s.cursor in
      let x = standing k in
      let q = insertion.beside_n 14 m x d in
      let own = not (between_n m d x 0 c.key) in
      let e : ℕ = cond (not (eqb (kind k) (kind_at d))) 12 (name_test names n c 18 own) in
      let r = end_row s meant d i in
      let ends : not_kind (kind_at d) s meant ≡ false → AtEnd d p k = λ h. end_ok d p k g.cursor (kind_at_lem d h) in
      add_row_agrees w s g names c f r (omega arith) (omega arith) own
      (λ h. order_image d s meant g.pool g.cursor 0 (sym (end_beside d p g.pool k g.cursor (kind_at_lem d h) (ends h))))
      q.0 q.1 (λ h o. end_hangs d (ends h) o) (either_n e (End (code_dir d)) (kept_unless e 18))
      (λ z. where_done k a e (free_slot p) (End (code_dir d)) (kept_unless e 18) z (after_end d r.tree_is))
      (λ z. where_lost k a e 0 (End (code_dir d)) (kept_unless e 18) z (where_kept k a e 18 0))

  -- Prepend and append: ops 25 and 24.
  pub insert_end_agrees : (d : Dir) → c.op ≡ end_op d → Grew a (insert_end_n m names n s.cursor (tree_on home) a (code_dir d))
  unfolding insert_end_n name_test
  insert_end_agrees left i = insert_end left i
  insert_end_agrees right i = insert_end right i
