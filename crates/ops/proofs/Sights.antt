-- The ops that show a record do on the body and the state what `meaning` says: one law for each kind, then each op. Assumes nothing.
use Rattle.std.proofs.Common.{◌≡◌, ℕ, false, cond, eqb, List, sym, refl, ap, ◌∙◌}
use Rattle.std.proofs.Math.Option.{Option}
use Rattle.avl.specs.Tree.{Dir, left, right}
use Rattle.tree.specs.Node.{way}
use Rattle.tree.specs.Walk.{walk_n}
use Rattle.tree.specs.declared.dir.Dir.{Dir as CodeDir}
use Rattle.tree.specs.declared.node.AvlTree.{AvlTree}
use Rattle.meaning.specs.Layout.{within}
use Rattle.meaning.specs.Pool.{Pool}
use Rattle.meaning.specs.Cursor.{Command, Cursor, nowhere, occupied, first_entry, last_entry, State, kind, cursor_tree, tree_of, Meant, with_key, first_from, next_of_handle, next_of_cursor, Then, gone, kept, at_shown, at_first, at_last}
use Rattle.meaning.specs.Command.{show, bad_tree, no_cursor, perform}
use Rattle.meaning.specs.States.{GoodState, Parsed}
use Rattle.slots.specs.Head.{tree_n}
use Rattle.slots.specs.Image.{body_of, head_of}
use Rattle.slots.specs.declared.head.Numbers.{Numbers}
use Rattle.cursor.specs.Cursor.{beside_n, end_at, after_n}
use Rattle.cursor.specs.Tests.{tree_test}
use Rattle.cursor.specs.Work.{sight_of}
use Rattle.cursor.specs.declared.command.Command.{Command as CodeCommand}
use Rattle.cursor.specs.declared.cursor.Next.{Next}
use Rattle.cursor.specs.declared.cursor.Next.TheVariants.{Gone, Kept, Shown, End}
use Rattle.cursor.specs.Given.{Sight}
use Rattle.ops.specs.Ending.{either_n, look_n}
use Rattle.ops.specs.Ops.{sought_n, end_n, none_n, handle_tests_n, get_n, beside_handle_n, first_n, nearest_n, code_dir, entered_n, entry_n, end_entry_n, cursor_test, peek_n, kept_unless, move_n}
use Rattle.ops.specs.Image.{work_in, meant_by}
use Rattle.ops.proofs.Agreeing.{Agrees}
use Rattle.ops.proofs.Rows.{Row, lost_at, tree_at_lem, then_same, none_same}
use Rattle.ops.proofs.Table.{none_test, found_tests, handle_tests, get_row, next_row, prev_row, first_row, last_row, entry_row, first_entry_row, last_entry_row, peek_next_row, peek_prev_row, move_next_row, move_prev_row}
use Rattle.ops.proofs.Endings.{Found, look_agrees}
use Rattle.ops.proofs.Nexts.{where_done, where_lost, where_kept, on}
use Rattle.ops.proofs.Tests.{tree_same, tree_passed, handles_same, handles_passed}
use Rattle.ops.proofs.Meant.{key_found, end_record, handle_next, cursor_next, near_found, entered_same}

module _ {w : Option Pool} (s : State) (g : GoodState w s) (names : List ℕ) (c : CodeCommand) where
  -- the body, the numbers, the command's tree
  abbrev m : List ℕ
  m = body_of s.pool

  abbrev n : Numbers
  n = (head_of s.pool).numbers

  abbrev u : AvlTree
  u = tree_n (head_of s.pool).table c.tree

  abbrev meant : Command
  meant = meant_by names c

  -- the command is done as `meaning` says, if it hands this back
  abbrev Seen : CodeCommand → Sight → Type 0
  Seen a r = Agrees s (perform s meant) (m, sight_of m (work_in s) a r)

  -- ---- a record sought in a named tree, or beside a handle's; the cursor is lost

  look_found : (M : Meant) (x : ℕ) → Row s meant M show gone (found_tests s meant) (λ _. nowhere)
      → (bad_tree s meant ≡ false → Found s.pool c.tree (M s meant) x) → Seen c (look_n (tree_test n c (none_n x)) x Gone)
  unfolding gone
  look_found M x r f =
      look_agrees g.pool r c c.tree (tree_test n c (none_n x)) x Gone (tree_same s names c (λ h. none_same r x (f h).is))
      (λ z. f (tree_passed s names c z).0) (λ _. refl) (λ _. refl)

  -- get
  pub get_agrees : c.op ≡ 2 → Seen c (get_n m n u c)
  unfolding get_n meant_by
  get_agrees i = look_found with_key (sought_n m u c).slot (get_row s meant i) (key_found s g.pool names c)

  end_kind : (d : Dir) → Row s meant (first_from d) show gone (found_tests s meant) (λ _. nowhere) → Seen c (first_n m n u c d)
  unfolding first_n
  end_kind d r = look_found (first_from d) (end_n m u d) r (end_record s g.pool names c d)

  -- first
  pub first_agrees : c.op ≡ 7 → Seen c (first_n m n u c left)
  unfolding meant_by
  first_agrees i = end_kind left (first_row s meant i)

  -- last
  pub last_agrees : c.op ≡ 8 → Seen c (first_n m n u c right)
  unfolding meant_by
  last_agrees i = end_kind right (last_row s meant i)

  handle_kind : (d : Dir) → Row s meant (next_of_handle d) show gone (handle_tests s meant (none_test s meant)) (λ _. nowhere) → Seen c (beside_handle_n m n c d)
  unfolding beside_handle_n gone
  handle_kind d r =
      let x = walk_n 14 m c.slot d in
      let same = handles_same s g.pool names c (none_n x) (none_test s meant)
      (λ h l. none_same r x (handle_next s g.pool names c d h l).is) in
      look_agrees g.pool r c c.tree (handle_tests_n m n c (none_n x)) x Gone same
      (λ z. let p = handles_passed s g.pool names c (sym same ∙ z) in handle_next s g.pool names c d p.0 p.1) (λ _. refl) (λ _. refl)

  -- next of a handle
  pub next_agrees : c.op ≡ 5 → Seen c (beside_handle_n m n c right)
  unfolding meant_by
  next_agrees i = handle_kind right (next_row s meant i)

  -- prev of a handle
  pub prev_agrees : c.op ≡ 6 → Seen c (beside_handle_n m n c left)
  unfolding meant_by
  prev_agrees i = handle_kind left (prev_row s meant i)

  -- ---- an entry

  -- entry
  pub entry_agrees : Parsed meant → c.op ≡ 9 → Seen c (entry_n m n u c)
  unfolding entry_n meant_by
  entry_agrees parsed i =
      let f = sought_n m u c in
      let x = nearest_n f.slot f.above in
      let e = tree_test n c 0 in
      look_agrees g.pool (entry_row s meant i) c c.tree e x (either_n e (entered_n f.slot f.side) Gone) (tree_same s names c (λ _. refl))
      (λ z. near_found s g.pool names c parsed.key_high (tree_passed s names c z).0)
      (λ z. where_done s.cursor c e x (entered_n f.slot f.side) Gone z (entered_same s g.pool names c parsed.key_high (tree_passed s names c z).0 s.cursor x))
      (λ z. where_lost s.cursor c e 0 (entered_n f.slot f.side) Gone z refl)

  end_entry_kind : (d : CodeDir) (T : Then) → Row s meant (first_from (way d)) show T (cond (bad_tree s meant) 11 0) (λ _. nowhere)
      → ((x : ℕ) → end_at (way d) c.tree x ≡ T s meant x) → Seen c (end_entry_n m n u c d)
  unfolding end_entry_n
  end_entry_kind d T r k =
      let x = end_n m u (way d) in
      let e = tree_test n c 0 in
      look_agrees g.pool r c c.tree e x (either_n e (End d) Gone) (tree_same s names c (λ _. refl))
      (λ z. end_record s g.pool names c (way d) (tree_passed s names c z).0) (λ z. where_done s.cursor c e x (End d) Gone z (k x))
      (λ z. where_lost s.cursor c e 0 (End d) Gone z refl)

  -- first_entry
  pub first_entry_agrees : c.op ≡ 10 → Seen c (end_entry_n m n u c (code_dir left))
  unfolding meant_by at_first within
  first_entry_agrees i =
      end_entry_kind (code_dir left) at_first (first_entry_row s meant i) (λ x. ap (λ (t : ℕ). first_entry t x) (sym (tree_at_lem s meant 10 i)))

  -- last_entry
  pub last_entry_agrees : c.op ≡ 11 → Seen c (end_entry_n m n u c (code_dir right))
  unfolding meant_by at_last within
  last_entry_agrees i =
      end_entry_kind (code_dir right) at_last (last_entry_row s meant i) (λ x. ap (λ (t : ℕ). last_entry t x) (sym (tree_at_lem s meant 11 i)))

  -- ---- a record beside the cursor

  -- the command on the cursor's tree
  abbrev a : CodeCommand
  a = on c (cursor_tree s.cursor)

  -- shown, with the cursor after it
  beside_cursor_lem : (d : Dir) {T : Then} {lost : ℕ → Cursor}
      → Row s meant (next_of_cursor d) show T (cond (no_cursor s meant) 12 (none_test s meant)) lost
      → (let x = beside_n m d s.cursor in let e = cursor_test s.cursor x in
      (next : Next) → (e ≡ 0 → after_n s.cursor a next x ≡ T s meant x) → ((e ≡ 0 → ⊥) → after_n s.cursor a next 0 ≡ lost e)
      → Seen a (look_n e x next))
  unfolding cursor_test no_cursor
  beside_cursor_lem d r next k l =
      let x = beside_n m d s.cursor in
      let f = cursor_next s g.pool names c g.cursor d in
      look_agrees g.pool r a (cursor_tree s.cursor) (cursor_test s.cursor x) x next
      (then_same (eqb (kind s.cursor) 0) 12 (λ _. none_same r x f.is)) (λ _. f) k l

  peek_kind : (d : Dir) → Row s meant (next_of_cursor d) show kept (cond (no_cursor s meant) 12 (none_test s meant)) (λ _. s.cursor)
      → Seen a (peek_n m s.cursor d)
  unfolding peek_n kept
  peek_kind d r = beside_cursor_lem d r Kept (λ _. refl) (λ _. refl)

  -- peek_next
  pub peek_next_agrees : c.op ≡ 12 → Seen a (peek_n m s.cursor right)
  unfolding meant_by
  peek_next_agrees i = peek_kind right (peek_next_row s meant i)

  -- peek_prev
  pub peek_prev_agrees : c.op ≡ 13 → Seen a (peek_n m s.cursor left)
  unfolding meant_by
  peek_prev_agrees i = peek_kind left (peek_prev_row s meant i)

  move_kind : (d : Dir) → Row s meant (next_of_cursor d) show at_shown (cond (no_cursor s meant) 12 (none_test s meant)) (lost_at 19 s.cursor)
      → cursor_tree s.cursor ≡ tree_of s meant → Seen a (move_n m s.cursor d)
  unfolding move_n at_shown
  move_kind d r t =
      let k = s.cursor in
      let x = beside_n m d k in
      let e = cursor_test k x in
      beside_cursor_lem d r (either_n e Shown (kept_unless e 19)) (λ z. where_done k a e x Shown (kept_unless e 19) z (ap (λ (i : ℕ). occupied i x) t))
      (λ z. where_lost k a e 0 Shown (kept_unless e 19) z (where_kept k a e 19 0))

  -- move_next
  pub move_next_agrees : c.op ≡ 14 → Seen a (move_n m s.cursor right)
  unfolding meant_by within
  move_next_agrees i = move_kind right (move_next_row s meant i) (sym (tree_at_lem s meant 14 i))

  -- move_prev
  pub move_prev_agrees : c.op ≡ 15 → Seen a (move_n m s.cursor left)
  unfolding meant_by within
  move_prev_agrees i = move_kind left (move_prev_row s meant i) (sym (tree_at_lem s meant 15 i))
