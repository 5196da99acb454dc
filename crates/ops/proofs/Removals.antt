-- The ops that take a record out do on the body and the state what `meaning` says: one law for each kind, then each op. Assumes nothing.
use Rattle.std.proofs.Common.{◌≡◌, ℕ, true, cond, eqb, List, sym, refl, ap, ◌∙◌, arith}
use Rattle.std.proofs.Math.Option.{Option}
use Rattle.std.proofs.lemmas.Bool.{eqb-false}
use Rattle.avl.specs.Tree.{Dir, left, right}
use Rattle.tree.specs.declared.node.AvlTree.{AvlTree}
use Rattle.meaning.specs.Layout.{within}
use Rattle.meaning.specs.Pool.{Pool, rec_at, lives_in}
use Rattle.meaning.specs.Cursor.{Command, occupied, State, cursor_tree, standing, tree_of, of_handle, next_of_cursor, gone, where_it_stood}
use Rattle.meaning.specs.Command.{take_out, not_at_record, perform}
use Rattle.meaning.specs.States.{GoodState}
use Rattle.meaning.proofs.Members.{lives}
use Rattle.slots.specs.Head.{tree_n}
use Rattle.slots.specs.Image.{body_of, head_of}
use Rattle.slots.specs.declared.head.Numbers.{Numbers}
use Rattle.cursor.specs.Cursor.{beside_n}
use Rattle.cursor.specs.Tests.{tree_test}
use Rattle.cursor.specs.declared.command.Command.{Command as CodeCommand}
use Rattle.cursor.specs.declared.cursor.Next.TheVariants.{Gone, Kept, Stood}
use Rattle.ops.specs.Ending.{either_n, Changed}
use Rattle.ops.specs.Ops.{sought_n, none_n, handle_tests_n, remove_by_key_n, remove_handle_n, remove_here_n, remove_beside_n}
use Rattle.ops.specs.Image.{work_in, meant_by}
use Rattle.ops.proofs.Agreeing.{Agrees}
use Rattle.ops.proofs.Rows.{Row, tree_at_lem, then_same, passed_test, none_same}
use Rattle.ops.proofs.Table.{none_test, remove_by_key_row, remove_handle_row, remove_here_row, remove_prev_row, remove_next_row}
use Rattle.ops.proofs.Endings.{take_agrees}
use Rattle.ops.proofs.Nexts.{where_done, where_lost, on}
use Rattle.ops.proofs.Tests.{none_passed, tree_same, tree_passed, handles_same, handles_passed}
use Rattle.ops.proofs.Meant.{key_found, cursor_next, cursor_record}
use Rattle.ops.proofs.Views as view

module _ {w : Option Pool} (s : State) (g : GoodState w s) (names : List ℕ) (c : CodeCommand) where
  -- the body, the numbers, and a command's tree
  abbrev m : List ℕ
  m = body_of s.pool

  abbrev n : Numbers
  n = (head_of s.pool).numbers

  abbrev tree_on : CodeCommand → AvlTree
  tree_on a = tree_n (head_of s.pool).table a.tree

  abbrev meant : Command
  meant = meant_by names c

  -- the command is done as `meaning` says, if it leaves and hands back this
  abbrev Took : CodeCommand → Changed → Type 0
  Took a o = Agrees s (perform s meant) (view.stepped_by (work_in s) a o)

  -- ---- by key, and by handle

  -- remove_by_key
  pub remove_by_key_agrees : c.op ≡ 3 → Took c (remove_by_key_n m n (tree_on c) c)
  unfolding remove_by_key_n meant_by gone
  remove_by_key_agrees i =
      let x = (sought_n m (tree_on c) c).slot in
      let r = remove_by_key_row s meant i in
      let f = key_found s g.pool names c in
      take_agrees g.pool r c c.tree (tree_test n c (none_n x)) x Gone refl (tree_same s names c (λ h. none_same r x (f h).is))
      (λ z. f (tree_passed s names c z).0) (λ z. none_passed x (tree_passed s names c z).1) (λ _. refl) (λ _. refl)

  -- remove by handle
  pub remove_handle_agrees : c.op ≡ 4 → Took c (remove_handle_n m n (tree_on c) c)
  unfolding remove_handle_n meant_by gone of_handle
  remove_handle_agrees i =
      let x = c.slot in
      let e = handle_tests_n m n c 0 in
      let same = handles_same s g.pool names c 0 0 (λ _ _. refl) in
      let there : e ≡ 0 → lives_in c.tree (rec_at s.pool x) ≡ true = λ z. (handles_passed s g.pool names c (sym same ∙ z)).1 in
      take_agrees g.pool (remove_handle_row s meant i) c c.tree e x Gone refl same
      (λ z. record { is = refl; lives = λ _. lives s.pool c.tree x (there z) })
      (λ z n. omega (arith, n, (lives s.pool c.tree x (there z)).low)) (λ _. refl) (λ _. refl)

  -- ---- at the cursor, and beside it

  -- the command on the cursor's tree
  abbrev a : CodeCommand
  a = on c (cursor_tree s.cursor)

  -- remove at the cursor
  pub remove_here_agrees : c.op ≡ 21 → Took a (remove_here_n m n s.cursor (tree_on a))
  unfolding remove_here_n meant_by gone not_at_record
  remove_here_agrees i =
      let k = s.cursor in
      let x = standing k in
      let e : ℕ = cond (eqb x 0) 12 0 in
      take_agrees g.pool (remove_here_row s meant i) a (cursor_tree k) e x (either_n e Gone Kept) refl refl
      (λ _. cursor_record s g.pool names c g.cursor) (λ z. eqb-false x 0 (passed_test (eqb x 0) 12 (omega arith) z).0)
      (λ z. where_done k a e x Gone Kept z refl) (λ z. where_lost k a e 0 Gone Kept z refl)

  beside_kind : (d : Dir) → Row s meant (next_of_cursor d) take_out where_it_stood (cond (not_at_record s meant) 12 (none_test s meant)) (λ _. s.cursor)
      → tree_of s meant ≡ cursor_tree s.cursor → Took a (remove_beside_n m n s.cursor (tree_on a) d)
  unfolding remove_beside_n not_at_record where_it_stood
  beside_kind d r t =
      let k = s.cursor in
      let x = beside_n m d k in
      let y = standing k in
      let e : ℕ = cond (eqb y 0) 12 (none_n x) in
      let f = cursor_next s g.pool names c g.cursor d in
      take_agrees g.pool r a (cursor_tree k) e x (either_n e Stood Kept) refl (then_same (eqb y 0) 12 (λ _. none_same r x f.is)) (λ _. f)
      (λ z. none_passed x (passed_test (eqb y 0) 12 (omega arith) z).1) (λ z. where_done k a e x Stood Kept z (ap (λ (i : ℕ). occupied i y) (sym t)))
      (λ z. where_lost k a e 0 Stood Kept z refl)

  -- remove_prev
  pub remove_prev_agrees : c.op ≡ 22 → Took a (remove_beside_n m n s.cursor (tree_on a) left)
  unfolding meant_by within
  remove_prev_agrees i = beside_kind left (remove_prev_row s meant i) (tree_at_lem s meant 22 i)

  -- remove_next
  pub remove_next_agrees : c.op ≡ 23 → Took a (remove_beside_n m n s.cursor (tree_on a) right)
  unfolding meant_by within
  remove_next_agrees i = beside_kind right (remove_next_row s meant i) (tree_at_lem s meant 23 i)
