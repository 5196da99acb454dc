-- The record that a command means, by what its op goes by: the key, an end of the tree, the handle, the cursor. Where the tests before it have
-- passed, the one that is found on the body is that of `meaning`. Assumes nothing.
use Rattle.std.proofs.Common.{◌≡◌, ℕ, ◌^◌, ◌<◌, ◌≤◌, Bool, true, false, cond, eqb, List, length, sym, refl, ap, ◌∙◌, subst, arith, ne_eqb}
use Rattle.avl.specs.Tree.{Dir, left, right, Tree, leaf, node, top}
use Rattle.tree.specs.Node.{way}
use Rattle.avl.specs.Way.{Way, above, side}
use Rattle.avl.specs.Search.{Spot, get, entry, compared}
use Rattle.tree.specs.Walk.{walk_n}
use Rattle.tree.specs.Search.{Ending}
use Rattle.tree.proofs.Trees.{ending}
use Rattle.meaning.specs.Pool.{Pool, rec_at, tree_at, lives_in}
use Rattle.meaning.specs.Change.{by_key_in}
use Rattle.meaning.specs.Cursor.{Cursor, vacant, State, cursor_tree, standing, with_key, at_cursor, entry_of, or_nearest, nearest, first_from, next_of_handle, next_of_cursor, entered_at, entered}
use Rattle.meaning.specs.Command.{bad_tree}
use Rattle.meaning.specs.WellFormed.{WellFormed}
use Rattle.meaning.specs.States.{CursorOk, at_vacant}
use Rattle.meaning.proofs.Members.{Lives, lives}
use Rattle.meaning.proofs.Cursors.{found_lives, standing_lives, next_lives}
use Rattle.meaning.proofs.Adding.{tree_ok_lem}
use Rattle.slots.specs.Head.{tree_n}
use Rattle.slots.specs.Image.{body_of, head_of}
use Rattle.cursor.specs.Cursor.{beside_n, after_n}
use Rattle.ops.specs.Ops.{sought_n, end_n, nearest_n, code_dir, entered_n}
use Rattle.ops.specs.Image.{meant_by}
use Rattle.cursor.specs.declared.command.Command.{Command as CodeCommand}
use Rattle.cursor.specs.declared.cursor.Next.TheVariants.{Shown, Below}
use Rattle.ops.proofs.Endings.{Found}
use Rattle.ops.proofs.Finding.{sought_lives, end_lives, beyond_lives, sought_image, end_found, walk_found, hung_lives, beside_found}

module _ (s : State) (good : WellFormed s.pool) (names : List ℕ) (c : CodeCommand) where
  -- A tree that is not refused is one of the pool's.
  named_tree : bad_tree s (meant_by names c) ≡ false → (1 ≤ c.tree) × (c.tree ≤ length s.pool.trees)
  unfolding meant_by
  named_tree h = tree_ok_lem s (meant_by names c) h

  -- The record with the key.
  pub key_found : bad_tree s (meant_by names c) ≡ false
      → Found s.pool c.tree (with_key s (meant_by names c)) (sought_n (body_of s.pool) (tree_n (head_of s.pool).table c.tree) c).slot
  unfolding with_key meant_by get
  key_found h =
      let b = named_tree h in
      let i = ap (λ (f : Ending). f.slot) (sought_image s c good b.0 b.1) in
      record {
        is = i;
        lives = λ n. subst (Lives s.pool c.tree) (sym i) (sought_lives s.pool good c.tree b.0 b.1 c.key (λ z. n (i ∙ z)));
      }

  -- The record at an end of the tree.
  pub end_record : (d : Dir) → bad_tree s (meant_by names c) ≡ false
      → Found s.pool c.tree (first_from d s (meant_by names c)) (end_n (body_of s.pool) (tree_n (head_of s.pool).table c.tree) d)
  unfolding first_from meant_by
  end_record d h =
      let b = named_tree h in
      let i = end_found s c.tree d good b.0 b.1 in
      record {
        is = i;
        lives = λ n. subst (Lives s.pool c.tree) (sym i) (end_lives s.pool good c.tree b.0 b.1 d (λ z. n (i ∙ z)));
      }

  -- The record beside a handle's.
  pub handle_next : (d : Dir) → bad_tree s (meant_by names c) ≡ false → lives_in c.tree (rec_at s.pool c.slot) ≡ true
      → Found s.pool c.tree (next_of_handle d s (meant_by names c)) (walk_n 14 (body_of s.pool) c.slot d)
  unfolding next_of_handle meant_by
  handle_next d h l =
      let b = named_tree h in
      let i = walk_found s.pool good c.tree b.0 b.1 d c.slot (λ _. lives s.pool c.tree c.slot l) in
      record {
        is = i;
        lives = λ n. subst (Lives s.pool c.tree) (sym i) (beyond_lives s.pool good c.tree b.0 b.1 d c.slot (λ z. n (i ∙ z)));
      }

  module _ (fits : CursorOk s.pool s.cursor) where
    -- The record beside the cursor.
    pub cursor_next : (d : Dir) → Found s.pool (cursor_tree s.cursor) (next_of_cursor d s (meant_by names c)) (beside_n (body_of s.pool) d s.cursor)
    unfolding next_of_cursor
    cursor_next d =
        let i = beside_found d s.pool good s.cursor fits in
        record {
          is = i;
          lives = λ n. subst (Lives s.pool (cursor_tree s.cursor)) (sym i) (next_lives d s.pool good s.cursor fits (λ z. n (i ∙ z)));
        }

    -- The record that it stands at.
    pub cursor_record : Found s.pool (cursor_tree s.cursor) (at_cursor s (meant_by names c)) (standing s.cursor)
    unfolding at_cursor
    cursor_record = record { is = refl; lives = standing_lives s.pool good s.cursor fits }

-- ---- where a search ends, as a place for the cursor

-- a search for a command's key ended at the part u of the way q: the record found, or the one that its key would hang on; and the cursor there
record Ended (p : Pool) (c : CodeCommand) (u : Tree) (q : Way) : Type 0 where
  near : nearest_n (top u) (above q) ≡ or_nearest u q
  cursor : (k : Cursor) → after_n k c (entered_n (top u) (side q)) (nearest_n (top u) (above q)) ≡ entered_at c.tree c.key u q
  lives : (or_nearest u q ≡ 0 → ⊥) → Lives p c.tree (or_nearest u q)

-- the code's side is the side
code_side : (d : Dir) → way (code_dir d) ≡ d
code_side left = refl
code_side right = refl

ended : (p : Pool) → WellFormed p → (c : CodeCommand) → 1 ≤ c.tree → c.tree ≤ length p.trees → c.key < 256 ^ 8 → (u : Tree) (q : Way)
    → entry (by_key_in p c.key) (tree_at p c.tree) ≡ record { part = u; way = q } → Ended p c u q
unfolding nearest_n entered_n or_nearest entered_at
ended p good c low high small leaf q i =
    record {
      near = refl;
      cursor = λ k. ap (λ (d : Dir). vacant c.tree (above q) d c.key) (code_side (side q));
      lives = hung_lives p good c.tree (above q) (side q) c.key (at_vacant low high small i refl refl);
    }
ended p good c low high small (node l x b r) q i =
    let h = found_lives p good c.tree low high (by_key_in p c.key) i in
    let some_slot : eqb x 0 ≡ false = ne_eqb x 0 (λ z. omega (arith, z, h.low)) in
    record {
      near = ap (λ (e : Bool). cond e (above q) x) some_slot;
      cursor = λ k. ap (λ (e : Bool). after_n k c (cond e (Below (code_dir (side q))) Shown) (cond e (above q) x)) some_slot;
      lives = λ _. h;
    }

module _ (s : State) (good : WellFormed s.pool) (names : List ℕ) (c : CodeCommand) (small : c.key < 256 ^ 8) (h : bad_tree s (meant_by names c) ≡ false) where
  abbrev spot : Spot
  spot = entry (by_key_in s.pool c.key) (tree_at s.pool c.tree)

  here : Ended s.pool c spot.part spot.way
  here =
      let b = named_tree s good names c h in
      ended s.pool good c b.0 b.1 small spot.part spot.way refl

  sought : sought_n (body_of s.pool) (tree_n (head_of s.pool).table c.tree) c ≡ ending spot (compared (by_key_in s.pool c.key) (tree_at s.pool c.tree))
  sought = let b = named_tree s good names c h in sought_image s c good b.0 b.1

  -- The record that an entry shows.
  pub near_found : let f = sought_n (body_of s.pool) (tree_n (head_of s.pool).table c.tree) c in
      Found s.pool c.tree (nearest s (meant_by names c)) (nearest_n f.slot f.above)
  unfolding nearest entry_of meant_by
  near_found =
      let i = ap (λ (f : Ending). nearest_n f.slot f.above) sought ∙ here.near in
      record { is = i; lives = λ n. subst (Lives s.pool c.tree) (sym i) (here.lives (λ z. n (i ∙ z))) }

  -- The cursor on an entry.
  pub entered_same : (k : Cursor) (x : ℕ) → let f = sought_n (body_of s.pool) (tree_n (head_of s.pool).table c.tree) c in
      after_n k c (entered_n f.slot f.side) (nearest_n f.slot f.above) ≡ entered s (meant_by names c) x
  unfolding entered entry_of meant_by
  entered_same k x = ap (λ (f : Ending). after_n k c (entered_n f.slot f.side) (nearest_n f.slot f.above)) sought ∙ here.cursor k
