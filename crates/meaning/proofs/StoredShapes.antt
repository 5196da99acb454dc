-- From a command of a batch to the bytes: the links and balances that the records of the final pool store are those of the tree that the Rust's edit gives.
-- Assumes nothing.
use Rattle.std.proofs.Common.{◌≡◌, ℕ, ◌≤◌, true, List, [], ◌∷◌, ◌++◌, length, sym, ap, ◌∙◌, subst, append-nil, arith}
use Rattle.std.proofs.Math.Option.{Option}
use Rattle.std.proofs.lemmas.List.{length-map}
use Rattle.fields.specs.Number.{Bytes}
use Rattle.avl.specs.Tree.{Dir, left, leaf, list}
use Rattle.avl.specs.Way.{Way}
use Rattle.avl.specs.Edit.{insert, insert_here, remove}
use Rattle.avl.specs.Search.{entry}
use Rattle.avl.specs.Links.{Links}
use Rattle.meaning.specs.Pool.{Pool, tree_at, links_at, lives_in, rec_at, n_trees, entries, read}
use Rattle.meaning.specs.Sound.{sound}
use Rattle.meaning.specs.Change.{by_key_in, free_slot, Mark, rolled_back}
use Rattle.meaning.specs.Cursor.{Command, State, standing, tree_of}
use Rattle.meaning.specs.Command.{meant, among, adding, perform}
use Rattle.meaning.specs.Doors.{run, begun, ended, batch}
use Rattle.meaning.specs.Meant.{entries_of, removing}
use Rattle.meaning.specs.Calls.{Point, state_after}
use Rattle.meaning.specs.Told.{code_at, ToldShut}
use Rattle.meaning.specs.Places.{Stands, StoredTree}
use Rattle.meaning.proofs.Adding.{adding_ok}
use Rattle.meaning.proofs.Answers.{code_told, trees_kept}
use Rattle.meaning.proofs.Batches.{AllParsed, and_then, ended_good}
use Rattle.meaning.proofs.Cursors.{lives_tree}
use Rattle.meaning.proofs.Demand2.{count_of_tree, links_of_record, root_of_tree}
use Rattle.meaning.proofs.Demand2Places.{inserted_there, beside_there, removed_there}
use Rattle.meaning.proofs.Demand2Shapes.{beside_ops_lem}
use Rattle.meaning.proofs.Entries.{entry_at}
use Rattle.meaning.proofs.Facts.{bit_one, length_rows}
use Rattle.meaning.proofs.Members.{lives}
use Rattle.meaning.proofs.Points.{batch_stored, point_good, point_parsed, point_leaves, point_on, state_on}
use Rattle.meaning.proofs.Pools.{sound_pool, good_state}
use Rattle.meaning.proofs.Seen.{finds}
use Rattle.meaning.proofs.Sizes.{batch_sizes}
use Rattle.meaning.proofs.ToldShuts.{shut_at}
use Rattle.meaning.specs.Demands.{beside_ops}
use Rattle.meaning.specs.States.{Parsed}

-- Every tree of a sound pool is stored as the tree that its bytes are read as.
pub stored_tree : (pool : List ℕ) → Bytes pool → sound pool ≡ true → (t : ℕ) → 1 ≤ t → t ≤ n_trees pool → StoredTree pool t (tree_at (read pool) t)
unfolding entries_of read entries links_at
stored_tree b a s t low high =
    let p = read b in
    let good = (sound_pool b a s).0 in
    let trees : length p.trees ≡ n_trees b = length-map (entries b) _ ∙ length_rows (n_trees b) 8 _ in
    let g = good.trees t low (omega (arith, high, trees)) in
    record {
      root = root_of_tree b a s t low high;
      many = count_of_tree b a s t low high ∙ length-map (list left (tree_at p t)) (entry_at p);
      rows = λ x h.
          let l = lives p t x (bit_one (lives_in t (rec_at p x)) (omega (arith, h, g.once x))) in
          let k = links_of_record b a s x l.rec l.is in
          let e = ap (λ (u : ℕ). links_at p u x) l.tree_is in
          record {
            tree_is = k.tree_is ∙ l.tree_is;
            left_is = k.left_is ∙ ap (λ (v : Links). v.left) e;
            right_is = k.right_is ∙ ap (λ (v : Links). v.right) e;
            parent_is = k.parent_is ∙ ap (λ (v : Links). v.parent) e;
            balance_is = k.balance_is ∙ ap (λ (v : Links). v.balance) e;
          };
    }

-- The bytes of the pool that a batch leaves store every tree as it is after the batch's last command, and after the rollback of a mark that is still open.
pub final_trees : {pool request answers : List ℕ} {before rest : List Command} → Point pool request answers before rest → (t : ℕ) → 1 ≤ t → t ≤ n_trees pool
    → StoredTree (batch pool request answers).pool t (tree_at (ended (state_after pool (before ++ rest))) t)
unfolding read entries state_after begun
final_trees {pool} {request} {answers} {before} {rest} p t low high =
    let u = state_after pool (before ++ rest) in
    let b = (batch pool request answers).pool in
    let h = batch_stored p in
    let q = point_good (point_on {before = before} {rest = []} rest (subst (Point pool request answers before) (sym (append-nil rest)) p)) in
    let same : read b ≡ ended u = ap read (point_leaves p) ∙ (good_state (ended u) (ended_good q.0 u q.1)).2 in
    let here : length (read b).trees ≡ n_trees b = length-map (entries b) _ ∙ length_rows (n_trees b) 8 _ in
    let there : length (read pool).trees ≡ n_trees pool = length-map (entries pool) _ ∙ length_rows (n_trees pool) 8 _ in
    let kept : length (ended u).trees ≡ length (read pool).trees = (batch_sizes (begun (read pool)) (before ++ rest)).trees in
    let both : length (read b).trees ≡ length (ended u).trees = ap (λ (v : Pool). length v.trees) same in
    subst (λ (v : Pool). StoredTree b t (tree_at v t)) same
    (stored_tree b h.are_bytes h.is_sound t low (omega (arith, high, here, there, kept, both)))

-- ---- the last command of a batch

first_parsed : {c : Command} {cs : List Command} → AllParsed (c ∷ cs) → Parsed c
first_parsed (and_then h hs) = h

module _ {pool request answers : List ℕ} {before : List Command} {c : Command} (p : Point pool request answers before (c ∷ []))
    (closed : ToldShut pool request answers (before ++ (c ∷ []))) where
  -- Where no mark is open after the last command, the batch's end leaves the pool.
  final_pool : ended (state_after pool (before ++ (c ∷ []))) ≡ (perform (state_after pool before) c).state.pool
  unfolding run ended rolled_back
  final_pool =
      let u = state_after pool (before ++ (c ∷ [])) in
      ap (λ (m : Option Mark). rolled_back m u.pool) (shut_at (point_on {rest = []} (c ∷ []) p) closed)
      ∙ ap (λ (t : State). t.pool) (state_on pool before (c ∷ []))

  -- So the bytes store every tree as the last command leaves it.
  pub final_tree : (t : ℕ) → 1 ≤ t → t ≤ length (state_after pool before).pool.trees
      → StoredTree (batch pool request answers).pool t (tree_at (perform (state_after pool before) c).state.pool t)
  final_tree t low high =
      subst (λ (v : Pool). StoredTree (batch pool request answers).pool t (tree_at v t)) final_pool
      (final_trees p t low (omega (arith, high, trees_kept pool before)))

  -- The last command of a batch adds a record, answered with 0, and no mark is open after it. The search for its key ends at an empty place of its tree, and
  -- the bytes of the pool that the batch leaves store the tree that `_insert` gives there.
  pub inserted_stored : adding c.op ≡ true → code_at (batch pool request answers).answers (length before) ≡ 0 → let s = state_after pool before in
      (q : Way) × (entry (by_key_in s.pool c.key) (tree_at s.pool (tree_of s c)) ≡ record { part = leaf; way = q })
      × StoredTree (batch pool request answers).pool (tree_of s c) (insert q (free_slot s.pool))
  inserted_stored h z =
      let s = state_after pool before in
      let b = (batch pool request answers).pool in
      let t = tree_of s c in
      let g = point_good p in
      let parsed = first_parsed (point_parsed p) in
      let done = sym (code_told p) ∙ z in
      let can = adding_ok g.0 s c parsed g.1 h done in
      let k = inserted_there g.0 s c g.1 parsed h done in
      (k.0, k.1, subst (StoredTree b t) k.2 (final_tree t can.tree_low can.tree_high))

  -- It puts a record in on side d of the one that the cursor stands at: the bytes store the tree that `_insert_here` gives there.
  pub beside_stored : (d : Dir) → among (beside_ops d) c.op ≡ true → code_at (batch pool request answers).answers (length before) ≡ 0
      → let s = state_after pool before in (standing s.cursor ≡ 0 → ⊥)
      → (k : Stands d (standing s.cursor) (tree_at s.pool (tree_of s c)))
      × StoredTree (batch pool request answers).pool (tree_of s c)
      (insert_here d k.near (standing s.cursor) k.bal k.far k.way (free_slot s.pool))
  beside_stored d h z n =
      let s = state_after pool before in
      let g = point_good p in
      let parsed = first_parsed (point_parsed p) in
      let done = sym (code_told p) ∙ z in
      let can = adding_ok g.0 s c parsed g.1 (beside_ops_lem d c.op h).0 done in
      let k = beside_there g.0 s c g.1 parsed d h done n in
      (k.0, stores k.0 k.1 (final_tree (tree_of s c) can.tree_low can.tree_high))
    where
      s : State
      s = state_after pool before

      stores : (k : Stands d (standing s.cursor) (tree_at s.pool (tree_of s c)))
          → tree_at (perform s c).state.pool (tree_of s c)
          ≡ insert_here d k.near (standing s.cursor) k.bal k.far k.way (free_slot s.pool)
          → StoredTree (batch pool request answers).pool (tree_of s c) (tree_at (perform s c).state.pool (tree_of s c))
          → StoredTree (batch pool request answers).pool (tree_of s c)
          (insert_here d k.near (standing s.cursor) k.bal k.far k.way (free_slot s.pool))
      stores k e i = subst (StoredTree (batch pool request answers).pool (tree_of s c)) e i

  -- It removes a record: the record that it means stands in its tree, and the bytes store the tree that `_remove` gives there.
  pub removed_stored : removing c.op ≡ true → code_at (batch pool request answers).answers (length before) ≡ 0 → let s = state_after pool before in
      (k : Stands left (meant s c) (tree_at s.pool (tree_of s c)))
      × StoredTree (batch pool request answers).pool (tree_of s c) (remove k.near k.bal k.far k.way)
  removed_stored h z =
      let s = state_after pool before in
      let b = (batch pool request answers).pool in
      let t = tree_of s c in
      let g = point_good p in
      let done = sym (code_told p) ∙ z in
      let i = lives_tree s.pool g.1.pool t (meant s c) (finds g.0 s c g.1 h done).0 in
      let k = removed_there g.0 s c g.1 h done in
      (k.0, subst (StoredTree b t) k.1 (final_tree t i.0 i.1))
