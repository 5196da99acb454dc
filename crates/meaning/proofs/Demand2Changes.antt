-- Demand 2, the ops that change the pool, over the lists alone: what is added and removed, what stays as it was, and the shape of the tree after it.
-- Assumes nothing.
use Rattle.std.proofs.Common.{◌≡◌, ℕ, Bool, true, false, cond, not, eqb, ltb, leb, List, [], ◌∷◌, length, sym, refl, ap, ◌∙◌, subst, ap₂, arith, eq-eqb, le-leb}
use Rattle.std.proofs.Math.Option.{Option, none, some}
use Rattle.avl.specs.Tree.{left, list}
use Rattle.meaning.specs.Layout.{within}
use Rattle.meaning.specs.Pool.{Pool, tree_at}
use Rattle.meaning.specs.Change.{with_trees, with_text, free_slot, add_rec, emptied, opening, rolled_back}
use Rattle.meaning.specs.Cursor.{Command, Cursor, nowhere, State, kind, tree_of, no_record, gone}
use Rattle.meaning.specs.Command.{Act, Done, add_new, silent, open_mark, roll_back, commit, reset, op◌means◌does◌then◌, ops, op_in, op_of, meant, bad_tree, none_there, among, adding, refusal, answer, Performed, carried_out, perform}
use Rattle.meaning.specs.WellFormed.{WellFormed}
use Rattle.meaning.specs.Meant.{Entry, entries_of, lookup, is_none, insert_by_key, new_entry, shown, of_key, sights, sight_in, seen, removing}
use Rattle.meaning.specs.States.{GoodState, Parsed}
use Rattle.meaning.specs.Refused.{first_met, tests_of, tests_in}
use Rattle.meaning.specs.Demands.{Added, Removed}
use Rattle.meaning.proofs.Acts.{add_trees, add_lives}
use Rattle.meaning.proofs.Adding.{adding_ok}
use Rattle.meaning.proofs.Commands.{marked_at, perform_good}
use Rattle.meaning.proofs.Demand1.{tests_of_op}
use Rattle.meaning.proofs.Demand2Looks.{looks, none_is}
use Rattle.meaning.proofs.Entries.{entry_at, entry_live, answer_shows, lookup_absent}
use Rattle.meaning.proofs.EntryChanges.{add_text, add_next, add_entry, add_entries, add_others, add_other_trees, add_tree, emptied_entries}
use Rattle.meaning.proofs.Facts.{both_true}
use Rattle.meaning.proofs.Formed.{not_both}
use Rattle.meaning.proofs.Removals.{removed_it}
use Rattle.meaning.proofs.Seen.{done_is, finds, removing_takes, adding_adds}

-- ---- adding

-- the pool after one of the ops that add
adds_pool : (origin : Option Pool) (s : State) (c : Command) → Parsed c → GoodState origin s → adding c.op ≡ true → refusal s c ≡ 0
    → (perform s c).state.pool ≡ add_rec (tree_of s c) c.key c.name s.pool
unfolding carried_out add_new adding
adds_pool origin s c parsed g h z =
    let o = op_of c in
    ap (λ (y : Performed). y.state.pool) (done_is s c z) ∙ ap (λ (f : Act). (f s c (o.means s c)).pool) (adding_adds c h)

-- Ops 1, 16 to 20, 24 and 25 add the command's key and name, in the lowest free slot and with the next stamp, to their tree.
pub adds : (origin : Option Pool) (s : State) (c : Command) → Parsed c → GoodState origin s → adding c.op ≡ true → refusal s c ≡ 0
    → Added s c (tree_of s c) (new_entry s.pool c.key c.name)
unfolding carried_out add_new new_entry adding
adds origin s c parsed g h z =
    let o = op_of c in
    let p = s.pool in
    let t = tree_of s c in
    let k = c.key in
    let n = c.name in
    let good = g.pool in
    let a = adding_ok origin s c parsed g h z in
    let q = done_is s c z in
    let d : o.does s c (o.means s c) ≡ add_new s c (o.means s c) = ap (λ (f : Act). f s c (o.means s c)) (adding_adds c h) in
    let pool = adds_pool origin s c parsed g h z in
    let now = ap (λ (y : Performed). y.state.cursor) q in
    let kept = (perform_good origin s c parsed g).pool in
    let j = kind (carried_out o s c).state.cursor in
    record {
      list = ap (λ (y : Pool). entries_of y t) pool ∙ add_entries p t k n good a;
      others = λ u i. ap (λ (y : Pool). entries_of y u) pool ∙ add_others p t k n good a u i;
      text = ap (λ (y : Pool). y.text) pool ∙ add_text p t k n good a;
      next = ap (λ (y : Pool). y.next) pool ∙ add_next p t k n good a;
      mark = ap (λ (y : Performed). y.state.mark) q ∙ ap (λ (y : Done). y.mark) d;
      cursor = now ∙ ap (λ (y : Done). o.then s c y.shown) d;
      answer =
          ap (λ (y : Performed). y.answer) q
          ∙ ap (λ (y : Done). answer 0 j y.shown y.rec) d
          ∙ answer_shows (add_rec t k n p) (subst WellFormed pool kept) 0 j (free_slot p)
          ∙ ap₂ (λ (m : Cursor) (y : Option Entry). shown 0 (kind m) y) (sym now)
          (entry_live (add_rec t k n p) (add_lives p t k n good a) ∙ ap (λ (y : Entry). some y) (add_entry p t k n good a));
      shape = ap (λ (y : Pool). tree_at y t) pool ∙ add_tree p t k n good a;
      other_shapes = λ u i. ap (λ (y : Pool). tree_at y u) pool ∙ add_other_trees p t k n good a u i;
    }

-- ---- removing

module _ (origin : Option Pool) (s : State) (c : Command) (g : GoodState origin s) where
  -- Ops 3, 4 and 21 to 23 remove the entry that the table `sights` gives for them over the lists.
  pub removes : removing c.op ≡ true → refusal s c ≡ 0 → (e : Entry) × (seen s.pool s.cursor c ≡ some e) × Removed s c (tree_of s c) e
  removes h z =
      let f = finds origin s c g h z in
      let l = f.0 in
      (entry_at s.pool (meant s c), sym f.1 ∙ entry_live s.pool l, removed_it origin s c g (tree_of s c) (meant s c) l refl (removing_takes c h) z)

-- ---- a get after a done add

lookup_insert : (e : Entry) (l : List Entry) → lookup e.key l ≡ none → lookup e.key (insert_by_key e l) ≡ some e
unfolding lookup insert_by_key
lookup_insert e [] h = ap (λ (b : Bool). cond b (some e) none) (eq-eqb e.key e.key refl)
lookup_insert e (f ∷ l) h = go (ltb e.key f.key) (eqb f.key e.key) refl h (lookup_insert e l)
  where
    go : (a b : Bool) → eqb f.key e.key ≡ b → cond b (some f) (lookup e.key l) ≡ none
        → (lookup e.key l ≡ none → lookup e.key (insert_by_key e l) ≡ some e) → lookup e.key (cond a (e ∷ f ∷ l) (f ∷ insert_by_key e l)) ≡ some e
    go true b i n k = ap (λ (c : Bool). cond c (some e) (lookup e.key (f ∷ l))) (eq-eqb e.key e.key refl)
    go false true i n k = absurd (not_both (some f) refl n)
    go false false i n k = ap (λ (c : Bool). cond c (some f) (lookup e.key (insert_by_key e l))) i ∙ k n

get_passes : (origin : Option Pool) (s : State) (c : Command) → Parsed c → GoodState origin s → adding c.op ≡ true → refusal s c ≡ 0
    → (get : Command) → get.op ≡ 2 → get.tree ≡ tree_of s c → is_none (seen (perform s c).state.pool (perform s c).state.cursor get) ≡ false
    → refusal (perform s c).state get ≡ 0
unfolding first_met tests_in tests_of bad_tree within among is_none
get_passes origin s c parsed g h z get i j n =
    let after = (perform s c).state in
    let a = adding_ok origin s c parsed g h z in
    let good = perform_good origin s c parsed g in
    let T = length after.pool.trees in
    let there : none_there after get ≡ false = none_is (marked_at origin s c) after get good (rw i) ∙ n in
    let many : T ≡ length s.pool.trees =
    ap (λ (y : Pool). length y.trees) (adds_pool origin s c parsed g h z) ∙ add_trees s.pool (tree_of s c) c.key c.name g.pool a in
    let tree : bad_tree after get ≡ false =
    ap not (both_true (leb 1 get.tree) (leb get.tree T) (le-leb 1 get.tree (omega (arith, j, a.tree_low)))
    (le-leb get.tree T (omega (arith, j, a.tree_high, many)))) in
    tests_of_op after get (rw i)
    ∙ ap (λ (m : ℕ). first_met (tests_in tests_of m) after get) i
    ∙ ap₂ (λ (x y : Bool). cond x 11 (cond y 19 0)) tree there

get_leaves : (s : State) (get : Command) → get.op ≡ 2 → (x : ℕ) → kind ((op_of get).then s get x) ≡ 0
unfolding op_of ops op_in op◌means◌does◌then◌ gone kind
get_leaves s get i x = ap (λ (n : ℕ). kind ((op_in ops n).then s get x)) i

-- A get after a done add shows the record that was added: it is not refused, and its answer is that entry.
pub get_after_add : (origin : Option Pool) (s : State) (c : Command) → Parsed c → GoodState origin s → adding c.op ≡ true → refusal s c ≡ 0
    → (get : Command) → get.op ≡ 2 → get.tree ≡ tree_of s c → get.key ≡ c.key
    → (refusal (perform s c).state get ≡ 0) × ((perform (perform s c).state get).answer ≡ shown 0 0 (some (new_entry s.pool c.key c.name)))
unfolding seen sights sight_in of_key entries_of new_entry within among is_none
get_after_add origin s c parsed g h z get i j k =
    let e = new_entry s.pool c.key c.name in
    let t = tree_of s c in
    let a = adding_ok origin s c parsed g h z in
    let m = adds origin s c parsed g h z in
    let after = (perform s c).state in
    let good = perform_good origin s c parsed g in
    let shows : seen after.pool after.cursor get ≡ some e =
    ap (λ (n : ℕ). sight_in sights n (entries_of after.pool) after.cursor get) i
    ∙ ap₂ (λ (x u : ℕ). lookup x (entries_of after.pool u)) k j
    ∙ ap (lookup c.key) m.list
    ∙ lookup_insert e (entries_of s.pool t) (lookup_absent s.pool c.key (list left (tree_at s.pool t)) a.new) in
    let passes : refusal after get ≡ 0 = get_passes origin s c parsed g h z get i j (ap is_none shows) in
    let l = looks (marked_at origin s c) after get good (rw i) passes in
    (passes, l.answer ∙ ap₂ (λ (x : ℕ) (y : Option Entry). shown 0 x y) (ap kind l.cursor ∙ get_leaves after get i _) shows)

-- ---- marks, commit, rollback and reset

silent_opened : Unit {0}
unfolding ops op_in op◌means◌does◌then◌ carried_out open_mark roll_back commit reset silent gone kind answer shown no_record
silent_opened = tt

emptied_text : (p : Pool) → (emptied p).text ≡ []
unfolding emptied with_text
emptied_text p = refl

emptied_next : (p : Pool) → (emptied p).next ≡ p.next
unfolding emptied with_text with_trees
emptied_next p = refl

module _ (s : State) (c : Command) where
  silent_is : (n : ℕ) → c.op ≡ n → refusal s c ≡ 0 → perform s c ≡ carried_out (op_in ops n) s c
  unfolding op_of
  silent_is n e z = done_is s c z ∙ ap (λ (m : ℕ). carried_out (op_in ops m) s c) e

  -- Mark opens a mark and changes nothing else; it shows no record and drops the cursor, as do the three below.
  pub marks : c.op ≡ 26 → refusal s c ≡ 0
      → perform s c ≡ record { state = record { pool = s.pool; cursor = nowhere; mark = some (opening s.pool) }; answer = shown 0 0 none }
  unfolding silent_opened
  marks e z = silent_is 26 e z

  -- Rollback undoes what was done since the mark, and closes it; demand 3 says what that leaves.
  pub rolls_back : c.op ≡ 27 → refusal s c ≡ 0
      → perform s c ≡ record { state = record { pool = rolled_back s.mark s.pool; cursor = nowhere; mark = none }; answer = shown 0 0 none }
  unfolding silent_opened
  rolls_back e z = silent_is 27 e z

  -- Commit closes the mark and changes nothing else.
  pub commits : c.op ≡ 28 → refusal s c ≡ 0
      → perform s c ≡ record { state = record { pool = s.pool; cursor = nowhere; mark = none }; answer = shown 0 0 none }
  unfolding silent_opened
  commits e z = silent_is 28 e z

  -- Reset empties the pool.
  pub resets : c.op ≡ 29 → refusal s c ≡ 0
      → perform s c ≡ record { state = record { pool = emptied s.pool; cursor = nowhere; mark = none }; answer = shown 0 0 none }
  unfolding silent_opened
  resets e z = silent_is 29 e z

-- An emptied pool has no entry in any list and no text; its next stamp is as it was.
pub emptied_is : (p : Pool) → ((t : ℕ) → entries_of (emptied p) t ≡ []) × ((emptied p).text ≡ []) × ((emptied p).next ≡ p.next)
emptied_is p = (emptied_entries p, emptied_text p, emptied_next p)
