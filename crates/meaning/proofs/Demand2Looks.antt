-- Demand 2, the ops that look, over the lists alone: what is shown, and when there is none, a key is present or out of order. Assumes nothing.
use Rattle.std.proofs.Common.{◌≡◌, ℕ, Bool, true, false, not, ◌&&◌, List, sym, refl, ap, ◌∙◌, subst, ap₂}
use Rattle.std.proofs.Math.Option.{Option}
use Rattle.avl.specs.Tree.{Dir, flip, Tree, leaf, node, top}
use Rattle.avl.specs.Way.{Way, above, side, after}
use Rattle.avl.specs.Search.{Spot, get, entry}
use Rattle.avl.specs.Order.{first}
use Rattle.avl.proofs.Sides.{flip_flip}
use Rattle.avl.proofs.Walks.{nearest}
use Rattle.meaning.specs.Layout.{within}
use Rattle.meaning.specs.Pool.{Pool, rec_at, tree_at}
use Rattle.meaning.specs.Change.{by_key_in}
use Rattle.meaning.specs.Cursor.{Command, Cursor, occupied, vacant, State, kind, standing, with_key, nearest as nearest_of, or_nearest, entry_of, next_of_cursor, entered_at, entered}
use Rattle.meaning.specs.Command.{Act, Done, show, op◌means◌does◌then◌, ops, op_in, op_of, meant, bad_tree, present, not_between, none_there, refusal, answer, Performed, carried_out, perform}
use Rattle.meaning.specs.WellFormed.{WellFormed}
use Rattle.meaning.specs.Meant.{Entry, entries_of, lookup, facing, first_past, is_none, slot_of, on_side, shown, of_cursor, beside_cursor, seen}
use Rattle.meaning.specs.States.{GoodState}
use Rattle.meaning.specs.Demands.{seeing, looking, Looked, Entered, found, missed}
use Rattle.meaning.proofs.Adding.{tree_ok_lem}
use Rattle.meaning.proofs.Cursors.{found_lives}
use Rattle.meaning.proofs.Entries.{entry_at, live_entry, entry_zero, entry_live, entry_slot, answer_shows, lookup_get}
use Rattle.meaning.proofs.Members.{Lives}
use Rattle.meaning.proofs.Seen.{done_is, slot_seen, past_seen, sees, looking_sees, looking_shows}
use Rattle.meaning.proofs.Sights.{Sees, none_zero, sees_key, sees_past, sees_standing, sees_next}
use Rattle.meaning.proofs.Tables.{passed}

-- ---- what is shown

-- any op that only shows the record it means
shows_it : (s : State) (c : Command) → WellFormed s.pool → {t : ℕ} {e : Option Entry} → (op_of c).does ≡ show → Sees s.pool t (meant s c) e
    → refusal s c ≡ 0 → Looked s c e
unfolding carried_out show meant
shows_it s c good {t} {e} h k z =
    let o = op_of c in
    let x = meant s c in
    let q = done_is s c z in
    let d : o.does s c x ≡ show s c x = ap (λ (f : Act). f s c x) h in
    let now = ap (λ (y : Performed). y.state.cursor) q in
    record {
      pool = ap (λ (y : Performed). y.state.pool) q ∙ ap (λ (y : Done). y.pool) d;
      mark = ap (λ (y : Performed). y.state.mark) q ∙ ap (λ (y : Done). y.mark) d;
      cursor = now ∙ ap (λ (y : Done). o.then s c y.shown) d ∙ ap (o.then s c) (slot_seen x k);
      answer =
          ap (λ (y : Performed). y.answer) q
          ∙ ap (λ (y : Done). answer 0 (kind (carried_out o s c).state.cursor) y.shown y.rec) d
          ∙ answer_shows s.pool good 0 (kind (carried_out o s c).state.cursor) x
          ∙ ap₂ (λ (j : Cursor) (y : Option Entry). shown 0 (kind j) y) (sym now) k.is;
    }

module _ (origin : Option Pool) (s : State) (c : Command) (g : GoodState origin s) where
  -- Ops 2, 5 to 8 and 10 to 15 show the entry that the table `sights` gives for them over the lists, and change nothing but the cursor.
  pub looks : looking c.op ≡ true → refusal s c ≡ 0 → Looked s c (seen s.pool s.cursor c)
  looks h z = shows_it s c g.pool (looking_shows c h) (sees origin s c g (looking_sees c.op h)) z

  -- ---- when there is none, and when a key is present or out of order

  -- NONE: the test is met exactly if the op sees no entry.
  pub none_is : seeing c.op ≡ true → none_there s c ≡ is_none (seen s.pool s.cursor c)
  unfolding none_there
  none_is h = none_zero (meant s c) (sees origin s c g h)

  -- PRESENT: the test is met exactly if the list of the tree has an entry with the key.
  pub present_is : present s c ≡ not (is_none (lookup c.key (entries_of s.pool c.tree)))
  unfolding present with_key
  present_is = ap not (none_zero (with_key s c) (sees_key s.pool g.pool c.tree c.key))

  -- ORDER: the test is met exactly if the key is not strictly between the entry that the cursor stands at and the entry on that side of it, if any.
  pub order_is : (d : Dir)
      → not_between d s c ≡ not (on_side d c.key (of_cursor (entries_of s.pool) s.cursor c)
      && on_side (flip d) c.key (beside_cursor d (entries_of s.pool) s.cursor c))
  unfolding not_between next_of_cursor of_cursor
  order_is d =
      ap₂ (λ (a b : Bool). not (a && b))
      (past_seen d (standing s.cursor) c.key (sees_standing s.pool g.pool s.cursor g.cursor))
      (past_seen (flip d) (next_of_cursor d s c) c.key (sees_next s.pool g.pool d s.cursor c g.cursor))

-- ---- op 9

-- the search for the command's key in its tree ends at the place v, where u stands
abbrev EndsAt : State → Command → Tree → Way → Type 0
EndsAt s c u v = entry (by_key_in s.pool c.key) (tree_at s.pool c.tree) ≡ record { part = u; way = v }

enters_row : (origin : Option Pool) (s : State) (c : Command) → GoodState origin s → bad_tree s c ≡ false
    → Entered (entries_of s.pool c.tree) c.tree c.key (carried_out (op_in ops 9) s c)
unfolding ops op_in op◌means◌does◌then◌ carried_out show nearest_of or_nearest entered entered_at entry_of kind get
enters_row origin s c g h = let f = entry (by_key_in s.pool c.key) (tree_at s.pool c.tree) in go f.part f.way refl
  where
    replied : {u : Tree} {v : Way} → EndsAt s c u v
        → (carried_out (op_in ops 9) s c).answer
        ≡ shown 0 (kind (entered_at c.tree c.key u v)) (live_entry s.pool (or_nearest u v))
    replied {u} {v} e =
        let at : Tree → Way → List ℕ = λ a z. answer 0 (kind (entered_at c.tree c.key a z)) (or_nearest a z) (rec_at s.pool (or_nearest a z)) in
        ap (λ (y : Spot). at y.part y.way) e
        ∙ answer_shows s.pool g.pool 0 (kind (entered_at c.tree c.key u v)) (or_nearest u v)

    looked : {u : Tree} {v : Way} → EndsAt s c u v
        → lookup c.key (entries_of s.pool c.tree) ≡ live_entry s.pool (top u)
    looked e = lookup_get s.pool c.key g.pool c.tree ∙ ap (λ (y : Spot). live_entry s.pool (top y.part)) e

    placed : {u : Tree} {v : Way} → EndsAt s c u v
        → (carried_out (op_in ops 9) s c).state.cursor ≡ entered_at c.tree c.key u v
    placed e = ap (λ (y : Spot). entered_at c.tree c.key y.part y.way) e

    go : (u : Tree) (v : Way) → EndsAt s c u v
        → Entered (entries_of s.pool c.tree) c.tree c.key (carried_out (op_in ops 9) s c)
    go leaf v e =
        let p = s.pool in
        let t = c.tree in
        let k = c.key in
        let l = entries_of p t in
        let d = flip (side v) in
        let S : Sees p t (above v) (first_past d k (facing d l)) =
        subst (λ (x : ℕ). Sees p t x (first_past d k (facing d l))) (ap (λ (a : Dir). first (after a v)) (flip_flip (side v)) ∙ sym (nearest v))
        (sees_past p g.pool t k v e d) in
        let here : above v ≡ slot_of (live_entry p (above v)) = slot_seen (above v) (record { there = S.there; is = refl }) in
        missed (side v) (live_entry p (above v)) (looked e ∙ entry_zero p) S.is (placed e ∙ ap (λ (x : ℕ). vacant t x (side v) k) here) (replied e)
    go (node l x b r) v e =
        let p = s.pool in
        let t = c.tree in
        let range = tree_ok_lem s c h in
        let alive : Lives p t x = found_lives p g.pool t range.0 range.1 (by_key_in p c.key) e in
        let is = entry_live p alive in
        found (entry_at p x) (looked e ∙ is) (placed e ∙ ap (occupied t) (sym (entry_slot p alive))) (replied e ∙ ap (shown 0 1) is)

-- Op 9 changes nothing but the cursor, and shows the entry with the key, or else the one beside its place on which it would hang.
pub enters : (origin : Option Pool) (s : State) (c : Command) → GoodState origin s → c.op ≡ 9 → refusal s c ≡ 0
    → ((perform s c).state.pool ≡ s.pool) × ((perform s c).state.mark ≡ s.mark) × Entered (entries_of s.pool c.tree) c.tree c.key (perform s c)
unfolding op_of ops op_in op◌means◌does◌then◌ carried_out show within
enters origin s c g i z =
    let q : perform s c ≡ carried_out (op_in ops 9) s c = done_is s c z ∙ ap (λ (n : ℕ). carried_out (op_in ops n) s c) i in
    let h = (passed s c z).tree_good (rw i) in (
      ap (λ (y : Performed). y.state.pool) q,
      ap (λ (y : Performed). y.state.mark) q,
      subst (Entered (entries_of s.pool c.tree) c.tree c.key) (sym q) (enters_row origin s c g h),
    )
