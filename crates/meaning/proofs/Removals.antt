-- What a command that takes a live record out leaves, by the record's slot. Assumes nothing.
use Rattle.std.proofs.Common.{◌≡◌, ℕ, sym, ap, ◌∙◌, subst, ap₂}
use Rattle.std.proofs.Math.Option.{Option, some}
use Rattle.avl.specs.Search.{remove_by_key}
use Rattle.meaning.specs.Pool.{Pool, rec_at, tree_at}
use Rattle.meaning.specs.Change.{by_key_in, removed, drop_rec, noted}
use Rattle.meaning.specs.Cursor.{Command, Cursor, State, kind}
use Rattle.meaning.specs.Command.{Act, Done, taken_out, take_out, op_of, meant, refusal, answer, Performed, carried_out, perform}
use Rattle.meaning.specs.Meant.{Entry, entries_of, without, shown}
use Rattle.meaning.specs.States.{GoodState}
use Rattle.meaning.specs.Demands.{Removed}
use Rattle.meaning.proofs.Entries.{entry_at, entry_live, entry_slot, entry_key_lem, answer_shows}
use Rattle.meaning.proofs.EntryChanges.{drop_text, drop_next, drop_entries, drop_others, drop_other_trees, drop_tree}
use Rattle.meaning.proofs.Formed.{live_key}
use Rattle.meaning.proofs.Members.{Lives}
use Rattle.meaning.proofs.Seen.{done_is}

module _ (w : Option Pool) (s : State) (c : Command) (g : GoodState w s) where
  -- What an op that takes a live record out leaves.
  pub removed_it : (t x : ℕ) (l : Lives s.pool t x) → meant s c ≡ x → (op_of c).does ≡ take_out → refusal s c ≡ 0 → Removed s c t (entry_at s.pool x)
  unfolding carried_out take_out taken_out meant
  removed_it t x l i h z =
      let o = op_of c in
      let p = s.pool in
      let good = g.pool in
      let r = l.rec in
      let q = done_is s c z in
      let d : o.does s c (o.means s c) ≡ taken_out s x (some r) =
      ap₂ (λ (f : Act) (y : ℕ). f s c y) h i ∙ ap (taken_out s x) l.is in
      let pool : (perform s c).state.pool ≡ drop_rec x r p = ap (λ (y : Performed). y.state.pool) q ∙ ap (λ (y : Done). y.pool) d in
      let now = ap (λ (y : Performed). y.state.cursor) q in
      let slot : (entry_at p x).slot ≡ x = entry_slot p l in
      let key : r.key ≡ (entry_at p x).key = sym (entry_key_lem p x ∙ live_key p x r l.is) in
      let home : r.tree ≡ t = l.tree_is in
      let j = kind (carried_out o s c).state.cursor in
      record {
        list =
            ap (λ (y : Pool). entries_of y t) pool
            ∙ subst (λ (u : ℕ). entries_of (drop_rec x r p) u ≡ without x (entries_of p u)) home (drop_entries p x r good l.is)
            ∙ ap (λ (y : ℕ). without y (entries_of p t)) (sym slot);
        others = λ u n. ap (λ (y : Pool). entries_of y u) pool ∙ drop_others p x r good l.is u (λ e. n (e ∙ home));
        text = ap (λ (y : Pool). y.text) pool ∙ drop_text p x r good l.is;
        next = ap (λ (y : Pool). y.next) pool ∙ drop_next p x r good l.is;
        rec = r;
        was = ap (rec_at p) slot ∙ l.is;
        mark =
            ap (λ (y : Performed). y.state.mark) q ∙ ap (λ (y : Done). y.mark) d
            ∙ ap (λ (y : ℕ). noted (removed y r) s.mark) (sym slot);
        cursor = now ∙ ap (λ (y : Done). o.then s c y.shown) d ∙ ap (o.then s c) (sym slot);
        answer =
            ap (λ (y : Performed). y.answer) q
            ∙ ap (λ (y : Done). answer 0 j y.shown y.rec) d
            ∙ ap (answer 0 j x) (sym l.is)
            ∙ answer_shows p good 0 j x
            ∙ ap₂ (λ (m : Cursor) (y : Option Entry). shown 0 (kind m) y) (sym now) (entry_live p l);
        shape =
            ap (λ (y : Pool). tree_at y t) pool
            ∙ subst (λ (u : ℕ). tree_at (drop_rec x r p) u ≡ remove_by_key (by_key_in p r.key) (tree_at p u)) home (drop_tree p x r good l.is)
            ∙ ap (λ (y : ℕ). remove_by_key (by_key_in p y) (tree_at p t)) key;
        other_shapes = λ u n. ap (λ (y : Pool). tree_at y u) pool ∙ drop_other_trees p x r good l.is u (λ e. n (e ∙ home));
      }
