-- The tables of ops over the lists: for each op, the record that it means and the entry that it sees are one. Assumes nothing.
use Rattle.std.proofs.Common.{◌≡◌, ℕ, zero, suc, Bool, true, false, cond, eqb, [], ◌∷◌, sym, refl, ap, ◌∙◌, subst, arith, eq-eqb, eqb-true}
use Rattle.std.proofs.Math.Option.{Option, none, some}
use Rattle.std.proofs.lemmas.Bool.{eqb-false, not-false}
use Rattle.avl.specs.Tree.{Dir, left, right, flip, pick, list}
use Rattle.avl.specs.Order.{All, nil, more, first}
use Rattle.avl.proofs.Sides.{flip_flip}
use Rattle.meaning.specs.Layout.{within, span, following}
use Rattle.meaning.specs.Pool.{Rec, Pool, rec_at, tree_at}
use Rattle.meaning.specs.Cursor.{Command, Cursor, nowhere, occupied, vacant, first_entry, last_entry, State, kind, beyond, next_of, cursor_tree, standing, tree_of, with_key, of_handle, at_cursor, first_from, next_of_handle, next_of_cursor}
use Rattle.meaning.specs.Command.{show, take_out, add_new, op◌means◌does◌then◌, ops, op_in, op_of, meant, is_stale, stale, is_elsewhere, other_tree, not_at_record, key_beyond, past, none_there, among, refusal, refused, carried_out, perform}
use Rattle.meaning.specs.WellFormed.{WellFormed}
use Rattle.meaning.specs.Meant.{Entry, entries_of, front, facing, slot_of, on_side, of_key, of_slot, beside_slot, end_of, of_cursor, beside_cursor, sights, sight_in, seen, removing}
use Rattle.meaning.specs.States.{CursorOk, GoodState}
use Rattle.meaning.specs.Demands.{looking, seeing}
use Rattle.meaning.proofs.Adding.{not_end, end_ok}
use Rattle.meaning.proofs.Among.{among_all}
use Rattle.meaning.proofs.Entries.{live_entry, entry_zero, entry_live, entry_slot, entry_key_lem}
use Rattle.meaning.proofs.Members.{Lives, slot_in}
use Rattle.meaning.proofs.Sights.{Sees, end_alone, sees_key, sees_end, sees_beside, sees_slot, sees_standing, sees_next}
use Rattle.meaning.proofs.Tables.{never, Passed, passed, meant_is}

-- A command that is not refused is carried out by its op's row.
pub done_is : (s : State) (c : Command) → refusal s c ≡ 0 → perform s c ≡ carried_out (op_of c) s c
unfolding perform
done_is s c z = ap (λ (b : Bool). cond b (carried_out (op_of c) s c) (refused (refusal s c) s c)) (eq-eqb (refusal s c) 0 z)

-- ---- slots by their entries

-- A slot is that of its entry, 0 for none.
pub slot_seen : {p : Pool} {t : ℕ} (x : ℕ) {e : Option Entry} → Sees p t x e → x ≡ slot_of e
unfolding slot_of
slot_seen {p} zero s = ap slot_of (sym (entry_zero p) ∙ s.is)
slot_seen {p} (suc x) s =
    let h = s.there (λ e. omega arith) in
    sym (entry_slot p h) ∙ ap slot_of (sym (entry_live p h) ∙ s.is)

-- A key lies past a slot exactly if it lies on that side of its entry.
pub past_seen : {p : Pool} {t : ℕ} (d : Dir) (x k : ℕ) {e : Option Entry} → Sees p t x e → past p d x k ≡ on_side d k e
unfolding past on_side
past_seen {p} d zero k s = ap (on_side d k) (sym (entry_zero p) ∙ s.is)
past_seen {p} d (suc x) k s =
    let h = s.there (λ e. omega arith) in
    ap (λ (j : ℕ). key_beyond d j k) (sym (entry_key_lem p (suc x))) ∙ ap (on_side d k) (sym (entry_live p h) ∙ s.is)

-- At an end of its tree the cursor has nothing beside it on that side, and stands at the first entry from there.
pub end_seen : (e : Dir) (p : Pool) → WellFormed p → (k : Cursor) → CursorOk p k → kind k ≡ pick e 3 4
    → Sees p (cursor_tree k) (standing k) (front (facing (flip e) (entries_of p (cursor_tree k)))) × (next_of e p k ≡ 0)
unfolding next_of beyond kind standing cursor_tree
end_seen e p good k fits h =
    let a = end_ok e p k fits h in
    let t = cursor_tree k in (
      subst (λ (x : ℕ). Sees p t x (front (facing (flip e) (entries_of p t)))) (ap (λ (d : Dir). first (list d (tree_at p t))) (flip_flip e) ∙ sym a.is_first)
          (sees_end p good t (flip e)),
      next k h ∙ ap (λ (x : ℕ). following x (list (flip e) (tree_at p t))) a.is_first ∙ end_alone p good t e,
    )
  where
    next : (k : Cursor) → kind k ≡ pick e 3 4 → next_of e p k ≡ following (standing k) (list (flip e) (tree_at p (cursor_tree k)))
    next nowhere h = not_end e 0 (omega arith) h
    next (occupied t x) h = refl
    next (vacant t x d j) h = not_end e 2 (omega arith) h
    next (first_entry t x) h = refl
    next (last_entry t x) h = refl

-- ---- what each op sees

-- the tree that op n works on
abbrev tree_for : ℕ → State → Command → ℕ
tree_for n s c = cond (within 1 11 n) c.tree (cursor_tree s.cursor)

-- the record that op n means is one of its tree, or none, and its entry is the one seen
abbrev SeesAt : State → Command → ℕ → Type 0
SeesAt s c n = Sees s.pool (tree_for n s c) ((op_in ops n).means s c) (sight_in sights n (entries_of s.pool) s.cursor c)

module _ (w : Option Pool) (s : State) (c : Command) (g : GoodState w s) where
  sees_all : All (SeesAt s c) (2 ∷ 3 ∷ 5 ∷ 6 ∷ 7 ∷ 8 ∷ 10 ∷ 11 ∷ 12 ∷ 13 ∷ 14 ∷ 15 ∷ 21 ∷ 22 ∷ 23 ∷ [])
  unfolding ops op_in op◌means◌does◌then◌ sights sight_in with_key of_handle at_cursor first_from next_of_handle next_of_cursor of_key beside_slot end_of of_cursor beside_cursor within
  sees_all =
      let p = s.pool in
      let good = g.pool in
      let key = sees_key p good c.tree c.key in
      let beside : (d : Dir) → _ = λ d. sees_beside p good c.tree d c.slot in
      let end : (d : Dir) → _ = λ d. sees_end p good c.tree d in
      let next : (d : Dir) → _ = λ d. sees_next p good d s.cursor c g.cursor in
      more key (more key (more (beside right) (more (beside left) (more (end right) (more (end left) (more (end right) (more (end left)
      (more (next right) (more (next left) (more (next right) (more (next left)
      (more (sees_standing p good s.cursor g.cursor) (more (next left) (more (next right) nil))))))))))))))

  -- The record that an op means and the entry that it sees are one.
  pub sees : seeing c.op ≡ true → Sees s.pool (tree_of s c) (meant s c) (seen s.pool s.cursor c)
  unfolding tree_of meant op_of seen span
  sees h = among_all (SeesAt s c) ((2, 3) ∷ (5, 8) ∷ (10, 15) ∷ (21, 23) ∷ []) c.op h sees_all

-- ---- handles

-- A handle that passes its tests is that of a record of the tree.
pub handle_lives : (s : State) (c : Command) → stale s c ≡ false → other_tree s c ≡ false → Lives s.pool c.tree c.slot
unfolding stale other_tree is_stale is_elsewhere
handle_lives s c h k = go (rec_at s.pool c.slot) refl h k
  where
    go : (o : Option Rec) → rec_at s.pool c.slot ≡ o → is_stale c.stamp o ≡ false → is_elsewhere c.tree o ≡ false
        → Lives s.pool c.tree c.slot
    go none e a b = never refl a
    go (some r) e a b =
        let i = slot_in s.pool c.slot r e in
        record { low = i.0; high = i.1; rec = r; is = e; tree_is = eqb-true r.tree c.tree (not-false (eqb r.tree c.tree) b) }

-- ---- the ops that remove

-- the record that op n means lives in its tree, and its entry is the one seen
abbrev FindsAt : State → Command → ℕ → Type 0
FindsAt s c n =
    Passed n s c → Lives s.pool (tree_for n s c) ((op_in ops n).means s c)
    × (live_entry s.pool ((op_in ops n).means s c) ≡ sight_in sights n (entries_of s.pool) s.cursor c)

module _ (w : Option Pool) (s : State) (c : Command) (g : GoodState w s) where
  finds_all : All (FindsAt s c) (3 ∷ 4 ∷ 21 ∷ 22 ∷ 23 ∷ [])
  unfolding ops op_in op◌means◌does◌then◌ sights sight_in with_key of_handle at_cursor next_of_cursor of_key of_slot of_cursor beside_cursor within among none_there not_at_record
  finds_all =
      let p = s.pool in
      let good = g.pool in
      let K = sees_key p good c.tree c.key in
      let C = sees_standing p good s.cursor g.cursor in
      let N : (d : Dir) → _ = λ d. sees_next p good d s.cursor c g.cursor in
      more (λ t. (K.there (λ z. eqb-false (meant s c) 0 (t.one_there refl) (meant_is t ∙ z)), K.is))
      (more (λ t. let l = handle_lives s c (t.not_stale refl) (t.in_tree refl) in (l, (sees_slot p good c.tree c.slot l).is))
      (more (λ t. (C.there (eqb-false (standing s.cursor) 0 (t.at_record refl)), C.is))
      (more (λ t. ((N left).there (λ z. eqb-false (meant s c) 0 (t.one_there refl) (meant_is t ∙ z)), (N left).is))
      (more (λ t. ((N right).there (λ z. eqb-false (meant s c) 0 (t.one_there refl) (meant_is t ∙ z)), (N right).is))
      nil))))

  -- A removal that is not refused finds the record that it removes.
  pub finds : removing c.op ≡ true → refusal s c ≡ 0
      → Lives s.pool (tree_of s c) (meant s c) × (live_entry s.pool (meant s c) ≡ seen s.pool s.cursor c)
  unfolding tree_of meant op_of seen span
  finds h z = among_all (FindsAt s c) ((3, 4) ∷ (21, 23) ∷ []) c.op h finds_all (passed s c z)

-- ---- what each op does

-- They are among those that see one.
pub looking_sees : (n : ℕ) → looking n ≡ true → seeing n ≡ true
unfolding span among within
looking_sees n h =
    among_all (λ n. seeing n ≡ true) ((2, 2) ∷ (5, 8) ∷ (10, 15) ∷ []) n h
    (more refl (more refl (more refl (more refl (more refl (more refl (more refl (more refl (more refl (more refl (more refl nil)))))))))))

-- They do nothing but show the record.
pub looking_shows : (c : Command) → looking c.op ≡ true → (op_of c).does ≡ show
unfolding op_of ops op_in op◌means◌does◌then◌ span
looking_shows c h =
    among_all (λ n. (op_in ops n).does ≡ show) ((2, 2) ∷ (5, 8) ∷ (10, 15) ∷ []) c.op h
    (more refl (more refl (more refl (more refl (more refl (more refl (more refl (more refl (more refl (more refl (more refl nil)))))))))))

-- The ops that remove take the record out.
pub removing_takes : (c : Command) → removing c.op ≡ true → (op_of c).does ≡ take_out
unfolding op_of ops op_in op◌means◌does◌then◌ span
removing_takes c h =
    among_all (λ n. (op_in ops n).does ≡ take_out) ((3, 4) ∷ (21, 23) ∷ []) c.op h (more refl (more refl (more refl (more refl (more refl nil)))))

-- The ops that add put a new one in.
pub adding_adds : (c : Command) → among ((1, 1) ∷ (16, 20) ∷ (24, 25) ∷ []) c.op ≡ true → (op_of c).does ≡ add_new
unfolding op_of ops op_in op◌means◌does◌then◌ span
adding_adds c h =
    among_all (λ n. (op_in ops n).does ≡ add_new) ((1, 1) ∷ (16, 20) ∷ (24, 25) ∷ []) c.op h
    (more refl (more refl (more refl (more refl (more refl (more refl (more refl (more refl nil))))))))
