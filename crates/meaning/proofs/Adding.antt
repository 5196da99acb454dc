-- The ops that add: what one that is not refused may rely on. Its key is new in its tree, in one of four ways. Assumes nothing.
use Rattle.std.proofs.Common.{◌≡◌, ℕ, ◌+◌, ◌≤◌, true, false, cond, ◌&&◌, eqb, List, [], ◌∷◌, length, sym, refl, ap, subst, arith, ltb-false, eqb-true}
use Rattle.std.proofs.Math.Option.{Option}
use Rattle.std.proofs.lemmas.Bool.{eqb-false, not-false}
use Rattle.avl.specs.Tree.{Dir, left, right, flip, pick, top, list}
use Rattle.avl.specs.Search.{Spot, get}
use Rattle.avl.specs.Order.{nil, more, first}
use Rattle.meaning.specs.Layout.{within, every, count, span}
use Rattle.meaning.specs.Pool.{Pool, tree_at}
use Rattle.meaning.specs.Change.{free_slot}
use Rattle.meaning.specs.Cursor.{Command, Cursor, nowhere, occupied, vacant, first_entry, last_entry, State, kind, cursor_tree, standing, entry_key, tree_of, with_key, next_of, next_of_cursor}
use Rattle.meaning.specs.Command.{bad_tree, not_at_record, not_kind, bad_name, present, past, not_between, is_other, not_the_entrys, no_slot, no_text, no_stamp, among, adding, refusal}
use Rattle.meaning.specs.WellFormed.{WellFormed}
use Rattle.meaning.specs.States.{NewKey, CursorOk, at_nowhere, at_occupied, at_vacant, at_first, at_last, GoodState, Parsed}
use Rattle.meaning.proofs.Facts.{both}
use Rattle.meaning.proofs.Good.{Addable}
use Rattle.meaning.proofs.Members.{Lives}
use Rattle.meaning.proofs.Clauses.{within_is}
use Rattle.meaning.proofs.Cursors.{lives_tree, standing_lives, standing_next}
use Rattle.meaning.proofs.NewKeys.{unfound_new, between_new, end_new}
use Rattle.meaning.proofs.Tables.{never, Passed, passed, tree_is, at_ops}

-- ---- the tests, as facts

-- A named tree that is not refused is one of the pool's.
pub tree_ok_lem : (s : State) (c : Command) → bad_tree s c ≡ false → (1 ≤ c.tree) × (c.tree ≤ length s.pool.trees)
unfolding bad_tree
tree_ok_lem s c h = let n = length s.pool.trees in within_is 1 n c.tree (not-false (within 1 n c.tree) h)

-- A cursor that is not refused for its record stands at a live one.
pub record_ok_lem : (s : State) (c : Command) → WellFormed s.pool → CursorOk s.pool s.cursor → not_at_record s c ≡ false
    → Lives s.pool (cursor_tree s.cursor) (standing s.cursor)
unfolding not_at_record
record_ok_lem s c good fits h = standing_lives s.pool good s.cursor fits (eqb-false (standing s.cursor) 0 h)

-- A key that is not refused for its order lies past the cursor's record, and not past the one beside it.
pub order_ok : (d : Dir) (s : State) (c : Command) → not_between d s c ≡ false
    → (past s.pool d (standing s.cursor) c.key ≡ true) × (past s.pool (flip d) (next_of d s.pool s.cursor) c.key ≡ true)
unfolding not_between next_of_cursor
order_ok d s c h =
    let a = past s.pool d (standing s.cursor) c.key in
    let b = past s.pool (flip d) (next_of d s.pool s.cursor) c.key in
    both a b (not-false (a && b) h)

-- A cursor that is not refused for its kind has it.
pub kind_ok : (n : ℕ) (s : State) (c : Command) → not_kind n s c ≡ false → kind s.cursor ≡ n
unfolding not_kind
kind_ok n s c h = eqb-true (kind s.cursor) n (not-false (eqb (kind s.cursor) n) h)

-- the cursor is at the end on side e of its tree
pub record AtEnd (e : Dir) (p : Pool) (k : Cursor) : Type 0 where
  pub tree_low : 1 ≤ cursor_tree k
  pub tree_high : cursor_tree k ≤ length p.trees
  pub is_first : standing k ≡ first (list e (tree_at p (cursor_tree k)))

-- No other cursor has the kind of an end.
pub not_end : {A : Type 0} (e : Dir) (n : ℕ) → n ≤ 2 → n ≡ pick e 3 4 → A
not_end left n l h = absurd (omega arith)
not_end right n l h = absurd (omega arith)

-- An entry of kind 3 is at the left end of its tree, one of kind 4 at the right.
pub end_ok : (e : Dir) (p : Pool) (k : Cursor) → CursorOk p k → kind k ≡ pick e 3 4 → AtEnd e p k
unfolding kind cursor_tree standing
end_ok e p nowhere at_nowhere h = not_end e 0 (omega arith) h
end_ok e p (occupied t x) (at_occupied low high l) h = not_end e 1 (omega arith) h
end_ok e p (vacant t x d k) (at_vacant low high i q a b) h = not_end e 2 (omega arith) h
end_ok left p (first_entry t x) (at_first low high i) h = record { tree_low = low; tree_high = high; is_first = i }
end_ok right p (first_entry t x) (at_first low high i) h = absurd (omega arith)
end_ok left p (last_entry t x) (at_last low high i) h = absurd (omega arith)
end_ok right p (last_entry t x) (at_last low high i) h = record { tree_low = low; tree_high = high; is_first = i }

-- ---- the four ways to a new key

-- the tree t is one of the pool's and has no record with the key k
pub record Open (p : Pool) (t k : ℕ) : Type 0 where
  pub tree_low : 1 ≤ t
  pub tree_high : t ≤ length p.trees
  pub new : NewKey p t k

-- The search finds none.
by_search : (s : State) (c : Command) → WellFormed s.pool → bad_tree s c ≡ false → present s c ≡ false → Open s.pool c.tree c.key
unfolding present with_key
by_search s c good g h =
    let b = tree_ok_lem s c g in
    let z = eqb-true (with_key s c) 0 (not-false (eqb (with_key s c) 0) h) in
    record { tree_low = b.0; tree_high = b.1; new = unfound_new s.pool good c.tree c.key b.0 b.1 z }

-- The key lies between the cursor's record and the one beside it.
beside : (d : Dir) (s : State) (c : Command) → WellFormed s.pool → CursorOk s.pool s.cursor → not_at_record s c ≡ false
    → not_between d s c ≡ false → Open s.pool (cursor_tree s.cursor) c.key
unfolding not_at_record
beside d s c good fits g h =
    let p = s.pool in
    let t = cursor_tree s.cursor in
    let x = standing s.cursor in
    let l = record_ok_lem s c good fits g in
    let b = lives_tree p good t x l in
    let o = order_ok d s c h in
    let that = subst (λ (y : ℕ). past p (flip d) y c.key ≡ true) (standing_next d p s.cursor (eqb-false x 0 g)) o.1 in
    record { tree_low = b.0; tree_high = b.1; new = between_new p good t c.key b.0 b.1 d x l o.0 that }

-- The key lies past the end of the tree that the cursor is at.
at_end : (e : Dir) (s : State) (c : Command) → WellFormed s.pool → CursorOk s.pool s.cursor → not_kind (pick e 3 4) s c ≡ false
    → not_between e s c ≡ false → Open s.pool (cursor_tree s.cursor) c.key
at_end e s c good fits g h =
    let p = s.pool in
    let t = cursor_tree s.cursor in
    let a = end_ok e p s.cursor fits (kind_ok (pick e 3 4) s c g) in
    let n = end_new p good t c.key a.tree_low a.tree_high e (standing s.cursor) a.is_first (order_ok e s c h).0 in
    record { tree_low = a.tree_low; tree_high = a.tree_high; new = n }

-- The key is that of the cursor's vacant entry.
at_entry : (p : Pool) (k : Cursor) (key : ℕ) → WellFormed p → CursorOk p k → is_other key (entry_key k) ≡ false → Open p (cursor_tree k) key
unfolding is_other entry_key cursor_tree get
at_entry p nowhere key good at_nowhere h = never refl h
at_entry p (occupied t x) key good (at_occupied low high l) h = never refl h
at_entry p (vacant t x d k) key good (at_vacant low high i q a b) h =
    let e = eqb-true k key (not-false (eqb k key) h) in
    record { tree_low = low; tree_high = high; new = subst (NewKey p t) e (unfound_new p good t k low high (ap (λ (f : Spot). top f.part) q)) }
at_entry p (first_entry t x) key good (at_first low high i) h = never refl h
at_entry p (last_entry t x) key good (at_last low high i) h = never refl h

-- ---- the ops that add

abbrev pub adders : List ℕ
adders = 1 ∷ 16 ∷ 17 ∷ 18 ∷ 19 ∷ 20 ∷ 24 ∷ 25 ∷ []

placed : {n : ℕ} {s : State} {c : Command} → Passed n s c → Open s.pool (cond (within 1 11 n) c.tree (cursor_tree s.cursor)) c.key
    → Open s.pool (tree_of s c) c.key
placed {s = s} {c = c} t o = subst (λ (u : ℕ). Open s.pool u c.key) (sym (tree_is t)) o

-- The tree of a command that adds has no record with its key.
pub adding_open : (w : Option Pool) (s : State) (c : Command) → GoodState w s → adding c.op ≡ true → refusal s c ≡ 0
    → Open s.pool (tree_of s c) c.key
unfolding adding among within every count span not_the_entrys
adding_open w s c g h z =
    let G = g.pool in
    let C = g.cursor in
    let P : ℕ → Type 0 = λ n. Open s.pool (tree_of s c) c.key in
    at_ops P adding adders refl s c z h
    (more (λ t. placed t (by_search s c G (t.tree_good refl) (t.key_absent refl)))
    (more (λ t. placed t (beside left s c G C (t.at_record refl) (t.key_before refl)))
    (more (λ t. placed t (beside right s c G C (t.at_record refl) (t.key_behind refl)))
    (more (λ t. placed t (beside left s c G C (t.at_record refl) (t.key_before refl)))
    (more (λ t. placed t (beside right s c G C (t.at_record refl) (t.key_behind refl)))
    (more (λ t. placed t (at_entry s.pool s.cursor c.key G C (t.key_vacant refl)))
    (more (λ t. placed t (at_end right s c G C (t.at_last refl) (t.key_behind refl)))
    (more (λ t. placed t (at_end left s c G C (t.at_first refl) (t.key_before refl)))
    nil))))))))

-- What an adding command that is not refused may rely on.
pub adding_ok : (w : Option Pool) (s : State) (c : Command) → Parsed c → GoodState w s → adding c.op ≡ true → refusal s c ≡ 0
    → Addable s.pool (tree_of s c) c.key c.name
unfolding bad_name no_slot no_text no_stamp
adding_ok w s c parsed g h z =
    let t = passed s c z in
    let o = adding_open w s c g h z in
    let named = not-false c.named (t.name_good h) in
    record {
      tree_low = o.tree_low;
      tree_high = o.tree_high;
      key_high = parsed.key_high;
      name_bytes = parsed.name_bytes;
      len_low = parsed.name_low named;
      len_high = parsed.name_high named;
      slot = eqb-false (free_slot s.pool) 0 (t.slot_free h);
      text = ltb-false s.pool.size (length s.pool.text + length c.name) (t.text_fits h);
      stamp = eqb-false s.pool.next 4_294_967_295 (t.stamp_left h);
      new = o.new;
    }
