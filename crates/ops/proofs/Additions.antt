-- How an op that adds a record ends: what is done on the body and the state is what `meaning` says. Assumes nothing.
use Rattle.std.proofs.Common.{◌≡◌, ℕ, zero, suc, ◌+◌, true, leb, List, length, sym, refl, ap, ◌∙◌, subst, ap₂, subst₂, arith, leb-true}
use Rattle.std.proofs.Math.Option.{Option, none, some}
use Rattle.std.proofs.lemmas.Bool.{not-false}
use Rattle.fields.specs.Part.{part}
use Rattle.fields.proofs.Parts.{length_part}
use Rattle.avl.specs.Tree.{Dir}
use Rattle.avl.specs.Way.{above, side}
use Rattle.avl.specs.Search.{entry}
use Rattle.tree.specs.Insert.{link_n, insert_n}
use Rattle.meaning.specs.Layout.{within}
use Rattle.meaning.specs.Pool.{Pool, rec_at, tree_at}
use Rattle.meaning.specs.Change.{with_trees, with_text, with_next, by_key_in, free_slot, put_rec, new_rec, add_rec, added}
use Rattle.meaning.specs.Cursor.{Command, Cursor, State, kind, tree_of, no_record, Then}
use Rattle.meaning.specs.Command.{add_new, Op, op◌means◌does◌then◌, op_of, bad_name, adding, refusal, answer, carried_out, perform}
use Rattle.meaning.specs.WellFormed.{WellFormed}
use Rattle.meaning.specs.States.{GoodState, Parsed}
use Rattle.meaning.proofs.Facts.{both, at_put_same}
use Rattle.meaning.proofs.Good.{Addable}
use Rattle.meaning.proofs.Changes.{free_slot_lem}
use Rattle.meaning.proofs.Tables.{passed}
use Rattle.meaning.proofs.Adding.{adding_ok}
use Rattle.slots.specs.Change.{Image, hung_n, put_rec_n, add_rec_n}
use Rattle.slots.specs.Head.{tree_n}
use Rattle.slots.specs.Image.{body_of, head_of, record_of, shown_of}
use Rattle.slots.specs.declared.head.Head.{Head}
use Rattle.slots.specs.declared.record.Record.{Record}
use Rattle.slots.proofs.Changing.{add_image}
use Rattle.cursor.specs.Tests.{named_n}
use Rattle.cursor.specs.Cursor.{after_n}
use Rattle.cursor.specs.Work.{placed}
use Rattle.cursor.specs.declared.cursor.Next.{Next}
use Rattle.ops.specs.Ending.{new_record, add_new_n}
use Rattle.ops.specs.Perform.{Out}
use Rattle.ops.specs.Image.{work_in, meant_by}
use Rattle.cursor.specs.declared.command.Command.{Command as CodeCommand}
use Rattle.ops.proofs.Agreeing.{Agrees, adds as notes}
use Rattle.ops.proofs.Endings.{ending_agrees, noted_work}
use Rattle.ops.proofs.Nexts.{on}
use Rattle.ops.proofs.Rows.{Row}
use Rattle.ops.proofs.Views as view

-- ---- the place of a new record

-- it hangs below x on side d, where the search for the key k ends in tree t; below no record the side does not matter
pub record Hangs (p : Pool) (t k x : ℕ) (d : Dir) : Type 0 where
  pub above_is : x ≡ above (entry (by_key_in p k) (tree_at p t)).way
  pub side_is : (x ≡ 0 → ⊥) → d ≡ side (entry (by_key_in p k) (tree_at p t)).way

module _ (m : List ℕ) (h : Head) (v : Record) (names : List ℕ) (from : ℕ) where
  -- below no record every side gives the same
  any_side : (d e : Dir) → add_rec_n m h v names from 0 d ≡ add_rec_n m h v names from 0 e
  unfolding add_rec_n put_rec_n hung_n insert_n link_n
  any_side d e = refl

  same_place : (x y : ℕ) (d e : Dir) → x ≡ y → ((x ≡ 0 → ⊥) → d ≡ e) → add_rec_n m h v names from x d ≡ add_rec_n m h v names from y e
  same_place zero y d e i j = any_side d e ∙ ap (λ (z : ℕ). add_rec_n m h v names from z e) i
  same_place (suc x) y d e i j = ap₂ (λ (z : ℕ) (f : Dir). add_rec_n m h v names from z f) i (j (λ z. omega (arith, z)))

-- ---- an add that is done

-- the record that is in the slot after it
new_there : (p : Pool) (t k : ℕ) (name : List ℕ) → Addable p t k name → rec_at (add_rec t k name p) (free_slot p) ≡ some (new_rec t k name p)
unfolding rec_at add_rec put_rec with_trees with_next with_text
new_there p t k name a =
    let f = free_slot_lem p a.slot in
    at_put_same none p.slots (free_slot p) (some (new_rec t k name p)) f.0 f.1

-- the command's record is the new record of `meaning`, if the name is as long as the command says
new_value : (p : Pool) (c : CodeCommand) (t : ℕ) (name : List ℕ) → length name ≡ c.len
    → new_record (head_of p).numbers (on c t) ≡ record_of (new_rec t c.key name p)
unfolding record_of new_rec head_of
new_value p c t name long =
    ap (λ (n : ℕ). record { key = c.key; stamp = (head_of p).numbers.next; start = (head_of p).numbers.used; len = n; tree = t }) (sym long)

module _ (s : State) (names : List ℕ) (c : CodeCommand) where
  -- the command as `meaning` has it
  abbrev meant : Command
  meant = meant_by names c

  -- its name
  abbrev named : List ℕ
  named = part names c.at c.len

  -- its tree
  abbrev home : ℕ
  home = tree_of s meant

  -- what the add leaves
  abbrev grown : Pool
  grown = add_rec home c.key named s.pool

  -- the outcome, from the cursor, the tree, the body and the head
  abbrev outcome : Cursor → ℕ → Image → Out
  outcome k t o = view.moved (work_in s) o k (free_slot s.pool) (new_record (head_of s.pool).numbers (on c t)) 1

  module _ (good : WellFormed s.pool) (a : Addable s.pool home c.key named) (long : length named ≡ c.len) where
    -- the body and the head after it
    add_as : (x : ℕ) (d : Dir) → Hangs s.pool home c.key x d
        → add_rec_n (body_of s.pool) (head_of s.pool) (new_record (head_of s.pool).numbers (on c home)) names c.at x d
        ≡ (body_of grown, head_of grown)
    add_as x d h =
        let p = s.pool in
        let v = new_record (head_of p).numbers (on c home) in
        let q = (entry (by_key_in p c.key) (tree_at p home)).way in
        same_place (body_of p) (head_of p) v names c.at x (above q) d (side q) h.above_is h.side_is
        ∙ ap (λ (v : Record). add_rec_n (body_of p) (head_of p) v names c.at (above q) (side q)) (new_value p c home named long)
        ∙ add_image p good home c.key named a names c.at (ap (part names c.at) long)

    -- an add that is done at that place does what `meaning` says
    done_as : (n : ℕ) (T : Then) → Agrees s (carried_out (op n means no_record does add_new then T) s meant)
        (outcome (T s meant (free_slot s.pool)) home (body_of grown, head_of grown))
    unfolding carried_out op◌means◌does◌then◌ add_new work_in meant_by shown_of
    done_as n T =
        let x = free_slot s.pool in
        let k = T s meant x in
        record {
          body = refl;
          work = noted_work s grown k (added x);
          shown = some (new_rec home c.key named s.pool);
          rec_is = new_value s.pool c home named long;
          slot_none = λ e. let z : ◌≡◌ {A = ℕ} 0 1 = cc in absurd (omega arith);
          answer_is = ap (answer 0 (kind k) x) (new_there s.pool home c.key named a);
          goes_on = refl;
          marks = notes refl;
        }

-- ---- the ending

-- what an add that is not refused goes by: its tree, the place in it, and the cursor after it
pub record Ready (s : State) (c : Command) (T : Then) (t x : ℕ) (d : Dir) (done : Cursor) : Type 0 where
  pub tree_is : t ≡ tree_of s c
  pub hangs : Hangs s.pool t c.key x d
  pub done_is : done ≡ T s c (free_slot s.pool)

-- A name that is not refused has the length that the command says.
pub name_long : (names : List ℕ) (c : CodeCommand) → named_n names c.at c.len ≡ true → length (part names c.at c.len) ≡ c.len
unfolding named_n
name_long names c h =
    let k = both (within 1 255 c.len) (leb (c.at + c.len) (length names)) h in
    length_part names c.at c.len (leb-true (c.at + c.len) (length names) k.1)

-- A command whose op adds a record, to tree t at the place where the search for its key ends.
pub add_new_agrees : (w : Option Pool) (s : State) → GoodState w s → (names : List ℕ) (c : CodeCommand) → Parsed (meant_by names c)
    → {T : Then} {tests : ℕ} {lost : ℕ → Cursor} → Row s (meant_by names c) no_record add_new T tests lost → adding c.op ≡ true
    → (e t x : ℕ) (d : Dir) (comes : Next) → e ≡ tests
    → (e ≡ 0 → Ready s (meant_by names c) T t x d (after_n s.cursor (on c t) comes (free_slot s.pool)))
    → ((e ≡ 0 → ⊥) → after_n s.cursor (on c t) comes 0 ≡ lost e)
    → (let h = head_of s.pool in
    Agrees s (perform s (meant_by names c))
    (view.stepped_by (work_in s) (on c t) (add_new_n (body_of s.pool) names h.numbers (tree_n h.table t) (on c t) (x, d) e comes)))
unfolding meant_by bad_name head_of work_in
add_new_agrees w s g names c f {T} {tests} {lost} r adds e t x d comes is ready l =
    let p = s.pool in
    let m = body_of p in
    let h = head_of p in
    let here = after_n s.cursor (on c t) comes (free_slot p) in
    let b = add_rec_n m h (new_record h.numbers (on c t)) names c.at x d in
    let refusal_is : e ≡ refusal s (meant_by names c) = is ∙ sym r.tests_are in
    ending_agrees s (meant_by names c) e (lost e) _ refusal_is (r.lost_is e)
    (λ z. let a = ready z in
    let k = sym refusal_is ∙ z in
    let addable = adding_ok w s (meant_by names c) f g adds k in
    let long = name_long names c (not-false (named_n names c.at c.len) ((passed s (meant_by names c) k).name_good adds)) in
    let u = tree_of s (meant_by names c) in
    let there = subst (λ (y : ℕ). Hangs p y c.key x d) a.tree_is a.hangs in
    let same = ap₂ (λ (y : ℕ) (j : Cursor). outcome s names c j y (add_rec_n m h (new_record h.numbers (on c y)) names c.at x d)) a.tree_is a.done_is
    ∙ ap (outcome s names c (T s (meant_by names c) (free_slot p)) u) (add_as s names c g.pool addable long x d there) in
    subst (Agrees s (carried_out (op_of (meant_by names c)) s (meant_by names c))) (sym (view.add_done m names (work_in s) (on c t) (x, d) e comes z))
    (subst₂ (λ (i : Op) (q : Out). Agrees s (carried_out i s (meant_by names c)) q) (sym r.op_is) (sym same)
    (done_as s names c g.pool addable long r.number T)))
    (λ n. view.add_refused m names (work_in s) (on c t) (x, d) e comes n ∙ ap (λ (j : Cursor). (m, view.refusal (placed (work_in s) j) e)) (l n))
