-- The ways in which a command ends, on the body and the state, are those of `meaning`: it is refused, or it shows a record, or it takes one out.
-- Assumes nothing.
use Rattle.std.proofs.Common.{◌≡◌, ℕ, ◌≤◌, Bool, cond, eqb, length, sym, refl, ap, ◌∙◌, subst, arith, ne_eqb, eqb-true}
use Rattle.std.proofs.Math.Option.{Option, none, some}
use Rattle.std.proofs.lemmas.Bool.{eqb-false}
use Rattle.meaning.specs.Pool.{Rec, Pool, rec_at, is_live}
use Rattle.meaning.specs.Change.{Change, removed, drop_rec, Mark, noted}
use Rattle.meaning.specs.Cursor.{Command, Cursor, State, kind, Meant, Then}
use Rattle.meaning.specs.Command.{Done, show, taken_out, take_out, Op, op◌means◌does◌then◌, op_of, refusal, after_refusal, answer, Performed, refused, carried_out, perform}
use Rattle.meaning.specs.WellFormed.{WellFormed}
use Rattle.meaning.proofs.Facts.{test}
use Rattle.meaning.proofs.Members.{Lives}
use Rattle.meaning.proofs.Tables.{never}
use Rattle.slots.specs.Record.{record_n}
use Rattle.slots.specs.Change.{drop_rec_n}
use Rattle.slots.specs.Head.{tree_n}
use Rattle.slots.specs.Image.{body_of, head_of, record_of, shown_of}
use Rattle.slots.specs.declared.record.Record.{Record}
use Rattle.slots.proofs.Looking.{record_image}
use Rattle.slots.proofs.Changing.{drop_image}
use Rattle.cursor.specs.Cursor.{after_n}
use Rattle.cursor.specs.Work.{placed, Did, sight_of}
use Rattle.cursor.specs.declared.command.Command.{Command as CodeCommand}
use Rattle.cursor.specs.declared.cursor.Next.{Next}
use Rattle.cursor.specs.Given.{Mark as CodeMark}
use Rattle.ops.specs.Ending.{look_n, take_out_n}
use Rattle.ops.specs.Perform.{Out}
use Rattle.ops.specs.Image.{mark_of, work_in}
use Rattle.ops.proofs.Agreeing.{Agrees, same, removes}
use Rattle.ops.proofs.Rows.{Row}
use Rattle.ops.proofs.Views as view

-- ---- refused

refused_so : (s : State) (c : Command) (e : ℕ)
    → Agrees s (refused e s c) (body_of s.pool, view.refusal (placed (work_in s) (after_refusal c.op e s.cursor)) e)
unfolding refused work_in shown_of
refused_so s c e =
    record {
      body = refl;
      work = refl;
      shown = none;
      rec_is = refl;
      slot_none = λ _. refl;
      answer_is = refl;
      goes_on = refl;
      marks = same refl;
    }

-- A command that is refused, whatever it would have done, changes the cursor at most.
pub refused_agrees : (s : State) (c : Command) (e : ℕ) (lost : Cursor) → refusal s c ≡ e → (e ≡ 0 → ⊥) → lost ≡ after_refusal c.op e s.cursor
    → Agrees s (perform s c) (body_of s.pool, view.refusal (placed (work_in s) lost) e)
unfolding perform
refused_agrees s c e lost is n k =
    let done = carried_out (op_of c) s c in
    let r : perform s c ≡ refused e s c =
    ap (λ (i : ℕ). cond (eqb i 0) done (refused i s c)) is ∙ ap (λ (b : Bool). cond b done (refused e s c)) (ne_eqb e 0 n) in
    subst (λ (q : Performed). Agrees s q (body_of s.pool, view.refusal (placed (work_in s) lost) e)) (sym r)
    (subst (λ (l : Cursor). Agrees s (refused e s c) (body_of s.pool, view.refusal (placed (work_in s) l) e)) (sym k) (refused_so s c e))

-- ---- done, or refused

done_so : (s : State) (c : Command) (out : Out) → refusal s c ≡ 0 → Agrees s (carried_out (op_of c) s c) out → Agrees s (perform s c) out
unfolding perform
done_so s c out z a =
    let r : perform s c ≡ carried_out (op_of c) s c = ap (λ (i : ℕ). cond (eqb i 0) (carried_out (op_of c) s c) (refused i s c)) z in
    subst (λ (q : Performed). Agrees s q out) (sym r) a

-- A command agrees if what it does where it is not refused agrees with what its op does, and where it is refused only its cursor changes.
pub ending_agrees : (s : State) (c : Command) (e : ℕ) (lost : Cursor) (out : Out) → e ≡ refusal s c → lost ≡ after_refusal c.op e s.cursor
    → (e ≡ 0 → Agrees s (carried_out (op_of c) s c) out)
    → ((e ≡ 0 → ⊥) → out ≡ (body_of s.pool, view.refusal (placed (work_in s) lost) e))
    → Agrees s (perform s c) out
ending_agrees s c e lost out is k f r =
    test (eqb e 0) (λ t. let z = eqb-true e 0 t in done_so s c out (sym is ∙ z) (f z))
    (λ t. let n = eqb-false e 0 t in subst (Agrees s (perform s c)) (sym (r n)) (refused_agrees s c e lost (sym is) n k))

-- ---- a record shown

-- the record x is the one that is meant, and one of tree t if it is not 0
pub record Found (p : Pool) (t meant x : ℕ) : Type 0 where
  pub is : x ≡ meant
  pub lives : (x ≡ 0 → ⊥) → Lives p t x

slot_high : {p : Pool} {t y x : ℕ} → Found p t y x → x ≤ length p.slots
slot_high {x = x} f = test (eqb x 0) (λ h. let z = eqb-true x 0 h in omega arith) (λ h. (f.lives (eqb-false x 0 h)).high)

not_none : {r : Rec} {o : Option Rec} → o ≡ some r → o ≡ none → ⊥
unfolding is_live
not_none h k = never (ap is_live h) (ap is_live k)

slot_none : {p : Pool} {t y x : ℕ} → Found p t y x → rec_at p y ≡ none → x ≡ 0
slot_none {p = p} {x = x} f h =
    test (eqb x 0) (λ k. eqb-true x 0 k) (λ k. absurd (not_none (f.lives (eqb-false x 0 k)).is (ap (rec_at p) f.is ∙ h)))

look_so : (s : State) (c : Command) (n : ℕ) (M : Meant) (T : Then) (t x : ℕ) (done : Cursor) → WellFormed s.pool → Found s.pool t (M s c) x
    → done ≡ T s c x
    → Agrees s (carried_out (op n means M does show then T) s c)
    (body_of s.pool, record { work = placed (work_in s) done; code = 0; slot = x; rec = record_n (body_of s.pool) x; change = 0 })
unfolding carried_out op◌means◌does◌then◌ show work_in
look_so s c n M T t x done good f k =
    let p = s.pool in
    record {
      body = refl;
      work = ap (placed (work_in s)) (k ∙ ap (T s c) f.is);
      shown = rec_at p (M s c);
      rec_is = record_image p good x (slot_high f) ∙ ap (λ (y : ℕ). shown_of (rec_at p y)) f.is;
      slot_none = slot_none f;
      answer_is = ap (λ (y : ℕ). answer 0 (kind (T s c (M s c))) y (rec_at p (M s c))) (sym f.is);
      goes_on = refl;
      marks = same refl;
    }

-- A command whose op shows a record.
pub look_agrees : {s : State} {c : Command} {M : Meant} {T : Then} {tests : ℕ} {lost : ℕ → Cursor} → WellFormed s.pool
    → Row s c M show T tests lost → (a : CodeCommand) (t e x : ℕ) (comes : Next) → e ≡ tests → (e ≡ 0 → Found s.pool t (M s c) x)
    → (e ≡ 0 → after_n s.cursor a comes x ≡ T s c x) → ((e ≡ 0 → ⊥) → after_n s.cursor a comes 0 ≡ lost e)
    → Agrees s (perform s c) (body_of s.pool, sight_of (body_of s.pool) (work_in s) a (look_n e x comes))
unfolding work_in
look_agrees {s} {c} {M} {T} {tests} {lost} good r a t e x comes is f k l =
    let m = body_of s.pool in
    let w = work_in s in
    let with : Did → Out = λ d. (m, d) in
    ending_agrees s c e (lost e) (m, sight_of m w a (look_n e x comes)) (is ∙ sym r.tests_are) (r.lost_is e)
    (λ z. subst (Agrees s (carried_out (op_of c) s c)) (sym (ap with (view.look_done m w a e x comes z)))
    (subst (λ (i : Op). Agrees s (carried_out i s c) (m, record { work = placed w (after_n s.cursor a comes x); code = 0; slot = x; rec = record_n m x; change = 0 }))
    (sym r.op_is) (look_so s c r.number M T t x (after_n s.cursor a comes x) good (f z) (k z))))
    (λ n. ap with (view.look_refused m w a e x comes n) ∙ ap (λ (j : Cursor). with (view.refusal (placed w j) e)) (l n))

-- ---- a record taken out

-- a change that is noted leaves the mark's text used, and whether one is open
noted_mark : (c : Change) (m : Option Mark) → mark_of m ≡ mark_of (noted c m)
unfolding mark_of noted
noted_mark c none = refl
noted_mark c (some m) = refl

-- The state after a change that is noted.
pub noted_work : (s : State) (p : Pool) (k : Cursor) (c : Change)
    → view.headed (work_in s) (head_of p) k ≡ work_in (record { pool = p; cursor = k; mark = noted c s.mark })
unfolding work_in
noted_work s p k c = ap (λ (j : CodeMark). record { head = head_of p; cursor = k; mark = j }) (noted_mark c s.mark)

-- The body and the head after the record x is taken out of its tree.
taken_image : (p : Pool) (x : ℕ) (r : Rec) → WellFormed p → rec_at p x ≡ some r → x ≤ length p.slots
    → (record_n (body_of p) x ≡ record_of r) × (drop_rec_n (body_of p) (head_of p) x r.tree ≡ (body_of (drop_rec x r p), head_of (drop_rec x r p)))
unfolding shown_of
taken_image p x r good live high = (record_image p good x high ∙ ap shown_of live, drop_image p good x r live)

in_tree : {v : Record} (r : Rec) → v ≡ record_of r → v.tree ≡ r.tree
unfolding record_of
in_tree r h = ap (λ (i : Record). i.tree) h

took_so : (s : State) (x : ℕ) (r : Rec) (k : Cursor) → let p = drop_rec x r s.pool in
    Agrees s (record { state = record { pool = p; cursor = k; mark = noted (removed x r) s.mark }; answer = answer 0 (kind k) x (some r) })
    (view.moved (work_in s) (body_of p, head_of p) k x (record_of r) 2)
unfolding shown_of
took_so s x r k =
    record {
      body = refl;
      work = noted_work s (drop_rec x r s.pool) k (removed x r);
      shown = some r;
      rec_is = refl;
      slot_none = λ h. absurd (not_none refl h);
      answer_is = refl;
      goes_on = refl;
      marks = removes r refl refl;
    }

-- what an act leaves and answers, with the cursor after it from the record shown
abbrev performed_by : (ℕ → Cursor) → Done → Performed
performed_by k d =
    record {
      state = record { pool = d.pool; cursor = k d.shown; mark = d.mark };
      answer = answer 0 (kind (k d.shown)) d.shown d.rec;
    }

take_so : (s : State) (c : Command) (n : ℕ) (M : Meant) (T : Then) (t x : ℕ) (done : Cursor) → WellFormed s.pool → (l : Lives s.pool t x)
    → x ≡ M s c → done ≡ T s c x → let m = body_of s.pool in
    Agrees s (carried_out (op n means M does take_out then T) s c)
    (view.moved (work_in s) (drop_rec_n m (head_of s.pool) x l.rec.tree) done x (record_n m x) 2)
unfolding carried_out op◌means◌does◌then◌ take_out taken_out
take_so s c n M T t x done good l is k =
    let p = s.pool in
    let m = body_of p in
    let q = drop_rec x l.rec p in
    let i = taken_image p x l.rec good l.is l.high in
    let took = view.moved (work_in s) (body_of q, head_of q) (T s c x) x (record_of l.rec) 2 in
    let out : view.moved (work_in s) (drop_rec_n m (head_of p) x l.rec.tree) done x (record_n m x) 2 ≡ took = rw (i.1, i.0, k) in
    let act : taken_out s (M s c) (rec_at p (M s c)) ≡ taken_out s x (some l.rec) =
    ap (λ (y : ℕ). taken_out s y (rec_at p y)) (sym is) ∙ ap (taken_out s x) l.is in
    subst (Agrees s (performed_by (T s c) (taken_out s (M s c) (rec_at p (M s c))))) (sym out)
    (subst (λ (d : Done). Agrees s (performed_by (T s c) d) took) (sym act) (took_so s x l.rec (T s c x)))

-- A command whose op takes a record out of tree t.
pub take_agrees : {s : State} {c : Command} {M : Meant} {T : Then} {tests : ℕ} {lost : ℕ → Cursor} → WellFormed s.pool
    → Row s c M take_out T tests lost → (a : CodeCommand) (t e x : ℕ) (comes : Next) → a.tree ≡ t → e ≡ tests
    → (e ≡ 0 → Found s.pool t (M s c) x) → (e ≡ 0 → x ≡ 0 → ⊥)
    → (e ≡ 0 → after_n s.cursor a comes x ≡ T s c x) → ((e ≡ 0 → ⊥) → after_n s.cursor a comes 0 ≡ lost e)
    → (let h = head_of s.pool in
    Agrees s (perform s c) (view.stepped_by (work_in s) a (take_out_n (body_of s.pool) h.numbers.free (tree_n h.table a.tree) x e comes)))
unfolding work_in
take_agrees {s} {c} {M} {T} {tests} {lost} good r a t e x comes home is f some_slot k l =
    let m = body_of s.pool in
    let w = work_in s in
    let h = head_of s.pool in
    ending_agrees s c e (lost e) _ (is ∙ sym r.tests_are) (r.lost_is e)
    (λ z. let b = (f z).lives (some_slot z) in
    let v : record_n m x ≡ record_of b.rec = (taken_image s.pool x b.rec good b.is b.high).0 in
    let own : b.rec.tree ≡ a.tree = b.tree_is ∙ sym home in
    let here : (record_n m x).tree ≡ a.tree = in_tree b.rec v ∙ own in
    let moved : ℕ → Out = λ j. view.moved w (drop_rec_n m h x j) (after_n s.cursor a comes x) x (record_n m x) 2 in
    subst (Agrees s (carried_out (op_of c) s c)) (sym (view.take_done m w a e x comes z here))
    (subst (λ (i : Op). Agrees s (carried_out i s c) (moved a.tree)) (sym r.op_is)
    (subst (λ (j : ℕ). Agrees s (carried_out (op r.number means M does take_out then T) s c) (moved j)) own
    (take_so s c r.number M T t x (after_n s.cursor a comes x) good b (f z).is (k z)))))
    (λ n. view.take_refused m w a e x comes n ∙ ap (λ (j : Cursor). (m, view.refusal (placed w j) e)) (l n))
