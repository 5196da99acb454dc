-- The commands of a batch turn by turn, as the loop has them. The code's journal has its changes and nothing else; the model's has them as its
-- first entries. Assumes nothing.
use Rattle.std.proofs.Common.{◌≡◌, ℕ, suc, ◌+◌, ◌-◌, ◌*◌, ◌<◌, ◌≤◌, cond, eqb, List, [], ◌∷◌, ◌++◌, length, take, drop, set, replicate, sym, refl, ap, ◌∙◌, subst, ap₂, arith, length-append, take-suc-set, eqb-true}
use Rattle.std.proofs.Math.Nat.{sub-zero}
use Rattle.std.proofs.Math.Numerals.{add-one}
use Rattle.std.proofs.lemmas.Bool.{eqb-false}
use Rattle.std.proofs.lemmas.List.{length-replicate, take-append-drop, length-take-le}
use Rattle.meaning.specs.Layout.{within}
use Rattle.meaning.proofs.Clauses.{within_is}
use Rattle.meaning.proofs.Facts.{test}
use Rattle.slots.specs.Change.{Image, cut_n}
use Rattle.slots.specs.declared.head.Head.{Head}
use Rattle.slots.proofs.RecordSteps.{answer_stored}
use Rattle.journal.specs.Journal.{no_entry, undo_n, roll_back_n}
use Rattle.journal.specs.declared.Entry.{Entry}
use Rattle.journal.proofs.JournalSteps.{undo_front}
use Rattle.cursor.specs.Given.{Mark}
use Rattle.cursor.specs.Tests.{command_n}
use Rattle.cursor.specs.Work.{no_mark, Work, begun_n, noted, Did}
use Rattle.cursor.specs.declared.command.Command.{Command}
use Rattle.ops.specs.Perform.{Out}
use Rattle.batch.specs.Run.{entry_of, count_n, noted_n, settle_all_n, end_n, turn_n, answered_n, Ran, run_n, ran_n}
use Rattle.batch.specs.Turn.{session_work, journal_n, Left, left_in, left_n, turned}
use Rattle.batch.specs.declared.session.Session.{Session}
use Rattle.batch.proofs.Noting.{noted_length}
use Rattle.batch.proofs.Running.{count_low}

-- ---- the first n entries of a journal are all that counts

module _ (n : ℕ) (es : List Entry) (long : n ≤ length es) where
  undo_same : (m : List ℕ) (h : Head) → undo_n n m h es ≡ undo_n n m h (take n es)
  undo_same m h =
      ap (undo_n n m h) (sym (take-append-drop n es))
      ∙ undo_front n m h (take n es) (drop n es) (omega (arith, length-take-le n es long))

  back_same : (m : List ℕ) (h : Head) (used : ℕ) → roll_back_n n m h used es ≡ roll_back_n n m h used (take n es)
  unfolding roll_back_n
  back_same m h used = ap (λ (o : Image). cut_n o.0 o.1 used) (undo_same m h)

  turn_same : (m names : List ℕ) (w : Work) (c : Command) → turn_n m names w es n c ≡ turn_n m names w (take n es) n c
  unfolding turn_n settle_all_n
  turn_same m names w c = simp (back_same)

  end_same : (m : List ℕ) (h : Head) (k : Mark) → end_n m h k es n ≡ end_n m h k (take n es) n
  unfolding end_n
  end_same m h k = simp (back_same)

-- ---- the journal after a command

module _ (n : ℕ) (es : List Entry) (there : n < length es) (items : List Entry) (size : length items ≡ n) (holds : items ≡ take n es) (e : Entry) where
  abbrev after : ℕ → List Entry
  after x = cond (noted x) (items ++ e ∷ []) (cond (eqb x 3) [] items)

  abbrev stored : ℕ → List Entry
  stored x = cond (noted x) (set es n e) es

  abbrev Holds : ℕ → Type 0
  Holds x = (length (after x) ≡ count_n n x) × (after x ≡ take (count_n n x) (stored x))

  more : (length (items ++ e ∷ []) ≡ n + 1) × (items ++ e ∷ [] ≡ take (n + 1) (set es n e))
  more = (
    omega (arith, length-append items (e ∷ []), size),
    ap (λ (l : List Entry). l ++ e ∷ []) holds ∙ sym (take-suc-set es n e there) ∙ ap (λ (k : ℕ). take k (set es n e)) (sym (add-one n)),
  )

  journal_at : (x : ℕ) → Holds x
  unfolding count_n noted within
  journal_at x =
      test (eqb x 1) (λ t. subst Holds (sym (eqb-true x 1 t)) more)
      (λ a. test (eqb x 2) (λ t. subst Holds (sym (eqb-true x 2 t)) more)
      (λ b. test (eqb x 3) (λ t. subst Holds (sym (eqb-true x 3 t)) (refl, refl))
      (λ c. test (noted x)
      (λ t. let r = within_is 1 2 x t in absurd (omega (arith, r.0, r.1, eqb-false x 1 a, eqb-false x 2 b)))
      (λ d. simp (a, b, c, d) (size, holds)))))

module _ (n : ℕ) (es : List Entry) (d : Did) (there : n < length es) (items : List Entry) (size : length items ≡ n) (holds : items ≡ take n es) where
  journal_holds : (length (journal_n items d) ≡ count_n n d.change) × (journal_n items d ≡ take (count_n n d.change) (noted_n es n d))
  unfolding journal_n noted_n
  journal_holds = journal_at n es there items size holds (entry_of d) d.change

-- ---- one turn

module _ (m b names o : List ℕ) (w : Work) (es : List Entry) (n k : ℕ) {r : Out} {o1 : List ℕ} {es1 : List Entry} {n1 : ℕ}
    (e1 : r ≡ turn_n m names w es n (command_n b k)) (e2 : o1 ≡ answered_n o k r.1) (e3 : es1 ≡ noted_n es n r.1)
    (e4 : n1 ≡ count_n n r.1.change) where
  turn_on : (f : ℕ) → run_n f r.0 b names o1 r.1.work es1 n1 (k + 1) ≡ run_n (suc f) m b names o w es n k
  unfolding run_n
  turn_on f = simp (← e1, ← e2, ← e3, ← e4)

-- ---- the loop

-- Before command k: the journal has at most a change for each command before it, what is left gives what all the commands give, and the body
-- and the answers keep their lengths.
pub record Running (m₀ b names o₀ : List ℕ) (count : ℕ) (all : Ran) (m o : List ℕ) (w : Work) (es : List Entry) (n k : ℕ) : Type 0 where
  pub most : count ≤ 256
  pub commands_fit : 16 + 24 * count ≤ length b
  pub answers_fit : 24 * count ≤ length o₀
  pub turns : k ≤ count
  pub changes : n ≤ k
  pub same : run_n (count - k) m b names o w es n k ≡ all
  pub body_size : length m ≡ length m₀
  pub answers_size : length o ≡ length o₀

module _ {m₀ b names o₀ : List ℕ} {count : ℕ} {all : Ran} {m o : List ℕ} {w : Work} {es : List Entry} {n k : ℕ}
    (inv : Running m₀ b names o₀ count all m o w es n k) where
  -- No command is left.
  pub run_end : count ≤ k → {m1 : List ℕ} {h : Head} → ◌≡◌ {A = Image} (m1, h) (end_n m w.head w.mark es n)
      → ◌≡◌ {A = Ran} (m1, (o, h)) all
  unfolding run_n
  run_end h e =
      let none : count - k ≡ 0 = omega arith in
      ap (λ (u : Image). (u.0, (o, u.1))) e ∙ (rw none at inv.same)

  module _ (h : k < count) {r : Out} {o1 : List ℕ} {es1 : List Entry} {n1 : ℕ} (e1 : r ≡ turn_n m names w es n (command_n b k))
      (e2 : o1 ≡ answered_n o k r.1) (e3 : es1 ≡ noted_n es n r.1) (e4 : n1 ≡ count_n n r.1.change) (few : n1 ≤ n + 1)
      (kept : length r.0 ≡ length m) (out : length o1 ≡ length o) where
    left : run_n (suc (count - (k + 1))) m b names o w es n k ≡ all
    left = let one : count - k ≡ suc (count - (k + 1)) = omega arith in rw one at inv.same

    -- The next command.
    run_on : {w1 : Work} → w1 ≡ r.1.work → Running m₀ b names o₀ count all r.0 o1 w1 es1 n1 (k + 1)
    run_on e =
        record {
          most = inv.most;
          commands_fit = inv.commands_fit;
          answers_fit = inv.answers_fit;
          turns = omega arith;
          changes = omega (arith, inv.changes, few);
          same = ap (λ (u : Work). run_n (count - (k + 1)) r.0 b names o1 u es1 n1 (k + 1)) e
              ∙ turn_on m b names o w es n k e1 e2 e3 e4 (count - (k + 1))
              ∙ left;
          body_size = kept ∙ inv.body_size;
          answers_size = out ∙ inv.answers_size;
        }

-- ---- the loop's state

-- a row stored in its place
same_length : (o : List ℕ) (at n : ℕ) (row : List ℕ) → length row ≡ length (take n (drop at o)) → length (take at o ++ (row ++ drop n (drop at o))) ≡ length o
same_length o at n row h =
    simp (length-append, h) (sym (length-append (take at o) _ ∙ ap (λ (i : ℕ). length (take at o) + i) (length-append (take n (drop at o)) (drop n (drop at o))))
    ∙ ap (λ (l : List ℕ). length (take at o ++ l)) (take-append-drop n (drop at o)) ∙ ap length (take-append-drop at o))

-- The session before command k: some journal of the model has its changes as the first entries.
pub record Carried (m₀ b names o₀ : List ℕ) (count : ℕ) (all : Ran) (m o : List ℕ) (s : Session) (k : ℕ) : Type 0 where
  pub es : List Entry
  pub room : length es ≡ 256
  pub holds : s.journal.items ≡ take (length s.journal.items) es
  pub running : Running m₀ b names o₀ count all m o (session_work s) es (length s.journal.items) k

module _ {m₀ b names o₀ : List ℕ} {count : ℕ} {all : Ran} {m o : List ℕ} (s : Session) {k : ℕ} (inv : Carried m₀ b names o₀ count all m o s k) where
  abbrev items : List Entry
  items = s.journal.items

  abbrev n : ℕ
  n = length s.journal.items

  -- A command more.
  pub carried_on : k < count → {c : Command} → c ≡ command_n b k → {m1 row1 : List ℕ} (s1 : Session)
      → (let row = take (24 * k + 24 - 24 * k) (drop (24 * k) o) in
      ◌≡◌ {A = List ℕ × Left} (m1, left_in s1 row1) (turned s row (turn_n m names (session_work s) items n c)))
      → length m1 ≡ length m → length row1 ≡ length (take (24 * k + 24 - 24 * k) (drop (24 * k) o))
      → Carried m₀ b names o₀ count all m1 (take (24 * k) o ++ (row1 ++ drop (24 * k + 24 - 24 * k) (drop (24 * k) o))) s1 (k + 1)
  unfolding left_n answered_n
  carried_on h {c} ci {m1} {row1} s1 e kept whole =
      let w = session_work s in
      let r = turn_n m names w items n c in
      let d = r.1 in
      let there : n < length inv.es = omega (arith, inv.room, inv.running.changes, inv.running.most) in
      let turn : r ≡ turn_n m names w inv.es n (command_n b k) =
      ap (turn_n m names w items n) ci ∙ ap (λ (es : List Entry). turn_n m names w es n (command_n b k)) inv.holds
      ∙ sym (turn_same n inv.es (omega (arith, there)) m names w (command_n b k)) in
      let j = journal_holds n inv.es d there items refl inv.holds in
      let kept_items : s1.journal.items ≡ journal_n items d = ap (λ (x : List ℕ × Left). x.1.1.1) e in
      let size : length s1.journal.items ≡ count_n n d.change = ap length kept_items ∙ j.0 in
      let at = 24 * k + 24 - 24 * k in
      let answers : take (24 * k) o ++ (row1 ++ drop at (drop (24 * k) o)) ≡ answered_n o k d =
      answer_stored o k _ _ _ _ (omega (arith, inv.running.answers_fit, inv.running.answers_size)) (ap (λ (x : List ℕ × Left). x.1.1.0) e) in
      record {
        es = noted_n inv.es n d;
        room = noted_length n inv.es d ∙ inv.room;
        holds = kept_items ∙ j.1 ∙ ap (λ (i : ℕ). take i (noted_n inv.es n d)) (sym size);
        running = run_on inv.running h {r = (m1, d)} (ap (λ (x : List ℕ × Left). (x.0, d)) e ∙ turn) answers refl size
            (omega (arith, size, count_low n d.change)) kept
            (same_length o (24 * k) at row1 whole)
            (ap (λ (x : List ℕ × Left). x.1.0) e);
      }

  -- No command is left.
  pub carried_end : count ≤ k → {m1 : List ℕ} {h : Head} → ◌≡◌ {A = Image} (m1, h) (end_n m (session_work s).head (session_work s).mark items n)
      → ◌≡◌ {A = Ran} (m1, (o, h)) all
  carried_end h e =
      run_end inv.running h
      (e ∙ ap (λ (es : List Entry). end_n m (session_work s).head (session_work s).mark es n) inv.holds
      ∙ sym (end_same n inv.es (omega (arith, inv.room, inv.running.changes, inv.running.turns, inv.running.most)) m (session_work s).head (session_work s).mark))

all_is : (count : ℕ) (m b names o : List ℕ) (h : Head)
    → ran_n count m b names o h ≡ run_n count m b names o (begun_n h no_mark) (replicate 256 no_entry) 0 0
unfolding ran_n
all_is count m b names o h = refl

-- The commands from the start: no cursor, no mark, an empty journal.
pub carried_first : {b names : List ℕ} {count : ℕ} (m o : List ℕ) (h : Head) → (count ≤ 256) × ((16 + 24 * count ≤ length b) × (24 * count ≤ length o))
    → (s : Session) → session_work s ≡ begun_n h no_mark → s.journal.items ≡ [] → Carried m b names o count (ran_n count m b names o h) m o s 0
carried_first {b} {names} {count} m o h q s e f =
    let none : length s.journal.items ≡ 0 = ap length f in
    record {
      es = replicate 256 no_entry;
      room = length-replicate 256 no_entry;
      holds = f ∙ ap (λ (i : ℕ). take i (replicate 256 no_entry)) (sym none);
      running = record {
        most = q.0;
        commands_fit = q.1.0;
        answers_fit = q.1.1;
        turns = omega arith;
        changes = omega (arith, none);
        same = ap₂ (λ (w : Work) (n : ℕ). run_n (count - 0) m b names o w (replicate 256 no_entry) n 0) e none
            ∙ ap (λ (i : ℕ). run_n i m b names o (begun_n h no_mark) (replicate 256 no_entry) 0 0) (sub-zero count)
            ∙ sym (all_is count m b names o h);
        body_size = refl;
        answers_size = refl;
      };
    }
