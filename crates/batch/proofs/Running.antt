-- One command in its turn, and all commands of a batch in turn: the body, the answers and the head that they leave are those of `meaning`.
-- Assumes nothing.
use Rattle.std.proofs.Common.{◌≡◌, ℕ, zero, suc, ◌+◌, ◌*◌, ◌<◌, ◌≤◌, Bool, true, false, cond, eqb, List, ◌∷◌, ◌++◌, map, length, drop, sym, refl, ap, ◌∙◌, subst, ap₂, append_assoc, append-nil, arith, length-append, length-drop, drop-drop}
use Rattle.std.proofs.Math.Option.{Option, none, some}
use Rattle.meaning.specs.Layout.{span}
use Rattle.meaning.specs.Pool.{Rec, Pool}
use Rattle.meaning.specs.Change.{Mark, rolled_back}
use Rattle.meaning.specs.Cursor.{Command, State, kind}
use Rattle.meaning.specs.Command.{answer, Performed, perform}
use Rattle.meaning.specs.Doors.{run, ended}
use Rattle.meaning.specs.States.{GoodState, Parsed}
use Rattle.meaning.proofs.Commands.{marked_at, perform_good}
use Rattle.slots.specs.Answer.{put_answer_n}
use Rattle.slots.specs.Change.{Image}
use Rattle.slots.specs.Image.{body_of, head_of, shown_of}
use Rattle.slots.specs.declared.head.Head.{Head}
use Rattle.slots.proofs.Closing.{answer_image, answer_length, answer_next}
use Rattle.journal.specs.declared.Entry.{Entry}
use Rattle.journal.proofs.Unrolling.{roll_state}
use Rattle.cursor.specs.Tests.{command_n}
use Rattle.cursor.specs.Work.{Work, Did}
use Rattle.ops.specs.Perform.{Out}
use Rattle.ops.specs.Image.{mark_of, work_in, meant_by}
use Rattle.ops.proofs.Agreeing.{Agrees}
use Rattle.batch.specs.Run.{count_n, noted_n, end_n, turn_n, answered_n, Ran, run_n}
use Rattle.batch.proofs.Noting.{Notes, kept_changes, noted_length, marks_notes}
use Rattle.batch.proofs.InTurn.{turn_agrees}

-- ---- an answer in its place

answered : (done o : List ℕ) (k : ℕ) (d : Did) (a : List ℕ) (x : Option Rec) → length done ≡ 24 * k → 24 ≤ length o → d.rec ≡ shown_of x
    → (x ≡ none → d.slot ≡ 0) → a ≡ answer d.code (kind d.work.cursor) d.slot x → answered_n (done ++ o) k d ≡ (done ++ a) ++ drop 24 o
unfolding answered_n
answered done o k d a x e h i z j =
    let k_th = kind d.work.cursor in
    ap (put_answer_n (done ++ o) k d.code k_th d.slot) i
    ∙ answer_image (done ++ o) k d.code k_th d.slot x (omega (arith, length-append done o)) z
    ∙ answer_next done o k (answer d.code k_th d.slot x) e (answer_length d.code k_th d.slot x) h
    ∙ ap (λ (l : List ℕ). (done ++ l) ++ drop 24 o) (sym j)

-- ---- one command in its turn

-- what follows a command that came out as r
abbrev after : ℕ → List ℕ → List ℕ → List ℕ → List Entry → ℕ → ℕ → Out → Ran
after f b names o es n k r =
    let d = r.1 in
    run_n f r.0 b names (answered_n o k d) d.work (noted_n es n d) (count_n n d.change) (k + 1)

-- the rest of a batch goes on where the command is done as q says, its answer behind the others
record Turn (f : ℕ) (b names done o : List ℕ) (es : List Entry) (n k : ℕ) (q : Performed) (r : Ran) : Type 0 where
  entries : List Entry
  count : ℕ
  room : length entries ≡ length es
  low : count ≤ n + 1
  notes : Notes q.state.mark count entries
  whole : length q.answer ≡ 24
  goes : r ≡ run_n f (body_of q.state.pool) b names ((done ++ q.answer) ++ drop 24 o) (work_in q.state) entries count (k + 1)

-- The journal gets one entry at most.
pub count_low : (n change : ℕ) → count_n n change ≤ n + 1
unfolding count_n
count_low n change = go (eqb change 1) (eqb change 2) (eqb change 3)
  where
    go : (x y z : Bool) → cond x (n + 1) (cond y (n + 1) (cond z 0 n)) ≤ n + 1
    go true y z = omega arith
    go false true z = omega arith
    go false false true = omega arith
    go false false false = omega arith

module _ (f : ℕ) (b names done o : List ℕ) (es : List Entry) (n k : ℕ) (there : n < length es) (e : length done ≡ 24 * k) (h : 24 ≤ length o) where
  -- a command that agrees
  agreed_turn : (s : State) (q : Performed) (r : Out) → Agrees s q r → Notes s.mark n es → Turn f b names done o es n k q (after f b names (done ++ o) es n k r)
  unfolding work_in
  agreed_turn s q r a l =
      let d = r.1 in
      let notes = noted_n es n d in
      let count = count_n n d.change in
      let same : kind q.state.cursor ≡ kind d.work.cursor = sym (ap (λ (u : Work). kind u.cursor) a.work) in
      record {
        entries = notes;
        count = count;
        room = noted_length n es d;
        low = count_low n d.change;
        notes = marks_notes n es d a.marks there l;
        whole = ap length a.answer_is ∙ answer_length d.code (kind q.state.cursor) d.slot a.shown;
        goes = ap₂ (λ (m : List ℕ) (u : Work). run_n f m b names (answered_n (done ++ o) k d) u notes count (k + 1)) a.body a.work
            ∙ ap (λ (l : List ℕ). run_n f (body_of q.state.pool) b names l (work_in q.state) notes count (k + 1))
            (answered done o k d q.answer a.shown e h a.rec_is a.slot_none
            (a.answer_is ∙ ap (λ (i : ℕ). answer d.code i d.slot a.shown) same));
      }

  -- any command
  turn : (w : Option Pool) (s : State) → GoodState w s → Notes s.mark n es → Parsed (meant_by names (command_n b k))
      → Turn f b names done o es n k (perform s (meant_by names (command_n b k))) (run_n (suc f) (body_of s.pool) b names (done ++ o) (work_in s) es n k)
  unfolding run_n
  turn w s g l parsed =
      agreed_turn s _ (turn_n (body_of s.pool) names (work_in s) es n (command_n b k)) (turn_agrees w s g names (command_n b k) parsed n es l) l

-- ---- all commands in turn

-- a mark that is open at the end is rolled back
end_image : (w : Option Pool) (s : State) → GoodState w s → (n : ℕ) (es : List Entry) → Notes s.mark n es
    → end_n (body_of s.pool) (head_of s.pool) (mark_of s.mark) es n ≡ (body_of (ended s), head_of (ended s))
unfolding end_n ended rolled_back mark_of
end_image w s g n es l = go s.mark refl
  where
    m : List ℕ
    m = body_of s.pool

    h : Head
    h = head_of s.pool

    left : Option Mark → Image
    left k = (body_of (rolled_back k s.pool), head_of (rolled_back k s.pool))

    go : (k : Option Mark) → s.mark ≡ k → end_n m h (mark_of s.mark) es n ≡ left s.mark
    go none i = ap (λ (k : Option Mark). end_n m h (mark_of k) es n) i ∙ ap left (sym i)
    go (some k) i = ap (λ (j : Option Mark). end_n m h (mark_of j) es n) i ∙ roll_state w s g k i n es (kept_changes k l i) ∙ ap left (sym i)

-- what `meaning` says of them: the commands of b from k on, from the state s, with answers before and behind theirs
abbrev pub meant_parts : State → List Command → List ℕ → List ℕ → Ran
meant_parts s cs done rest =
    let r = run s cs in (body_of (ended r.state), ((done ++ r.answers) ++ rest, head_of (ended r.state)))

-- commands k, k + 1, .. of the batch b: so many
abbrev pub meant_from : List ℕ → List ℕ → ℕ → ℕ → List Command
meant_from b names k f = map (λ i. meant_by names (command_n b i)) (span k f)

-- the rest as it is said of the commands behind a command, after its turn, is what is said of all of them
followed : (f : ℕ) (b names done o : List ℕ) (es : List Entry) (n k : ℕ) (s : State) (c : Command) (cs : List Command) (r : Ran)
    → (t : Turn f b names done o es n k (perform s c) r)
    → run_n f (body_of (perform s c).state.pool) b names ((done ++ (perform s c).answer) ++ drop 24 o) (work_in (perform s c).state) t.entries t.count (suc k)
    ≡ meant_parts (perform s c).state cs (done ++ (perform s c).answer) (drop (24 * f) (drop 24 o)) → r ≡ meant_parts s (c ∷ cs) done (drop (24 * suc f) o)
unfolding run
followed f b names done o es n k s c cs r t later =
    let q = perform s c in
    let u = run q.state cs in
    let next : k + 1 ≡ suc k = omega arith in
    let rest : 24 + 24 * f ≡ 24 * suc f = omega arith in
    t.goes
    ∙ ap (run_n f (body_of q.state.pool) b names ((done ++ q.answer) ++ drop 24 o) (work_in q.state) t.entries t.count) next
    ∙ later
    ∙ ap₂ (λ (x y : List ℕ). (body_of (ended u.state), (x ++ y, head_of (ended u.state)))) (append_assoc done q.answer u.answers)
    (drop-drop (24 * f) 24 o ∙ ap (λ (i : ℕ). drop i o) rest)

next_place : (k i : ℕ) → k + suc i ≡ suc k + i
next_place k i = omega arith

-- Commands in turn.
pub run_image : (w : Option Pool) (s : State) → GoodState w s → (b names o done : List ℕ) (f n k : ℕ) (es : List Entry) → length es ≡ 256 → n ≤ k → k + f ≤ 256
    → Notes s.mark n es → ((i : ℕ) → i < f → Parsed (meant_by names (command_n b (k + i)))) → length done ≡ 24 * k → 24 * f ≤ length o
    → run_n f (body_of s.pool) b names (done ++ o) (work_in s) es n k ≡ meant_parts s (meant_from b names k f) done (drop (24 * f) o)
unfolding run_n run span work_in
run_image w s g b names o done zero n k es size low high l parsed e h =
    ap (λ (x : Image). (x.0, (done ++ o, x.1))) (end_image w s g n es l)
    ∙ ap (λ (x : List ℕ). (body_of (ended s), (x ++ o, head_of (ended s)))) (sym (append-nil done))
run_image w s g b names o done (suc f) n k es size low high l parsed e h =
    let c = meant_by names (command_n b k) in
    let here : k + 0 ≡ k = omega arith in
    let first : Parsed c = subst (λ (i : ℕ). Parsed (meant_by names (command_n b i))) here (parsed 0 (omega arith)) in
    let t = turn f b names done o es n k (omega arith) e (omega arith) w s g l first in
    let q = perform s c in
    followed f b names done o es n k s c (meant_from b names (suc k) f) _ t
    (run_image (marked_at w s c) q.state (perform_good w s c first g) b names (drop 24 o) (done ++ q.answer) f t.count (suc k) t.entries
    (t.room ∙ size) (omega (arith, t.low)) (omega arith) t.notes
    (λ i j. subst (λ (x : ℕ). Parsed (meant_by names (command_n b x))) (next_place k i) (parsed (suc i) (omega arith)))
    (omega (arith, length-append done q.answer, t.whole)) (omega (arith, length-drop 24 o)))
