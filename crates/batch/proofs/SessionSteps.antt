-- What the methods of the session call, in their order. Assumes nothing.
use Rattle.std.specs.Prelude.{Some, Ok, Err, Option}
use Rattle.std.proofs.Common.{◌≡◌, ℕ, Bool, true, false, cond, eqb, List, [], ◌∷◌, ◌++◌, length, sym, refl, ap, ◌∙◌, ap₂, eq-eqb}
use Rattle.std.specs.Option.{unwrap_or}
use Rattle.std.specs.declared.option.Option.TheVariants.{None}
use Rattle.format.specs.Refusal.{number}
use Rattle.format.specs.declared.refusal.Refusal.{Refusal}
use Rattle.format.specs.declared.refusal.Refusal.TheVariants.{BadOp}
use Rattle.tree.specs.declared.node.AvlTree.{AvlTree}
use Rattle.meaning.specs.Layout.{within}
use Rattle.meaning.specs.Command.{last_op}
use Rattle.meaning.specs.Cursor.{kind, cursor_tree}
use Rattle.slots.specs.Record.{no_record, record_n}
use Rattle.slots.specs.Head.{tree_n, set_tree_n}
use Rattle.slots.specs.Answer.{put_answer_n}
use Rattle.slots.specs.Change.{Image}
use Rattle.slots.specs.declared.head.Head.{Head}
use Rattle.slots.specs.declared.record.Record.{Record}
use Rattle.journal.specs.Journal.{roll_back_n}
use Rattle.journal.specs.declared.Entry.{Entry}
use Rattle.cursor.specs.Cursor.{cursor_of, after_n}
use Rattle.cursor.specs.Given.{Mark, mark_in, Sight, Step, sight_in, step_in, change_number}
use Rattle.cursor.specs.Tests.{aimed_n}
use Rattle.cursor.specs.Work.{no_mark, Work, head_of, work_of, begun_n, placed, seen_n, noted, numbers_after, table_after, stepped, Did, sight_of, step_rec, step_of}
use Rattle.cursor.specs.declared.command.Command.{Command}
use Rattle.cursor.specs.declared.cursor.Next.TheVariants.{Gone}
use Rattle.cursor.specs.declared.result.Change.{Change}
use Rattle.cursor.specs.declared.result.Change.TheVariants.{Added, Removed}
use Rattle.cursor.specs.declared.result.Refused.{Refused}
use Rattle.cursor.specs.declared.result.Sight.{Sight as CodeSight}
use Rattle.cursor.specs.declared.result.Step.{Step as CodeStep}
use Rattle.cursor.specs.declared.state.Batch.{Batch}
use Rattle.ops.specs.Ending.{Changed}
use Rattle.ops.specs.Given.{Settled}
use Rattle.ops.specs.Op.{show_number, alter_number, settle_number}
use Rattle.ops.specs.Ops.{settled_n, mark_n, rollback_n, commit_n, reset_n}
use Rattle.ops.specs.Perform.{settles, see_n, alter_n, settle_n, Out, settled_of, at_op}
use Rattle.ops.specs.declared.op.Alter.{Alter}
use Rattle.ops.specs.declared.op.Settle.{Settle}
use Rattle.ops.specs.declared.op.Show.{Show}
use Rattle.ops.specs.declared.task.Task.{Task}
use Rattle.ops.proofs.OpNumbers.{no_alter, no_settle, no_show, show_only, alter_only, settle_only}
use Rattle.batch.specs.Run.{entry_n, entry_of, settle_all_n, turn_n, answered_n}
use Rattle.batch.specs.Turn.{session_work, begun_journal, journal_n, Left, left_n, turned, refused_did, seen_did, altered_out, settled_out}
use Rattle.batch.specs.declared.session.Session.{Session}

-- ---- a step and what is noted of it

-- An addition and a removal are noted.
pub noted_change : (x : Change) → noted (change_number x) ≡ true
unfolding noted within
noted_change Added = refl
noted_change Removed = refl

-- ---- a rollback that is asked for

-- The text used at a mark, 0 where none is open.
pub mark_used : (k : Option ℕ) → unwrap_or k 0 ≡ (mark_in k).used
mark_used None = refl
mark_used (Some used) = refl

module _ (m : List ℕ) (h : Head) (k : Mark) (es : List Entry) (n op : ℕ) {m1 : List ℕ} {r : Settled}
    (e : ◌≡◌ {A = List ℕ × Settled} (m1, r) (settle_n m h k op)) where
  -- None is.
  pub settle_kept : {ask : ℕ} → r.change ≡ ask → eqb ask 4 ≡ false → ◌≡◌ {A = List ℕ × Settled} (m1, r) (settle_all_n m h k es n op)
  unfolding settle_all_n
  settle_kept i z = simp (← e, i, z)

  -- It is done.
  pub settle_undone : r.change ≡ 4 → {used : ℕ} → used ≡ k.used → {m2 : List ℕ} {left : Head} → ◌≡◌ {A = Image} (m2, left) (roll_back_n n m1 h used es)
      → ◌≡◌ {A = List ℕ × Settled} (m2, settled_n left no_mark 0 3) (settle_all_n m h k es n op)
  unfolding settle_all_n
  settle_undone z i f = simp (← e, eq-eqb r.change 4 z, ← i, ← f)

-- What an op that settles asks of the journal is no change of a record.
either_settled : (b : Bool) (x y : Settled) → noted x.change ≡ false → noted y.change ≡ false → noted (cond b x y).change ≡ false
either_settled true x y h k = h
either_settled false x y h k = k

either_left : (b : Bool) (x y : List ℕ × Settled) → noted x.1.change ≡ false → noted y.1.change ≡ false → noted (cond b x y).1.change ≡ false
either_left true x y h k = h
either_left false x y h k = k

settle_unnoted : (m : List ℕ) (h : Head) (k : Mark) (es : List Entry) (n op : ℕ) → noted (settle_all_n m h k es n op).1.change ≡ false
unfolding settle_all_n settle_n mark_n rollback_n commit_n reset_n noted within
settle_unnoted m h k es n op =
    either_left (eqb (settle_n m h k op).1.change 4) _ _ refl
    (either_left (eqb op 26) _ _ (either_settled k.is_open _ _ refl refl)
    (either_left (eqb op 27) _ _ (either_settled k.is_open _ _ refl refl)
    (either_left (eqb op 28) _ _ (either_settled k.is_open _ _ refl refl) (either_left (eqb op 29) _ _ (either_left k.is_open _ _ refl refl) refl))))

-- ---- what a command leaves, part by part

left_is : (s : Session) (row : List ℕ) (d : Did) {w1 : Work} {row1 : List ℕ} {es1 : List Entry} → w1 ≡ d.work → row1 ≡ answered_n row 0 d
    → es1 ≡ journal_n s.journal.items d → ◌≡◌ {A = Left} (w1, (row1, es1)) (left_n s row d)
unfolding left_n
left_is s row d e1 e2 e3 = (cc)

answer_is : (row : List ℕ) (d : Did) {code j : ℕ} {v : Record} {row1 : List ℕ} → code ≡ d.code → j ≡ kind d.work.cursor → v ≡ d.rec
    → row1 ≡ put_answer_n row 0 code j d.slot v → row1 ≡ answered_n row 0 d
unfolding answered_n
answer_is row d e1 e2 e3 e4 = (cc)

-- the table after a step that changes its tree
table_is : (ts : List AvlTree) (c : Command) (x : CodeStep) → set_tree_n ts c.tree x.tree ≡ table_after ts c (step_in (Ok x))
unfolding table_after
table_is ts c x = simp (noted_change x.change)

-- the journal after it
journal_is : (es : List Entry) (w : Work) (c : Command) (x : CodeStep) {e : Entry} {es1 : List Entry} → e ≡ entry_n c (step_in (Ok x)) → es1 ≡ es ++ e ∷ []
    → es1 ≡ journal_n es (step_of w c (step_in (Ok x)))
unfolding journal_n
journal_is es w c x {e} i k =
    let d = step_of w c (step_in (Ok x)) in
    k ∙ ap (λ (y : Entry). es ++ y ∷ []) i
    ∙ sym (ap (λ (b : Bool). cond b (es ++ entry_of d ∷ []) (begun_journal es d.change)) (noted_change x.change))

-- no journal's change
journal_same : (es : List Entry) (d : Did) → d.change ≡ 0 → es ≡ journal_n es d
unfolding journal_n noted within
journal_same es d z = sym (ap (λ (i : ℕ). cond (noted i) (es ++ entry_of d ∷ []) (begun_journal es i)) z)

-- a refusal, as an op that shows and as one that alters
refused_sight : (m : List ℕ) (w : Work) (c : Command) (r : Refused) → refused_did w c r ≡ sight_of m w c (sight_in (Err r))
unfolding record_n
refused_sight m w c r = refl

refused_step : (w : Work) (c : Command) (r : Refused) → refused_did w c r ≡ step_of w c (step_in (Err r))
unfolding numbers_after table_after noted within
refused_step w c r = refl

-- ---- the methods

module _ (s : Session) (row : List ℕ) (c : Command) where
  abbrev w : Work
  w = session_work s

  -- the command with its tree and the state
  abbrev task : Task
  task = record { command = c; tree = tree_n s.table c.tree; batch = s.batch }

  pub refuse_steps : (r : Refused) (b : Batch) {j e : ℕ} {v : Record} {row1 : List ℕ}
      → ((ts : List AvlTree) → work_of b ts ≡ placed (work_of s.batch ts) (after_n (cursor_of s.batch.cursor) c r.then 0))
      → j ≡ kind (cursor_of b.cursor) → e ≡ number r.why → v ≡ no_record → row1 ≡ put_answer_n row 0 e j 0 v
      → ◌≡◌ {A = Left} (work_of b s.table, (row1, s.journal.items)) (left_n s row (refused_did w c r))
  refuse_steps r b e1 e2 e3 e4 e5 =
      let d = refused_did w c r in
      left_is s row d (e1 s.table) (answer_is row d e3 (e2 ∙ ap (λ (x : Work). kind x.cursor) (e1 s.table)) e4 e5) (journal_same s.journal.items d refl)

  -- A record shown.
  module _ (m : List ℕ) (op : ℕ) {t : Task} (i : t ≡ task) where
    seen_is : {x : Sight} → x ≡ see_n m t.batch.numbers (cursor_of t.batch.cursor) t.tree t.command op → sight_of m w c x ≡ seen_did m w c op
    seen_is e =
        ap (sight_of m w c) (e ∙ ap (λ (y : Task). see_n m y.batch.numbers (cursor_of y.batch.cursor) y.tree y.command op) i)

    pub show_steps : (x : CodeSight) → sight_in (Ok x) ≡ see_n m t.batch.numbers (cursor_of t.batch.cursor) t.tree t.command op
        → (b : Batch) {j : ℕ} {v : Record} {row1 : List ℕ} → ((ts : List AvlTree) → work_of b ts ≡ seen_n (work_of s.batch ts) c (sight_in (Ok x)))
        → j ≡ kind (cursor_of b.cursor) → v ≡ record_n m x.slot → row1 ≡ put_answer_n row 0 0 j x.slot v
        → ◌≡◌ {A = Left} (work_of b s.table, (row1, s.journal.items)) (left_n s row (seen_did m w c op))
    show_steps x e b e1 e2 e3 e4 =
        let d = sight_of m w c (sight_in (Ok x)) in
        left_is s row d (e1 s.table) (answer_is row d refl (e2 ∙ ap (λ (u : Work). kind u.cursor) (e1 s.table)) e3 e4) (journal_same s.journal.items d refl)
        ∙ ap (left_n s row) (seen_is e)

    pub show_refused : (r : Refused) → sight_in (Err r) ≡ see_n m t.batch.numbers (cursor_of t.batch.cursor) t.tree t.command op
        → {l : Left} → l ≡ left_n s row (refused_did w c r) → l ≡ left_n s row (seen_did m w c op)
    show_refused r e k = k ∙ ap (left_n s row) (refused_sight m w c r ∙ seen_is e)

  -- A record added or removed.
  module _ (m names : List ℕ) (op : ℕ) {t : Task} (i : t ≡ task) {m1 : List ℕ} where
    altered_is : {x : Step} → ◌≡◌ {A = Changed} (m1, x) (alter_n m names t.batch.numbers (cursor_of t.batch.cursor) t.tree t.command op)
        → {l : Left} → l ≡ left_n s row (step_of w c x) → ◌≡◌ {A = List ℕ × Left} (m1, l) (turned s row (altered_out m names w c op))
    altered_is e k =
        ap (λ (l : Left). (m1, l)) k
        ∙ ap (λ (a : Changed). (a.0, left_n s row (step_of w c a.1)))
        (e ∙ ap (λ (y : Task). alter_n m names y.batch.numbers (cursor_of y.batch.cursor) y.tree y.command op) i)

    pub alter_steps : (x : CodeStep) → ◌≡◌ {A = Changed} (m1, step_in (Ok x)) (alter_n m names t.batch.numbers (cursor_of t.batch.cursor) t.tree t.command op)
        → (b : Batch) {us : List AvlTree} {e : Entry} {es : List Entry} {j : ℕ} {v : Record} {row1 : List ℕ}
        → ((ts : List AvlTree) → work_of b (table_after ts c (step_in (Ok x))) ≡ stepped (work_of s.batch ts) c (step_in (Ok x)))
        → us ≡ set_tree_n s.table c.tree x.tree → e ≡ entry_n c (step_in (Ok x)) → es ≡ s.journal.items ++ e ∷ [] → j ≡ kind (cursor_of b.cursor)
        → v ≡ step_rec c (step_in (Ok x)) → row1 ≡ put_answer_n row 0 0 j x.slot v
        → ◌≡◌ {A = List ℕ × Left} (m1, (work_of b us, (row1, es))) (turned s row (altered_out m names w c op))
    alter_steps x e b e1 e2 e3 e4 e5 e6 e7 =
        let d = step_of w c (step_in (Ok x)) in
        let work : work_of b _ ≡ d.work = ap (work_of b) (e2 ∙ table_is s.table c x) ∙ e1 s.table in
        altered_is e
        (left_is s row d work (answer_is row d refl (e5 ∙ ap (λ (u : Work). kind u.cursor) work) e6 e7) (journal_is s.journal.items w c x e3 e4))

    pub alter_refused : (r : Refused) → ◌≡◌ {A = Changed} (m1, step_in (Err r)) (alter_n m names t.batch.numbers (cursor_of t.batch.cursor) t.tree t.command op)
        → {l : Left} → l ≡ left_n s row (refused_did w c r) → ◌≡◌ {A = List ℕ × Left} (m1, l) (turned s row (altered_out m names w c op))
    alter_refused r e k = altered_is e (k ∙ ap (left_n s row) (refused_step w c r))

-- A mark settled, or a reset; h and x are the head before and what is settled, as the code has them.
module _ (s : Session) (row m : List ℕ) (op : ℕ) {h : Head} (i : h ≡ head_of s.batch s.table) {m1 : List ℕ} {x : Settled}
    (e : ◌≡◌ {A = List ℕ × Settled} (m1, x) (settle_all_n m h (mark_in s.batch.mark) s.journal.items (length s.journal.items) op)) where
  pub settle_steps : (b : Batch) {ts : List AvlTree} {code : ℕ} {v : Record} {row1 : List ℕ} {es : List Entry} → work_of b ts ≡ begun_n x.head x.mark
      → code ≡ x.code → v ≡ no_record → row1 ≡ put_answer_n row 0 code 0 0 v → es ≡ begun_journal s.journal.items x.change
      → ◌≡◌ {A = List ℕ × Left} (m1, (work_of b ts, (row1, es))) (turned s row (settled_out m (session_work s) s.journal.items op))
  unfolding journal_n begun_n kind
  settle_steps b e1 e2 e3 e4 e5 =
      let d = settled_of x in
      let es = s.journal.items in
      let unnoted : noted x.change ≡ false =
      ap (λ (r : List ℕ × Settled). noted r.1.change) e ∙ settle_unnoted m h (mark_in s.batch.mark) es (length es) op in
      ap (λ (l : Left). (m1, l))
      (left_is s row d e1 (answer_is row d e2 refl e3 e4)
      (e5 ∙ sym (ap (λ (b : Bool). cond b (es ++ entry_of d ∷ []) (begun_journal es d.change)) unnoted)))
      ∙ ap (λ (r : List ℕ × Settled). turned s row (r.0, settled_of r.1))
      (e ∙ ap (λ (g : Head). settle_all_n m g (mark_in s.batch.mark) es (length es) op) i)

-- ---- a command in its turn, by its op

module _ (m names : List ℕ) (w : Work) (es : List Entry) (given : Command) {c : Command} (i : c ≡ aimed_n given (cursor_tree w.cursor)) where
  op_is : c.op ≡ given.op
  unfolding aimed_n
  op_is = ap (λ (x : Command). x.op) i

  at_number : (op : ℕ) → op ≡ c.op → turn_n m names w es (length es) given
      ≡ (let r = settle_all_n m w.head w.mark es (length es) op in
      let settled : Out = (r.0, settled_of r.1) in
      cond (settles op) settled (at_op m names w c op))
  unfolding turn_n
  at_number op k =
      sym (ap₂ (λ (n : ℕ) (y : Command).
      let r = settle_all_n m w.head w.mark es (length es) n in
      let settled : Out = (r.0, settled_of r.1) in
      cond (settles n) settled (at_op m names w y n)) (k ∙ op_is) i)

  turn_show : (op : Show) → show_number op ≡ c.op → ◌≡◌ {A = Out} (m, seen_did m w c (show_number op)) (turn_n m names w es (length es) given)
  unfolding at_op
  turn_show op k = let f = show_only op in sym (at_number (show_number op) k ∙ simp (f.0, f.1))

  turn_alter : (op : Alter) → alter_number op ≡ c.op → ◌≡◌ {A = Out} (altered_out m names w c (alter_number op)) (turn_n m names w es (length es) given)
  unfolding at_op
  turn_alter op k = let f = alter_only op in sym (at_number (alter_number op) k ∙ simp (f.0, f.1))

  turn_settle : (op : Settle) → settle_number op ≡ c.op → ◌≡◌ {A = Out} (settled_out m w es (settle_number op)) (turn_n m names w es (length es) given)
  turn_settle op k = let f = settle_only op in sym (at_number (settle_number op) k ∙ simp (f.1))

  turn_unknown : within 1 last_op c.op ≡ false → {r : Refused} → r ≡ record { why = BadOp; then = Gone }
      → ◌≡◌ {A = Out} (m, refused_did w c r) (turn_n m names w es (length es) given)
  unfolding at_op
  turn_unknown out k =
      ap (λ (x : Did). (m, x)) (refused_sight m w c _ ∙ ap (λ (x : Refused). sight_of m w c (sight_in (Err x))) k
      ∙ ap (sight_of m w c) (no_show c.op out m w.head.numbers w.cursor (tree_n w.head.table c.tree) c))
      ∙ sym (at_number c.op refl ∙ simp (no_settle c.op out, no_alter c.op out))

-- The command on its tree.
pub aimed_at : (s : Session) (given : Command) {t : ℕ} {c : Command} → t ≡ cursor_tree (cursor_of s.batch.cursor) → c ≡ aimed_n given t
    → c ≡ aimed_n given (cursor_tree (session_work s).cursor)
aimed_at s given e i = i ∙ ap (aimed_n given) e

module _ (s : Session) (row m names : List ℕ) (given : Command) {c : Command} (i : c ≡ aimed_n given (cursor_tree (session_work s).cursor)) where
  abbrev es : List Entry
  es = s.journal.items

  abbrev all : Out
  all = turn_n m names (session_work s) es (length es) given

  pub show_turn : (op : Show) → show_number op ≡ c.op → {l : Left} → l ≡ left_n s row (seen_did m (session_work s) c (show_number op))
      → ◌≡◌ {A = List ℕ × Left} (m, l) (turned s row all)
  show_turn op k e = ap (λ (x : Left). (m, x)) e ∙ ap (turned s row) (turn_show m names (session_work s) es given i op k)

  pub alter_turn : (op : Alter) → alter_number op ≡ c.op → {o : List ℕ × Left} → o ≡ turned s row (altered_out m names (session_work s) c (alter_number op))
      → o ≡ turned s row all
  alter_turn op k e = e ∙ ap (turned s row) (turn_alter m names (session_work s) es given i op k)

  pub settle_turn : (op : Settle) → settle_number op ≡ c.op → {o : List ℕ × Left} → o ≡ turned s row (settled_out m (session_work s) es (settle_number op))
      → o ≡ turned s row all
  settle_turn op k e = e ∙ ap (turned s row) (turn_settle m names (session_work s) es given i op k)

  pub unknown_turn : within 1 last_op c.op ≡ false → {why : Refusal} → why ≡ BadOp → {r : Refused} → r ≡ record { why = why; then = Gone } → {l : Left}
      → l ≡ left_n s row (refused_did (session_work s) c r) → ◌≡◌ {A = List ℕ × Left} (m, l) (turned s row all)
  unknown_turn out b {r} k e =
      let r_is : r ≡ record { why = BadOp; then = Gone } = k ∙ ap (λ (x : Refusal). record { why = x; then = Gone }) b in
      ap (λ (x : Left). (m, x)) e ∙ ap (turned s row) (turn_unknown m names (session_work s) es given i out r_is)
