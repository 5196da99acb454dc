-- What the answers say of a batch's state: a record removed was in its slot, and where no mark is open. Assumes nothing.
use Rattle.std.proofs.Common.{◌≡◌, ℕ, Bool, true, false, cond, eqb, List, [], ◌∷◌, ◌++◌, sym, refl, ap, ◌∙◌, subst, append_assoc, arith, ne_eqb, eqb-true}
use Rattle.std.proofs.Math.Option.{Option, none, some}
use Rattle.std.proofs.lemmas.Bool.{eqb-false}
use Rattle.meaning.specs.Layout.{within}
use Rattle.meaning.specs.Pool.{Rec, Pool, rec_at, read}
use Rattle.meaning.specs.Change.{Mark}
use Rattle.meaning.specs.Cursor.{Command, State, kind}
use Rattle.meaning.specs.Command.{take_out, taken_out, op_of, meant, refusal, answer, carried_out, perform}
use Rattle.meaning.specs.Doors.{run, begun}
use Rattle.meaning.specs.Calls.{Point, state_after, shown_slot, shown_stamp}
use Rattle.meaning.specs.Told.{NoMark, none_else, one_else, ToldShut, since_start, since_close, ToldRemoved}
use Rattle.meaning.proofs.Answers.{answer_told, code_told}
use Rattle.meaning.proofs.Batches.{AllParsed, none_left, and_then, commands_parsed, begun_good}
use Rattle.meaning.proofs.Clauses.{within_is}
use Rattle.meaning.proofs.Commands.{after_op, marked_at, perform_good}
use Rattle.meaning.proofs.Doing.{performed, answer_shows, does_take, rolls_back, commits}
use Rattle.meaning.proofs.Facts.{test}
use Rattle.meaning.proofs.Formed.{not_both}
use Rattle.meaning.proofs.Points.{Anything, parsed_parts, point_stored, point_good, point_parsed, state_on}
use Rattle.meaning.proofs.Pools.{sound_pool}
use Rattle.meaning.proofs.Seen.{finds}
use Rattle.meaning.specs.States.{Journal, shut, begun as opened_at, GoodState, Parsed}

-- ---- a record removed

-- the slot held a record with the stamp, and it is the one that the command meant
pub record WasThere (s : State) (c : Command) (slot stamp : ℕ) : Type 0 where
  pub rec : Rec
  pub is : rec_at s.pool slot ≡ some rec
  pub stamp_is : rec.stamp ≡ stamp
  pub meant_is : meant s c ≡ slot
  pub done : refusal s c ≡ 0

-- A removal whose answer shows a slot and a stamp removed the record that had them.
pub was_there : {pool request answers : List ℕ} {before : List Command} {c : Command} {rest : List Command}
    → Point pool request answers before (c ∷ rest) → (slot stamp : ℕ) → ToldRemoved pool request answers before c slot stamp
    → WasThere (state_after pool before) c slot stamp
unfolding carried_out take_out taken_out meant
was_there {pool = pool} {before = before} {c = c} p slot stamp h =
    let s = state_after pool before in
    let z : refusal s c ≡ 0 = sym (code_told p) ∙ h.done in
    let x = meant s c in
    let g = point_good p in
    let l = (finds g.0 s c g.1 h.removes z).0 in
    let k = kind ((op_of c).then s c x) in
    let is : (perform s c).answer ≡ answer 0 k x (some l.rec) = rw (performed s c z, does_take s c h.removes z, l.is) in
    let w = g.1.pool in
    let fits = (w.recs x l.rec l.is).stamp_high in
    let shows = answer_shows k x l.rec (omega (arith, l.high, w.slots_high)) (omega (arith, fits, w.next_high)) in
    let here : x ≡ slot = sym (ap shown_slot (answer_told p ∙ is) ∙ shows.0) ∙ h.slot_shown in
    record {
      rec = l.rec;
      is = ap (rec_at s.pool) (sym here) ∙ l.is;
      stamp_is = sym (ap shown_stamp (answer_told p ∙ is) ∙ shows.1) ∙ h.stamp_shown;
      meant_is = here;
      done = z;
    }

-- ---- no mark open

-- a command that is not a mark opens none
none_opened : (s : State) (c : Command) → (c.op ≡ 26 → ⊥) → marked_at none s c ≡ none
unfolding marked_at after_op
none_opened s c n = rw (ne_eqb c.op 26 n) (go (eqb (refusal s c) 0) (within 27 29 c.op))
  where
    go : (x y : Bool) → ◌≡◌ {A = Option Pool} (cond x (cond y none none) none) none
    go true true = refl
    go true false = refl
    go false y = refl

shut_run : (s : State) (cs : List Command) → AllParsed cs → NoMark cs → GoodState none s → GoodState none (run s cs).state
unfolding run
shut_run s [] none_left none_else g = g
shut_run s (c ∷ cs) (and_then p ps) (one_else n ns) g =
    shut_run (perform s c).state cs ps ns (subst (λ (w : Option Pool). GoodState w (perform s c).state) (none_opened s c n) (perform_good none s c p g))

journal_shut : {m : Option Mark} {p : Pool} → Journal none m p → m ≡ none
journal_shut shut = refl

shut_journal : {w : Option Pool} {m : Option Mark} {p : Pool} → Journal w m p → m ≡ none → w ≡ none
shut_journal shut e = refl
shut_journal (opened_at {m = m} g h) e = absurd (not_both (some m) refl e)

-- Where the answers say so, no mark is open.
pub shut_at : {pool request answers : List ℕ} {before rest : List Command} → Point pool request answers before rest
    → ToldShut pool request answers before → (state_after pool before).mark ≡ none
unfolding state_after begun run
shut_at {pool} {request} {answers} {before} {rest} p (since_start n) =
    let h = point_stored p Anything (record {}) in
    let good = begun_good (read pool) (sound_pool pool h.are_bytes h.is_sound).0 in
    journal_shut (shut_run (begun (read pool)) before (parsed_parts before rest (subst AllParsed p.split (commands_parsed request p.batch_bytes))).0 n good).journal
shut_at {pool} {request} {answers} {before} {rest} p (since_close earlier close since e o z n) =
    let s = state_after pool earlier in
    let q : Point pool request answers earlier (close ∷ (since ++ rest)) = record {
      pool_bytes = p.pool_bytes;
      batch_bytes = p.batch_bytes;
      done = p.done;
      split = p.split ∙ ap (λ (l : List Command). l ++ rest) e ∙ append_assoc earlier (close ∷ since) rest;
    } in
    let done : refusal s close ≡ 0 = sym (code_told q) ∙ z in
    let g = point_good q in
    let t = (perform s close).state in
    let closed : t.mark ≡ none = closes s close done o in
    let k = first_parsed (point_parsed q) in
    let good = perform_good g.0 s close k.0 g.1 in
    let now : GoodState none t = subst (λ (w : Option Pool). GoodState w t) (shut_journal good.journal closed) good in
    let last = shut_run t since (parsed_parts since rest k.1).0 n now in
    ap (λ (l : List Command). (state_after pool l).mark) e
    ∙ ap (λ (u : State). u.mark) (state_on pool earlier (close ∷ since)) ∙ journal_shut last.journal
  where
    closes : (s : State) (c : Command) → refusal s c ≡ 0 → within 27 28 c.op ≡ true → (perform s c).state.mark ≡ none
    closes s c z o =
        let l = within_is 27 28 c.op o in
        test (eqb c.op 27) (λ u. (rolls_back s c z (eqb-true c.op 27 u)).mark)
        (λ u. (commits s c z (omega (arith, l.0, l.1, eqb-false c.op 27 u))).mark)

    first_parsed : {c : Command} {cs : List Command} → AllParsed (c ∷ cs) → Parsed c × AllParsed cs
    first_parsed (and_then h hs) = (h, hs)
