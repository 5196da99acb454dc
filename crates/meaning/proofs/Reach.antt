-- What a binding of a handle means at the doors: a handle that means nothing is refused, and one that means one record at most reaches no other,
-- from a point of a batch on and after any door calls. Assumes nothing.
use Rattle.std.proofs.Common.{◌≡◌, ℕ, List, ◌∷◌, ◌++◌, sym, ap, ◌∙◌}
use Rattle.std.proofs.Math.Option.{some}
use Rattle.fields.specs.Part.{part}
use Rattle.meaning.specs.Pool.{Rec, Pool}
use Rattle.meaning.specs.Cursor.{Command}
use Rattle.meaning.specs.Calls.{Calls, Point, state_after, RefusedOn, RefusedFrom, Holds, ReachesOn, ReachesFrom}
use Rattle.meaning.proofs.Histories.{With}
use Rattle.meaning.proofs.Bindings.{Only, Bound, bound_keeps}
use Rattle.meaning.proofs.Points.{Stored, point_keeps, later_keeps, batch_keeps, calls_keep}
use Rattle.meaning.proofs.StaleHandles.{Nothing, Accepted, none_refused, command_accepted, none_named, name_accepted}

-- ---- a handle that means nothing

-- After any door calls every door refuses it.
pub refused_after : {b d : List ℕ} {x g : ℕ} → Stored (Bound x g Nothing) b → Calls b d → RefusedOn d x g
refused_after {d = d} {x = x} {g = g} h l =
    let k = bound_keeps x g Nothing in
    let now = calls_keep k h l in
    record {
      by_batch = λ w a before c rest p n. none_refused (state_after d before) c x g (point_keeps k now p).has.now n;
      by_name = λ t. none_named d t x g now.has.now;
    }

-- From a point of a batch on it is refused.
pub refused_from : {b w a : List ℕ} {before rest : List Command} {x g : ℕ} → Point b w a before rest → With (Bound x g Nothing) (state_after b before)
    → RefusedFrom b w a before x g
refused_from {b} {w} {a} {before} {rest} {x} {g} p h =
    let k = bound_keeps x g Nothing in
    record {
      in_this_batch = λ more c rest' e n. none_refused (state_after b (before ++ more)) c x g (later_keeps k p h more (c ∷ rest') e).has.now n;
      ever_after = λ d l. refused_after (batch_keeps k p h) l;
    }

-- ---- a handle that means one record at most

-- the record r with the name n, and no other
pub record Is (r : Rec) (n : List ℕ) (q : Rec) (m : List ℕ) : Type 0 where
  pub rec : q ≡ r
  pub name : m ≡ n

-- where it is accepted, it is for that record
accepted_is : {p : Pool} {t x : ℕ} {r : Rec} {n : List ℕ} → Only x r.stamp (Is r n) p → Accepted p t x r.stamp → Holds p x r n × (t ≡ r.tree)
accepted_is {p} {t} {x} {r} {n} o a =
    let i = o.only a.rec a.is a.stamp in
    let e = i.rec in (
      record {
        rec = a.is ∙ ap some e;
        name = ap (λ (q : Rec). part p.text q.start q.len) (sym e) ∙ i.name;
      },
      a.tree ∙ ap (λ (q : Rec). q.tree) e,
    )

-- After any door calls it reaches no other.
pub reaches_after : {b d : List ℕ} {x : ℕ} {r : Rec} {n : List ℕ} → Stored (Bound x r.stamp (Is r n)) b → Calls b d → ReachesOn d x r n
reaches_after {d = d} {x = x} {r = r} {n = n} h l =
    let k = bound_keeps x r.stamp (Is r n) in
    let now = calls_keep k h l in
    record {
      by_batch = λ w a before c rest p i z.
          accepted_is (point_keeps k now p).has.now (command_accepted (state_after d before) c x r.stamp i z);
      by_name = λ t e.
          let f = name_accepted d t x r.stamp now.are_bytes e in
          let i = accepted_is now.has.now f.accepted in
          (i.0, i.1, f.is ∙ (now.has.now.only f.accepted.rec f.accepted.is f.accepted.stamp).name);
    }

-- From a point of a batch on it reaches no other.
pub reaches_from : {b w a : List ℕ} {before rest : List Command} {x : ℕ} {r : Rec} {n : List ℕ} → Point b w a before rest
    → With (Bound x r.stamp (Is r n)) (state_after b before) → ReachesFrom b w a before x r n
reaches_from {b} {w} {a} {before} {rest} {x} {r} {n} p h =
    let k = bound_keeps x r.stamp (Is r n) in
    record {
      in_this_batch = λ more c rest' e i z.
          accepted_is (later_keeps k p h more (c ∷ rest') e).has.now (command_accepted (state_after b (before ++ more)) c x r.stamp i z);
      ever_after = λ d l. reaches_after (batch_keeps k p h) l;
    }
