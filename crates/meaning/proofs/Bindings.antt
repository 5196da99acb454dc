-- What a handle can mean: a stamp that was handed out is given to no other record, so whatever holds of the record that slot x can hold with the
-- stamp g, now and at the open mark, holds for ever. Also: the next stamp never falls, and a record is the same before and after a mark.
-- Assumes nothing.
use Rattle.std.proofs.Common.{◌≡◌, ℕ, zero, suc, ◌<◌, ◌≤◌, eqb, List, ◌++◌, sym, refl, ap, ◌∙◌, subst, arith, eqb-true}
use Rattle.std.proofs.Math.ListN.{get_or-map}
use Rattle.std.proofs.Math.Option.{Option, none, some, some-injective}
use Rattle.std.proofs.lemmas.Bool.{eqb-false}
use Rattle.fields.specs.Part.{part}
use Rattle.fields.proofs.Parts.{part_append_left}
use Rattle.meaning.specs.Layout.{at}
use Rattle.meaning.specs.Pool.{Rec, Pool, rec_at}
use Rattle.meaning.specs.Change.{with_trees, with_text, with_next, free_slot, put_rec, drop_rec, new_rec, add_rec, emptied, Mark}
use Rattle.meaning.specs.Cursor.{State}
use Rattle.meaning.specs.States.{Journal, shut, begun, GoodState}
use Rattle.meaning.proofs.Facts.{test, at_put_same, at_put_other}
use Rattle.meaning.proofs.Good.{Addable, Restored}
use Rattle.meaning.proofs.Formed.{not_both}
use Rattle.meaning.proofs.Members.{slot_in}
use Rattle.meaning.proofs.Changes.{free_slot_lem}
use Rattle.meaning.proofs.Undoing.{alike_rec}
use Rattle.meaning.proofs.Histories.{Forward, Keeps, With}

-- ---- the records after an act

-- After a removal a slot holds only what it held before.
dropped_rec : (p : Pool) (x : ℕ) (r : Rec) → rec_at p x ≡ some r → (y : ℕ) (q : Rec) → rec_at (drop_rec x r p) y ≡ some q → rec_at p y ≡ some q
unfolding rec_at drop_rec with_trees
dropped_rec p x r live y q e =
    let s = slot_in p x r live in
    test (eqb y x)
    (λ t. absurd (not_both none (sym (at_put_same none p.slots x none s.0 s.1) ∙ ap (at none _) (sym (eqb-true y x t)) ∙ e) refl))
    (λ t. sym (at_put_other none p.slots x y none (eqb-false y x t)) ∙ e)

-- The slot of the record removed is free.
pub dropped_free : (p : Pool) (x : ℕ) (r : Rec) → rec_at p x ≡ some r → rec_at (drop_rec x r p) x ≡ none
unfolding rec_at drop_rec with_trees
dropped_free p x r live = let s = slot_in p x r live in at_put_same none p.slots x none s.0 s.1

module _ (p : Pool) (t k : ℕ) (name : List ℕ) (a : Addable p t k name) where
  -- An added record is in the lowest free slot, with the next stamp.
  pub added_rec : rec_at (add_rec t k name p) (free_slot p) ≡ some (new_rec t k name p)
  unfolding rec_at add_rec put_rec with_trees with_next with_text
  added_rec = let f = free_slot_lem p a.slot in at_put_same none p.slots (free_slot p) (some (new_rec t k name p)) f.0 f.1

  -- After an addition a slot holds what it held before, or the new record.
  added_cases {ℓ} : {P : Type ℓ} (y : ℕ) (q : Rec) → rec_at (add_rec t k name p) y ≡ some q → (rec_at p y ≡ some q → P)
      → (q.stamp ≡ p.next → P) → P
  unfolding rec_at add_rec put_rec with_trees with_next with_text new_rec
  added_cases y q e old new =
      let f = free_slot_lem p a.slot in
      test (eqb y (free_slot p))
      (λ u. new (sym (ap (λ (r : Rec). r.stamp) (some-injective _ _
      (sym (at_put_same none p.slots (free_slot p) (some (new_rec t k name p)) f.0 f.1)
      ∙ ap (at none _) (sym (eqb-true y (free_slot p) u))
      ∙ e)))))
      (λ u. old (sym (at_put_other none p.slots (free_slot p) y (some (new_rec t k name p)) (eqb-false y (free_slot p) u)) ∙ e))

  added_text : (add_rec t k name p).text ≡ p.text ++ name
  unfolding add_rec put_rec with_trees with_next with_text
  added_text = refl

  -- The next stamp rises by one.
  pub added_next : (add_rec t k name p).next ≡ suc p.next
  unfolding add_rec put_rec with_trees with_next with_text
  added_next = refl

-- After a reset every slot is free.
pub emptied_rec : (p : Pool) (y : ℕ) → rec_at (emptied p) y ≡ none
unfolding rec_at at emptied with_text with_trees
emptied_rec p zero = refl
emptied_rec p (suc i) = get_or-map (λ (_ : Option Rec). none) p.slots i none

-- A removal keeps the next stamp.
pub dropped_next : (p : Pool) (x : ℕ) (r : Rec) → (drop_rec x r p).next ≡ p.next
unfolding drop_rec with_trees
dropped_next p x r = refl

dropped_text : (p : Pool) (x : ℕ) (r : Rec) → (drop_rec x r p).text ≡ p.text
unfolding drop_rec with_trees
dropped_text p x r = refl

emptied_next : (p : Pool) → (emptied p).next ≡ p.next
unfolding emptied with_text with_trees
emptied_next p = refl

-- ---- the next stamp

-- the next stamp is n or later
pub record From (n : ℕ) (w : Option Pool) (p : Pool) : Type 0 where
  pub next : n ≤ p.next

-- The next stamp never falls.
pub next_keeps : (n : ℕ) → Keeps (From n)
next_keeps n = record {
  forward = record {
    takes = λ w p x r g e h. record { next = omega (arith, h.next, dropped_next p x r) };
    adds = λ w p t k name g a h. record { next = omega (arith, h.next, added_next p t k name a) };
    opens = λ w p g h. record { next = h.next };
    shuts = λ w p h. record { next = h.next };
    empties = λ w p h. record { next = omega (arith, h.next, emptied_next p) };
  };
  restores = λ p₀ p q r e h. record { next = omega (arith, h.next, e) };
}

-- ---- what a slot and a stamp can mean

-- E holds of the record that slot x holds with the stamp g, if it holds one, and of the bytes of its name
pub record Only (x g : ℕ) (E : Rec → List ℕ → Type 0) (p : Pool) : Type 0 where
  pub only : (r : Rec) → rec_at p x ≡ some r → r.stamp ≡ g → E r (part p.text r.start r.len)

-- P holds of the pool at the open mark, if there is one
pub data AtMark (P : Pool → Type 0) : Option Pool → Type 0 where
  no_mark : AtMark P none
  at_mark : {p : Pool} → P p → AtMark P (some p)

-- the stamp g was handed out, and the handle of slot x and stamp g means at most what E says, in the pool and after a rollback
pub record Bound (x g : ℕ) (E : Rec → List ℕ → Type 0) (w : Option Pool) (p : Pool) : Type 0 where
  pub handed_out : g < p.next
  pub now : Only x g E p
  pub marked : AtMark (Only x g E) w

-- A pool restored to one means by a handle what that one means.
pub restored_only : {x g : ℕ} {E : Rec → List ℕ → Type 0} {p q : Pool} → Restored p q → Only x g E p → Only x g E q
restored_only {x} {E = E} {p = p} {q = q} h o = record {
  only = λ r e s. subst (λ (l : List ℕ). E r (part l r.start r.len)) h.text (o.only r (sym (alike_rec h.alike x) ∙ e) s);
}

marked_only : {P : Pool → Type 0} {p : Pool} → AtMark P (some p) → P p
marked_only (at_mark h) = h

-- the stamp g was handed out, and the handle means at most what E says in the pool, whatever a rollback gives back
pub record BoundNow (x g : ℕ) (E : Rec → List ℕ → Type 0) (w : Option Pool) (p : Pool) : Type 0 where
  pub handed_out : g < p.next
  pub now : Only x g E p

-- Until a rollback it means no more.
pub bound_now : (x g : ℕ) (E : Rec → List ℕ → Type 0) → Forward (BoundNow x g E)
bound_now x g E = record {
  takes = λ w p y r good live h. record {
    handed_out = omega (arith, h.handed_out, dropped_next p y r);
    now = record {
      only = λ q e s. subst (λ (l : List ℕ). E q (part l q.start q.len)) (sym (dropped_text p y r))
          (h.now.only q (dropped_rec p y r live x q e) s);
    };
  };
  adds = λ w p t k name good a h. record {
    handed_out = omega (arith, h.handed_out, added_next p t k name a);
    now = record {
      only = λ q e s. added_cases p t k name a x q e
          (λ old. subst (E q) (sym (ap (λ (l : List ℕ). part l q.start q.len) (added_text p t k name a)
          ∙ part_append_left p.text name q.start q.len (good.recs x q old).name_fits)) (h.now.only q old s))
          (λ new. absurd (omega (arith, h.handed_out, new, s)));
    };
  };
  opens = λ w p good h. record { handed_out = h.handed_out; now = h.now };
  shuts = λ w p h. record { handed_out = h.handed_out; now = h.now };
  empties = λ w p h. record {
    handed_out = omega (arith, h.handed_out, emptied_next p);
    now = record { only = λ q e s. absurd (not_both none (sym (emptied_rec p x) ∙ e) refl) };
  };
}

-- What a handle means at most, now and at the open mark, it means at most for ever.
pub bound_keeps : (x g : ℕ) (E : Rec → List ℕ → Type 0) → Keeps (Bound x g E)
bound_keeps x g E =
    let on = bound_now x g E in
    let as_now : (w : Option Pool) (p : Pool) → Bound x g E w p → BoundNow x g E w p = λ w p h. record { handed_out = h.handed_out; now = h.now } in
    let back : (w v : Option Pool) (p : Pool) → AtMark (Only x g E) v → BoundNow x g E w p → Bound x g E v p =
    λ w v p m h. record { handed_out = h.handed_out; now = h.now; marked = m } in
    record {
      forward = record {
        takes = λ w p y r good live h. back w w (drop_rec y r p) h.marked (on.takes w p y r good live (as_now w p h));
        adds = λ w p t k name good a h. back w w (add_rec t k name p) h.marked (on.adds w p t k name good a (as_now w p h));
        opens = λ w p good h. back w (some p) p (at_mark h.now) (as_now w p h);
        shuts = λ w p h. back w none p no_mark (as_now w p h);
        empties = λ w p h. back none none (emptied p) no_mark (on.empties w p (as_now w p h));
      };
      restores = λ p₀ p q r e h. record {
        handed_out = omega (arith, h.handed_out, e);
        now = restored_only r (marked_only h.marked);
        marked = no_mark;
      };
    }

-- ---- a record before and after a mark

-- a slot that has one stamp now and at the open mark holds one record
pub data SameSince : Option Pool → Pool → Type 0 where
  no_mark : {p : Pool} → SameSince none p
  since : {p₀ p : Pool} → ((x : ℕ) (q : Rec) → rec_at p₀ x ≡ some q → q.stamp < p.next)
      → ((x : ℕ) (q r : Rec) → rec_at p₀ x ≡ some q → rec_at p x ≡ some r → q.stamp ≡ r.stamp → q ≡ r) → SameSince (some p₀) p

same_moves : {w : Option Pool} {p p' : Pool} → p.next ≤ p'.next
    → ((x : ℕ) (r : Rec) → rec_at p' x ≡ some r → r.stamp < p.next → rec_at p x ≡ some r) → SameSince w p → SameSince w p'
same_moves n f no_mark = no_mark
same_moves {p = p} {p' = p'} n f (since {p₀ = p₀} old same) =
    since {p₀ = p₀} {p = p'} (λ x q e. omega (arith, old x q e, n)) (λ x q r e i s. same x q r e (f x r i (omega (arith, old x q e, s))) s)

-- It holds one for as long as the mark is open.
pub same_keeps : Keeps SameSince
same_keeps = record {
  forward = record {
    takes = λ w p y r good live h. same_moves (omega (arith, dropped_next p y r)) (λ x q e l. dropped_rec p y r live x q e) h;
    adds = λ w p t k name good a h. same_moves (omega (arith, added_next p t k name a))
        (λ x q e l. added_cases p t k name a x q e (λ old. old) (λ new. absurd (omega (arith, l, new)))) h;
    opens = λ w p good h. since (λ x q e. (good.recs x q e).stamp_high) (λ x q r e i s. some-injective q r (sym e ∙ i));
    shuts = λ w p h. no_mark;
    empties = λ w p h. no_mark;
  };
  restores = λ p₀ p q r e h. no_mark;
}

-- ---- a state with no open mark

-- In a good state with no open mark what a handle means now it means at most.
pub shut_bound : {x g : ℕ} {E : Rec → List ℕ → Type 0} (w : Option Pool) (s : State) → GoodState w s → s.mark ≡ none → Bound x g E none s.pool
    → With (Bound x g E) s
shut_bound w s g e h =
    record { at_mark = w; good = g; has = record { handed_out = h.handed_out; now = h.now; marked = go s.mark g.journal e } }
  where
    go : {P : Pool → Type 0} {p : Pool} {v : Option Pool} (m : Option Mark) → Journal v m p → m ≡ none → AtMark P v
    go none shut i = no_mark
    go (some m) (begun w₀ k) i = absurd (not_both (some m) refl i)
