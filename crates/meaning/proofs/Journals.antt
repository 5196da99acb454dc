-- Marks: a journal is kept through every change, and rolled back it gives back the pool at the mark, well-formed. Assumes nothing.
use Rattle.std.proofs.Common.{◌≡◌, ℕ, ◌^◌, ◌<◌, ◌≤◌, List, [], ◌∷◌, ◌++◌, length, take, sym, refl, ap, ◌∙◌, subst, append_assoc, append-nil, arith}
use Rattle.std.proofs.Math.Option.{Option, some}
use Rattle.std.proofs.Math.Seq.{take-append_seam}
use Rattle.fields.specs.Number.{Bytes}
use Rattle.meaning.specs.Pool.{Rec, Pool, rec_at, tree_at}
use Rattle.meaning.specs.Change.{with_trees, with_text, with_next, free_slot, put_rec, drop_rec, new_rec, add_rec, Change, added, removed, Mark, undo, rollback, opening, noted, rolled_back}
use Rattle.meaning.specs.WellFormed.{WellFormed}
use Rattle.meaning.specs.States.{Alike, Since, nothing, then_added, then_removed, Held, Journal, shut, begun}
use Rattle.meaning.proofs.Changes.{rec_moves, grown, grown_good, add_fits}
use Rattle.meaning.proofs.Formed.{Formed, formed, formed_as}
use Rattle.meaning.proofs.Good.{Addable, Restored}
use Rattle.meaning.proofs.Undoing.{alike_same, alike_on, alike_rec, undone_formed, undo_keeps}

-- ---- a journal opened and kept

-- a mark opens at the pool that stands
pub journal_opens : (p : Pool) → WellFormed p → Journal (some p) (some (opening p)) p
unfolding opening
journal_opens p w =
    begun w (record { used = refl; since = nothing (alike_same p); extra = []; text = sym (append-nil p.text); next = omega arith })

-- one change more, which appends to the text
noted_on : {w : Option Pool} {m : Option Mark} {p q : Pool} (c : Change) (more : List ℕ)
    → ((p₀ : Pool) (cs : List Change) → Since p₀ cs p → Since p₀ (c ∷ cs) q) → q.text ≡ p.text ++ more → p.next ≤ q.next
    → Journal w m p → Journal w (noted c m) q
unfolding noted
noted_on c more f e n shut = shut
noted_on c more f e n (begun {p₀ = p₀} {m = m} w h) =
    begun w (record {
      used = h.used;
      since = f p₀ m.changes h.since;
      extra = h.extra ++ more;
      text = e ∙ ap (λ (l : List ℕ). l ++ more) h.text ∙ append_assoc p₀.text h.extra more;
      next = omega (arith, h.next);
    })

-- a journal leads to any pool alike
since_alike : {p₀ : Pool} {cs : List Change} {p q : Pool} → Since p₀ cs p → Alike p q → Since p₀ cs q
since_alike (nothing a) b = nothing (alike_on a b)
since_alike (then_added x r s w f a) b = then_added x r s w f (alike_on a b)
since_alike (then_removed x r s w e a) b = then_removed x r s w e (alike_on a b)

-- an added record is noted, if a mark is open
pub journal_adds : (w : Option Pool) (m : Option Mark) (p : Pool) (t k : ℕ) (name : List ℕ) → WellFormed p → Addable p t k name → Journal w m p
    → Journal w (noted (added (free_slot p)) m) (add_rec t k name p)
unfolding add_rec put_rec with_trees with_next with_text tree_at
journal_adds w m p t k name g h j =
    let r = new_rec t k name p in
    let a : Alike p (grown p name) = record { slots = refl; lists = λ u. refl; trees = refl; size = refl } in
    noted_on (added (free_slot p)) name
    (λ p₀ cs s. then_added (free_slot p) r (since_alike s a) (grown_good p t k name g h) (add_fits p t k name g h) (alike_same (add_rec t k name p)))
    refl (omega arith) j

-- a removed record is noted with all that it was
pub journal_removes : (w : Option Pool) (m : Option Mark) (p : Pool) (x : ℕ) (r : Rec) → WellFormed p → rec_at p x ≡ some r → Journal w m p
    → Journal w (noted (removed x r) m) (drop_rec x r p)
unfolding drop_rec with_trees
journal_removes w m p x r g live j =
    noted_on (removed x r) [] (λ p₀ cs s. then_removed x r s g live (alike_same (drop_rec x r p))) (sym (append-nil p.text)) (omega arith) j

-- ---- a journal undone

-- a pool alike to a well-formed one is so too, if its records and trees agree and its own text and next stamp leave room for the records
alike_good : (p q : Pool) → WellFormed p → Alike p q → Formed q → length p.text ≤ length q.text → length q.text ≤ q.size → Bytes q.text
    → p.next ≤ q.next → q.next < 256 ^ 4 → WellFormed q
alike_good p q w a f t u b n m =
    let l = ap length a.slots in
    record {
      slots_low = omega (arith, w.slots_low);
      slots_high = omega (arith, w.slots_high);
      trees_low = omega (arith, w.trees_low, a.trees);
      trees_high = omega (arith, w.trees_high, a.trees);
      size_high = omega (arith, w.size_high, a.size);
      used_fits = u;
      text_bytes = b;
      next_low = omega (arith, w.next_low);
      next_high = m;
      recs = λ x r e. rec_moves (omega (arith, a.trees)) t n (w.recs x r (sym (alike_rec a x) ∙ e));
      trees = f.trees;
    }

-- undoing a journal gives back the records, slots and lists of the pool at the mark, in a well-formed pool: the pool undone has at least as much
-- text and as late a next stamp
pub undone : {p₀ : Pool} {cs : List Change} {p : Pool} → Since p₀ cs p → (q : Pool) → Alike p q → WellFormed p₀
    → length p₀.text ≤ length q.text → p₀.next ≤ q.next → WellFormed q → Alike p₀ (undo cs q) × WellFormed (undo cs q)
undone {p₀} {cs} s q a w t n g =
    let u = undone_formed s q a (formed g) in
    let k = undo_keeps cs q in (
      u.0,
      alike_good p₀ (undo cs q) w u.0 u.1 (rw k.text t) (rw (k.text, k.size) g.used_fits) (rw k.text g.text_bytes)
          (rw k.next n) (rw k.next g.next_high),
    )

-- what a rollback leaves
module _ (p₀ : Pool) (m : Mark) (p : Pool) (w₀ : WellFormed p₀) (w : WellFormed p) (h : Held p₀ m p) where
  rolled_alike : Alike p₀ (rollback m p)
  unfolding rollback with_text tree_at
  rolled_alike =
      let u = (undone_formed h.since p (alike_same p) (formed w)).0 in
      record { slots = u.slots; lists = u.lists; trees = u.trees; size = u.size }

  rolled_text : p₀.text ≡ (rollback m p).text
  unfolding rollback with_text
  rolled_text = sym (ap (take m.used) ((undo_keeps m.changes p).text ∙ h.text) ∙ rw h.used (take-append_seam p₀.text h.extra))

  rolled_next : (rollback m p).next ≡ p.next
  unfolding rollback with_text
  rolled_next = (undo_keeps m.changes p).next

  rolled_formed : Formed (rollback m p)
  unfolding rollback with_text with_next
  rolled_formed =
      let q = undo m.changes p in
      formed_as q (take m.used q.text) q.next (undone_formed h.since p (alike_same p) (formed w)).1

  rolled_restored : Restored p₀ (rollback m p)
  rolled_restored = record { alike = rolled_alike; text = rolled_text; next = rw rolled_next h.next }

  rollback_good : WellFormed (rollback m p)
  rollback_good =
      let l = ap length rolled_text in
      alike_good p₀ (rollback m p) w₀ rolled_alike rolled_formed (omega arith) (omega (arith, w₀.used_fits, rolled_alike.size))
      (subst Bytes rolled_text w₀.text_bytes) (rw rolled_next h.next) (rw rolled_next w.next_high)

-- rolled back, or left where no mark is open, a pool is well-formed
pub rolled_good : (w : Option Pool) (m : Option Mark) (p : Pool) → WellFormed p → Journal w m p → WellFormed (rolled_back m p)
unfolding rolled_back
rolled_good w m p g shut = g
rolled_good w m p g (begun {p₀ = p₀} {m = n} g₀ h) = rollback_good p₀ n p g₀ g h

-- a rollback restores the pool at the mark
pub restored : (p₀ : Pool) (m : Mark) (p : Pool) → WellFormed p → Journal (some p₀) (some m) p → Restored p₀ (rollback m p)
restored p₀ m p g (begun g₀ h) = rolled_restored p₀ m p g₀ g h
