-- The changes undone, the last first, whatever stands behind them. Assumes nothing.
use Rattle.std.proofs.Common.{◌≡◌, ℕ, zero, suc, ◌≤◌, List, [], ◌∷◌, ◌++◌, length, sym, refl, ap, ◌∙◌, arith, length-append}
use Rattle.std.proofs.Math.ListN.{get_or-append}
use Rattle.std.proofs.Math.Seq.{get_or-append_seam}
use Rattle.slots.specs.Change.{Image}
use Rattle.slots.specs.declared.head.Head.{Head}
use Rattle.journal.specs.Journal.{no_entry, undo_one_n, undo_n}
use Rattle.journal.specs.declared.Entry.{Entry}

-- Changes behind the first n are not undone with them.
pub undo_front : (n : ℕ) (m : List ℕ) (h : Head) (es fs : List Entry) → n ≤ length es → undo_n n m h (es ++ fs) ≡ undo_n n m h es
unfolding undo_n
undo_front zero m h es fs l = refl
undo_front (suc n) m h es fs l =
    ap (λ (e : Entry). let o = undo_one_n m h e in undo_n n o.0 o.1 (es ++ fs)) (get_or-append es fs no_entry n l)
    ∙ undo_front n _ _ es fs (omega (arith, l))

-- The last change undone: those before it give what all of them give.
pub undo_on : (m : List ℕ) (h : Head) {all : Image} {left : List Entry} (rest : List Entry) (e : Entry) {o : Image} → left ≡ rest ++ e ∷ [] → o ≡ undo_one_n m h e
    → undo_n (length left) m h left ≡ all → undo_n (length rest) o.0 o.1 rest ≡ all
unfolding undo_n
undo_on m h rest e {o = o} i step inv =
    let es = rest ++ e ∷ [] in
    let long : length es ≡ suc (length rest) = omega (arith, length-append rest (e ∷ [])) in
    sym (undo_front (length rest) o.0 o.1 rest (e ∷ []) (omega arith))
    ∙ ap (λ (u : Image). undo_n (length rest) u.0 u.1 es) step
    ∙ ap (λ (x : Entry). let u = undo_one_n m h x in undo_n (length rest) u.0 u.1 es) (sym (get_or-append_seam rest e [] no_entry))
    ∙ ap (λ (k : ℕ). undo_n k m h es) (sym long)
    ∙ (rw i at inv)

-- None is left.
pub undo_end : (m : List ℕ) (h : Head) {all : Image} (left : List Entry) → length left ≡ 0 → undo_n (length left) m h left ≡ all → ◌≡◌ {A = Image} (m, h) all
unfolding undo_n
undo_end m h left none inv = rw none at inv
