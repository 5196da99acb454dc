-- The changes that a journal's entries stand for, when one more entry is stored. Assumes nothing.
use Rattle.std.proofs.Common.{◌≡◌, ℕ, zero, suc, ◌<◌, ◌≤◌, List, ◌∷◌, length, set, sym, refl, ap, ◌∙◌, ap₂, arith, get_or-set_other, get_or-set_same}
use Rattle.meaning.specs.Change.{Change}
use Rattle.journal.specs.Journal.{no_entry, change_of, changes_in}
use Rattle.journal.specs.declared.Entry.{Entry}

-- An entry behind the first n leaves them as they are.
pub changes_set : (n i : ℕ) (es : List Entry) (e : Entry) → n ≤ i → changes_in n (set es i e) ≡ changes_in n es
unfolding changes_in
changes_set zero i es e h = refl
changes_set (suc n) i es e h = ap₂ (λ a b. change_of a ∷ b) (get_or-set_other es i n e no_entry (λ q. omega (arith, q, h))) (changes_set n i es e (omega arith))

-- The entry behind them is the next change.
pub longer : (n : ℕ) (es : List Entry) (e : Entry) {c : Change} {cs : List Change} → change_of e ≡ c → n < length es → cs ≡ changes_in n es
    → c ∷ cs ≡ changes_in (suc n) (set es n e)
unfolding changes_in
longer n es e i h k =
    ap₂ (λ a b. a ∷ b) (sym i ∙ ap change_of (sym (get_or-set_same es n e no_entry h))) (k ∙ sym (changes_set n n es e (omega arith)))
