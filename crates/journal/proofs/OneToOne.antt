-- Determinism where a promise speaks of a journal by what is left of it and what is handed out: two results that such a promise allows are equal.
-- Assumes nothing.
use Rattle.std.specs.Prelude.{Option, IfNone}
use Rattle.std.specs.Option.{option_to_list}
use Rattle.std.specs.declared.option.Option.TheVariants.{None, Some}
use Rattle.std.proofs.Common.{◌≡◌, List, [], ◌∷◌, ◌++◌, length, sym, refl, ap, ◌∙◌, arith, append-nil, length-append}
use Rattle.journal.specs.declared.Entry.{Entry}

-- a journal from which an entry is handed out isn't empty
not_empty : (old left : List Entry) (e : Entry) → old ≡ left ++ e ∷ [] → length old ≡ 0 → ⊥
not_empty old left e split none = omega (arith, ap length split, length-append left (e ∷ []))

-- what stands before the last entry, and the last entry
last_determined : (left rest : List Entry) (d e : Entry) → left ++ d ∷ [] ≡ rest ++ e ∷ [] → (left ≡ rest) × (d ≡ e)
last_determined [] [] d e same = (refl, cc)
last_determined [] (y ∷ ys) d e same = absurd (omega (arith, ap length same, length-append ys (e ∷ [])))
last_determined (x ∷ xs) [] d e same = absurd (omega (arith, ap length same, length-append xs (d ∷ [])))
last_determined (x ∷ xs) (y ∷ ys) d e same = let others = last_determined xs ys d e cc in let head : x ≡ y = cc in (cc, others.1)

-- `pop`: the changes that are left, and the one that is handed out.
pub pop_determined : (old left rest : List Entry) (r q : Option Entry) → old ≡ left ++ option_to_list r → IfNone r (length old ≡ 0)
    → old ≡ rest ++ option_to_list q → IfNone q (length old ≡ 0) → (left ≡ rest) × (r ≡ q)
pop_determined old left rest None None first empty second none = (sym (append-nil left) ∙ sym first ∙ second ∙ append-nil rest, refl)
pop_determined old left rest None (Some e) first empty second none = absurd (not_empty old rest e second empty)
pop_determined old left rest (Some d) None first empty second none = absurd (not_empty old left d first none)
pop_determined old left rest (Some d) (Some e) first empty second none =
    let same = last_determined left rest d e (sym first ∙ second) in (same.0, ap (λ (x : Entry). Some x) same.1)
