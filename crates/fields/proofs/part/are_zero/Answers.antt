-- `are_zero`: the numbers' union is 0 exactly if their bytes are all 0, and the rest is tested byte by byte.
use Rattle.std.proofs.Common.{◌≡◌, Bool, false, ◌&&◌, eqb, fold, sym, ap, ◌∙◌, ap₂, rules, eq-eqb, ne_eqb}
use Rattle.std.proofs.lemmas.Iterator.{YieldsList-from_slice}
use Rattle.std.proofs.lemmas.Iterator.Consumers.{fold_from_yields_List}
use Rattle.std.proofs.lemmas.Iterator.Search.{all_from_yields_List}
use Rattle.std.specs.Int.Bits.{bit_or}
use Rattle.fields.specs.Part.{zeros}
use Rattle.fields.specs.Number.{get_le}
use Rattle.fields.proofs.Parts.{zeros_each}
use Rattle.fields.proofs.Numbers.{zeros_split}
use Rattle.fields.proofs.part.are_zero.Goals as goal
use Rattle.fields.proofs.part.are_zero.Goals.{After-fold-set}

split : (c : After-fold-set) → zeros c.args.bytes.now ≡ (eqb c.fold-set.result 0 && zeros c.as_chunks.result.1.now)
split c =
    zeros_split c.args.bytes.now
    ∙ ap₂ (λ set rest. eqb set 0 && zeros rest)
    (sym
    (fold_from_yields_List _ (λ set word. bit_or set (get_le 8 word 0)) 0 _ c.fold-set.ensures.ran (YieldsList-from_slice c.as_chunks.result.0.now cc)
    (λ set word next q call. search rules)
    ∙ ap (fold (λ set word. bit_or set (get_le 8 word 0)) 0) c.as_chunks.ensures.front))
    (sym c.as_chunks.ensures.back)

both_false : (s t : Bool) → s ≡ false → (s && t) ≡ s
both_false s t h = ap (λ u. u && t) h ∙ sym h

pub returns-then-set-eq0 : goal.returns-then-set-eq0
returns-then-set-eq0 c =
    all_from_yields_List (λ b. eqb b 0) _ _ _ c.all.ensures.ran (YieldsList-from_slice c.as_chunks.result.1.now cc) (λ byte b q call. search rules)
    ∙ zeros_each _
    ∙ sym (split (goal.at.returns-then-set-eq0 c).After-fold-set ∙ ap (λ set_none. set_none && zeros c.as_chunks.result.1.now) (eq-eqb _ _ c.if-set-eq0.true))

pub returns-else-set-eq0 : goal.returns-else-set-eq0
returns-else-set-eq0 c = sym (split (goal.at.returns-else-set-eq0 c).After-fold-set ∙ both_false _ _ (ne_eqb _ _ c.if-set-eq0.false))
