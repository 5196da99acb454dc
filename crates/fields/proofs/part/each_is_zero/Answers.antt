-- `each_is_zero`: each block is tested as a whole, and the rest behind the last one.
use Rattle.std.proofs.Common.{◌≡◌, Bool, ◌&&◌, sym, ap, ◌∙◌, ap₂, rules}
use Rattle.std.proofs.lemmas.Iterator.{YieldsList-from_slice}
use Rattle.std.proofs.lemmas.Iterator.Search.{all_from_yields_List}
use Rattle.std.specs.List.{list_all}
use Rattle.fields.specs.Part.{zeros}
use Rattle.fields.proofs.Numbers.{zeros_by_blocks}
use Rattle.fields.proofs.part.each_is_zero.Goals as goal
use Rattle.fields.proofs.part.each_is_zero.Goals.{After-all}

split : (c : After-all) → zeros c.args.bytes.now ≡ (c.all.result && zeros c.as_chunks.result.1.now)
split c =
    zeros_by_blocks 64 c.args.bytes.now
    ∙ ap₂ (λ s r. s && zeros r)
    (ap (list_all zeros) (sym c.as_chunks.ensures.front)
    ∙ sym (all_from_yields_List zeros _ _ _ c.all.ensures.ran (YieldsList-from_slice c.as_chunks.result.0.now cc) (λ block b q call. search rules)))
    (sym c.as_chunks.ensures.back)

pub returns-then-all : goal.returns-then-all
returns-then-all c =
    c.are_zero.ensures ∙ sym (split (goal.at.returns-then-all c).After-all ∙ ap (λ (t : Bool). t && zeros c.as_chunks.result.1.now) c.if-all.true)

pub returns-else-all : goal.returns-else-all
returns-else-all c =
    c.if-all.false ∙ sym (split (goal.at.returns-else-all c).After-all ∙ ap (λ (t : Bool). t && zeros c.as_chunks.result.1.now) c.if-all.false)
