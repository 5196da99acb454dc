-- `zero_out`: the part's bytes are as many zeros.
use Rattle.std.proofs.Common.{replicate, sym, ap, ◌∙◌, arith, length-drop, length-take}
use Rattle.std.proofs.lemmas.List.{length-replicate}
use Rattle.fields.proofs.Parts.{inside, outside, splice_mid, splice_out}
use Rattle.fields.proofs.part.zero_out.Goals as goal

pub returns-then-within : goal.returns-then-within
returns-then-within c =
    splice_mid _ _ _ _ (simp length-replicate (inside _ _ c.within.ensures c.if-within.true)) (simp length-replicate (omega arith)) (c.fill.ensures.after (λ y is_clone. is_clone) ∙ ap (λ n. replicate n 0) (simp (length-take, length-drop) (omega (arith, inside _ _ c.within.ensures c.if-within.true))))

pub returns-else-within : goal.returns-else-within
returns-else-within c = sym (splice_out _ _ _ (simp length-replicate (outside _ _ c.within.ensures c.if-within.false)))
