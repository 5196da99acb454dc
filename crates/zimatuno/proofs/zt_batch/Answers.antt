-- `zt_batch`: the outcome of the batch, its two numbers packed.
use Rattle.std.proofs.Common.{◌≡◌, ℕ, ◌+◌, ◌*◌, List, ap, ◌∙◌, arith}
use Rattle.meaning.specs.Doors.{Outcome}
use Rattle.zimatuno.specs.Abi.{batch_in_c}
use Rattle.zimatuno.proofs.zt_batch.Goals as goal

packed : Outcome → ℕ × (List ℕ × List ℕ)
packed o = (o.code + o.answered * 256, (o.pool, o.answers))

refused : {e n : ℕ} {p a : List ℕ} {o : Outcome} → e ≡ n → record { code = n; answered = 0; pool = p; answers = a } ≡ o → (e, (p, a)) ≡ packed o
unfolding packed
refused {e} {n} {p} {a} i h = let k : e ≡ n + 0 * 256 = omega (arith, i) in ap (λ (j : ℕ). (j, (p, a))) k ∙ ap packed h

pub returns-in-Ok : goal.returns-in-Ok
unfolding batch_in_c packed
returns-in-Ok c = ap packed c.in-Ok.ensures

pub returns-in-Err : goal.returns-in-Err
unfolding batch_in_c packed
returns-in-Err c = refused c.from.ensures c.in-Err.ensures
