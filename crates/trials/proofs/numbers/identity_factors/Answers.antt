use Rattle.std.specs.Prelude.{Result, Ok, Err, ⊤}
use Rattle.numeric.specs.declared.refusal.Refusal.{Refusal}
use mathlib.Core.Path.{sym, ap, ◌∙◌}
use mathlib.Core.Bool.{Bool, true, false}
use Rattle.cholesky.specs.Factor.{Factored, factor_of}
use Rattle.cholesky.specs.Answer.{factoring_of}
use Rattle.trials.proofs.Trials.{identity-factors}
use Rattle.trials.proofs.numbers.identity_factors.Goals as goal

abbrev test : Result ⊤ Refusal → Bool
test (Ok tt) = true
test (Err r) = false

pub returns-in-Ok : goal.returns-in-Ok
returns-in-Ok c = let a = c.identity-a.ensures in
    let f = ap factor_of a ∙ identity-factors in
    rw (c.differ.ensures (a ∙ sym (rw f at c.factor-answer.ensures.rows_are)))

pub returns-in-Err : goal.returns-in-Err
returns-in-Err c = let f = ap factor_of c.identity-a.ensures ∙ identity-factors in
    ap test (sym c.in-Err.is ∙ c.factor-answer.ensures.answer) ∙ ap (λ (z : Factored). test (factoring_of z)) f
