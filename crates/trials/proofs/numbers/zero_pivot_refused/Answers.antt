use Rattle.std.specs.Prelude.{Result, Ok, Err, ⊤}
use Rattle.numeric.specs.declared.refusal.Refusal.{Refusal}
use mathlib.Core.Logic.{inl}
use mathlib.Core.Path.{◌≡◌, sym, ap, ◌∙◌}
use mathlib.Core.List.{List}
use lib.Ieee.{Float}
use Rattle.exact.specs.Float.{+0}
use Prim.Native.Nat.{ℕ}
use Rattle.numeric.specs.Refusal.{number_of}
use mathlib.Core.Bool.{Bool, true, false}
use Rattle.cholesky.specs.Factor.{cell, Factored, factor_of}
use Rattle.cholesky.specs.Answer.{factoring_of, rows_after}
use Rattle.trials.proofs.Trials.{zero-pivot}
use Rattle.trials.proofs.numbers.zero_pivot_refused.Goals as goal

abbrev test : Result ⊤ Refusal → Bool
test (Ok tt) = false
test (Err r) = true

abbrev number : Result ⊤ Refusal → ℕ
number (Ok tt) = 0
number (Err r) = number_of r

-- the lent rows m are left
left : (a m l : List (List Float)) → l ≡ rows_after (factor_of a) m → cell a 0 0 ≡ +0 → m ≡ l
left a m l h e = sym (h ∙ ap (λ (z : Factored). rows_after z m) (zero-pivot a (inl e)))

pub returns-in-Ok : goal.returns-in-Ok
returns-in-Ok c = ap test (sym c.in-Ok.is ∙ c.factor-answer.ensures.answer) ∙ ap (λ (z : Factored). test (factoring_of z)) (zero-pivot _ (inl (rw c.identity-a.ensures)))

pub returns-in-Err : goal.returns-in-Err
returns-in-Err c = let i = c.identity-a.ensures in
    let n = c.number.ensures ∙ ap number (sym c.in-Err.is ∙ c.factor-answer.ensures.answer) ∙ ap (λ (z : Factored). number (factoring_of z)) (zero-pivot _ (inl (rw i))) in
    rw (n, c.differ.ensures (left _ _ _ c.factor-answer.ensures.rows_are (rw i)))
