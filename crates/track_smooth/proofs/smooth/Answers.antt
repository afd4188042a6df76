-- `track_smooth::smooth` meets its contract. Assumes nothing.
use Rattle.std.specs.Prelude.{Result, Err, ⊤}
use Rattle.std.proofs.Common.{rules}
use Rattle.numeric.specs.declared.refusal.Refusal.{Refusal}
use mathlib.Core.Path.{◌≡◌, sym, ◌∙◌}
use native.Mathlib.Omega.{arith}
use Rattle.track_smooth.proofs.Answers.{turned-back, is-ready, is-few, fit-failed, found}
use Rattle.track_smooth.proofs.smooth.Goals as goal

-- no rule before the fit applies

pub fit-found-requires : goal.fit-found-requires
fit-found-requires c = let t = sym c.check.ensures ∙ c.in_ok-check.was in (is-ready _ _ _ _ t, is-few _ _ _ _ t)

pub overflow_mul-need : goal.overflow_mul-need
overflow_mul-need c = let k = is-ready _ _ _ _ (sym c.check.ensures ∙ c.in_ok-check.was) in omega (arith, k.work)

pub overflow_add-need : goal.overflow_add-need
overflow_add-need c = let k = is-ready _ _ _ _ (sym c.check.ensures ∙ c.in_ok-check.was) in omega (arith, k.work)

pub overflow_add-need-2 : goal.overflow_add-need-2
overflow_add-need-2 c = let k = is-ready _ _ _ _ (sym c.check.ensures ∙ c.in_ok-check.was) in omega (arith, k.work)

pub fill-requires : goal.fill-requires
fill-requires c = let k = is-ready _ _ _ _ (sym c.check.ensures ∙ c.in_ok-check.was) in (omega arith, omega (arith, k.work, c.fit-found.auto.w))

pub returns-then-found : goal.returns-then-found
returns-then-found c = let f = c.fit-found in
    let e = c.fill in
    found _ _ _ _ (sym c.check.ensures ∙ c.in_ok-check.was) _ _ _ _ f.ensures e.ensures (e.auto.w ∙ f.auto.w) f.auto.r c.if-found.true

pub returns-in_err-check : goal.returns-in_err-check
returns-in_err-check c = let e : ◌≡◌ {A = Result ⊤ Refusal} c.from_residual.result (Err c.in_err-check.field-0.0) = search rules in
    rw e (turned-back _ _ _ _ _ (sym c.check.ensures ∙ c.in_err-check.was))

pub returns : goal.returns
returns c = let f = c.fit-found in
    let e = c.fill in
    fit-failed _ _ _ _ (sym c.check.ensures ∙ c.in_ok-check.was) _ _ _ _ f.ensures e.ensures (e.auto.w ∙ f.auto.w) f.auto.r c.if-found.false
