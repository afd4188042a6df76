-- `robust::round::round_step` meets its contract. Assumes nothing.
use mathlib.Core.Path.{refl, sym, ◌∙◌}
use native.Mathlib.Omega.{arith}
use Rattle.normal_equations.specs.Steps.{lent_columns}
use Rattle.normal_equations.proofs.FormedLaws.{matrix-unused, right-unused}
use Rattle.robust.proofs.SolvingLaws.{solving-yes, solving-no}
use Rattle.robust.proofs.StepLaws.{never-refused, round-solving}
use Rattle.robust.proofs.round.round_step.Goals as goal

pub returns-in_err-c : goal.returns-in_err-c
returns-in_err-c c = let s = c.args in never-refused (lent_columns s.rows) (omega arith) _ (sym c.in_err-c.was ∙ c.centre_scale.ensures.answer)

pub factor_used-requires : goal.factor_used-requires
factor_used-requires c = let f = c.normal.ensures in (omega arith, omega arith, rw f.matrix-is (matrix-unused _ _ _ _ (omega arith)), refl)

pub solve_used-requires : goal.solve_used-requires
solve_used-requires c = let f = c.normal.ensures in (omega arith, omega arith, c.factor_used.ensures.unused c.if-factor_used.true, rw f.right_is (right-unused _ _ _ _ (omega arith)))

-- the weights are by the centre and the scale of the residuals
pub returns-else-factor_used : goal.returns-else-factor_used
returns-else-factor_used c = let s = c.args in
    let f = c.factor_used in
    round-solving (lent_columns s.rows) (omega arith) s.n s.huber _ (sym c.in_ok-c.was ∙ c.centre_scale.ensures.answer)
    (solving-no _ _ _ _ _ f.result c.normal.ensures f.ensures.answer c.if-factor_used.false)

pub returns-then-factor_used : goal.returns-then-factor_used
returns-then-factor_used c = let s = c.args in
    let f = c.factor_used in
    round-solving (lent_columns s.rows) (omega arith) s.n s.huber _ (sym c.in_ok-c.was ∙ c.centre_scale.ensures.answer)
    (solving-yes _ _ _ _ _ f.result c.normal.ensures f.ensures.answer _ _ c.solve_used.result (f.ensures.rows_are c.if-factor_used.true) c.if-factor_used.true c.solve_used.ensures)
