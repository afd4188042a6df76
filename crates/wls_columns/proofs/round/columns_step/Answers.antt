-- `wls_columns::round::columns_step` meets its contract. Assumes nothing.
use Rattle.std.proofs.lemmas.Result.{err_from_is_err_and}
use mathlib.Core.Path.{sym, ◌∙◌}
use Rattle.robust.proofs.StepLaws.{refused-step, written-step}
use Rattle.wls_columns.specs.Steps.{lent_row_columns}
use Rattle.wls_columns.proofs.StepLaws.{step-short, step-fit}
use Rattle.wls_columns.proofs.round.columns_step.Goals as goal

pub returns-then-not-fit : goal.returns-then-not-fit
returns-then-not-fit c = let s = c.args in step-short s.unknowns s.huber (lent_row_columns s.rows) s.count c.fit.ensures c.if-not-fit.true

pub rows-requires : goal.rows-requires
rows-requires c = sym c.fit.ensures ∙ c.if-not-fit.false

pub returns-in_err-step : goal.returns-in_err-step
returns-in_err-step c = let s = c.args in
    let p = err_from_is_err_and c.from_residual.result c.from_residual.ensures.1 in
    rw (p.1, p.2) (refused-step c.step.ensures c.in_err-step.was ∙ step-fit s.unknowns s.huber (lent_row_columns s.rows) s.count c.rows.result c.fit.ensures c.if-not-fit.false c.rows.ensures)

pub returns : goal.returns
returns c = let s = c.args in
    written-step c.step.ensures c.in_ok-step.was ∙ step-fit s.unknowns s.huber (lent_row_columns s.rows) s.count c.rows.result c.fit.ensures c.if-not-fit.false c.rows.ensures
