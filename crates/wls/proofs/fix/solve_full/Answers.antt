-- `wls::fix::solve_full` meets its contract. Assumes nothing.
use mathlib.Core.Path.{sym, ◌∙◌}
use Rattle.std.proofs.lemmas.Result.{err_from_is_err_and}
use Rattle.wls.proofs.FrontLaws.{observations-fit}
use Rattle.wls.proofs.FixSound.{promised}
use Rattle.wls.proofs.FixCall.{refused-input, refused-counts, few-clocks, found}
use Rattle.wls.proofs.fix.solve_full.Goals as goal

pub returns-in_err-check_fix : goal.returns-in_err-check_fix
returns-in_err-check_fix c = let p = err_from_is_err_and c.from_residual.result c.from_residual.ensures.1 in
    rw (p.1, p.2) (promised _ _ (refused-input _ (sym c.in_err-check_fix.was ∙ c.check_fix.ensures)))

pub above_mask-kept-requires : goal.above_mask-kept-requires
above_mask-kept-requires c = observations-fit _ _ _ (sym c.in_ok-check_fix.was ∙ c.check_fix.ensures)

pub returns-in_err-check_rows : goal.returns-in_err-check_rows
returns-in_err-check_rows c = let p = err_from_is_err_and c.from_residual-in_err-check_rows.result c.from_residual-in_err-check_rows.ensures.1 in
    rw (p.1, p.2) (promised _ _ (refused-counts _ (sym c.in_ok-check_fix.was ∙ c.check_fix.ensures) _ _ c.above_mask-kept.ensures c.clocks_of-clocks.ensures (sym c.in_err-check_rows.was ∙ c.check_rows.ensures)))

pub fit_sky-requires : goal.fit_sky-requires
fit_sky-requires c = (c.above_mask-kept.ensures.room, few-clocks _ (sym c.in_ok-check_fix.was ∙ c.check_fix.ensures) _ _ c.above_mask-kept.ensures c.clocks_of-clocks.ensures (sym c.in_ok-check_rows.was ∙ c.check_rows.ensures))

pub returns : goal.returns
returns c = promised _ _ (c.fit_sky.ensures ∙ found _ (sym c.in_ok-check_fix.was ∙ c.check_fix.ensures) _ _ c.above_mask-kept.ensures c.clocks_of-clocks.ensures (sym c.in_ok-check_rows.was ∙ c.check_rows.ensures))
