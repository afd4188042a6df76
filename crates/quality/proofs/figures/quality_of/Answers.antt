-- `quality::figures::quality_of` meets its contract. Assumes nothing.
use mathlib.Core.Path.{sym, ◌∙◌}
use Rattle.std.proofs.lemmas.Result.{err_from_is_err_and}
use Rattle.quality.proofs.QualityLaws.{qualified, quality-refused, quality-rated, quality_not_finite}
use Rattle.quality.proofs.figures.quality_of.Goals as goal

pub returns-in_err-pdop : goal.returns-in_err-pdop
returns-in_err-pdop c = let p = err_from_is_err_and c.from_residual.result c.from_residual.ensures.1 in
    rw (p.1, p.2) (qualified (quality-refused _ _ _ (sym c.in_err-pdop.was ∙ c.dilution_of.ensures.answer)))

pub returns-then-is_finite : goal.returns-then-is_finite
returns-then-is_finite c = let s = c.args in
    qualified (quality-rated _ _ _ _ (c.chi_of-chi.ensures s.rows.x.now s.rows.y.now s.rows.z.now s.rows.clock.now) (sym c.in_ok-pdop.was ∙ c.dilution_of.ensures.answer) _ _ c.is_finite.ensures c.is_finite-2.ensures c.if-is_finite.true)

pub returns-else-is_finite : goal.returns-else-is_finite
returns-else-is_finite c = let s = c.args in
    qualified (quality_not_finite _ _ _ _ (c.chi_of-chi.ensures s.rows.x.now s.rows.y.now s.rows.z.now s.rows.clock.now) (sym c.in_ok-pdop.was ∙ c.dilution_of.ensures.answer) _ _ c.is_finite.ensures c.is_finite-2.ensures c.if-is_finite.false)
