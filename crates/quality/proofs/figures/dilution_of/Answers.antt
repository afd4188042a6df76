-- `quality::figures::dilution_of` meets its contract. Assumes nothing.
use mathlib.Core.Path.{refl}
use native.Mathlib.Omega.{arith}
use Rattle.quality.proofs.QualityLaws.{diluted, unweighted_unused, dilution_refused, dilution_is}
use Rattle.quality.proofs.figures.dilution_of.Goals as goal

pub factor_used-requires : goal.factor_used-requires
factor_used-requires c = (omega arith, omega arith, rw c.unweighted_matrix.ensures (unweighted_unused _ _), refl)

pub pdop_of-requires : goal.pdop_of-requires
pdop_of-requires c = (omega arith, omega arith, c.factor_used.ensures.unused c.if-factor_used.true)

pub returns-then-factor_used : goal.returns-then-factor_used
returns-then-factor_used c = let f = c.factor_used in
    diluted (dilution_is _ _ _ c.unweighted_matrix.ensures f.result f.ensures.answer _ _ _ (f.ensures.rows_are c.if-factor_used.true) c.if-factor_used.true c.pdop_of.ensures)

pub returns-else-factor_used : goal.returns-else-factor_used
returns-else-factor_used c = let f = c.factor_used in
    diluted (dilution_refused _ _ _ c.unweighted_matrix.ensures f.result f.ensures.answer c.if-factor_used.false)
