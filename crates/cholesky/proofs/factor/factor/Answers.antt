-- `cholesky::factor::factor` meets its contract. Assumes nothing.
use native.Mathlib.Omega.{arith}
use mathlib.Core.Path.{refl, sym, ◌∙◌}
use Rattle.cholesky.specs.Factor.{factor_of}
use Rattle.cholesky.proofs.Answers.{done, refused, rows-done, rows-refused, promised}
use Rattle.cholesky.proofs.SolveUsed.{all-used}
use Rattle.cholesky.proofs.factor.factor.Goals as goal

pub factor_used-requires : goal.factor_used-requires
factor_used-requires c = (omega arith, omega arith, all-used _, refl)

pub returns-then-factor_used : goal.returns-then-factor_used
returns-then-factor_used c = let f = c.factor_used.ensures in
    let yes = sym c.if-factor_used.true ∙ f.answer in
    promised _ (done (factor_of _) yes) (f.rows_are c.if-factor_used.true ∙ rows-done (factor_of _) _ _ yes)

pub returns-else-factor_used : goal.returns-else-factor_used
returns-else-factor_used c = let without = sym c.if-factor_used.false ∙ c.factor_used.ensures.answer in
    promised _ (refused (factor_of _) without) (rows-refused (factor_of _) _ without)
