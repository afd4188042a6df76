-- `wls::fix::rated` meets its contract. Assumes nothing.
use Rattle.std.proofs.lemmas.Result.{err_from_is_err_and}
use Rattle.wls.proofs.FixCall.{rated-no, rated_unfit, rated-yes}
use Rattle.wls.proofs.fix.rated.Goals as goal

pub returns-in_err-chi : goal.returns-in_err-chi
returns-in_err-chi c = let p = err_from_is_err_and c.from_residual.result c.from_residual.ensures.1 in rw (p.1, p.2) (rated-no _ _ _ c.in_err-chi.was)

pub returns-then-is_finite : goal.returns-then-is_finite
returns-then-is_finite c = rated-yes _ _ _ c.in_ok-chi.was c.is_finite.ensures c.is_finite-2.ensures c.if-is_finite.true

pub returns-else-is_finite : goal.returns-else-is_finite
returns-else-is_finite c = rated_unfit _ _ _ c.in_ok-chi.was c.is_finite.ensures c.is_finite-2.ensures c.if-is_finite.false
