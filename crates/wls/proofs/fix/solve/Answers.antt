-- `wls::fix::solve` meets its contract. Assumes nothing.
use mathlib.Core.Path.{sym, ap}
use Rattle.std.proofs.lemmas.Result.{err_from_is_err_and}
use Rattle.wls.specs.Fix.{position_of}
use Rattle.wls.proofs.FixSound.{position-promised}
use Rattle.wls.proofs.fix.solve.Goals as goal

pub returns-in_err-s : goal.returns-in_err-s
returns-in_err-s c = let p = err_from_is_err_and c.from_residual.result c.from_residual.ensures.1 in
    rw (p.1, p.2) (position-promised _ _ _ c.solve_full.ensures (ap position_of (sym c.in_err-s.was)))

pub returns : goal.returns
returns c = position-promised _ _ _ c.solve_full.ensures (ap position_of (sym c.in_ok-s.was))
