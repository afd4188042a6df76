use mathlib.Core.Path.{sym, subst}
use lib.Dec.{T}
use Rattle.cholesky.proofs.Pivot.{pivot-is}
use Rattle.cholesky.proofs.factor.is_pivot.Goals as goal

pub returns : goal.returns
returns c = pivot-is c.args.p (subst T (sym c.well_formed.0.1) tt)
