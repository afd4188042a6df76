-- `numeric::real::abs` meets its contract. Assumes nothing.
use mathlib.Core.Path.{subst, sym}
use lib.Dec.{T}
use Rattle.numeric.proofs.RealLaws.{abs-least, abs-above}
use Rattle.numeric.proofs.real.abs.Goals as goal

pub returns-then-x : goal.returns-then-x
returns-then-x c = abs-least c.args.x (subst T (sym c.well_formed.0.1) tt) c.if-x.true

pub returns-else-x : goal.returns-else-x
returns-else-x c = abs-above c.args.x c.if-x.false
