-- `numeric::real::square` meets its contract. Assumes nothing.
use mathlib.Core.Path.{refl}
use Rattle.numeric.specs.Real.{square}
use Rattle.numeric.proofs.real.square.Goals as goal

pub returns : goal.returns
unfolding square
returns c = refl
