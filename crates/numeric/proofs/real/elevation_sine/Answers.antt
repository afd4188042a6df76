-- `numeric::real::elevation_sine` meets its contract. Assumes nothing.
use mathlib.Core.Path.{refl}
use lib.Ieee.{of_int, of_bits, neg}
use Rattle.numeric.specs.Real.{elevation_sine, factorial}
use Rattle.numeric.proofs.real.elevation_sine.Goals as goal

pub returns : goal.returns
unfolding elevation_sine factorial of_int of_bits neg
returns c = refl
