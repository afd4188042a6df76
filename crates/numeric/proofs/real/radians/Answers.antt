-- `numeric::real::radians` meets its contract. Assumes nothing.
use mathlib.Core.Path.{refl}
use lib.Ieee.{of_int, of_bits}
use Rattle.numeric.specs.Real.{radians}
use Rattle.numeric.proofs.real.radians.Goals as goal

pub returns : goal.returns
unfolding radians of_int of_bits
returns c = refl
