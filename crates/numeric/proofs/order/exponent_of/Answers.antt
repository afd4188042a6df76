-- `order::exponent_of` meets its contract. Assumes nothing.
use mathlib.Core.Path.{refl}
use Rattle.exact.specs.Pattern.{exponent}
use Rattle.numeric.proofs.order.exponent_of.Goals as goal

pub returns : goal.returns
unfolding exponent
returns c = refl
