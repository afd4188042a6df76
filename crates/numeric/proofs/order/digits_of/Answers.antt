-- `order::digits_of` meets its contract. Assumes nothing.
use mathlib.Core.Path.{refl}
use Rattle.exact.specs.Pattern.{digits}
use Rattle.numeric.proofs.order.digits_of.Goals as goal

pub returns : goal.returns
unfolding digits
returns c = refl
