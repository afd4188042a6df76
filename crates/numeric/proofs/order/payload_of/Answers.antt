-- `order::payload_of` meets its contract. Assumes nothing.
use mathlib.Core.Path.{refl}
use Rattle.numeric.specs.Order.{payload}
use Rattle.numeric.proofs.order.payload_of.Goals as goal

pub returns : goal.returns
unfolding payload
returns c = refl
