-- `numeric::sight::along` meets its contract. Assumes nothing.
use mathlib.Core.Path.{refl}
use Rattle.numeric.specs.Sight.{along}
use Rattle.numeric.proofs.sight.along.Goals as goal

pub returns : goal.returns
unfolding along
returns c = refl
