-- `numeric::sight::is_on_receiver` meets its contract. Assumes nothing.
use Rattle.numeric.specs.Sight.{on_receiver}
use Rattle.numeric.proofs.sight.is_on_receiver.Goals as goal

pub returns : goal.returns
unfolding on_receiver
returns c = rw c.is_finite.ensures
