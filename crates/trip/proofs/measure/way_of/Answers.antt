-- `trip::measure::way_of` meets its contract. Assumes nothing.
use Rattle.numeric.specs.Vec3.{norm}
use Rattle.trip.proofs.measure.way_of.Goals as goal

pub returns : goal.returns
unfolding norm
returns c = c.way_of_square.ensures
