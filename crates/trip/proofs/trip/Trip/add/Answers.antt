-- `trip::trip::Trip::add` meets its contract. Assumes nothing.
use Rattle.numeric.specs.Vec3.{norm}
use Rattle.trip.proofs.trip.Trip.add.Goals as goal

pub returns : goal.returns
unfolding norm
returns c = c.add_way.ensures c.args.displacement c.by_root-way.ensures
