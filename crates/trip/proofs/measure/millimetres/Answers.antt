-- `trip::measure::millimetres` meets its contract. Assumes nothing.
use lib.Dec.{lit≤}
use Rattle.trip.proofs.MeasureLaws.{below-limit}
use Rattle.trip.proofs.measure.millimetres.Goals as goal

pub whole_times-requires : goal.whole_times-requires
whole_times-requires c = (lit≤ tt, c.requires.0, below-limit c.args.length c.requires.1)
