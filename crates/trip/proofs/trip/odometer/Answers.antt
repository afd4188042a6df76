-- `trip::trip::odometer` meets its contract. Assumes nothing.
use mathlib.Core.Path.{refl}
use Rattle.trip.specs.Trip.{odometer}
use Rattle.trip.proofs.trip.odometer.Goals as goal

pub returns : goal.returns
unfolding odometer
returns c = refl
