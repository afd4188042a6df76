-- `trip::trip::Trip::is_sound` meets its contract. Assumes nothing.
use mathlib.Core.Path.{refl}
use Rattle.trip.specs.Trip.{sound_trip}
use Rattle.trip.proofs.trip.Trip.is_sound.Goals as goal

pub returns : goal.returns
unfolding sound_trip
returns c = refl
