-- `trip_settings::lent::begun` meets its contract: the answer is that of the settings as they were handed over. Assumes nothing.
use Rattle.trip.specs.Trip.{started}
use Rattle.trip_settings.proofs.LentLaws.{new-capped}
use Rattle.trip_settings.proofs.lent.begun.Goals as goal

pub returns : goal.returns
returns c = rw (c.begin.ensures, c.displacement_settings.ensures) (new-capped c.args.settings.now c.args.rounds (started c.args.per_km))
