-- `trip_settings::lent::changed` meets its contract: the answer is that of the settings as they were handed over. Assumes nothing.
use Rattle.trip.specs.Words.{held_of}
use Rattle.trip_settings.specs.Drive.{tested}
use Rattle.trip_settings.proofs.LentLaws.{new-capped}
use Rattle.trip_settings.proofs.lent.changed.Goals as goal

pub returns : goal.returns
returns c =
    rw (c.under_new.ensures, c.tested.ensures, c.try_from-held.ensures, c.displacement_settings.ensures)
    (new-capped c.args.settings.now c.args.rounds (tested (held_of c.args.trip.now)))
