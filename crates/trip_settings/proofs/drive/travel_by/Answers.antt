-- `trip_settings::drive::travel_by` meets its contract. Assumes nothing.
use Rattle.std.proofs.Common.{rules}
use Rattle.trip.specs.Words.{added_held}
use Rattle.trip_settings.specs.Drive.{travel_by}
use Rattle.trip_settings.proofs.drive.travel_by.Goals as goal

pub returns-in_err-moved : goal.returns-in_err-moved
unfolding travel_by added_held
returns-in_err-moved c = search rules

pub returns-in_err-before : goal.returns-in_err-before
unfolding travel_by added_held
returns-in_err-before c = search rules

pub returns-in_err-trip : goal.returns-in_err-trip
unfolding travel_by added_held
returns-in_err-trip c = rw (c.in_ok-moved.was, c.in_ok-before.was, ← c.add.ensures.is) (search rules)

pub returns : goal.returns
unfolding travel_by added_held
returns c = rw (c.in_ok-moved.was, c.in_ok-before.was, ← c.add.ensures.is, c.in_ok-trip.was)
