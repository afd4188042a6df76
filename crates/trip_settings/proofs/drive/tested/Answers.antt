-- `trip_settings::drive::tested` meets its contract. Assumes nothing.
use Rattle.std.proofs.Common.{rules}
use Rattle.trip_settings.specs.Drive.{tested}
use Rattle.trip_settings.proofs.drive.tested.Goals as goal

pub returns-in_err-trip : goal.returns-in_err-trip
unfolding tested
returns-in_err-trip c = search rules

pub returns-then-not-is_sound : goal.returns-then-not-is_sound
unfolding tested
returns-then-not-is_sound c = rw (c.in_ok-trip.was, ← c.is_sound.ensures, c.if-not-is_sound.true)

pub returns : goal.returns
unfolding tested
returns c = rw (c.in_ok-trip.was, ← c.is_sound.ensures, c.if-not-is_sound.false)
