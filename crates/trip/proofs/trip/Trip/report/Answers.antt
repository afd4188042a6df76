-- `trip::trip::Trip::report` meets its contract. Assumes nothing.
use mathlib.Core.Path.{◌≡◌, sym, ◌∙◌}
use mathlib.Core.Bool.{true}
use native.Mathlib.Omega.{arith}
use Rattle.trip.specs.Trip.{sound_trip, reported}
use Rattle.trip.proofs.BoundsLaws.{bounds}
use Rattle.trip.proofs.TripLaws.{reports}
use Rattle.trip.proofs.trip.Trip.report.Goals as goal

pub returns-then-not-is_sound : goal.returns-then-not-is_sound
unfolding reported
returns-then-not-is_sound c = reports _ (rw (sym c.is_sound.ensures ∙ c.if-not-is_sound.true))

passed : (c : goal.Else-not-is_sound) → sound_trip c.args.self ≡ true
passed c = sym c.is_sound.ensures ∙ c.if-not-is_sound.false

pub odometer-requires : goal.odometer-requires
odometer-requires c = omega (arith, bounds c.args.self (passed c))

pub returns : goal.returns
unfolding reported
returns c = reports _ (rw (passed c.before, c.odometer.ensures))
