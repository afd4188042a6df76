-- `trip::trip::Trip::start` meets its contract. Assumes nothing.
use borrow.Author.Tests.{lt-ltb, le-ltb}
use Rattle.trip.specs.Trip.{started, trip_of, carrier_millimetres, pulses_of, greatest_of, reached_of, greatest, first_with}
use Rattle.trip.proofs.trip.Trip.start.Goals as goal

pub returns-then-rate-gt0 : goal.returns-then-rate-gt0
unfolding started trip_of carrier_millimetres pulses_of greatest_of reached_of greatest first_with
returns-then-rate-gt0 c = simp (lt-ltb _ _ c.if-rate-gt0.true)

pub returns : goal.returns
unfolding started
returns c = simp (le-ltb _ _ c.if-rate-gt0.false)
