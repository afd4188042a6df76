-- What inner functions of a trip promise. Definitions only.
use Rattle.std.specs.Prelude.{◌≡◌, ℕ, ◌≤◌, ◌<◌, true, cond, Float}
use Rattle.std.specs.Float.Ieee.{le}
use Rattle.exact.specs.Float.{whole}
use Rattle.trip.specs.Measure.{millimetres}
use Rattle.trip.specs.Trip.{sound_trip}
use Rattle.trip.specs.declared.trip.Trip.{Trip}

-- what an addition needs of a length: its whole millimetres, which are at most 1,000,000, or 1,000,001 for one above 1,000 m
unfoldable pub way_of : Float → ℕ
way_of length = cond (le length (whole 1000)) (millimetres length) 1000001

-- a sound trip that is not full takes one more epoch of so many millimetres and pulses
pub record TakesEpoch (t : Trip) (millimetres pulses : ℕ) : Type 0 where
  pub is-sound : sound_trip t ≡ true
  pub room : t.epochs < 65535
  pub short : millimetres ≤ 1000000
  pub few : pulses ≤ 65535
