-- New settings during a trip (docs/SCOPE.md, "Settings during a trip"): the calls of a trip with the displacement settings in force. Definitions only.
use Rattle.std.specs.Prelude.{Result, Ok, Err}
use Rattle.numeric.specs.declared.refusal.Refusal.{Refusal}
use Rattle.std.specs.Prelude.{ℕ, ◌≡◌, cond}
use Rattle.numeric.specs.declared.refusal.Refusal.TheVariants.{SettingOutOfRange, BadTrip}
use Rattle.tdcp.specs.Valid.{settings_pass}
use Rattle.tdcp.specs.Displacement.{Input, displacement_of, Accepted}
use Rattle.tdcp.specs.declared.displacement.Delta.{Delta}
use Rattle.tdcp.specs.declared.displacement.Settings.{Settings}
use Rattle.trip.specs.Trip.{sound_trip, started}
use Rattle.trip.specs.Words.{added_held}
use Rattle.trip.specs.declared.trip.Trip.{Trip}
use Rattle.trip_settings.specs.declared.drive.Drive.{Drive}
use Rattle.trip_settings.specs.declared.drive.Travelled.{Travelled}

-- ---- the calls

abbrev pub driven_by : Settings → Result Trip Refusal → Result Drive Refusal
driven_by s (Err r) = Err r
driven_by s (Ok t) = Ok (record { trip = t; settings = s })

-- a trip with the settings handed over: 3 of these, then 16 of the trip; settings that were in force before are not tested
unfoldable pub under_new : Settings → Result Trip Refusal → Result Drive Refusal
under_new s t = cond (settings_pass s) (driven_by s t) (Err SettingOutOfRange)

-- a trip starts with displacement settings
abbrev pub begun_of : Settings → ℕ → Result Drive Refusal
begun_of s rate = under_new s (started rate)

-- the trip handed in, where 16 lets it pass
unfoldable pub tested : Result Trip Refusal → Result Trip Refusal
tested (Err r) = Err r
tested (Ok t) = cond (sound_trip t) (Ok t) (Err BadTrip)

-- new settings between two epochs
abbrev pub changed_of : Drive → Settings → Result Drive Refusal
changed_of v s = under_new s (tested (Ok v.trip))

-- the trip that an addition of the displacement d leaves
abbrev pub travel_with : Delta → Result Trip Refusal → Result Travelled Refusal
travel_with d (Err r) = Err r
travel_with d (Ok t) = Ok (record { trip = t; moved = d })

-- the trip handed in, with a displacement and its pulses: the numbers of the displacement come before 16
unfoldable pub travel_by : Result Trip Refusal → ℕ → Result Delta Refusal → Result Travelled Refusal
travel_by t pulses (Err r) = Err r
travel_by t pulses (Ok d) = travel_with d (added_held t d.delta pulses)

-- the displacement of the input i, whose settings are those in force, added to the trip
unfoldable pub travelled_of : Trip → Input → ℕ → Result Travelled Refusal
travelled_of t i pulses = travel_by (Ok t) pulses (displacement_of i)

-- ---- the promise of a displacement

-- The answer is the definition's, and an accepted displacement has what every accepted one has with its own settings, demand 3 of every round included.
pub record Travels (t : Trip) (i : Input) (pulses : ℕ) (r : Result Travelled Refusal) : Type 0 where
  pub is : r ≡ travelled_of t i pulses
  pub accepted : (w : Travelled) → r ≡ Ok w → Accepted i w.moved

-- ---- what a call leaves: a refusal leaves the trip and the settings in force

abbrev pub drive_after : Drive → Result Drive Refusal → Drive
drive_after v (Err r) = v
drive_after v (Ok u) = u

abbrev pub trip_after : Trip → Result Travelled Refusal → Trip
trip_after t (Err r) = t
trip_after t (Ok w) = w.trip
