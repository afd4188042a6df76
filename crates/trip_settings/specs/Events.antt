-- New settings during a trip (docs/SCOPE.md, "Settings during a trip"): the trip of a list of events, each displacement worked out under the settings in force. Definitions only.
use Rattle.std.specs.Prelude.{Result, Ok, Err}
use Rattle.numeric.specs.declared.refusal.Refusal.{Refusal}
use Rattle.std.specs.Prelude.{ℕ, ◌≡◌, Bool, true, cond, List, [], ◌∷◌, ◌++◌, leb, Float}
use Rattle.numeric.specs.declared.vec3.Vec3.{Vec3}
use Rattle.records.specs.declared.record.Epoch.{Epoch}
use Rattle.tdcp.specs.Valid.{settings_pass}
use Rattle.tdcp.specs.Displacement.{Input, general, displacement_of, Accepted}
use Rattle.tdcp.specs.declared.displacement.Delta.{Delta}
use Rattle.tdcp.specs.declared.displacement.Settings.{Settings}
use Rattle.trip.specs.Trip.{Leg}
use Rattle.trip_settings.specs.Drive.{changed_of, travelled_of, drive_after, trip_after}
use Rattle.trip_settings.specs.declared.drive.Drive.{Drive}

-- what a displacement is worked out of, beside the settings
pub record Move : Type 0 where
  pub previous : Epoch
  pub current : Epoch
  pub dt : Float
  pub receiver : Vec3

abbrev pub move_input : Settings → Move → Input
move_input s m = general m.previous m.current m.dt m.receiver s

-- a pair of epochs with its pulses, or new settings
pub data TripEvent : Type 0 where
  epoch : Move → ℕ → TripEvent
  change : Settings → TripEvent

-- ---- calls one after the other

-- what an event leaves
unfoldable pub drive_next : Drive → TripEvent → Drive
drive_next v (epoch m pulses) = record { trip = trip_after v.trip (travelled_of v.trip (move_input v.settings m) pulses); settings = v.settings }
drive_next v (change s) = drive_after v (changed_of v s)

-- ---- the list of epochs

-- the settings in force after new ones have been handed over: a refused change leaves those before
abbrev pub changed_to : Settings → Settings → Settings
changed_to s r = cond (settings_pass r) r s

-- those in force after the events, from the settings s on
unfoldable pub in_force : Settings → List TripEvent → Settings
in_force s [] = s
in_force s (epoch m pulses ∷ es) = in_force s es
in_force s (change r ∷ es) = in_force (changed_to s r) es

-- what a displacement adds to the list of epochs: a refused one leaves that epoch and its pulses uncounted
unfoldable pub legs_of : ℕ → Result Delta Refusal → List Leg
legs_of pulses (Err r) = []
legs_of pulses (Ok d) = record { displacement = d.delta; pulses = pulses } ∷ []

-- the displacements, each worked out under the settings in force, with their pulses
unfoldable pub legs_under : Settings → List TripEvent → List Leg
legs_under s [] = []
legs_under s (epoch m pulses ∷ es) = legs_of pulses (displacement_of (move_input s m)) ++ legs_under s es
legs_under s (change r ∷ es) = legs_under (changed_to s r) es

-- each accepted displacement has what every accepted one has with its own settings, demand 3 of every round included
unfoldable pub EachAccepted : Settings → List TripEvent → Type 0
EachAccepted s [] = Unit
EachAccepted s (epoch m pulses ∷ es) = ((d : Delta) → displacement_of (move_input s m) ≡ Ok d → Accepted (move_input s m) d) × EachAccepted s es
EachAccepted s (change r ∷ es) = EachAccepted (changed_to s r) es

-- pulses per epoch are 16-bit
unfoldable pub narrow_event : TripEvent → Bool
narrow_event (epoch m pulses) = leb pulses 65535
narrow_event (change s) = true
