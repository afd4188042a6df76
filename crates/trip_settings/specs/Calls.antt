-- A trip with settings on lent memory, call by call: what the caller holds, what a call leaves of it, and which events the calls are. Definitions only.
use Rattle.numeric.specs.Refusal.{answer_number}
use Rattle.std.specs.Prelude.{Result}
use Rattle.numeric.specs.declared.refusal.Refusal.{Refusal}
use Rattle.trip_settings.specs.declared.drive.Drive.{Drive}
use Rattle.trip_settings.specs.declared.drive.Travelled.{Travelled}
use Rattle.std.specs.Prelude.{ℕ, Bool, cond, ◌&&◌, List, [], ◌∷◌, map, leb, Float}
use Rattle.std.specs.Float.{binary64}
use Rattle.std.specs.Float.Ieee.{fits}
use Rattle.exact.specs.Float.{bits}
use Rattle.lists.specs.Walk.{every}
use Rattle.numeric.specs.Vec3.{vector_at}
use Rattle.records.specs.Carriers.{CarrierColumns, epoch_of, epoch_fits}
use Rattle.records.specs.declared.pair.Profile.TheVariants.{General}
use Rattle.tdcp.specs.declared.displacement.Settings.{Settings}
use Rattle.tdcp.specs.declared.displacement.Interval.TheVariants.{Seconds}
use Rattle.tdcp_columns.specs.Displacement.{Lent, lent, columns_displaced, displacement_settings}
use Rattle.trip.specs.Words.{held_of}
use Rattle.trip_settings.specs.Drive.{under_new, tested}
use Rattle.trip_settings.specs.Events.{Move, TripEvent, epoch, change}
use Rattle.trip_settings.specs.Lent.{in_force_after, rounds_after, travelled_by, trip_after}

-- ---- what a caller holds

-- the trip's six words, the patterns of the five floats in force, and the rounds in force
pub record TripMemory : Type 0 where
  pub words : List ℕ
  pub patterns : List ℕ
  pub rounds : ℕ

-- the settings that a displacement reads there: the floats whose bits the patterns are
unfoldable pub settings_in : TripMemory → Settings
settings_in m = displacement_settings (map bits m.patterns) m.rounds

-- ---- one call

-- what `zaqnuti_trip_displacement` is lent beside that: both epochs' columns with how many carriers of each, the seconds between them, and the receiver
pub record Ride : Type 0 where
  pub previous : CarrierColumns
  pub previous-count : ℕ
  pub current : CarrierColumns
  pub current-count : ℕ
  pub dt : Float
  pub receiver : List Float

-- `zaqnuti_trip_displacement` with its pulses, or `zaqnuti_trip_settings` with five floats and the rounds
pub data TripCall : Type 0 where
  travel_call : Ride → ℕ → TripCall
  settings_call : List Float → ℕ → TripCall

-- what the displacement call is lent, under these settings
abbrev pub ride_lent : Settings → Ride → Lent
ride_lent s r = lent r.previous r.previous-count r.current r.current-count (Seconds r.dt) (vector_at r.receiver 0) s General

-- the answers that the two contracts cite
abbrev pub travel_in : TripMemory → Ride → ℕ → Result Travelled Refusal
travel_in m r pulses = travelled_by (columns_displaced (ride_lent (settings_in m) r)) pulses m.words

abbrev pub driving_in : TripMemory → List Float → ℕ → Result Drive Refusal
driving_in m s rounds = under_new (displacement_settings s rounds) (tested (held_of m.words))

unfoldable pub call_number : TripMemory → TripCall → ℕ
call_number m (travel_call r pulses) = answer_number (travel_in m r pulses)
call_number m (settings_call s rounds) = answer_number (driving_in m s rounds)

-- what the call leaves: a displacement only reads the settings, and new settings only read the words
unfoldable pub memory_after : TripMemory → TripCall → TripMemory
memory_after m (travel_call r pulses) = record { words = trip_after (travel_in m r pulses) m.words; patterns = m.patterns; rounds = m.rounds }
memory_after m (settings_call s rounds) =
    let d = driving_in m s rounds in record { words = m.words; patterns = in_force_after d m.patterns; rounds = rounds_after d m.rounds }

-- ---- the calls as events

abbrev pub move_of : Ride → Move
move_of r =
    record {
      previous = epoch_of r.previous r.previous-count;
      current = epoch_of r.current r.current-count;
      dt = r.dt;
      receiver = vector_at r.receiver 0;
    }

-- the event that a call is: none where a column is too short or there are more than 64 carriers, which 2 refuses
unfoldable pub call_events : TripCall → List TripEvent
call_events (travel_call r pulses) = cond (epoch_fits r.previous r.previous-count && epoch_fits r.current r.current-count) (epoch (move_of r) pulses ∷ []) []
call_events (settings_call s rounds) = change (displacement_settings s rounds) ∷ []

-- ---- what memory can lend

-- a call's floats of settings are binary64, and its pulses 16-bit
unfoldable pub lendable : TripCall → Bool
lendable (travel_call r pulses) = leb pulses 65535
lendable (settings_call s rounds) = every (fits binary64) s
