-- The calls of a trip with settings on lent memory: what they answer, and what it holds afterwards; a refusal leaves every word and every bit. Definitions only.
use Rattle.numeric.specs.Refusal.{answer_number}
use Rattle.std.specs.Prelude.{Result, Ok, Err}
use Rattle.numeric.specs.declared.refusal.Refusal.{Refusal}
use Rattle.tdcp.specs.declared.displacement.Delta.{Delta}
use Rattle.trip_settings.specs.declared.drive.Drive.{Drive}
use Rattle.std.specs.Prelude.{ℕ, ◌≡◌, List, [], ◌∷◌, map, Float}
use Rattle.lists.specs.Memory.{before, after, Memory, LentNumbers}
use Rattle.numeric.specs.Order.{pattern_of}
use Rattle.tdcp.specs.Displacement.{Accepted}
use Rattle.tdcp_columns.specs.Displacement.{Lent, lent_input, columns_displaced, delta_after, counts_after}
use Rattle.tdcp.specs.declared.displacement.Settings.{Settings}
use Rattle.trip.specs.Words.{held_of, words_of}
use Rattle.trip_settings.specs.Drive.{travel_by}
use Rattle.trip_settings.specs.declared.drive.Travelled.{Travelled}

-- ---- the five floats of settings (screen, sigma_a, sigma_b, huber, mask)

abbrev pub settings_floats : Settings → List Float
settings_floats s = s.screen ∷ s.sigma_a ∷ s.sigma_b ∷ s.huber ∷ s.mask ∷ []

-- ---- beginning, and new settings

-- the patterns of the settings in force, and their rounds
abbrev pub in_force_after : Result Drive Refusal → List ℕ → List ℕ
in_force_after (Err r) before = before
in_force_after (Ok v) before = map pattern_of (settings_floats v.settings)

abbrev pub rounds_after : Result Drive Refusal → ℕ → ℕ
rounds_after (Err r) before = before
rounds_after (Ok v) before = v.settings.rounds

abbrev pub started_after : Result Drive Refusal → List ℕ → List ℕ
started_after (Err r) before = before
started_after (Ok v) before = words_of v.trip

pub record DrivingAnswers (d : Result Drive Refusal) (number : ℕ) (force₀ force : List ℕ) (rounds₀ rounds : ℕ) : Type 0 where
  pub number_is : number ≡ answer_number d
  pub in_force_is : force ≡ in_force_after d force₀
  pub rounds-are : rounds ≡ rounds_after d rounds₀

-- beginning writes the trip's words too
pub record BegunAnswers (d : Result Drive Refusal) (number : ℕ) (trip₀ trip force₀ force : List ℕ) (rounds₀ rounds : ℕ) : Type 0 where
  pub trip_is : trip ≡ started_after d trip₀
  pub others : DrivingAnswers d number force₀ force rounds₀ rounds

-- of lent patterns and rounds, and of lent words
abbrev pub SettingsPut : Result Drive Refusal → ℕ → LentNumbers → Memory ℕ → Type 0
SettingsPut d number force rounds = DrivingAnswers d number (before force) (after force) (before rounds) (after rounds)

abbrev pub TripBegun : Result Drive Refusal → ℕ → LentNumbers → LentNumbers → Memory ℕ → Type 0
TripBegun d number trip force rounds = BegunAnswers d number (before trip) (after trip) (before force) (after force) (before rounds) (after rounds)

-- ---- a displacement

-- the trip that the words hold, with the displacement `moved`
abbrev pub travelled_by : Result Delta Refusal → ℕ → List ℕ → Result Travelled Refusal
travelled_by moved pulses words = travel_by (held_of words) pulses moved

abbrev pub trip_after : Result Travelled Refusal → List ℕ → List ℕ
trip_after (Err r) before = before
trip_after (Ok w) before = words_of w.trip

-- its displacement, or the refusal
abbrev pub travelled_delta : Result Travelled Refusal → Result Delta Refusal
travelled_delta (Err r) = Err r
travelled_delta (Ok w) = Ok w.moved

-- the number and what is lent afterwards are those of t
pub record TravelLeaves (t : Result Travelled Refusal) (number : ℕ) (trip₀ trip delta₀ delta counts₀ counts : List ℕ) : Type 0 where
  pub number_is : number ≡ answer_number t
  pub trip_is : trip ≡ trip_after t trip₀
  pub delta-is : delta ≡ delta_after (travelled_delta t) delta₀
  pub counts-are : counts ≡ counts_after (travelled_delta t) counts₀

-- They are those of the trip with the displacement of what is lent. An accepted one has what every accepted displacement has with its own settings, demand 3 of every
-- round included.
pub record TravelAnswers (l : Lent) (pulses number : ℕ) (trip₀ trip delta₀ delta counts₀ counts : List ℕ) : Type 0 where
  pub leaves : TravelLeaves (travelled_by (columns_displaced l) pulses trip₀) number trip₀ trip delta₀ delta counts₀ counts
  pub accepted : (w : Travelled) → travelled_by (columns_displaced l) pulses trip₀ ≡ Ok w → Accepted (lent_input l) w.moved
