-- Which six words the calls of a trip with settings refuse by 16: those that are not sound, after the numbers of the settings and of the displacement. Assumes nothing.
use Rattle.numeric.specs.Refusal.{answer_number}
use Rattle.std.specs.Prelude.{Result, Ok, Err}
use Rattle.trip.specs.declared.trip.Trip.{Trip}
use mathlib.Core.Path.{◌≡◌, refl, ◌∙◌}
use mathlib.Core.Bool.{Bool, true, false, cond, not, ◌&&◌}
use mathlib.Core.List.{List}
use Prim.Native.Nat.{ℕ}
use lib.Dec.{ltb}
use lib.ListN.{get_or}
use Rattle.numeric.specs.Refusal.{number_of}
use Rattle.numeric.specs.declared.refusal.Refusal.{Refusal}
use Rattle.numeric.specs.declared.refusal.Refusal.TheVariants.{BadTrip, SettingOutOfRange}
use Rattle.tdcp.specs.Valid.{settings_pass}
use Rattle.tdcp.specs.declared.displacement.Delta.{Delta}
use Rattle.tdcp.specs.declared.displacement.Settings.{Settings}
use Rattle.trip.specs.Measure.{measurable}
use Rattle.trip.specs.Trip.{sound_trip}
use Rattle.trip.specs.Words.{too_wide, trip_from, held_of, added_held, sound_words}
use Rattle.trip.proofs.HeldLaws.{sound-held, held_number}
use Rattle.trip_settings.specs.Drive.{driven_by, under_new, tested, travel_by, travel_with}
use Rattle.tdcp_columns.specs.Displacement.{Lent, columns_displaced}
use Rattle.trip_settings.specs.Lent.{travelled_by}

-- New settings: 3 of these, and then 16 exactly where the words are not sound.
pub settings-number : (s : Settings) (w : List ℕ) → answer_number (under_new s (tested (held_of w))) ≡ cond (settings_pass s) (cond (sound_words w) 0 16) 3
unfolding under_new tested held_of
settings-number s w = rw (sound-held w) (go (settings_pass s) (too_wide w) (sound_trip (trip_from w)) refl)
  where
    go : (p a b : Bool) → sound_trip (trip_from w) ≡ b
        → answer_number (cond p (driven_by s (tested (cond a (Err BadTrip) (Ok (trip_from w))))) (Err SettingOutOfRange)) ≡ cond p (cond (not a && b) 0 16) 3
    go false a b e = refl
    go true true b e = refl
    go true false true e = rw e
    go true false false e = rw e

module _ (l : Lent) (pulses : ℕ) (w : List ℕ) where
  -- A displacement that is refused gives its number, whatever the words hold.
  pub travel_refused : (r : Refusal) → columns_displaced l ≡ Err r → answer_number (travelled_by (columns_displaced l) pulses w) ≡ number_of r
  unfolding travel_by
  travel_refused r e = rw e

  -- One that is not is refused by 16 exactly where the words are not sound, the trip is full, or it is longer than 1,000 m.
  pub travel_number_lem : (d : Delta) → columns_displaced l ≡ Ok d
      → answer_number (travelled_by (columns_displaced l) pulses w) ≡ cond (sound_words w && ltb (get_or w 1 0) 65535 && measurable d.delta) 0 16
  unfolding travel_by
  travel_number_lem d e = rw e (as_step (added_held (held_of w) d.delta pulses) ∙ held_number w d.delta pulses)
    where
      as_step : (s : Result Trip Refusal) → answer_number (travel_with d s) ≡ answer_number s
      as_step (Err r) = refl
      as_step (Ok t) = refl
