-- What the calls on lent memory answer and leave, by the answer of the call behind them; and rounds above 50, which are refused alike. Assumes nothing.
use Rattle.std.specs.Prelude.{Result}
use Rattle.numeric.specs.declared.refusal.Refusal.{Refusal}
use Rattle.tdcp.specs.declared.displacement.Delta.{Delta}
use Rattle.trip.specs.declared.trip.Trip.{Trip}
use mathlib.Core.Path.{◌≡◌, sym, subst}
use mathlib.Core.List.{List}
use Prim.Native.Nat.{ℕ, min}
use lib.Ieee.{Float}
use Rattle.tdcp.proofs.CountedLaws.{many-rounds}
use Rattle.tdcp_columns.specs.Displacement.{displacement_settings, Lent, columns_displaced}
use Rattle.trip_settings.specs.Drive.{under_new}
use Rattle.estimate_rounds.proofs.RoundsLaws.{capped}
use Rattle.tdcp_columns.proofs.AnswerLaws.{columns-accepted}
use Rattle.trip_settings.specs.Lent.{travelled_by, TravelLeaves, TravelAnswers}
use Rattle.trip_settings.proofs.DriveLaws.{by-moved, new-refused}

-- 51 rounds are refused as any more are
pub new-capped : (s : List Float) (rounds : ℕ) (t : Result Trip Refusal) → under_new (displacement_settings s (min rounds 51)) t ≡ under_new (displacement_settings s rounds) t
new-capped s rounds t =
    capped (λ (k : ℕ). under_new (displacement_settings s k) t) (λ k h. sym (new-refused (displacement_settings s k) t (many-rounds (displacement_settings s k) h))) rounds

-- what is left of the displacement q of what is lent
pub travel_answers : (l : Lent) {q : Result Delta Refusal} {pulses number : ℕ} {trip₀ trip delta₀ delta counts₀ counts : List ℕ} → q ≡ columns_displaced l
    → TravelLeaves (travelled_by q pulses trip₀) number trip₀ trip delta₀ delta counts₀ counts → TravelAnswers l pulses number trip₀ trip delta₀ delta counts₀ counts
travel_answers l {pulses = pulses} {number = number} {trip₀ = trip₀} {trip = trip} {delta₀ = delta₀} {delta = delta} {counts₀ = counts₀} {counts = counts} e h =
    record {
      leaves = subst (λ (d : Result Delta Refusal). TravelLeaves (travelled_by d pulses trip₀) number trip₀ trip delta₀ delta counts₀ counts) e h;
      accepted = λ w q. columns-accepted l w.moved (by-moved _ pulses (columns_displaced l) w q);
    }
