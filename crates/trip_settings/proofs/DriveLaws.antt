-- A displacement added to a trip, by the cases of the displacement and of the addition. Assumes nothing.
use Rattle.std.specs.Prelude.{Result, Ok, Err}
use mathlib.Core.Path.{◌≡◌, ap, sym, ◌∙◌}
use mathlib.Core.Bool.{false}
use Prim.Native.Nat.{ℕ}
use native.Mathlib.Omega.{arith}
use Rattle.numeric.specs.declared.refusal.Refusal.{Refusal}
use Rattle.numeric.specs.declared.refusal.Refusal.TheVariants.{SettingOutOfRange}
use Rattle.tdcp.specs.Valid.{settings_pass}
use Rattle.tdcp.specs.declared.displacement.Settings.{Settings}
use Rattle.tdcp.specs.Displacement.{Input, Promised}
use Rattle.tdcp.specs.declared.displacement.Delta.{Delta}
use Rattle.trip.specs.Words.{added_held}
use Rattle.trip.specs.declared.trip.Trip.{Trip}
use Rattle.trip_settings.specs.Drive.{under_new, travel_with, travel_by, travelled_of, Travels}
use Rattle.trip_settings.specs.declared.drive.Travelled.{Travelled}

-- ---- the code's cases

module _ (s : Settings) (t : Result Trip Refusal) where
  pub new-refused : settings_pass s ≡ false → Err SettingOutOfRange ≡ under_new s t
  unfolding under_new
  new-refused h = rw h

-- ---- an accepted one

no_travel : {r : Refusal} {w : Travelled} → Err r ≡ Ok w → ⊥
no_travel e = let z : ◌≡◌ {A = ℕ} 0 1 = cc in omega arith

same-moved : {v w : Travelled} → ◌≡◌ {A = Result Travelled Refusal} (Ok v) (Ok w) → v ≡ w
same-moved e = cc

with-moved : (d : Delta) (s : Result Trip Refusal) (w : Travelled) → travel_with d s ≡ Ok w → d ≡ w.moved
with-moved d (Err r) w e = absurd (no_travel e)
with-moved d (Ok t) w e = ap (λ (z : Travelled). z.moved) (same-moved e)

-- is that of the displacement
pub by-moved : (t : Result Trip Refusal) (pulses : ℕ) (a : Result Delta Refusal) (w : Travelled) → travel_by t pulses a ≡ Ok w → a ≡ Ok w.moved
unfolding travel_by
by-moved t pulses (Err r) w e = absurd (no_travel e)
by-moved t pulses (Ok d) w e = ap Ok (with-moved d (added_held t d.delta pulses) w e)

-- the promise, from that of the displacement
pub travels : (t : Trip) (i : Input) (pulses : ℕ) {a : Result Delta Refusal} {r : Result Travelled Refusal} → Promised i a → r ≡ travel_by (Ok t) pulses a → Travels t i pulses r
unfolding travelled_of
travels t i pulses {a} {r} p e =
    record {
      is = e ∙ ap (travel_by (Ok t) pulses) p.answer;
      accepted = λ w h. p.accepted w.moved (by-moved (Ok t) pulses a w (sym e ∙ h));
    }
