-- What inner functions of a mileage promise. Definitions only.
use Rattle.std.specs.Prelude.{◌≡◌, ℕ, ◌≤◌, ◌<◌, true, cond, eqb}
use Rattle.numeric.specs.Vec3.{norm}
use Rattle.numeric.specs.declared.vec3.Vec3.{Vec3}
use Rattle.trip.specs.Steps.{way_of}
use Rattle.mileage.specs.Mileage.{sound_mileage}
use Rattle.mileage.specs.declared.mileage.Mileage.{Mileage}

-- what an addition needs of a displacement: its way where it was accepted, and 0 where it was refused by a number
unfoldable pub way_for : ℕ → Vec3 → ℕ
way_for refused d = cond (eqb refused 0) (way_of (norm d)) 0

-- a sound mileage that is not full grows by an epoch of so many millimetres and pulses
pub record GrowsBy (m : Mileage) (millimetres pulses : ℕ) : Type 0 where
  pub is-sound : sound_mileage m ≡ true
  pub room : m.epochs < 65535
  pub short : millimetres ≤ 1000000
  pub few : pulses ≤ 65535
