-- The raw corrections of an epoch, in the order of its ranges (`build` of differential.rs, its first loop). Definitions only.
use Rattle.std.specs.Prelude.{ℕ, min, Bool, false, cond, ◌&&◌, List, [], ◌∷◌, eqb, get_or, Float}
use Rattle.std.specs.Float.Ieee.{neg}
use Rattle.exact.specs.Float.{◌⊕◌, ◌⊖◌, ◌⊗◌, ◌⊘◌}
use Rattle.lists.specs.Walk.{first, collect}
use Rattle.numeric.specs.Vec3.{sub, norm}
use Rattle.numeric.specs.Sight.{light_speed, travel_angle, turned}
use Rattle.numeric.specs.declared.vec3.Vec3.{Vec3}
use Rattle.corrections_epoch.specs.declared.record.Range.{Range}
use Rattle.corrections_epoch.specs.declared.record.State.{State}
use Rattle.corrections_epoch.specs.declared.record.Settings.{Settings}
use Rattle.corrections_epoch.specs.declared.raw.Raw.{Raw}

-- constellations from 7 up share one place
unfoldable pub enabled : Settings → ℕ → Bool
enabled set c = get_or set.constellations (min c 7) false

-- the state s is that of the range's satellite and signal
unfoldable pub is_state_of : Range → State → Bool
is_state_of r s = eqb s.constellation r.constellation && eqb s.svid r.svid && eqb s.band r.band

unfoldable pub distance : Vec3 → Vec3 → Float
distance p o = norm (sub p o)

-- the satellite's place, delta seconds later
unfoldable pub shifted : State → Float → Vec3
shifted s delta =
    record {
      x = s.position.x ⊕ s.velocity.x ⊗ delta;
      y = s.position.y ⊕ s.velocity.y ⊗ delta;
      z = s.position.z ⊕ s.velocity.z ⊗ delta;
    }

-- The measured range, with the satellite's clock and the modelled delay taken out, less the distance to the satellite: its place is moved from the rover's
-- transmission time to the base's, and turned with the earth while the signal travels.
unfoldable pub raw_value : Vec3 → Vec3 → Range → State → Float
raw_value base rover r s =
    let nominal = distance s.position base in
    let delta = neg (nominal ⊖ distance s.position rover) ⊘ light_speed in
    let rotated = turned (shifted s delta) (travel_angle nominal) in
    r.pseudorange ⊕ s.clock ⊖ s.modelled ⊖ distance rotated base

abbrev pub raw_of : Vec3 → Vec3 → Range → State → Raw
raw_of base rover r s = record { constellation = r.constellation; svid = r.svid; band = r.band; value = raw_value base rover r s }

-- the raw correction by the first state of the range's satellite and signal, if there is one
unfoldable pub first_raw : Vec3 → Vec3 → List State → Range → List Raw
first_raw base rover states r = first (is_state_of r) (λ s. raw_of base rover r s ∷ []) [] states

-- what a range gives: that correction, if its constellation is enabled
unfoldable pub raw_at : Settings → Vec3 → Vec3 → List State → Range → List Raw
raw_at set base rover states r = cond (enabled set r.constellation) (first_raw base rover states r) []

unfoldable pub raws_of : Settings → Vec3 → Vec3 → List State → List Range → List Raw
raws_of set base rover states ranges = collect (raw_at set base rover states) ranges
