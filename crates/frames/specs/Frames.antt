-- A displacement as north, east, down (docs/SCOPE.md, "North, east, down": `to_lla` and `dcm_ecef_from_ned` of frames.rs, without their angles). Definitions only.
use Rattle.std.specs.Prelude.{Result, Ok, Err}
use Rattle.numeric.specs.declared.refusal.Refusal.{Refusal}
use Rattle.std.specs.Prelude.{◌≡◌, Bool, true, cond, ◌&&◌, ℕ, List, [], ◌∷◌, Float}
use Rattle.std.specs.Float.Ieee.{neg, lt, le}
use Rattle.std.specs.Float.Ieee.Scale.{finite}
use Rattle.exact.specs.Float.{◌⊕◌, ◌⊖◌, ◌⊗◌, ◌⊘◌, +0, 1·0, decimal}
use Rattle.numeric.specs.Real.{hypot, -1·0}
use Rattle.numeric.specs.Order.{pattern_of}
use Rattle.numeric.specs.Vec3.{vector_in_range}
use Rattle.numeric.specs.declared.vec3.Vec3.{Vec3}
use Rattle.numeric.specs.declared.refusal.Refusal.TheVariants.{NotTurned}
use Rattle.frames.specs.Earth.{major_axis, minor_axis, first_square, second_square}
use Rattle.frames.specs.declared.frames.Ned.{Ned}
use Rattle.frames.specs.declared.frames.Angle.{Angle}

-- ---- angles by their sines and cosines

-- s and c over the root of the sum of their squares
unfoldable pub towards : Float → Float → Angle
towards s c = let h = hypot s c in record { sin = s ⊘ h; cos = c ⊘ h }

-- so near to the axis there is no east-west
abbrev pub on_axis : Float → Bool
on_axis p = lt p (decimal 1 9)

-- east-west, at the distance p from the axis: y / p and x / p
unfoldable pub longitude : Float → Float → Float → Angle
longitude x y p = cond (on_axis p) (record { sin = +0; cos = 1·0 }) (record { sin = y ⊘ p; cos = x ⊘ p })

-- the helper latitude: z · A and p · B, over theirs
unfoldable pub helper : Float → Float → Angle
helper p z = towards (z ⊗ major_axis) (p ⊗ minor_axis)

-- the third power, (s · s) · s
abbrev pub cube : Float → Float
cube s = s ⊗ s ⊗ s

-- Bowring's numerator z + (EP2 · B) · s³ and denominator p − (E2 · A) · c³, by the helper's sine and cosine, over theirs
unfoldable pub bowring : Float → Float → Angle → Angle
bowring p z t = towards (z ⊕ second_square ⊗ minor_axis ⊗ cube t.sin) (p ⊖ first_square ⊗ major_axis ⊗ cube t.cos)

-- the latitude. On the axis: cosine 0, and sine 1 for z at or above 0, -1 below
unfoldable pub latitude : Float → Float → Angle
latitude p z = cond (on_axis p) (record { sin = cond (le +0 z) 1·0 -1·0; cos = +0 }) (bowring p z (helper p z))

-- ---- the turned vector

-- the transposed `dcm_ecef_from_ned` times v, each component's three products summed left to right
unfoldable pub axis_turned : Angle → Angle → Vec3 → Ned
axis_turned lon lat v = record {
  n = neg lat.sin ⊗ lon.cos ⊗ v.x ⊕ neg lat.sin ⊗ lon.sin ⊗ v.y ⊕ lat.cos ⊗ v.z;
  e = neg lon.sin ⊗ v.x ⊕ lon.cos ⊗ v.y ⊕ +0 ⊗ v.z;
  d = neg lat.cos ⊗ lon.cos ⊗ v.x ⊕ neg lat.cos ⊗ lon.sin ⊗ v.y ⊕ neg lat.sin ⊗ v.z;
}

-- v at the position r
unfoldable pub ned_at : Vec3 → Vec3 → Ned
ned_at r v = let p = hypot r.x r.y in axis_turned (longitude r.x r.y p) (latitude p r.z) v

-- the patterns of north, east and down
abbrev pub ned_patterns : Ned → List ℕ
ned_patterns v = pattern_of v.n ∷ pattern_of v.e ∷ pattern_of v.d ∷ []

-- ---- the answer: 19 where a coordinate is not finite or above 1e9 in magnitude, or where a component of the result is not finite

unfoldable pub all_finite : Ned → Bool
all_finite v = finite v.n && finite v.e && finite v.d

unfoldable pub north_east_down : Vec3 → Vec3 → Result Ned Refusal
north_east_down position displacement =
    let v = ned_at position displacement in
    cond (vector_in_range position && vector_in_range displacement && all_finite v) (Ok v) (Err NotTurned)

-- every displacement given is finite
abbrev pub DirectionFinite : Result Ned Refusal → Type 0
DirectionFinite (Err r) = Unit {0}
DirectionFinite (Ok v) = all_finite v ≡ true
