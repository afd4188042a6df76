-- The line of sight from a satellite to a receiver, `geometry` of wls.rs and tdcp.rs, and its refusal (docs/SCOPE.md, "Line of sight"). Definitions only.
use Rattle.std.specs.Prelude.{Result, Ok, Err}
use Rattle.numeric.specs.declared.refusal.Refusal.{Refusal}
use Rattle.std.specs.Prelude.{ℕ, Bool, not, cond, ◌||◌, Float}
use Rattle.std.specs.Float.Ieee.{neg, eq}
use Rattle.std.specs.Float.Ieee.Scale.{finite}
use Rattle.exact.specs.Float.{◌⊕◌, ◌⊗◌, ◌⊘◌, +0, whole, decimal}
use Rattle.numeric.specs.Real.{travel_sine, travel_cosine}
use Rattle.numeric.specs.Vec3.{sub, norm}
use Rattle.numeric.specs.Refusal.{number_of}
use Rattle.numeric.specs.declared.vec3.Vec3.{Vec3}
use Rattle.numeric.specs.declared.refusal.Refusal.TheVariants.{OnReceiver}
use Rattle.numeric.specs.declared.sight.Sight.{Sight}

-- IS-GPS-200: the speed of light, 299,792,458 m/s, and the earth's rotation rate, 7.2921151467e-5 rad/s
abbrev pub light_speed : Float
light_speed = whole 299792458

abbrev pub earth_rate : Float
earth_rate = decimal 72921151467 15

-- the angle by which the earth turns while a signal travels the distance d
unfoldable pub travel_angle : Float → Float
travel_angle d = earth_rate ⊗ d ⊘ light_speed

-- the place s, turned about the earth's axis by the travel angle t
unfoldable pub turned : Vec3 → Float → Vec3
turned s t =
    let sin = travel_sine t in
    let cos = travel_cosine t in
    record { x = s.x ⊗ cos ⊕ s.y ⊗ sin; y = neg s.x ⊗ sin ⊕ s.y ⊗ cos; z = s.z }

-- from the satellite, turned with the earth while its signal travels the distance, to the receiver
unfoldable pub gap : Vec3 → Vec3 → Float → Vec3
gap satellite receiver distance = sub receiver (turned satellite (travel_angle distance))

-- the unit vector along the way d, which is as long as the range
unfoldable pub along : Vec3 → Float → Sight
along d range = record { x = d.x ⊘ range; y = d.y ⊘ range; z = d.z ⊘ range; range = range }

-- the line of sight as the formulas give it, whatever its range: the signal travels the distance of the two places
unfoldable pub sight_of : Vec3 → Vec3 → Sight
sight_of satellite receiver =
    let d = gap satellite receiver (norm (sub satellite receiver)) in
    along d (norm d)

-- 15: the range is zero or not finite
unfoldable pub on_receiver : Float → Bool
on_receiver range = eq range +0 || not (finite range)

-- the geometry of one satellite: refused where the range that it gives is zero or not finite
unfoldable pub geometry : Vec3 → Vec3 → Result Sight Refusal
geometry satellite receiver = cond (on_receiver (sight_of satellite receiver).range) (Err OnReceiver) (Ok (sight_of satellite receiver))
