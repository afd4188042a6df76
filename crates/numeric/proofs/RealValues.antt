-- Worked values of the definitions of Real, Vec3 and Sight, by computation. Assumes nothing.
use Rattle.std.specs.Prelude.{Err}
use mathlib.Core.Path.{◌≡◌, refl}
use mathlib.Core.Bool.{true, false}
use mathlib.Core.List.{[], ◌∷◌}
use lib.IntN.{negsuc}
use lib.Ieee.{Float, nan, inf, fin, neg, add, sub, mul, div, eq, lt, le, is_nan, of_int, of_bits}
use Rattle.exact.specs.Float.{◌⊘◌, +0, 1·0, bits, whole}
use Rattle.root.specs.Root.{root_of}
use Rattle.numeric.specs.Real.{square, hypot, travel_limit, travel_sine, travel_cosine, pi, radians, factorial, ◌!, -1·0, elevation_sine, abs, max, in_range}
use Rattle.numeric.specs.Vec3.{add as vec-plus, sub as vec-minus, norm}
use Rattle.numeric.specs.Sight.{earth_rate, travel_angle, turned, gap, along, sight_of, on_receiver, geometry}
use Rattle.numeric.specs.declared.vec3.Vec3.{Vec3}
use Rattle.numeric.specs.declared.refusal.Refusal.TheVariants.{OnReceiver}

-- ---- square and hypot

-- 1.1 squared is 1.2100000000000002
pub square-rounds : square (bits 0x3FF1_9999_9999_999A) ≡ bits 0x3FF3_5C28_F5C2_8F5D
unfolding square mul of_bits
square-rounds = refl

pub hypot-whole : hypot (whole 3) (whole 4) ≡ whole 5
unfolding hypot mul add root_of of_int
hypot-whole = refl

-- the root of 2
pub hypot-one : hypot 1·0 1·0 ≡ bits 0x3FF6_A09E_667F_3BCD
unfolding hypot mul add root_of of_bits
hypot-one = refl

-- ---- travel angles

-- 1 * 2 ^ -10
pub limit : travel_limit ≡ fin false 1 (negsuc 9)
unfolding of_bits
limit = refl

-- the limit itself passes
pub sine_limit : travel_sine travel_limit ≡ bits 0x3F4F_FFFF_AAAA_AAAB
unfolding travel_sine travel_cosine le sub mul div of_int of_bits
sine_limit = refl

pub cosine_limit : travel_cosine travel_limit ≡ bits 0x3FEF_FFFF_0000_0000
unfolding travel_sine travel_cosine le sub mul div of_int of_bits
cosine_limit = refl

-- the next float does not
pub sine_above : travel_sine (bits 0x3F50_0000_0000_0001) ≡ nan
unfolding travel_sine travel_cosine le sub mul div of_int of_bits
sine_above = refl

pub cosine_above : travel_cosine (bits 0x3F50_0000_0000_0001) ≡ nan
unfolding travel_sine travel_cosine le sub mul div of_int of_bits
cosine_above = refl

-- a negative angle is at most 2 ^ -10: −5/6
pub sine_negative : travel_sine (neg 1·0) ≡ bits 0xBFEA_AAAA_AAAA_AAAB
unfolding travel_sine travel_cosine le sub mul div of_int of_bits neg
sine_negative = refl

pub cosine_negative : travel_cosine (neg 1·0) ≡ bits 0x3FE0_0000_0000_0000
unfolding travel_sine travel_cosine le sub mul div of_int of_bits neg
cosine_negative = refl

pub sine_nan : travel_sine nan ≡ nan
unfolding travel_sine travel_cosine le sub mul div of_int of_bits
sine_nan = refl

-- ---- degrees

-- the quotient that the code takes
pub degree : pi ⊘ whole 180 ≡ bits 0x3F91_DF46_A252_9D39
unfolding div of_int of_bits
degree = refl

pub half-turn : radians (whole 180) ≡ pi
unfolding radians mul div of_int of_bits
half-turn = refl

-- ---- the sine of an elevation

pub constants : -1·0 ⊘ 15 ! ∷ 1·0 ⊘ 13 ! ∷ -1·0 ⊘ 11 ! ∷ 1·0 ⊘ 9 ! ∷ -1·0 ⊘ 7 ! ∷ 1·0 ⊘ 5 ! ∷ -1·0 ⊘ 3 ! ∷ [] ≡ bits 0xBD6A_E7F3_E733_B81F ∷ bits 0x3DE6_1246_13A8_6D09 ∷ bits 0xBE5A_E645_67F5_44E4 ∷ bits 0x3EC7_1DE3_A556_C734 ∷ bits 0xBF2A_01A0_1A01_A01A ∷ bits 0x3F81_1111_1111_1111 ∷ bits 0xBFC5_5555_5555_5555 ∷ []
unfolding factorial neg div of_int of_bits
constants = refl

-- 1,307,674,368,000
pub largest-factorial : 15 ! ≡ bits 0x4273_0777_7580_0000
unfolding factorial of_int of_bits
largest-factorial = refl

pub sine_0 : elevation_sine +0 ≡ +0
unfolding elevation_sine factorial radians add mul div neg of_int of_bits
sine_0 = refl

-- 0.49999999999999994
pub sine_30 : elevation_sine (radians (whole 30)) ≡ bits 0x3FDF_FFFF_FFFF_FFFF
unfolding elevation_sine factorial radians add mul div neg of_int of_bits
sine_30 = refl

-- 0.9999999999939766
pub sine_90 : elevation_sine (radians (whole 90)) ≡ bits 0x3FEF_FFFF_FFFF_2C12
unfolding elevation_sine factorial radians add mul div neg of_int of_bits
sine_90 = refl

-- ---- abs and max

pub abs-minus-zero : abs (bits 0x8000_0000_0000_0000) ≡ +0
unfolding abs of_bits
abs-minus-zero = refl

pub abs-minus-five : abs (neg (whole 5)) ≡ whole 5
unfolding abs neg of_int
abs-minus-five = refl

pub abs-infinity : abs (inf true) ≡ inf false
unfolding abs
abs-infinity = refl

pub max-larger : max (whole 3) (whole 5) ≡ whole 5
unfolding max is_nan lt of_int
max-larger = refl

-- one NaN gives the other operand
pub max-nan-first : max nan (whole 3) ≡ whole 3
unfolding max is_nan of_int
max-nan-first = refl

pub max-nan-second : max (whole 3) nan ≡ whole 3
unfolding max is_nan of_int
max-nan-second = refl

-- neither zero is below the other: the first
pub max-zeros : max (bits 0x8000_0000_0000_0000) +0 ≡ bits 0x8000_0000_0000_0000
unfolding max is_nan lt of_bits
max-zeros = refl

-- ---- in range

pub at-limit : in_range (whole 1000000000) ≡ true
unfolding in_range abs le of_int of_bits
at-limit = refl

pub at-minus-limit : in_range (neg (whole 1000000000)) ≡ true
unfolding in_range abs le of_int of_bits neg
at-minus-limit = refl

-- the next float
pub above-limit : in_range (bits 0x41CD_CD65_0000_0001) ≡ false
unfolding in_range abs le of_int of_bits
above-limit = refl

pub no-infinity : in_range (inf true) ≡ false
unfolding in_range
no-infinity = refl

pub no_nan : in_range nan ≡ false
unfolding in_range
no_nan = refl

-- ---- vectors and the line of sight

abbrev vec : Float → Float → Float → Vec3
vec x y z = record { x = x; y = y; z = z }

pub vec-add : vec-plus (vec (whole 1) (whole 2) (whole 3)) (vec (whole 4) (whole 5) (whole 6)) ≡ vec (whole 5) (whole 7) (whole 9)
unfolding vec-plus add of_int
vec-add = refl

pub vec-sub : vec-minus (vec (whole 5) (whole 7) (whole 9)) (vec (whole 4) (whole 5) (whole 6)) ≡ vec (whole 1) (whole 2) (whole 3)
unfolding vec-minus sub of_int
vec-sub = refl

pub vec-norm : norm (vec (whole 3) (whole 4) (whole 12)) ≡ whole 13
unfolding norm mul add root_of of_int
vec-norm = refl

-- 7.2921151467e-5, as a compiler reads it
pub earth_rate_lem : earth_rate ≡ bits 0x3F13_1DA7_D7CB_8D5B
unfolding div of_int of_bits
earth_rate_lem = refl

-- a range of 23,403,217.284568273 m
pub sight : sight_of (vec (whole 15600000) (whole 7540000) (whole 20140000)) (vec (whole 6371000) (whole 1000) (neg (whole 2000))) ≡ record { x = bits 0xBFD9_3D04_F2BA_2812; y = bits 0xBFD4_9DCD_072D_30BB; z = bits 0xBFEB_8A73_C129_FB2E; range = bits 0x4176_51AD_148D_9776 }
unfolding sight_of gap along turned travel_angle travel_sine travel_cosine le norm vec-minus sub add mul div neg root_of of_int of_bits
sight = refl

-- a satellite at the receiver's own coordinates is not seen
pub on-top : geometry (vec (whole 6371000) (whole 1000) (neg (whole 2000))) (vec (whole 6371000) (whole 1000) (neg (whole 2000))) ≡ Err OnReceiver
unfolding geometry on_receiver eq sight_of gap along turned travel_angle travel_sine travel_cosine le norm vec-minus sub add mul div neg root_of of_int of_bits
on-top = refl
