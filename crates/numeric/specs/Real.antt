-- The stand-ins with which the Rust is run (docs/SCOPE.md, "The reference"), in its order, and the tests of a float that its refusals name. Definitions only.
-- The root itself is `root_of` of Root.antt. Every definition is for every float: a NaN and the infinities go through the operations as IEEE 754 has them.
use Rattle.std.specs.Prelude.{ℕ, zero, suc, ◌*◌, Bool, false, cond, ◌&&◌, Float}
use mathlib.Core.List.{[], ◌∷◌, foldl}
use Rattle.std.specs.Float.{nan, inf, fin}
use Rattle.std.specs.Float.Ieee.{neg, lt, le, is_nan}
use Rattle.std.specs.Float.Ieee.Scale.{finite}
use Rattle.exact.specs.Float.{◌⊕◌, ◌⊖◌, ◌⊗◌, ◌⊘◌, 1·0, bits, whole}
use Rattle.root.specs.Root.{root_of}

-- `powi(2)`: the number times itself
unfoldable pub square : Float → Float
square x = x ⊗ x

-- `a.hypot(b)`: the root of a · a + b · b
unfoldable pub hypot : Float → Float → Float
hypot a b = root_of (a ⊗ a ⊕ b ⊗ b)

-- ---- `sin_cos` of a travel angle

-- 2 ^ -10, the largest travel angle that has a sine and a cosine
abbrev pub travel_limit : Float
travel_limit = bits 0x3F50_0000_0000_0000

-- t − ((t · t) · t) / 6 for t at most 2 ^ -10, a negative t too, otherwise NaN
unfoldable pub travel_sine : Float → Float
travel_sine t = cond (le t travel_limit) (t ⊖ ((t ⊗ t) ⊗ t) ⊘ whole 6) nan

-- 1 − (t · t) / 2 for t at most 2 ^ -10, otherwise NaN
unfoldable pub travel_cosine : Float → Float
travel_cosine t = cond (le t travel_limit) (1·0 ⊖ (t ⊗ t) ⊘ whole 2) nan

-- ---- `to_radians`

-- the double nearest pi, 3.141592653589793
abbrev pub pi : Float
pi = bits 0x4009_21FB_5444_2D18

-- times the rounded quotient of the double nearest pi by 180
unfoldable pub radians : Float → Float
radians x = x ⊗ (pi ⊘ whole 180)

-- ---- `sin` of an elevation

unfoldable pub factorial : ℕ → ℕ
factorial zero = 1
factorial (suc n) = suc n * factorial n

-- n! as a float, exact for every n used here
infix 80 ◌!
abbrev pub ◌! : ℕ → Float
n ! = whole (factorial n)

abbrev pub -1·0 : Float
-1·0 = neg 1·0

-- z = t · t; s starts as −1/15!; for c = 1/13!, −1/11!, 1/9!, −1/7!, 1/5!, −1/3! in turn s becomes s · z + c; the sine is t + t · (z · s)
unfoldable pub elevation_sine : Float → Float
elevation_sine t =
    let z = t ⊗ t in
    let cs = 1·0 ⊘ 13 ! ∷ -1·0 ⊘ 11 ! ∷ 1·0 ⊘ 9 ! ∷ -1·0 ⊘ 7 ! ∷ 1·0 ⊘ 5 ! ∷ -1·0 ⊘ 3 ! ∷ [] in
    let s = foldl (λ s c. s ⊗ z ⊕ c) (-1·0 ⊘ 15 !) cs in
    t ⊕ t ⊗ (z ⊗ s)

-- ---- `abs` and `max`

-- IEEE 754-2019, 5.5.1, abs: the sign bit is cleared, so that −0 becomes +0; a NaN is a NaN
unfoldable pub abs : Float → Float
abs nan = nan
abs (inf s) = inf false
abs (fin s m e) = fin false m e

-- A maximum with one NaN gives the other operand. Where neither is below the other, as for +0 and −0, it is a.
unfoldable pub max : Float → Float → Float
max a b = cond (is_nan a) b (cond (is_nan b) a (cond (lt a b) b a))

-- ---- the tests of refusals 3 and 4; `finite`, neither a NaN nor an infinity, is the library's

-- finite and not above 1e9 in magnitude: 1e9 and −1e9 pass
unfoldable pub in_range : Float → Bool
in_range x = finite x && le (abs x) (whole 1000000000)
