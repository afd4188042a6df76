-- Worked values of exact numbers and of the rounded operations. Assumes nothing.
use mathlib.Core.Path.{◌≡◌, refl}
use Prim.Native.Nat.{◌-◌, ◌*◌, ◌^◌}
use lib.IntN.{pos}
use lib.Signed.{le_z_yes, lt_z_yes}
use lib.Ieee.{nan, inf, fin, lt, le, eq, ne, add, sub, mul, div, of_bits}
use mathlib.Core.Bool.{true, false}
use Rattle.exact.specs.Float.{◌⊕◌, ◌⊖◌, ◌⊗◌, ◌⊘◌, +0, 1·0, bits}
use Rattle.exact.specs.Value.{scale, magnitude, value}
use Rattle.exact.specs.Number.{Number, ◌+ₑ◌, ◌-ₑ◌, ◌*ₑ◌, ∣◌∣, ◌≤ₑ◌, ◌<ₑ◌, 0ₑ, 1ₑ, 2^-◌, Σ, exactly}

-- 1 + 1/2 = 3/2
one_and_a_half : 1ₑ +ₑ 2^- 1 ≡ record { whole = pos 3; places = 1 }
unfolding ◌+ₑ◌ 1ₑ 2^-◌
one_and_a_half = refl

-- 1/2 * 1/4 = 1/8
product : 2^- 1 *ₑ 2^- 2 ≡ 2^- 3
unfolding ◌*ₑ◌ 2^-◌
product = refl

-- |0 - 1/2| = 1/2
distance : ∣ 0ₑ -ₑ 2^- 1 ∣ ≡ 2^- 1
unfolding ◌-ₑ◌ ∣◌∣ 0ₑ 2^-◌
distance = refl

-- 1/4 <= 1/2
quarter : 2^- 2 ≤ₑ 2^- 1
unfolding ◌≤ₑ◌ 2^-◌
quarter = le_z_yes tt

-- 1 + 1/2 + 1/4 = 14/8
three : Σ 3 (λ k. 2^- k) ≡ record { whole = pos 14; places = 3 }
unfolding Σ ◌+ₑ◌ 0ₑ 2^-◌
three = refl

-- the double nearest to 0.1 is 3602879701896397 / 2^55, in units of 2^-1074, and ten times that is more than 1
tenth : exactly (bits 0x3FB9_9999_9999_999A) ≡ record { whole = pos (3602879701896397 * 2 ^ 1019); places = 1074 }
unfolding exactly value magnitude scale of_bits
tenth = refl

ten : Number
ten = record { whole = pos 10; places = 0 }

tenth-over : 1ₑ <ₑ ten *ₑ exactly (bits 0x3FB9_9999_9999_999A)
unfolding ten ◌<ₑ◌ ◌*ₑ◌ 1ₑ exactly value magnitude scale of_bits
tenth-over = lt_z_yes tt

-- ---- patterns
-- the smallest double, the largest subnormal one and the smallest normal one, in units
smallest : magnitude (bits 1) ≡ 1
unfolding magnitude scale of_bits
smallest = refl

subnormal : magnitude (bits 0x000F_FFFF_FFFF_FFFF) ≡ 2 ^ 52 - 1
unfolding magnitude scale of_bits
subnormal = refl

normal : magnitude (bits 0x0010_0000_0000_0000) ≡ 2 ^ 52
unfolding magnitude scale of_bits
normal = refl

-- -0, an infinity, and NaNs of either sign, signaling and quiet
minus-zero : bits 0x8000_0000_0000_0000 ≡ fin true 0 (pos 0)
unfolding of_bits
minus-zero = refl

infinite : bits 0xFFF0_0000_0000_0000 ≡ inf true
unfolding of_bits
infinite = refl

signaling : bits 0x7FF0_0000_0000_0001 ≡ nan
unfolding of_bits
signaling = refl

quiet : bits 0xFFF8_0000_0000_0000 ≡ nan
unfolding of_bits
quiet = refl

-- ---- comparisons
-- -0 and +0 are equal, and neither is less
zeros_equal : eq (bits 0x8000_0000_0000_0000) +0 ≡ true
unfolding eq of_bits
zeros_equal = refl

zeros_not_less : lt (bits 0x8000_0000_0000_0000) +0 ≡ false
unfolding lt of_bits
zeros_not_less = refl

-- a NaN is not even equal to itself
nan_not_itself : eq nan nan ≡ false
unfolding eq
nan_not_itself = refl

nan_not_below : le nan (inf false) ≡ false
unfolding le
nan_not_below = refl

nan-other : ne nan 1·0 ≡ true
unfolding ne
nan-other = refl

-- from -∞ up: the most negative double, the negative one nearest to 0, +0, 1 and the next, +∞
least : lt (inf true) (bits 0xFFEF_FFFF_FFFF_FFFF) ≡ true
unfolding lt of_bits
least = refl

below-zero : lt (bits 0x8000_0000_0000_0001) +0 ≡ true
unfolding lt of_bits
below-zero = refl

next-after-one : lt 1·0 (bits 0x3FF0_0000_0000_0001) ≡ true
unfolding lt of_bits
next-after-one = refl

greatest : le (bits 0x7FEF_FFFF_FFFF_FFFF) (inf false) ≡ true
unfolding le of_bits
greatest = refl

-- ---- the operations
-- 0.1 + 0.2 is the double above 0.3
tenths : bits 0x3FB9_9999_9999_999A ⊕ bits 0x3FC9_9999_9999_999A ≡ bits 0x3FD3_3333_3333_3334
unfolding add of_bits
tenths = refl

-- 2^53 + 1 lies half way from 2^53 to 2^53 + 2, and 2^53 + 3 half way from there to 2^53 + 4: to the even one
tie_down : bits 0x4340_0000_0000_0000 ⊕ 1·0 ≡ bits 0x4340_0000_0000_0000
unfolding add of_bits
tie_down = refl

tie_up : bits 0x4340_0000_0000_0001 ⊕ 1·0 ≡ bits 0x4340_0000_0000_0002
unfolding add of_bits
tie_up = refl

-- the largest double, 2^1024 - 2^971, and 2^970, or the double below that
at-limit : bits 0x7FEF_FFFF_FFFF_FFFF ⊕ bits 0x7C90_0000_0000_0000 ≡ inf false
unfolding add of_bits
at-limit = refl

below-limit : bits 0x7FEF_FFFF_FFFF_FFFF ⊕ bits 0x7C8F_FFFF_FFFF_FFFF ≡ bits 0x7FEF_FFFF_FFFF_FFFF
unfolding add of_bits
below-limit = refl

-- half of the smallest double is rounded to 0, with the product's sign
underflow : bits 0x8000_0000_0000_0001 ⊗ bits 0x3FE0_0000_0000_0000 ≡ bits 0x8000_0000_0000_0000
unfolding mul of_bits
underflow = refl

-- signs of 0
opposite : 1·0 ⊖ 1·0 ≡ +0
unfolding sub of_bits
opposite = refl

both-minus : bits 0x8000_0000_0000_0000 ⊕ bits 0x8000_0000_0000_0000 ≡ bits 0x8000_0000_0000_0000
unfolding add of_bits
both-minus = refl

one-minus : +0 ⊕ bits 0x8000_0000_0000_0000 ≡ +0
unfolding add of_bits
one-minus = refl

-- by 0
by_zero : 1·0 ⊘ bits 0x8000_0000_0000_0000 ≡ inf true
unfolding div of_bits
by_zero = refl

zero_by_zero : +0 ⊘ +0 ≡ nan
unfolding div of_bits
zero_by_zero = refl
