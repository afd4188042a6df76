-- Worked values of the sort and of the median, by computation. Assumes nothing.
use mathlib.Core.Path.{◌≡◌, refl}
use mathlib.Core.List.{[], ◌∷◌}
use lib.Ieee.{of_bits, lt, eq}
use Rattle.exact.specs.Pattern.{sign, exponent, digits}
use Rattle.numeric.specs.Order.{is_nan_pattern, unordered, total_order}
use Rattle.median.specs.Sorted.{insert_by, sorted_by, in_total_order, median_of}

-- negative NaN, -infinity, -1, -0, +0, 1, infinity, NaN, from the reverse order
pub sorted-signs : in_total_order (
    0x7FF8_0000_0000_0000
    ∷ 0x7FF0_0000_0000_0000
    ∷ 0x3FF0_0000_0000_0000
    ∷ 0
    ∷ 0x8000_0000_0000_0000
    ∷ 0xBFF0_0000_0000_0000
    ∷ 0xFFF0_0000_0000_0000
    ∷ 0xFFF8_0000_0000_0000
    ∷ [])
    ≡ 0xFFF8_0000_0000_0000
    ∷ 0xFFF0_0000_0000_0000
    ∷ 0xBFF0_0000_0000_0000
    ∷ 0x8000_0000_0000_0000
    ∷ 0
    ∷ 0x3FF0_0000_0000_0000
    ∷ 0x7FF0_0000_0000_0000
    ∷ 0x7FF8_0000_0000_0000
    ∷ []
unfolding sorted_by insert_by total_order unordered is_nan_pattern exponent digits sign lt eq of_bits
sorted-signs = refl

-- of 1 and 2 the median is 2
pub median_two : median_of (0x3FF0_0000_0000_0000 ∷ 0x4000_0000_0000_0000 ∷ []) ≡ 0x4000_0000_0000_0000
unfolding median_of sorted_by insert_by total_order unordered is_nan_pattern exponent digits sign lt eq of_bits
median_two = refl

-- of a negative NaN, 1 and 2 it is 1
pub median_negative-nan : median_of (0xFFF8_0000_0000_0000 ∷ 0x3FF0_0000_0000_0000 ∷ 0x4000_0000_0000_0000 ∷ []) ≡ 0x3FF0_0000_0000_0000
unfolding median_of sorted_by insert_by total_order unordered is_nan_pattern exponent digits sign lt eq of_bits
median_negative-nan = refl
