-- The marked trials of the centre (docs/SCOPE.md, "Trials at the edges"), by computation. Assumes nothing.
use Rattle.std.specs.Prelude.{Ok}
use Prim.Native.Nat.{ℕ}
use mathlib.Core.Path.{◌≡◌, refl}
use mathlib.Core.List.{List, [], ◌∷◌}
use lib.Ieee.{of_bits, of_int, to_bits, is_nan, lt, eq, add, sub, mul, div}
use Rattle.exact.specs.Float.{+0, 1·0, bits}
use Rattle.exact.specs.Pattern.{sign}
use Rattle.numeric.specs.Order.{total_order, pattern_of}
use Rattle.numeric.specs.Real.{abs}
use Rattle.median.specs.Sorted.{insert_by, sorted_by, median_of}
use Rattle.median.specs.Centre.{centre_of, deviation_of, deviations_of, scale_of, centre_and_scale_of, centre_scale_of}

-- 3, 1, 2, 4
abbrev pub residuals : List ℕ
residuals = 0x4008_0000_0000_0000 ∷ 0x3FF0_0000_0000_0000 ∷ 0x4000_0000_0000_0000 ∷ 0x4010_0000_0000_0000 ∷ []

-- (m4) empty gives (0, 1)
pub m4 : centre_scale_of [] ≡ Ok (record { centre = +0; scale = 1·0 })
unfolding centre_scale_of centre_and_scale_of
m4 = refl

-- (m5) the centre is 3, and the median deviation 1
pub m5-centre : centre_of residuals ≡ bits 0x4008_0000_0000_0000
unfolding centre_of median_of sorted_by insert_by total_order lt eq of_bits
m5-centre = refl

pub m5_deviation : median_of (deviations_of (centre_of residuals) residuals) ≡ 0x3FF0_0000_0000_0000
unfolding centre_of median_of sorted_by insert_by total_order sign lt eq of_bits deviation_of pattern_of abs is_nan to_bits sub
m5_deviation = refl

-- the scale is then 1.482601
pub m5-scale : scale_of residuals ≡ bits 0x3FF7_B8BB_D380_4534
unfolding scale_of centre_of median_of sorted_by insert_by total_order sign lt eq of_bits deviation_of pattern_of abs is_nan to_bits add sub mul div of_int
m5-scale = refl
