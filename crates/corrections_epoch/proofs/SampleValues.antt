-- Worked values of the samples of an epoch. Assumes nothing.
use mathlib.Core.Path.{◌≡◌, refl}
use mathlib.Core.List.{[], ◌∷◌}
use Prim.Native.Nat.{ℕ}
use lib.Ieee.{Float, neg, lt, eq, add, sub, of_bits, of_int, to_bits, is_nan}
use Rattle.exact.specs.Float.{+0, whole}
use Rattle.lists.specs.Walk.{collect}
use Rattle.exact.specs.Pattern.{sign}
use Rattle.numeric.specs.Order.{total_order, pattern_of}
use Rattle.numeric.specs.Real.{abs}
use Rattle.median.specs.Sorted.{median_of, sorted_by, insert_by}
use Rattle.corrections_table.specs.declared.sample.Sample.{Sample}
use Rattle.corrections_epoch.specs.Sample.{group, clock_of, kept, corrected, sample_at, samples_of}
use Rattle.corrections_epoch.specs.declared.raw.Raw.{Raw}

abbrev raw : ℕ → ℕ → ℕ → Raw
raw c v x = record { constellation = c; svid = v; band = 1; value = whole x }

abbrev sample : ℕ → ℕ → Float → Sample
sample c v x = record { constellation = c; svid = v; band = 1; time = whole 10; correction = x }

-- 5, 9 and 8 m have the clock 8 m; the correction of 1 m is equal to the maximum and kept, that of −3 m is not
pub clock_removed : samples_of (whole 10) (whole 1) (raw 1 2 5 ∷ raw 1 3 9 ∷ raw 1 4 8 ∷ []) ≡ sample 1 3 (whole 1) ∷ sample 1 4 +0 ∷ []
unfolding samples_of sample_at group clock_of kept corrected collect median_of sorted_by insert_by total_order sign pattern_of abs lt eq neg add sub of_bits of_int to_bits is_nan
clock_removed = refl

-- groups under three yield nothing: here two of constellation 1 and one of constellation 6
pub groups-under-three : samples_of (whole 10) (whole 100) (raw 1 2 5 ∷ raw 6 3 9 ∷ raw 1 4 8 ∷ []) ≡ []
unfolding samples_of sample_at group collect
groups-under-three = refl

-- nor do constellations 8 and above
pub constellation-eight : samples_of (whole 10) (whole 100) (raw 8 2 5 ∷ raw 8 3 9 ∷ raw 8 4 8 ∷ []) ≡ []
unfolding samples_of sample_at group collect
constellation-eight = refl
