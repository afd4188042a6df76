-- A worked value of adding. Assumes nothing.
use mathlib.Core.Path.{◌≡◌, refl}
use mathlib.Core.List.{List, [], ◌∷◌}
use lib.Ieee.{Float, lt, eq, of_bits, of_int, to_bits, is_nan}
use Rattle.exact.specs.Float.{whole}
use Rattle.exact.specs.Pattern.{sign}
use Rattle.numeric.specs.Order.{total_order, pattern_of}
use Rattle.corrections_table.specs.Table.{time_before, stands_before}
use Rattle.corrections_table.specs.Add.{insert, insert_all}
use Rattle.corrections_table.specs.declared.sample.Sample.{Sample}

abbrev sample : Float → Float → Sample
sample t x = record { constellation = 1; svid = 5; band = 1; time = t; correction = x }

-- samples (10 s, 1 m) and (20 s, 3 m)
abbrev two : List Sample
two = sample (whole 10) (whole 1) ∷ sample (whole 20) (whole 3) ∷ []

-- a sample of equal time goes after the one that is there
pub equal-time : insert_all two (sample (whole 10) (whole 7) ∷ []) ≡ sample (whole 10) (whole 1) ∷ sample (whole 10) (whole 7) ∷ sample (whole 20) (whole 3) ∷ []
unfolding insert_all insert stands_before time_before total_order sign pattern_of lt eq of_bits of_int to_bits is_nan
equal-time = refl
