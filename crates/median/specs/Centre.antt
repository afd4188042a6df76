-- The centre of residuals and their scale (docs/SCOPE.md, "Centre"; `centre_scale` of robust.rs). Definitions only.
-- A residual is a pattern, since total_order tells NaNs of either sign apart.
use Rattle.numeric.specs.Refusal.{answer_number}
use Rattle.std.specs.Prelude.{Result, Ok, Err}
use Rattle.numeric.specs.declared.refusal.Refusal.{Refusal}
use Rattle.std.specs.Prelude.{ℕ, ◌≡◌, cond, List, [], ◌∷◌, map, length, ltb, Float}
use Rattle.exact.specs.Float.{◌⊕◌, ◌⊖◌, ◌⊗◌, +0, 1·0, bits, decimal}
use Rattle.numeric.specs.Order.{pattern_of}
use Rattle.numeric.specs.Real.{abs}
use Rattle.numeric.specs.Refusal.{number_of}
use Rattle.numeric.specs.declared.refusal.Refusal.TheVariants.{TooMany}
use Rattle.median.specs.Sorted.{median_of}
use Rattle.median.specs.declared.centre.CentreScale.{CentreScale}

-- the residual at place len/2
unfoldable pub centre_of : List ℕ → Float
centre_of xs = bits (median_of xs)

-- the absolute deviation |x − centre|, as a pattern: a NaN's is the one that `pattern_of` names
unfoldable pub deviation_of : Float → ℕ → ℕ
deviation_of centre x = pattern_of (abs (bits x ⊖ centre))

-- the deviations of all residuals
abbrev pub deviations_of : Float → List ℕ → List ℕ
deviations_of centre xs = map (deviation_of centre) xs

-- 1.4826, from the median of absolute deviations to a standard deviation
abbrev pub mad_factor : Float
mad_factor = decimal 14826 4

-- 1e-6, what the scale is at least
abbrev pub least_scale : Float
least_scale = decimal 1 6

-- 1.4826 times the same place of the sorted absolute deviations, plus 1e-6
unfoldable pub scale_of : List ℕ → Float
scale_of xs = mad_factor ⊗ bits (median_of (deviations_of (centre_of xs) xs)) ⊕ least_scale

-- the centre and the scale; empty gives (0, 1)
unfoldable pub centre_and_scale_of : List ℕ → CentreScale
centre_and_scale_of [] = record { centre = +0; scale = 1·0 }
centre_and_scale_of (x ∷ xs) = record { centre = centre_of (x ∷ xs); scale = scale_of (x ∷ xs) }

-- refused by 2 if there are more than 64 residuals
unfoldable pub centre_scale_of : List ℕ → Result CentreScale Refusal
centre_scale_of xs = cond (ltb 64 (length xs)) (Err TooMany) (Ok (centre_and_scale_of xs))

-- its values: the centre and the scale
abbrev pub centre_floats : Result CentreScale Refusal → List Float
centre_floats (Err r) = []
centre_floats (Ok c) = c.centre ∷ c.scale ∷ []

-- the answer, its number and its values are those of the definition, for every list of residuals
pub record Centred (xs : List ℕ) (r : Result CentreScale Refusal) : Type 0 where
  pub answer : r ≡ centre_scale_of xs
  pub number_is : answer_number r ≡ answer_number (centre_scale_of xs)
  pub floats-are : centre_floats r ≡ centre_floats (centre_scale_of xs)
