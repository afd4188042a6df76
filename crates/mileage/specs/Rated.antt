-- Which displacements a mileage counts, by their quality (docs/SCOPE.md, "Mileage"). Definitions only.
use Rattle.std.specs.Prelude.{Bool, cond, ◌&&◌, Float}
use Rattle.std.specs.Float.Ieee.{lt, le}
use Rattle.std.specs.Float.Ieee.Scale.{finite}
use Rattle.exact.specs.Float.{◌⊗◌, +0, 1·0, decimal}

-- the larger of chi and 1; a NaN stays one
unfoldable pub at_least_one : Float → Float
at_least_one chi = cond (lt chi 1·0) 1·0 chi

-- the predicted error in metres: pdop times the larger of chi and 1, times a centimetre
unfoldable pub predicted_error : Float → Float → Float
predicted_error chi pdop = (pdop ⊗ at_least_one chi) ⊗ decimal 1 2

-- chi and pdop finite and not below 0, and the predicted error below the limit
unfoldable pub rated : Float → Float → Float → Bool
rated limit chi pdop = finite chi && le +0 chi && finite pdop && le +0 pdop && lt (predicted_error chi pdop) limit
