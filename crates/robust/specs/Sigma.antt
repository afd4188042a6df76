-- The one-sigma of an elevation, `elevation_sigma` of robust.rs. Definitions only.
use Rattle.std.specs.Prelude.{Float}
use Rattle.exact.specs.Float.{◌⊕◌, ◌⊘◌, whole, decimal}
use Rattle.numeric.specs.Real.{radians, elevation_sine, max}

-- a + b / sin(elevation): the elevation, in degrees, at least 3, and its sine at least 0.05
unfoldable pub elevation_sigma : Float → Float → Float → Float
elevation_sigma elevation a b = a ⊕ b ⊘ max (elevation_sine (radians (max elevation (whole 3)))) (decimal 5 2)
