-- How far a displacement of a trip goes (docs/SCOPE.md, "Trip"). Definitions only.
use Rattle.std.specs.Prelude.{ℕ, Bool, ◌&&◌, Float}
use Rattle.std.specs.Float.Ieee.{le}
use Rattle.std.specs.Float.Ieee.Scale.{finite}
use Rattle.exact.specs.Float.{whole}
use Rattle.numeric.specs.Vec3.{norm}
use Rattle.numeric.specs.Whole.{whole_times}
use Rattle.numeric.specs.declared.vec3.Vec3.{Vec3}

-- the length's exact value times 1,000, rounded down to whole millimetres
abbrev pub millimetres : Float → ℕ
millimetres length = whole_times 1000 length

-- those of a displacement, whose length is the root of the rounded squares summed in the order x, y, z
unfoldable pub millimetres_of : Vec3 → ℕ
millimetres_of d = millimetres (norm d)

-- a displacement that is finite and not longer than 1,000 m
unfoldable pub measurable : Vec3 → Bool
measurable d = finite d.x && finite d.y && finite d.z && le (norm d) (whole 1000)
