-- The weight of a row (docs/SCOPE.md, "Round"; `step` of robust.rs). Definitions only.
-- A row's residual is a pattern, since the centre is taken in total_order.
use Rattle.std.specs.Prelude.{cond, Float}
use Rattle.std.specs.Float.Ieee.{le}
use Rattle.exact.specs.Float.{◌⊖◌, ◌⊗◌, ◌⊘◌, 1·0, bits, decimal}
use Rattle.numeric.specs.Real.{abs, max}
use Rattle.median.specs.declared.centre.CentreScale.{CentreScale}
use Rattle.normal_equations.specs.declared.row.Row.{Row}

-- 1 while z is at most huber, else huber / max(z, 1e-9), which is huber / 1e-9 if z is a NaN
unfoldable pub damping : Float → Float → Float
damping huber z = cond (le z huber) 1·0 (huber ⊘ max z (decimal 1 9))

-- the damping of |residual − centre| / scale, over sigma squared
unfoldable pub weight : CentreScale → Float → Row → Float
weight c huber r = damping huber (abs ((bits r.residual ⊖ c.centre) ⊘ c.scale)) ⊘ (r.sigma ⊗ r.sigma)
