-- One pass of the fit: three axes, each with its own equations (smooth.rs, `solve_once`). Definitions only.
use Rattle.std.specs.Prelude.{Bool, ℕ, ◌<◌, Float}
use Rattle.exact.specs.Float.{◌⊕◌}
use Rattle.track_tridiagonal.specs.Rows.{on_axes}
use Rattle.track_tridiagonal.specs.Tridiagonal.{solution, axis_solved}
use Rattle.track_tridiagonal.specs.Accuracy.{RowsAccurate}
use Rattle.track_pass.specs.Input.{Trajectory, track_origin}
use Rattle.track_pass.specs.Equations.{Scales, equations_of}

-- a pass fails where an axis does: an epoch is held by no measurement, a pivot vanishes or an unknown is not finite
unfoldable pub pass_succeeds : Trajectory → Scales → Bool
pass_succeeds p s = on_axes (λ t. axis_solved (equations_of p s t) p.n)

-- what a good pass fits at epoch k on axis t: the unknown and the origin
unfoldable pub fitted_at : Trajectory → Scales → ℕ → ℕ → Float
fitted_at p s t k = solution (equations_of p s t) p.n k ⊕ track_origin p.anchors t

-- On each axis the solution, before the origin is added, meets the pass's equations as closely as `RowsAccurate` says.
abbrev pub PassAccurate : Trajectory → Scales → Type 0
PassAccurate p s = (t : ℕ) → t < 3 → RowsAccurate (equations_of p s t) p.n
