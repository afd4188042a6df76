-- One round of the robust least squares (docs/SCOPE.md, "Round" and "Their rounds"; `step` of robust.rs). Definitions only.
-- The weight and the normal equations are those of crate normal.
use Rattle.std.specs.Prelude.{◌≡◌, ℕ, true, List, map, Float}
use Rattle.std.specs.Float.Ieee.Scale.{finite}
use Rattle.lists.specs.Walk.{every}
use Rattle.exact.specs.Float.{bits}
use Rattle.numeric.specs.declared.refusal.Refusal.{Refusal}
use Rattle.numeric.specs.declared.refusal.Refusal.TheVariants.{FitFailed}
use Rattle.cholesky.specs.Factor.{Factored, Refused as NoFactor, Lower, factor_of, solution_of}
use Rattle.cholesky.specs.Sound as system
use Rattle.median.specs.Centre.{centre_and_scale_of}
use Rattle.normal_equations.specs.Weight.{weight}
use Rattle.normal_equations.specs.Equations.{matrix_of, right_of}
use Rattle.normal_equations.specs.declared.row.Row.{Row}

-- a solved round: its rows, and nine wide the matrix by its lower triangle, the right side, the factor and the step
pub record Round : Type 0 where
  pub rows : List Row
  pub matrix : List (List Float)
  pub right : List Float
  pub factor : List (List Float)
  pub step : List Float

-- a round is refused, or solved
pub data RoundOutcome : Type 0 where
  Refused : Refusal → RoundOutcome
  Solved : Round → RoundOutcome

-- the round of the rows, with the matrix a, the right side b and the factor l
abbrev pub made : List Row → List (List Float) → List Float → List (List Float) → Round
made rows a b l = record { rows = rows; matrix = a; right = b; factor = l; step = solution_of l b }

-- the round by the factor of its matrix: 10 where a pivot is refused
abbrev pub solved : List Row → List (List Float) → List Float → Factored → RoundOutcome
solved rows a b NoFactor = Refused FitFailed
solved rows a b (Lower l) = Solved (made rows a b l)

unfoldable pub round_by : (Row → Float) → List Row → ℕ → RoundOutcome
round_by w rows n = solved rows (matrix_of w rows n) (right_of w rows n) (factor_of (matrix_of w rows n))

-- the round of n unknowns: the weights are by the centre and the scale of the rows' residuals
unfoldable pub round_of : List Row → ℕ → Float → RoundOutcome
round_of rows n huber = round_by (weight (centre_and_scale_of (map (λ (r : Row). r.residual) rows)) huber) rows n

-- demand 3 for one round: matrix, right side, factor and step are finite, and the step solves the equations up to rounding
abbrev pub SoundRound : Round → Type 0
SoundRound r = system.SoundSystem r.matrix r.right r.factor r.step

-- every residual of a round is a finite number, so that its centre depends on no NaN
unfoldable pub FiniteResiduals : Round → Type 0
FiniteResiduals r = every (λ (row : Row). finite (bits row.residual)) r.rows ≡ true
