-- The quality of a fit with n unknowns (wls.rs): chi and the dilution of precision of its rows. A fix and a rated displacement share them. Definitions only.
use Rattle.std.specs.Prelude.{Result, Ok, Err}
use Rattle.numeric.specs.declared.refusal.Refusal.{Refusal}
use Rattle.quality.specs.declared.figures.Figures.{Figures}
use Rattle.std.specs.Prelude.{ℕ, ◌-◌, max, not, cond, ◌&&◌, List, [], ◌∷◌, eqb, length, Float}
use Rattle.std.specs.Float.Ieee.Scale.{finite}
use Rattle.exact.specs.Float.{◌⊕◌, ◌⊗◌, ◌⊘◌, +0, 1·0, bits, whole}
use Rattle.root.specs.Root.{root_of}
use Rattle.cholesky.specs.Factor.{at, factor_of, solution_of}
use Rattle.cholesky.specs.Answer.{rows_after}
use Rattle.cholesky.specs.Answer as factor
use Rattle.numeric.specs.Real.{square}
use Rattle.numeric.specs.declared.refusal.Refusal.TheVariants.{FitFailed, QualityNotFinite}
use Rattle.normal_equations.specs.Nine.{nine}
use Rattle.normal_equations.specs.Equations.{wide, total, triangle_of}
use Rattle.normal_equations.specs.declared.row.Row.{Row}
use Rattle.numeric.specs.Rules.{Rule, rule, ruled}

-- the degrees of freedom of so many rows, at least 1
unfoldable pub freedom_of : ℕ → ℕ → Float
freedom_of count n = whole (max 1 (count - n))

-- the root of the reduced chi-squared: the sum of (residual / sigma) squared by the degrees of freedom
unfoldable pub chi_of : ℕ → List Row → Float
chi_of n rows = root_of (total (λ r. square (bits r.residual ⊘ r.sigma)) rows ⊘ freedom_of (length rows) n)

-- the normal equations without weights, by their lower triangle
unfoldable pub unweighted_matrix : ℕ → List Row → List (List Float)
unweighted_matrix n rows = triangle_of n (λ i j. total (λ r. at (wide r) i ⊗ at (wide r) j) rows)

-- place i of the inverse's diagonal, by the factor l
abbrev pub cofactor : List (List Float) → ℕ → Float
cofactor l i = at (solution_of l (nine (λ j. cond (eqb i j) 1·0 +0))) i

unfoldable pub pdop_of : List (List Float) → Float
pdop_of l = root_of (+0 ⊕ cofactor l 0 ⊕ cofactor l 1 ⊕ cofactor l 2)

-- pdop of the rows, by the factor of their unweighted matrix
abbrev pub dilution_of : ℕ → List Row → Float
dilution_of n rows = pdop_of (rows_after (factor_of (unweighted_matrix n rows)) [])

-- 10: a pivot of the unweighted matrix is refused
abbrev pub pivot_rule : ℕ → List Row → Rule
pivot_rule n rows = rule FitFailed (not (factor.accepted (factor_of (unweighted_matrix n rows))))

-- 10, and then 14: chi or pdop is not finite
unfoldable pub figure_rules : ℕ → List Row → List Rule
figure_rules n rows = pivot_rule n rows ∷ rule QualityNotFinite (not (finite (chi_of n rows) && finite (dilution_of n rows))) ∷ []

-- the two figures of the rows, or why they are refused
unfoldable pub quality_of : ℕ → List Row → Result Figures Refusal
quality_of n rows = ruled Err (figure_rules n rows) (Ok (record { chi = chi_of n rows; pdop = dilution_of n rows }))
