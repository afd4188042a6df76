-- The normal equations of a round's rows, by the weight w of each (docs/SCOPE.md, "Round"; `step` of robust.rs). Definitions only.
use Rattle.std.specs.Prelude.{ℕ, cond, ◌&&◌, ltb, leb, eqb, set, replicate, Float}
use mathlib.Core.List.{List, ◌∷◌, foldl}
use Rattle.exact.specs.Float.{◌⊕◌, ◌⊗◌, +0, 1·0, bits}
use Rattle.cholesky.specs.Factor.{at}
use Rattle.normal_equations.specs.Nine.{nine}
use Rattle.normal_equations.specs.declared.row.Row.{Row}

-- a row nine wide: the line of sight, zeros, and 1 at the clock's index, which may be one of the first three
unfoldable pub wide : Row → List Float
wide r = set (r.unit.x ∷ r.unit.y ∷ r.unit.z ∷ replicate 6 +0) r.clock 1·0

-- the sum of what f gives of each row, in the rows' order, from +0 on
unfoldable pub total : (Row → Float) → List Row → Float
total f rows = foldl (λ s r. s ⊕ f r) +0 rows

-- a cell sums (w · row i) · row j, and a place of the right side (w · row i) · residual
unfoldable pub cell_of : (Row → Float) → List Row → ℕ → ℕ → Float
cell_of w rows i j = total (λ r. w r ⊗ at (wide r) i ⊗ at (wide r) j) rows

unfoldable pub side_of : (Row → Float) → List Row → ℕ → Float
side_of w rows i = total (λ r. w r ⊗ at (wide r) i ⊗ bits r.residual) rows

-- A matrix of n unknowns with these cells, by its lower triangle, and 0 above it. Unused unknowns have 1 on the diagonal.
unfoldable pub triangle_of : ℕ → (ℕ → ℕ → Float) → List (List Float)
triangle_of n cells = nine (λ i. nine (λ j. cond (ltb i n && leb j i) (cells i j) (cond (leb n i && eqb i j) 1·0 +0)))

unfoldable pub matrix_of : (Row → Float) → List Row → ℕ → List (List Float)
matrix_of w rows n = triangle_of n (cell_of w rows)

unfoldable pub right_of : (Row → Float) → List Row → ℕ → List Float
right_of w rows n = nine (λ i. cond (ltb i n) (side_of w rows i) +0)
