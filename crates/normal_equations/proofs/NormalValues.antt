-- Worked values of the definitions of Weight and Equations, by computation. Assumes nothing.
use mathlib.Core.Path.{◌≡◌, refl}
use Prim.Native.Nat.{ℕ}
use mathlib.Core.List.{[], ◌∷◌}
use lib.Ieee.{nan, div, lt, le, is_nan, of_int, of_bits}
use Rattle.exact.specs.Float.{◌⊘◌, +0, 1·0, bits, whole, decimal}
use Rattle.numeric.specs.Real.{max}
use Rattle.normal_equations.specs.Weight.{damping}
use Rattle.normal_equations.specs.Equations.{wide}
use Rattle.normal_equations.specs.declared.row.Row.{Row}

-- ---- the damping

-- at the threshold it is still 1
pub damping-at : damping (whole 2) (whole 2) ≡ 1·0
unfolding damping le of_int of_bits
damping-at = refl

pub damping-beyond : damping (whole 2) (whole 4) ≡ bits 0x3FE0_0000_0000_0000
unfolding damping le max is_nan lt div of_int of_bits
damping-beyond = refl

-- a NaN weighs huber / 1e-9
pub damping-nan : damping (whole 2) nan ≡ whole 2 ⊘ decimal 1 9
unfolding damping le max is_nan
damping-nan = refl

-- ---- a row nine wide

abbrev row : ℕ → Row
row clock = record { unit = record { x = whole 2; y = whole 3; z = whole 4 }; clock = clock; residual = 0; sigma = 1·0 }

pub wide-slot : wide (row 4) ≡ whole 2 ∷ whole 3 ∷ whole 4 ∷ +0 ∷ 1·0 ∷ +0 ∷ +0 ∷ +0 ∷ +0 ∷ []
unfolding wide
wide-slot = refl

-- the indices 0 to 2 overwrite a component
pub wide_low : wide (row 1) ≡ whole 2 ∷ 1·0 ∷ whole 4 ∷ +0 ∷ +0 ∷ +0 ∷ +0 ∷ +0 ∷ +0 ∷ []
unfolding wide
wide_low = refl
