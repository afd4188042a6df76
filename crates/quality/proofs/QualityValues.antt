-- Worked values of what a fit says of itself, by computation. Assumes nothing.
use mathlib.Core.Path.{◌≡◌, refl}
use Prim.Native.Nat.{ℕ}
use mathlib.Core.List.{List, [], ◌∷◌}
use lib.ListN.{set, replicate}
use lib.Ieee.{Float, add, sub, mul, div, of_int, of_bits}
use Rattle.exact.specs.Products.{less_products}
use Rattle.exact.specs.Float.{+0, 1·0, whole, decimal}
use Rattle.root.specs.Root.{root_of}
use Rattle.numeric.specs.Real.{square}
use Rattle.cholesky.specs.Factor.{zeros, with_forward, forward_to, with_back, back_to, solution_of}
use Rattle.normal_equations.specs.Nine.{from, nine}
use Rattle.normal_equations.specs.Equations.{wide, total, triangle_of}
use Rattle.normal_equations.specs.declared.row.Row.{Row}
use Rattle.quality.specs.Quality.{freedom_of, chi_of, unweighted_matrix, pdop_of}

-- rows above the unknowns, and at least 1
pub freedom_four : freedom_of 9 5 ≡ whole 4
unfolding freedom_of
freedom_four = refl

pub freedom_one : freedom_of 4 9 ≡ whole 1
unfolding freedom_of
freedom_one = refl

-- residuals of 3 and 4 with the sigma 2: (1.5 ^ 2 + 2 ^ 2) / 1 is 2.5 ^ 2
abbrev row : ℕ → Row
row residual = record { unit = record { x = whole 2; y = whole 3; z = whole 4 }; clock = 3; residual = residual; sigma = whole 2 }

pub chi-value : chi_of 4 (row 0x4008_0000_0000_0000 ∷ row 0x4010_0000_0000_0000 ∷ []) ≡ decimal 25 1
unfolding chi_of freedom_of total square root_of add mul div of_int of_bits
chi-value = refl

-- sigma does not weigh in the matrix; two rows alike, two unknowns
abbrev unit : ℕ → List Float
unit i = set zeros i 1·0

pub plain_value :
    unweighted_matrix 2 (row 0 ∷ row 0 ∷ []) ≡ (whole 8 ∷ replicate 8 +0) ∷ (whole 12 ∷ whole 18 ∷ replicate 7 +0) ∷ unit 2 ∷ unit 3 ∷ unit 4 ∷ unit 5 ∷ unit 6 ∷ unit 7 ∷ unit 8 ∷ []
unfolding unweighted_matrix triangle_of nine from total wide add mul of_int of_bits
plain_value = refl

-- by the diagonal factor 1/2, 1/2, 1, ..: the variances 4, 4 and 1
pub pdop-value : pdop_of (set zeros 0 (decimal 5 1) ∷ set zeros 1 (decimal 5 1) ∷ unit 2 ∷ unit 3 ∷ unit 4 ∷ unit 5 ∷ unit 6 ∷ unit 7 ∷ unit 8 ∷ []) ≡ whole 3
unfolding pdop_of root_of nine from solution_of back_to with_back forward_to with_forward less_products add sub mul div of_int of_bits
pdop-value = refl
