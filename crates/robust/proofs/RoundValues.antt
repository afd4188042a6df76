-- Worked values of the definitions of Round and Step, by computation. Assumes nothing.
use Rattle.std.specs.Prelude.{Ok, Err}
use mathlib.Core.Path.{◌≡◌, refl}
use Prim.Native.Nat.{ℕ}
use mathlib.Core.List.{[], ◌∷◌}
use lib.ListN.{replicate}
use lib.Ieee.{add, sub, mul, div, lt, le, eq, is_nan, of_int, of_bits, to_bits}
use Rattle.exact.specs.Products.{less_products}
use Rattle.exact.specs.Float.{+0, 1·0, bits, whole}
use Rattle.root.specs.Root.{root_of}
use Rattle.numeric.specs.Real.{abs, max}
use Rattle.exact.specs.Pattern.{sign}
use Rattle.numeric.specs.Order.{total_order, pattern_of}
use Rattle.cholesky.specs.Factor.{is_pivot, with_element, below, pivot_of, row_of, next_row, factor_to, factor_of, with_forward, forward_to, with_back, back_to, solution_of}
use Rattle.numeric.specs.declared.refusal.Refusal.TheVariants.{TooMany, RecordOutOfRange}
use Rattle.median.specs.Sorted.{insert_by, sorted_by, median_of}
use Rattle.median.specs.Centre.{centre_of, deviation_of, scale_of, centre_and_scale_of}
use Rattle.lists.specs.Walk.{every}
use Rattle.normal_equations.specs.Nine.{from, nine}
use Rattle.normal_equations.specs.Weight.{damping, weight}
use Rattle.normal_equations.specs.Equations.{wide, total, cell_of, side_of, triangle_of, matrix_of, right_of}
use Rattle.robust.specs.Round.{round_by, round_of}
use Rattle.robust.specs.Step.{indexed, padded_step, step_of}
use Rattle.normal_equations.specs.declared.row.Row.{Row}
use Rattle.normal_equations.specs.declared.row.Rows.{Rows}

-- ---- the round called by itself

abbrev row : ℕ → Row
row clock = record { unit = record { x = whole 2; y = whole 3; z = whole 4 }; clock = clock; residual = 0; sigma = 1·0 }

abbrev rows : ℕ → Rows
rows count = record { count = count; row = row 9 ∷ replicate 63 (row 3) }

pub many : step_of (rows 65) 9 1·0 ≡ Err TooMany
unfolding step_of
many = refl

-- more than nine unknowns, and a clock index above 8
pub unknowns : step_of (rows 0) 10 1·0 ≡ Err RecordOutOfRange
unfolding step_of
unknowns = refl

pub clock-index : step_of (rows 1) 9 1·0 ≡ Err RecordOutOfRange
unfolding step_of every indexed
clock-index = refl

-- One unknown and two rows, with the residuals 2 and 4: both weigh 1, so that the step solves 2 x = 6. By the rounded root of 2 it comes out as 2.9999999999999996.
abbrev seen : ℕ → Row
seen residual = record { unit = record { x = 1·0; y = +0; z = +0 }; clock = 3; residual = residual; sigma = 1·0 }

pub one-unknown : step_of (record { count = 2; row = seen 0x4000_0000_0000_0000 ∷ seen 0x4010_0000_0000_0000 ∷ [] }) 1 1·0 ≡ Ok (bits 0x4007_FFFF_FFFF_FFFF ∷ replicate 8 +0)
unfolding step_of every indexed round_of round_by weight damping centre_and_scale_of centre_of median_of scale_of deviation_of sorted_by insert_by total_order sign pattern_of abs eq le max is_nan lt matrix_of triangle_of nine from cell_of total wide right_of side_of factor_of factor_to next_row row_of below with_element pivot_of less_products is_pivot root_of solution_of back_to with_back forward_to with_forward padded_step add sub mul div of_int of_bits to_bits
one-unknown = refl
