-- Every marked trial holds. Assumes nothing.
use mathlib.Core.Logic.{inl, inr}
use mathlib.Core.Path.{◌≡◌, refl, ◌∙◌}
use mathlib.Core.List.{List}
use Prim.Native.Nat.{◌+◌}
use mathlib.Core.Bool.{false}
use lib.Ieee.{Float, add, sub, mul, div, lt, le, eq, is_nan, of_int, of_bits, to_bits}
use Rattle.exact.specs.Float.{+0, bits}
use Rattle.exact.specs.Products.{less_products}
use Rattle.root.specs.Root.{root_of}
use Rattle.cholesky.specs.Factor.{cell, is_pivot, with_element, below, pivot_of, row_of, Refused, next_row, factor_to, factor_of}
use Rattle.exact.specs.Pattern.{sign}
use Rattle.numeric.specs.Order.{total_order, pattern_of}
use Rattle.numeric.specs.Real.{abs, in_range}
use Rattle.lists.specs.Walk.{every, collect, fold}
use Rattle.median.specs.Sorted.{insert_by, sorted_by, median_of}
use Rattle.median.specs.Centre.{centre_of, deviation_of, centre_and_scale_of, centre_scale_of}
use Rattle.clocks.specs.Clocks.{given}
use Rattle.records.specs.Record.{unsigned, bit_set, usable}
use Rattle.numeric.specs.Rules.{ruled}
use Rattle.corrections_table.specs.Table.{time_before}
use Rattle.corrections_directory.specs.Directory.{entry_rows, reading_rows, ascends, tiles, timely, timely_from, block_times, in_reach, sound_directory, block, flat}
use Rattle.corrections_query.specs.Query.{near, first_of, last_of, through, near_or, spanned, correction_rule, answer_in, answer_at, guarded, query_in}
use Rattle.track_smooth.proofs.Trials.{one-point, not_held}
use Rattle.cholesky.proofs.FactorLaws.{factor_to-zero, factor_to-next, refused-more}
use Rattle.trials.specs.Marked.{All, marked, m1, m2, m3, m4, m5, m6, m7, m8, m9, m10, m11}

root-four : m1
unfolding root_of of_int
root-four = refl

root-two : m2
unfolding root_of of_int of_bits
root-two = refl

root-least : m3
unfolding root_of of_bits
root-least = refl

pub centre-empty : m4
unfolding centre_scale_of centre_and_scale_of
centre-empty = refl

centre-four : m5
unfolding centre_of median_of sorted_by insert_by total_order sign lt eq of_bits of_int deviation_of pattern_of abs is_nan to_bits sub
centre-four = (refl, refl)

slots-five : m6
unfolding fold given
slots-five = refl

pub identity-factors : m7
unfolding factor_of factor_to next_row is_pivot pivot_of row_of below with_element less_products root_of sub mul div lt of_bits
identity-factors = refl

-- no zero is a pivot, and what is refused once stays refused
zero-no-pivot : is_pivot +0 ≡ false
unfolding is_pivot lt of_bits
zero-no-pivot = refl

minus-zero-no-pivot : is_pivot (bits 0x8000_0000_0000_0000) ≡ false
unfolding is_pivot lt of_bits
minus-zero-no-pivot = refl

-- the first pivot is the matrix's first cell
first-refused : (a : List (List Float)) (z : Float) → cell a 0 0 ≡ z → is_pivot z ≡ false → factor_of a ≡ Refused
unfolding factor_of pivot_of less_products
first-refused a z e f =
    let first : factor_to (0 + 1) a ≡ Refused = factor_to-next 0 a _ (factor_to-zero a) ∙ rw (e, f) in
    refused-more 8 1 a first

pub zero-pivot : m8
zero-pivot a (inl e) = first-refused a +0 e zero-no-pivot
zero-pivot a (inr e) = first-refused a (bits 0x8000_0000_0000_0000) e minus-zero-no-pivot

states : m9
unfolding usable bit_set unsigned
states c h = rw h

pub half-way : m10
unfolding query_in guarded answer_at answer_in flat block collect correction_rule near_or spanned through near first_of last_of in_range abs sound_directory in_reach ascends tiles timely timely_from block_times entry_rows reading_rows time_before total_order sign pattern_of every lt le eq add sub mul div of_bits of_int to_bits is_nan ruled
half-way = refl

pub gap_too_long : m11
unfolding query_in guarded answer_at answer_in flat block collect correction_rule near_or spanned through near first_of last_of in_range abs sound_directory in_reach ascends tiles timely timely_from block_times entry_rows reading_rows time_before total_order sign pattern_of every lt le eq add sub mul div of_bits of_int to_bits is_nan ruled
gap_too_long = refl

-- THE FACT over the list
pub marked-hold : All marked
marked-hold = (root-four, (root-two, (root-least, (centre-empty, (centre-four, (slots-five, (identity-factors, (zero-pivot, (states, (half-way, (gap_too_long, (one-point, (not_held, tt)))))))))))))
