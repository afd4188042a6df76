-- Worked values of the query, among them (m10) and (m11) of docs/SCOPE.md. Assumes nothing.
use Rattle.std.specs.Prelude.{Result, Ok, Err}
use Rattle.numeric.specs.declared.refusal.Refusal.{Refusal}
use mathlib.Core.Path.{◌≡◌, refl}
use mathlib.Core.Bool.{false}
use mathlib.Core.List.{List, [], ◌∷◌}
use lib.Ieee.{Float, nan, inf, lt, le, eq, add, sub, mul, div, of_bits, of_int, to_bits, is_nan}
use Rattle.exact.specs.Float.{whole, bits, +0}
use Rattle.lists.specs.Walk.{every, collect}
use Rattle.exact.specs.Pattern.{sign}
use Rattle.numeric.specs.Order.{total_order, pattern_of}
use Rattle.numeric.specs.Real.{abs, in_range}
use Rattle.numeric.specs.declared.refusal.Refusal.TheVariants.{NoCorrection, RecordOutOfRange, TooMany}
use Rattle.numeric.specs.Rules.{ruled}
use Rattle.corrections_table.specs.Table.{time_before, stands_before, sorted_from, sorted, ranged, sound_table}
use Rattle.corrections_directory.specs.Directory.{Directory, ascends, tiles, timely, timely_from, block_times, in_reach, sound_directory, block, flat}
use Rattle.corrections_query.specs.Query.{near, first_of, last_of, through, near_or, spanned, correction_rule, answer_in, answer_at, guarded, query_in, query_of}
use Rattle.corrections_query.specs.Past.{former_rule, former_answer, query_before}
use Rattle.corrections_table.specs.declared.sample.Sample.{Sample}

abbrev sample : Float → Float → Sample
sample t x = record { constellation = 1; svid = 5; band = 1; time = t; correction = x }

-- samples (10 s, 1 m) and (20 s, 3 m)
abbrev two : List Sample
two = sample (whole 10) (whole 1) ∷ sample (whole 20) (whole 3) ∷ []

-- the query of these, with the gap limit and the time
abbrev asked : Float → Float → Result Float Refusal
asked gap t = query_of 2 2048 two gap 1 5 1 t

-- (m10) gap limit 90: 15 s gives 2 m
pub m10 : asked (whole 90) (whole 15) ≡ Ok (whole 2)
unfolding query_of guarded answer_at answer_in collect correction_rule near_or spanned through near first_of last_of in_range abs sound_table ranged sorted sorted_from stands_before time_before total_order sign pattern_of every lt le eq add sub mul div of_bits of_int to_bits is_nan ruled
m10 = refl

-- (m11) gap limit 5: 12
pub m11 : asked (whole 5) (whole 15) ≡ Err NoCorrection
unfolding query_of guarded answer_at answer_in collect correction_rule near_or spanned through near first_of last_of in_range abs sound_table ranged sorted sorted_from stands_before time_before total_order sign pattern_of every lt le eq add sub mul div of_bits of_int to_bits is_nan ruled
m11 = refl

-- a gap equal to the limit is bridged
pub gap-at-limit : asked (whole 10) (whole 15) ≡ Ok (whole 2)
unfolding query_of guarded answer_at answer_in collect correction_rule near_or spanned through near first_of last_of in_range abs sound_table ranged sorted sorted_from stands_before time_before total_order sign pattern_of every lt le eq add sub mul div of_bits of_int to_bits is_nan ruled
gap-at-limit = refl

-- a sample is answered whatever the gaps beside it are, and past the last one there is no correction
pub on-sample : asked (whole 5) (whole 20) ≡ Ok (whole 3)
unfolding query_of guarded answer_at answer_in collect correction_rule near_or spanned through near first_of last_of in_range abs sound_table ranged sorted sorted_from stands_before time_before total_order sign pattern_of every lt le eq add sub mul div of_bits of_int to_bits is_nan ruled
on-sample = refl

pub past_end : asked (whole 90) (whole 21) ≡ Err NoCorrection
unfolding query_of guarded answer_at answer_in collect correction_rule near_or spanned through near first_of last_of in_range abs sound_table ranged sorted sorted_from stands_before time_before total_order sign pattern_of every lt le eq add sub mul div of_bits of_int to_bits is_nan ruled
past_end = refl

-- request (vi): 2^-21 s past the last one that sample is answered, where it was 12; 2^-19 s past it nothing is
pub just-past : asked (whole 90) (bits 0x4034_0000_0800_0000) ≡ Ok (whole 3)
unfolding query_of guarded answer_at answer_in collect correction_rule near_or spanned through near first_of last_of in_range abs sound_table ranged sorted sorted_from stands_before time_before total_order sign pattern_of every lt le eq add sub mul div of_bits of_int to_bits is_nan ruled
just-past = refl

pub further_past : asked (whole 90) (bits 0x4034_0000_2000_0000) ≡ Err NoCorrection
unfolding query_of guarded answer_at answer_in collect correction_rule near_or spanned through near first_of last_of in_range abs sound_table ranged sorted sorted_from stands_before time_before total_order sign pattern_of every lt le eq add sub mul div of_bits of_int to_bits is_nan ruled
further_past = refl

-- a time that is not finite is 12, and one above 1e9 is 4
pub at-nan : asked (whole 90) nan ≡ Err NoCorrection
unfolding query_of guarded answer_at answer_in collect correction_rule near_or spanned through near first_of last_of in_range abs sound_table ranged sorted sorted_from stands_before time_before total_order sign pattern_of every lt le eq add sub mul div of_bits of_int to_bits is_nan ruled
at-nan = refl

pub at-infinity : asked (whole 90) (inf false) ≡ Err NoCorrection
unfolding query_of guarded answer_at answer_in collect correction_rule near_or spanned through near first_of last_of in_range abs sound_table ranged sorted sorted_from stands_before time_before total_order sign pattern_of every lt le eq add sub mul div of_bits of_int to_bits is_nan ruled
at-infinity = refl

pub far-time : asked (whole 90) (whole 2000000000) ≡ Err RecordOutOfRange
unfolding query_of guarded answer_at answer_in collect correction_rule near_or spanned through near first_of last_of in_range abs sound_table ranged sorted sorted_from stands_before time_before total_order sign pattern_of every lt le eq add sub mul div of_bits of_int to_bits is_nan ruled
far-time = refl

-- the time +0 followed by −0 is not sorted
pub zeros_unsorted : query_of 2 2048 (sample +0 (whole 1) ∷ sample (bits 0x8000_0000_0000_0000) (whole 1) ∷ []) (whole 90) 1 5 1 +0 ≡ Err RecordOutOfRange
unfolding query_of guarded answer_at answer_in collect correction_rule near_or spanned through near first_of last_of in_range abs sound_table ranged sorted sorted_from stands_before time_before total_order sign pattern_of every lt le eq add sub mul div of_bits of_int to_bits is_nan ruled
zeros_unsorted = refl

-- ---- the same samples as one block

abbrev one_block : Directory
one_block =
    record {
      entries = record { constellation = 1; svid = 5; band = 1; start = 0; count = 2 } ∷ [];
      readings = record { time = whole 10; correction = whole 1 } ∷ record { time = whole 20; correction = whole 3 } ∷ [];
    }

pub of-block : query_in 1 2 2048 one_block (whole 90) 1 5 1 (whole 15) ≡ Ok (whole 2)
unfolding query_in guarded sound_directory in_reach ascends tiles timely timely_from block_times flat block answer_at answer_in collect correction_rule near_or spanned through near first_of last_of in_range abs time_before total_order sign pattern_of every lt le eq add sub mul div of_bits of_int to_bits is_nan ruled
of-block = refl

-- 2^-21 s past the last sample the rule of before gave 12
pub just-past-before : query_before 1 2 2048 one_block (whole 90) 1 5 1 (bits 0x4034_0000_0800_0000) ≡ Err NoCorrection
unfolding query_before guarded sound_directory in_reach ascends tiles timely timely_from block_times flat block former_answer collect former_rule correction_rule near_or spanned through near first_of last_of in_range abs time_before total_order sign pattern_of every lt le eq add sub mul div of_bits of_int to_bits is_nan ruled
just-past-before = refl

-- a directory of more entries than there is room for is 2, and one whose block ends before the samples do is 4
pub crowded : query_in 3 2 2 one_block (whole 90) 1 5 1 (whole 15) ≡ Err TooMany
unfolding query_in guarded ruled
crowded = refl

pub gap-at-end : query_in 1 2 2048 (record { entries = record { constellation = 1; svid = 5; band = 1; start = 0; count = 1 } ∷ []; readings = one_block.readings }) (whole 90) 1 5 1 (whole 15) ≡ Err RecordOutOfRange
unfolding query_in guarded sound_directory in_reach ascends tiles timely timely_from block_times flat block answer_at answer_in collect correction_rule near_or spanned through near first_of last_of in_range abs time_before total_order sign pattern_of every lt le eq add sub mul div of_bits of_int to_bits is_nan ruled
gap-at-end = refl
