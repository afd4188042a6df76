-- Worked values of many queries in one call. Assumes nothing.
use mathlib.Core.Path.{◌≡◌, refl}
use mathlib.Core.List.{[], ◌∷◌}
use lib.Ieee.{lt, le, eq, add, sub, mul, div, of_bits, of_int, to_bits, is_nan}
use Rattle.exact.specs.Float.{whole}
use Rattle.lists.specs.Walk.{every, collect, places}
use Rattle.exact.specs.Pattern.{sign}
use Rattle.numeric.specs.Order.{total_order, pattern_of}
use Rattle.numeric.specs.Real.{abs, in_range}
use Rattle.numeric.specs.declared.refusal.Refusal.TheVariants.{TooMany}
use Rattle.numeric.specs.Rules.{ruled}
use Rattle.corrections_table.specs.Table.{time_before}
use Rattle.corrections_directory.specs.Directory.{Directory, ascends, tiles, timely, timely_from, block_times, in_reach, sound_directory, block, flat}
use Rattle.corrections_query.specs.Query.{near, first_of, last_of, through, near_or, spanned, correction_rule, answer_in, answer_at, guarded, query_in, pattern_after}
use Rattle.corrections_queries.specs.Queries.{Reply, refusal, places_short, queries_in, with_answers, places_after, number_after}

-- samples (10 s, 1 m) and (20 s, 3 m) of one satellite
abbrev one_block : Directory
one_block =
    record {
      entries = record { constellation = 1; svid = 5; band = 1; start = 0; count = 2 } ∷ [];
      readings = record { time = whole 10; correction = whole 1 } ∷ record { time = whole 20; correction = whole 3 } ∷ [];
    }

-- three queries in one call, at 15 s, past the end and above 1e9: each place has its number, and metres only where there are some
abbrev three : Reply
three =
    queries_in 1 2 2048 one_block (whole 90)
    (record { constellations = 1 ∷ 1 ∷ 1 ∷ []; svids = 5 ∷ 5 ∷ 5 ∷ []; bands = 1 ∷ 1 ∷ 1 ∷ []; times = whole 15 ∷ whole 21 ∷ whole 2000000000 ∷ []; count = 3 }) (7 ∷ 7 ∷ 7 ∷ 7 ∷ []) (8 ∷ 8 ∷ 8 ∷ [])

pub three-numbers : places_after number_after three (7 ∷ 7 ∷ 7 ∷ 7 ∷ []) ≡ 0 ∷ 12 ∷ 4 ∷ 7 ∷ []
unfolding queries_in places_short places with_answers query_in guarded sound_directory in_reach ascends tiles timely timely_from block_times flat block answer_at answer_in collect correction_rule near_or spanned through near first_of last_of in_range abs time_before total_order sign pattern_of every lt le eq add sub mul div of_bits of_int to_bits is_nan ruled
three-numbers = refl

pub three_metres : places_after pattern_after three (8 ∷ 8 ∷ 8 ∷ []) ≡ 0x4000_0000_0000_0000 ∷ 8 ∷ 8 ∷ []
unfolding queries_in places_short places with_answers query_in guarded sound_directory in_reach ascends tiles timely timely_from block_times flat block answer_at answer_in collect correction_rule near_or spanned through near first_of last_of in_range abs time_before total_order sign pattern_of every lt le eq add sub mul div of_bits of_int to_bits is_nan ruled
three_metres = refl

-- a lent column that is too short is 2
pub short-column : queries_in 1 2 2048 one_block (whole 90) (record { constellations = 1 ∷ []; svids = 5 ∷ []; bands = 1 ∷ []; times = whole 15 ∷ []; count = 1 }) [] (8 ∷ []) ≡ refusal TooMany
unfolding queries_in places_short ruled
short-column = refl
