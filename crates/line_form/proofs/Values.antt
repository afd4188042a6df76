-- Worked values of the line form, computed from the definitions. Assumes nothing.
use Rattle.std.specs.Prelude.{Ok, Err}
use mathlib.Core.Path.{◌≡◌, refl}
use mathlib.Core.Bool.{true, false}
use mathlib.Core.List.{List, [], ◌∷◌, ◌++◌}
use Prim.Native.Nat.{ℕ, ◌^◌}
use lib.ListN.{replicate}
use lib.IntN.{negsuc}
use lib.Ieee.{of_int, of_bits, to_bits, neg, le, lt, is_nan}
use Rattle.exact.specs.Float.{+0, bits}
use Rattle.lists.specs.Walk.{every, collect, fold}
use Rattle.numeric.specs.Real.{abs, in_range}
use Rattle.numeric.specs.Rules.{ruled}
use Rattle.estimate_rounds.specs.Rules.{row_rules}
use Rattle.records.specs.Pair.{pairs_of}
use Rattle.tdcp.specs.Valid.{settings_pass, bad_interval, epoch_rules, interval_rules, few_rules}
use Rattle.tdcp.specs.Front.{sight_rules, count_rules, pair_rules}
use Rattle.tdcp.specs.Displacement.{moved_by, displacement_of}
use Rattle.numeric.specs.declared.refusal.Refusal.TheVariants.{BrokenForm, TooFewPairs, NoCorrection}
use Rattle.records.specs.declared.record.Carrier.{Carrier}
use Rattle.line_form.specs.Split.{split}
use Rattle.line_form.specs.Field.{decimal_value, plain, is_number, number, is_state, state, hex, is_float, pattern_in}
use Rattle.line_form.specs.Line.{is_vector, vector_in, settings_form, is_settings, given_in, carrier_form, carrier, line_of}
use Rattle.line_form.specs.Text.{records_form, is_text, no_carriers, text_input, displacement_in}
use Rattle.line_form.specs.Answer.{answer_line}
use Rattle.line_form.specs.Print.{digits_text, digit_count, answer_text}
use Rattle.line_form.specs.declared.line.Line.TheVariants.{Previous}

-- ---- fields

-- 255 fits 8 bits
widest : number (2 ^ 8) (50 ∷ 53 ∷ 53 ∷ []) ≡ 255
unfolding number is_number plain every decimal_value
widest = refl

-- 256 does not
too_wide_lem : is_number (2 ^ 8) (50 ∷ 53 ∷ 54 ∷ []) ≡ false
unfolding number is_number plain every decimal_value
too_wide_lem = refl

-- 0 is a number
zero : is_number (2 ^ 8) (48 ∷ []) ≡ true
unfolding number is_number plain every decimal_value
zero = refl

-- 00 is none
leading-zero : is_number (2 ^ 8) (48 ∷ 48 ∷ []) ≡ false
unfolding number is_number plain every decimal_value
leading-zero = refl

-- nor is +1
plus-sign : is_number (2 ^ 8) (43 ∷ 49 ∷ []) ≡ false
unfolding number is_number plain every decimal_value
plus-sign = refl

-- nor is an empty field
no_number : is_number (2 ^ 8) [] ≡ false
unfolding number is_number plain every decimal_value
no_number = refl

-- -2147483648
least-state : state (45 ∷ 50 ∷ 49 ∷ 52 ∷ 55 ∷ 52 ∷ 56 ∷ 51 ∷ 54 ∷ 52 ∷ 56 ∷ []) ≡ negsuc 2147483647
unfolding state is_state number is_number plain every decimal_value
least-state = refl

-- -0 is no number
minus-zero : is_state (45 ∷ 48 ∷ []) ≡ false
unfolding state is_state number is_number plain every decimal_value
minus-zero = refl

-- nor is -01
minus-leading-zero : is_state (45 ∷ 48 ∷ 49 ∷ []) ≡ false
unfolding state is_state number is_number plain every decimal_value
minus-leading-zero = refl

-- nor is -2147483649
below-least : is_state (45 ∷ 50 ∷ 49 ∷ 52 ∷ 55 ∷ 52 ∷ 56 ∷ 51 ∷ 54 ∷ 52 ∷ 57 ∷ []) ≡ false
unfolding state is_state number is_number plain every decimal_value
below-least = refl

-- nor is 2147483648
above-greatest : is_state (50 ∷ 49 ∷ 52 ∷ 55 ∷ 52 ∷ 56 ∷ 51 ∷ 54 ∷ 52 ∷ 56 ∷ []) ≡ false
unfolding state is_state number is_number plain every decimal_value
above-greatest = refl

-- 3FF8000000000000
upper_case : pattern_in (51 ∷ 70 ∷ 70 ∷ 56 ∷ 48 ∷ 48 ∷ 48 ∷ 48 ∷ 48 ∷ 48 ∷ 48 ∷ 48 ∷ 48 ∷ 48 ∷ 48 ∷ 48 ∷ []) ≡ 0x3FF8_0000_0000_0000
unfolding is_float every pattern_in hex
upper_case = refl

-- 3ff8000000000000
lower_case : is_float (51 ∷ 102 ∷ 102 ∷ 56 ∷ 48 ∷ 48 ∷ 48 ∷ 48 ∷ 48 ∷ 48 ∷ 48 ∷ 48 ∷ 48 ∷ 48 ∷ 48 ∷ 48 ∷ []) ≡ false
unfolding is_float every
lower_case = refl

-- fifteen digits
fifteen : is_float (51 ∷ 70 ∷ 70 ∷ 56 ∷ 48 ∷ 48 ∷ 48 ∷ 48 ∷ 48 ∷ 48 ∷ 48 ∷ 48 ∷ 48 ∷ 48 ∷ 48 ∷ []) ≡ false
unfolding is_float every
fifteen = refl

-- ---- texts

-- the example of docs/SCOPE.md, "The line form and its program": S,3FF0000000000000,0000000000000000, and so on
example : List ℕ
example =
    83 ∷ 44 ∷ 51 ∷ 70 ∷ 70 ∷ 48 ∷ 48 ∷ 48 ∷ 48 ∷ 48 ∷ 48 ∷ 48 ∷ 48 ∷ 48 ∷ 48 ∷ 48 ∷ 48 ∷ 48 ∷ 44 ∷ 48 ∷ 48 ∷ 48 ∷ 48 ∷ 48 ∷ 48 ∷ 48 ∷ 48 ∷ 48 ∷ 48 ∷ 48 ∷
    48 ∷ 48 ∷ 48 ∷ 48 ∷ 48 ∷ 44 ∷ 48 ∷ 48 ∷ 48 ∷ 48 ∷ 48 ∷ 48 ∷ 48 ∷ 48 ∷ 48 ∷ 48 ∷ 48 ∷ 48 ∷ 48 ∷ 48 ∷ 48 ∷ 48 ∷ 44 ∷ 48 ∷ 48 ∷ 48 ∷ 48 ∷ 48 ∷ 48 ∷ 48 ∷
    48 ∷ 48 ∷ 48 ∷ 48 ∷ 48 ∷ 48 ∷ 48 ∷ 48 ∷ 48 ∷ 44 ∷ 51 ∷ 70 ∷ 69 ∷ 48 ∷ 48 ∷ 48 ∷ 48 ∷ 48 ∷ 48 ∷ 48 ∷ 48 ∷ 48 ∷ 48 ∷ 48 ∷ 48 ∷ 48 ∷ 44 ∷ 51 ∷ 70 ∷ 70 ∷
    48 ∷ 48 ∷ 48 ∷ 48 ∷ 48 ∷ 48 ∷ 48 ∷ 48 ∷ 48 ∷ 48 ∷ 48 ∷ 48 ∷ 48 ∷ 44 ∷ 48 ∷ 48 ∷ 48 ∷ 48 ∷ 48 ∷ 48 ∷ 48 ∷ 48 ∷ 48 ∷ 48 ∷ 48 ∷ 48 ∷ 48 ∷ 48 ∷ 48 ∷ 48 ∷
    44 ∷ 51 ∷ 70 ∷ 70 ∷ 56 ∷ 48 ∷ 48 ∷ 48 ∷ 48 ∷ 48 ∷ 48 ∷ 48 ∷ 48 ∷ 48 ∷ 48 ∷ 48 ∷ 48 ∷ 44 ∷ 52 ∷ 48 ∷ 50 ∷ 52 ∷ 48 ∷ 48 ∷ 48 ∷ 48 ∷ 48 ∷ 48 ∷ 48 ∷ 48 ∷
    48 ∷ 48 ∷ 48 ∷ 48 ∷ 44 ∷ 52 ∷ 10 ∷ []

-- P,6,12,1575420030,40F0000000000000,-17,C0E0000000000000,0000000000000001,7FEFFFFFFFFFFFFF,4024000000000000,8000000000000000
first : List ℕ
first =
    80 ∷ 44 ∷ 54 ∷ 44 ∷ 49 ∷ 50 ∷ 44 ∷ 49 ∷ 53 ∷ 55 ∷ 53 ∷ 52 ∷ 50 ∷ 48 ∷ 48 ∷ 51 ∷ 48 ∷ 44 ∷ 52 ∷ 48 ∷ 70 ∷ 48 ∷ 48 ∷ 48 ∷ 48 ∷ 48 ∷ 48 ∷ 48 ∷ 48 ∷ 48 ∷
    48 ∷ 48 ∷ 48 ∷ 48 ∷ 44 ∷ 45 ∷ 49 ∷ 55 ∷ 44 ∷ 67 ∷ 48 ∷ 69 ∷ 48 ∷ 48 ∷ 48 ∷ 48 ∷ 48 ∷ 48 ∷ 48 ∷ 48 ∷ 48 ∷ 48 ∷ 48 ∷ 48 ∷ 48 ∷ 44 ∷ 48 ∷ 48 ∷ 48 ∷ 48 ∷
    48 ∷ 48 ∷ 48 ∷ 48 ∷ 48 ∷ 48 ∷ 48 ∷ 48 ∷ 48 ∷ 48 ∷ 48 ∷ 49 ∷ 44 ∷ 55 ∷ 70 ∷ 69 ∷ 70 ∷ 70 ∷ 70 ∷ 70 ∷ 70 ∷ 70 ∷ 70 ∷ 70 ∷ 70 ∷ 70 ∷ 70 ∷ 70 ∷ 70 ∷ 44 ∷
    52 ∷ 48 ∷ 50 ∷ 52 ∷ 48 ∷ 48 ∷ 48 ∷ 48 ∷ 48 ∷ 48 ∷ 48 ∷ 48 ∷ 48 ∷ 48 ∷ 48 ∷ 48 ∷ 44 ∷ 56 ∷ 48 ∷ 48 ∷ 48 ∷ 48 ∷ 48 ∷ 48 ∷ 48 ∷ 48 ∷ 48 ∷ 48 ∷ 48 ∷ 48 ∷
    48 ∷ 48 ∷ 48 ∷ 10 ∷ []

-- the example is of the form
the-example : is_text example ≡ true
unfolding is_text records_form split is_settings settings_form line_of carrier_form carrier is_vector vector_in number is_number plain every decimal_value state is_state pattern_in is_float hex example
the-example = refl

-- so is a carrier after it
with-carrier : is_text (example ++ first) ≡ true
unfolding is_text records_form split is_settings settings_form line_of carrier_form carrier is_vector vector_in number is_number plain every decimal_value state is_state pattern_in is_float hex example first
with-carrier = refl

-- the settings come first
not_first : is_text (first ++ example) ≡ false
unfolding is_text records_form split is_settings settings_form line_of carrier_form carrier is_vector vector_in number is_number plain every decimal_value state is_state pattern_in is_float hex example first
not_first = refl

-- and once
twice : is_text (example ++ example) ≡ false
unfolding is_text records_form split is_settings settings_form line_of carrier_form carrier is_vector vector_in number is_number plain every decimal_value state is_state pattern_in is_float hex example
twice = refl

-- no text is not of the form
no_text : is_text [] ≡ false
unfolding is_text records_form split is_settings settings_form line_of carrier_form carrier is_vector vector_in number is_number plain every decimal_value state is_state pattern_in is_float hex example
no_text = refl

-- nor is an empty line
blank-line : is_text (example ++ (10 ∷ [])) ≡ false
unfolding is_text records_form split is_settings settings_form line_of carrier_form carrier is_vector vector_in number is_number plain every decimal_value state is_state pattern_in is_float hex example
blank-line = refl

-- nor is a last line without LF
no-last-line_feed : is_text (example ++ (80 ∷ 44 ∷ [])) ≡ false
unfolding is_text records_form split is_settings settings_form line_of carrier_form carrier is_vector vector_in number is_number plain every decimal_value state is_state pattern_in is_float hex example first
no-last-line_feed = refl

-- 1 comes before every other number
broken : displacement_in [] ≡ Err BrokenForm
unfolding displacement_in is_text records_form split is_settings settings_form line_of carrier_form carrier is_vector vector_in number is_number plain every decimal_value state is_state pattern_in is_float hex example
broken = refl

one : Carrier
one =
    record {
      constellation = 6;
      svid = 12;
      band = 1575420030;
      adr = bits 0x40F0_0000_0000_0000;
      state = negsuc 16;
      satellite = record { x = bits 0xC0E0_0000_0000_0000; y = bits 1; z = bits 0x7FEF_FFFF_FFFF_FFFF };
      elevation = bits 0x4024_0000_0000_0000;
      rate = bits 0x8000_0000_0000_0000;
    }

-- what the line of a carrier says
the_carrier : line_of (80 ∷ 44 ∷ 54 ∷ 44 ∷ 49 ∷ 50 ∷ 44 ∷ 49 ∷ 53 ∷ 55 ∷ 53 ∷ 52 ∷ 50 ∷ 48 ∷ 48 ∷ 51 ∷ 48 ∷ 44 ∷ 52 ∷ 48 ∷ 70 ∷ 48 ∷ 48 ∷ 48 ∷ 48 ∷ 48 ∷ 48 ∷ 48 ∷ 48 ∷ 48 ∷
    48 ∷ 48 ∷ 48 ∷ 48 ∷ 44 ∷ 45 ∷ 49 ∷ 55 ∷ 44 ∷ 67 ∷ 48 ∷ 69 ∷ 48 ∷ 48 ∷ 48 ∷ 48 ∷ 48 ∷ 48 ∷ 48 ∷ 48 ∷ 48 ∷ 48 ∷ 48 ∷ 48 ∷ 48 ∷ 44 ∷ 48 ∷ 48 ∷ 48 ∷ 48 ∷
    48 ∷ 48 ∷ 48 ∷ 48 ∷ 48 ∷ 48 ∷ 48 ∷ 48 ∷ 48 ∷ 48 ∷ 48 ∷ 49 ∷ 44 ∷ 55 ∷ 70 ∷ 69 ∷ 70 ∷ 70 ∷ 70 ∷ 70 ∷ 70 ∷ 70 ∷ 70 ∷ 70 ∷ 70 ∷ 70 ∷ 70 ∷ 70 ∷ 70 ∷ 44 ∷
    52 ∷ 48 ∷ 50 ∷ 52 ∷ 48 ∷ 48 ∷ 48 ∷ 48 ∷ 48 ∷ 48 ∷ 48 ∷ 48 ∷ 48 ∷ 48 ∷ 48 ∷ 48 ∷ 44 ∷ 56 ∷ 48 ∷ 48 ∷ 48 ∷ 48 ∷ 48 ∷ 48 ∷ 48 ∷ 48 ∷ 48 ∷ 48 ∷ 48 ∷ 48 ∷
    48 ∷ 48 ∷ 48 ∷ []) ≡ Previous one
unfolding is_text records_form split is_settings settings_form line_of carrier_form carrier is_vector vector_in number is_number plain every decimal_value state is_state pattern_in is_float hex example one of_bits
the_carrier = refl

-- the example alone gives R,7
the-answer : answer_line example ≡ 82 ∷ 44 ∷ 55 ∷ 10 ∷ []
unfolding answer_line displacement_in text_input given_in no_carriers fold is_text records_form split is_settings settings_form line_of is_vector vector_in number is_number plain every decimal_value pattern_in is_float hex example displacement_of moved_by ruled epoch_rules interval_rules pair_rules sight_rules count_rules few_rules row_rules settings_pass bad_interval abs in_range pairs_of collect digits_text digit_count of_int of_bits neg le lt is_nan
the-answer = refl

-- ---- answers

-- R,7 and R,12
seven : answer_text (Err TooFewPairs) ≡ 82 ∷ 44 ∷ 55 ∷ 10 ∷ []
unfolding digits_text digit_count
seven = refl

twelve : answer_text (Err NoCorrection) ≡ 82 ∷ 44 ∷ 49 ∷ 50 ∷ 10 ∷ []
unfolding digits_text digit_count
twelve = refl

zeros : List ℕ
zeros = replicate 16 48

-- A,6,0, and three zero floats
still : answer_text (Ok (record { delta = record { x = +0; y = +0; z = +0 }; used = 6; screened = 0 }))
    ≡ 65 ∷ 44 ∷ 54 ∷ 44 ∷ 48 ∷ 44 ∷ (zeros ++ (44 ∷ [])) ++ ((zeros ++ (44 ∷ [])) ++ (zeros ++ (10 ∷ [])))
unfolding digits_text digit_count of_bits to_bits zeros
still = refl
