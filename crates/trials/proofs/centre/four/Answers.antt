use Rattle.std.specs.Prelude.{Result, Ok, Err}
use Rattle.median.specs.declared.centre.CentreScale.{CentreScale}
use Rattle.numeric.specs.declared.refusal.Refusal.{Refusal}
use mathlib.Core.Path.{◌≡◌, refl, sym, ap, ◌∙◌}
use mathlib.Core.Bool.{Bool, true, false, ◌&&◌}
use mathlib.Core.List.{[], ◌∷◌}
use lib.Ieee.{binary64, of_bits, of_int, to_bits, is_nan, add, sub, mul, div, lt, eq}
use Rattle.exact.specs.Pattern.{sign}
use Rattle.numeric.specs.Order.{total_order, pattern_of}
use Rattle.numeric.specs.Real.{abs}
use Rattle.median.specs.Sorted.{insert_by, sorted_by, median_of}
use Rattle.median.specs.Centre.{centre_of, deviation_of, scale_of, centre_and_scale_of, centre_scale_of}
use Rattle.trials.proofs.centre.four.Goals as goal

abbrev test : Result CentreScale Refusal → Bool
test (Ok x) =
    eq x.centre (of_bits binary64 0x4008_0000_0000_0000)
    && eq x.scale (add binary64 (mul binary64 (of_bits binary64 4609355855980186409) (of_bits binary64 0x3FF0_0000_0000_0000)) (of_bits binary64 4517329193108106637))
test (Err r) = false

passes : test (centre_scale_of (pattern_of (of_bits binary64 0x4008_0000_0000_0000) ∷ pattern_of (of_bits binary64 0x3FF0_0000_0000_0000) ∷ pattern_of (of_bits binary64 0x4000_0000_0000_0000) ∷ pattern_of (of_bits binary64 0x4010_0000_0000_0000) ∷ [])) ≡ true
unfolding centre_scale_of centre_and_scale_of scale_of centre_of median_of sorted_by insert_by total_order sign lt eq of_bits of_int deviation_of pattern_of abs is_nan to_bits sub mul add div
passes = refl

pub returns-in-Ok : goal.returns-in-Ok
returns-in-Ok c = ap test (sym c.in-Ok.is ∙ c.centre_scale-answer.ensures.answer) ∙ rw (c.pattern.ensures, c.pattern-2.ensures, c.pattern-3.ensures, c.pattern-4.ensures) passes

pub returns-in-Err : goal.returns-in-Err
returns-in-Err c = ap test (sym c.in-Err.is ∙ c.centre_scale-answer.ensures.answer) ∙ rw (c.pattern.ensures, c.pattern-2.ensures, c.pattern-3.ensures, c.pattern-4.ensures) passes
