use Rattle.std.specs.Prelude.{Result, Ok, Err}
use Rattle.median.specs.declared.centre.CentreScale.{CentreScale}
use Rattle.numeric.specs.declared.refusal.Refusal.{Refusal}
use mathlib.Core.Path.{◌≡◌, refl, sym, ap, ◌∙◌}
use mathlib.Core.Bool.{Bool, true, false, ◌&&◌}
use lib.Dec.{eqb}
use lib.Ieee.{binary64, of_bits, eq, is_nan, to_bits}
use Rattle.exact.specs.Float.{+0, 1·0}
use Rattle.numeric.specs.Order.{pattern_of}
use Rattle.trials.proofs.Trials.{centre-empty}
use Rattle.trials.proofs.centre.empty.Goals as goal

abbrev test : Result CentreScale Refusal → Bool
test (Ok x) = eqb (pattern_of x.centre) 0 && eq x.scale (of_bits binary64 0x3FF0_0000_0000_0000)
test (Err r) = false

passes : test (Ok (record { centre = +0; scale = 1·0 })) ≡ true
unfolding pattern_of is_nan to_bits of_bits eq
passes = refl

pub returns-in-Ok : goal.returns-in-Ok
returns-in-Ok c = rw c.pattern.ensures (ap test (sym c.in-Ok.is ∙ c.centre_scale-answer.ensures.answer ∙ centre-empty) ∙ passes)

pub returns-in-Err : goal.returns-in-Err
returns-in-Err c = ap test (sym c.in-Err.is ∙ c.centre_scale-answer.ensures.answer ∙ centre-empty) ∙ passes
