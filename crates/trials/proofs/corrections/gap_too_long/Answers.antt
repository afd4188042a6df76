use Rattle.std.specs.Prelude.{Err}
use mathlib.Core.Path.{◌≡◌, refl, ap, ◌∙◌}
use lib.Ieee.{Float, binary64, of_bits, of_int}
use Rattle.numeric.specs.declared.refusal.Refusal.TheVariants.{NoCorrection}
use Rattle.exact.specs.Float.{whole}
use Rattle.corrections_query.specs.Query.{query_in}
use Rattle.trials.specs.Marked.{two_samples}
use Rattle.trials.proofs.Trials.{gap_too_long}
use Rattle.trials.proofs.corrections.gap_too_long.Goals as goal

limit : of_bits binary64 0x4014_0000_0000_0000 ≡ whole 5
unfolding of_bits of_int
limit = refl

refused : query_in 1 2 2 two_samples (of_bits binary64 0x4014_0000_0000_0000) 1 5 1 (whole 15) ≡ Err NoCorrection
refused = ap (λ (g : Float). query_in 1 2 2 two_samples g 1 5 1 (whole 15)) limit ∙ gap_too_long

pub returns : goal.returns
returns c = rw (c.half_way-answer.ensures.number_is, refused)
