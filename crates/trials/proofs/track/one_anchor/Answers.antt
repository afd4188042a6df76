-- `trials::track::one_anchor` meets its contract. Assumes nothing.
use mathlib.Core.Path.{ap, ◌∙◌}
use lib.Ieee.{of_bits, of_int}
use Rattle.numeric.specs.Refusal.{answer_number}
use Rattle.trials.proofs.track.one_anchor.Goals as goal

pub returns : goal.returns
unfolding of_bits of_int
returns c = let s = c.smooth.ensures in
    record { number_is = c.answer_number.ensures ∙ ap answer_number s.answer; result-is = s.left.result }
