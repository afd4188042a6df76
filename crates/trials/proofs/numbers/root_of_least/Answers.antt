use mathlib.Core.Path.{◌≡◌, refl, ap, ◌∙◌}
use lib.Ieee.{binary64, of_bits, is_nan, to_bits}
use Rattle.root.specs.Root.{root_of}
use Rattle.numeric.specs.Order.{pattern_of}
use Rattle.trials.proofs.numbers.root_of_least.Goals as goal

value : pattern_of (root_of (of_bits binary64 1)) ≡ 0x1E60_0000_0000_0000
unfolding root_of pattern_of is_nan to_bits of_bits
value = refl

pub returns : goal.returns
returns c = rw (c.pattern.ensures ∙ ap pattern_of (c.sqrt.ensures ∙ ap root_of c.float.ensures) ∙ value)
