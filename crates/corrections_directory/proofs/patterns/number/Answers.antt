-- `corrections_directory::patterns::number` meets its contract. Assumes nothing.
use mathlib.Core.Path.{sym, ◌∙◌}
use lib.Ieee.{binary64}
use lib.Ieee.Bits.{nan_bits_above}
use Rattle.numeric.proofs.OrderMagnitude.{is_nan_pattern-above}
use Rattle.corrections_directory.proofs.patterns.number.Goals as goal

pub float_from_bits-result : goal.float_from_bits-result
float_from_bits-result c = rw (nan_bits_above binary64 c.args.pattern ∙ sym (is_nan_pattern-above c.args.pattern) ∙ c.requires) tt
