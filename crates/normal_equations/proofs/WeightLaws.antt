-- The constant of a weight. Assumes nothing.
use mathlib.Core.Path.{◌≡◌, refl}
use lib.Ieee.{div, of_int, of_bits}
use Rattle.exact.specs.Float.{bits, decimal}

-- 1e-9, as a compiler reads it
pub least : bits 0x3E11_2E0B_E826_D695 ≡ decimal 1 9
unfolding div of_int of_bits
least = refl
