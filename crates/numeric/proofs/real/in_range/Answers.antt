-- `numeric::real::in_range` meets its contract. Assumes nothing.
use lib.IntN.{pos}
use lib.Ieee.{of_bits, neg, of_int}
use Rattle.numeric.specs.Real.{in_range}
use Rattle.numeric.proofs.RealLaws.{between}
use Rattle.numeric.proofs.real.in_range.Goals as goal

-- 1e9 is 1953125 * 2 ^ 9
pub returns : goal.returns
unfolding in_range of_bits neg of_int
returns c = between 1953125 (pos 9) c.args.x
