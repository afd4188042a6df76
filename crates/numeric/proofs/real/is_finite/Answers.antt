-- `numeric::real::is_finite` meets its contract. Assumes nothing.
use lib.Ieee.{of_bits, neg, div}
use Rattle.numeric.proofs.RealLaws.{finite-between}
use Rattle.numeric.proofs.real.is_finite.Goals as goal

pub returns : goal.returns
unfolding of_bits neg div
returns c = finite-between c.args.x
