-- `numeric::real::hypot` meets its contract. Assumes nothing.
use Rattle.numeric.specs.Real.{hypot}
use Rattle.numeric.proofs.real.hypot.Goals as goal

pub returns : goal.returns
unfolding hypot
returns c = rw c.sqrt.ensures
