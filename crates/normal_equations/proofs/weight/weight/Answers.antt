-- `normal_equations::weight::weight` meets its contract. Assumes nothing.
use Rattle.normal_equations.specs.Weight.{weight}
use Rattle.normal_equations.proofs.weight.weight.Goals as goal

pub returns : goal.returns
unfolding weight
returns c = rw (c.damping.ensures, c.abs.ensures, c.float.ensures)
