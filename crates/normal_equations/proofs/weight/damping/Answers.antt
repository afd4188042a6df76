-- `normal_equations::weight::damping` meets its contract. Assumes nothing.
use Rattle.normal_equations.specs.Weight.{damping}
use Rattle.normal_equations.proofs.WeightLaws.{least}
use Rattle.normal_equations.proofs.weight.damping.Goals as goal

pub returns-then-z-huber : goal.returns-then-z-huber
unfolding damping
returns-then-z-huber c = rw c.if-z-huber.true

pub returns-else-z-huber : goal.returns-else-z-huber
unfolding damping
returns-else-z-huber c = rw (c.if-z-huber.false, c.max.ensures, least)
