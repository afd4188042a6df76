-- `numeric::real::travel_sine` meets its contract. Assumes nothing.
use lib.Ieee.{of_int, of_bits, div}
use Rattle.numeric.specs.Real.{travel_sine}
use Rattle.numeric.proofs.real.travel_sine.Goals as goal

pub returns-then-t : goal.returns-then-t
unfolding travel_sine of_int of_bits
returns-then-t c = rw c.if-t.true

pub returns-else-t : goal.returns-else-t
unfolding travel_sine of_int of_bits div
returns-else-t c = rw c.if-t.false
