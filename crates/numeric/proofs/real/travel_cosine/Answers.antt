-- `numeric::real::travel_cosine` meets its contract. Assumes nothing.
use lib.Ieee.{of_int, of_bits, div}
use Rattle.numeric.specs.Real.{travel_cosine}
use Rattle.numeric.proofs.real.travel_cosine.Goals as goal

pub returns-then-t : goal.returns-then-t
unfolding travel_cosine of_int of_bits
returns-then-t c = rw c.if-t.true

pub returns-else-t : goal.returns-else-t
unfolding travel_cosine of_int of_bits div
returns-else-t c = rw c.if-t.false
