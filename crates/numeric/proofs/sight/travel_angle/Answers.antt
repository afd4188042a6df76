-- `numeric::sight::travel_angle` meets its contract. Assumes nothing.
use lib.Ieee.{of_int, of_bits}
use Rattle.numeric.specs.Sight.{travel_angle}
use Rattle.numeric.proofs.RealValues.{earth_rate_lem}
use Rattle.numeric.proofs.sight.travel_angle.Goals as goal

pub returns : goal.returns
unfolding travel_angle of_int of_bits
returns c = rw earth_rate_lem
