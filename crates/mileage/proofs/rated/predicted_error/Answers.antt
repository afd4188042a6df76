-- `mileage::rated::predicted_error` meets its contract. Assumes nothing.
use lib.Ieee.{div, of_bits, of_int}
use Rattle.mileage.specs.Rated.{predicted_error}
use Rattle.mileage.proofs.rated.predicted_error.Goals as goal

pub returns : goal.returns
unfolding predicted_error div of_bits of_int
returns c = rw c.at_least_one.ensures
