-- `corrections_epoch::raw::raw_value` meets its contract. Assumes nothing.
use lib.Ieee.{of_bits, of_int}
use Rattle.corrections_epoch.specs.Raw.{raw_value}
use Rattle.corrections_epoch.proofs.raw.raw_value.Goals as goal

pub returns : goal.returns
unfolding raw_value of_bits of_int
returns c = rw (c.distance-2.ensures, c.turned-rotated.ensures, c.travel_angle.ensures, c.shifted.ensures, c.distance.ensures, c.distance-nominal.ensures)
