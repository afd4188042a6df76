-- `numeric::sight::gap` meets its contract. Assumes nothing.
use Rattle.numeric.specs.Sight.{gap}
use Rattle.numeric.proofs.sight.gap.Goals as goal

pub returns : goal.returns
unfolding gap
returns c = rw (c.sub.ensures, c.turned.ensures, c.travel_angle-t.ensures)
