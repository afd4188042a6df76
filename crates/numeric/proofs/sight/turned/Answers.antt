-- `numeric::sight::turned` meets its contract. Assumes nothing.
use Rattle.numeric.specs.Sight.{turned}
use Rattle.numeric.proofs.sight.turned.Goals as goal

pub returns : goal.returns
unfolding turned
returns c = let d = c in rw (d.travel_cosine-cos.ensures, d.travel_sine-sin.ensures)
