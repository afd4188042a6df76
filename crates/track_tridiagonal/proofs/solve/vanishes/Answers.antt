use Rattle.track_tridiagonal.specs.Tridiagonal.{vanishing}
use Rattle.track_tridiagonal.proofs.solve.vanishes.Goals as goal

pub returns : goal.returns
unfolding vanishing
returns c = rw c.abs.ensures
