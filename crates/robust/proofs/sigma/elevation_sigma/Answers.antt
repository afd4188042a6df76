-- `robust::sigma::elevation_sigma` meets its contract. Assumes nothing.
use Rattle.robust.specs.Sigma.{elevation_sigma}
use Rattle.robust.proofs.RowLaws.{least_sine, three}
use Rattle.robust.proofs.sigma.elevation_sigma.Goals as goal

pub returns : goal.returns
unfolding elevation_sigma
returns c = rw (c.max-2.ensures, c.elevation_sine.ensures, c.radians.ensures, c.max.ensures, least_sine, three)
