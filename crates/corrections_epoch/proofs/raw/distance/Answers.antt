-- `corrections_epoch::raw::distance` meets its contract. Assumes nothing.
use Rattle.corrections_epoch.specs.Raw.{distance}
use Rattle.corrections_epoch.proofs.raw.distance.Goals as goal

pub returns : goal.returns
unfolding distance
returns c = rw (c.norm.ensures, c.sub.ensures)
