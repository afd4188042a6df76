-- `corrections_epoch::sample::is_kept` meets its contract. Assumes nothing.
use Rattle.corrections_epoch.specs.Sample.{kept}
use Rattle.corrections_epoch.proofs.sample.is_kept.Goals as goal

pub returns : goal.returns
unfolding kept
returns c = rw (c.is_finite.ensures, c.abs.ensures)
