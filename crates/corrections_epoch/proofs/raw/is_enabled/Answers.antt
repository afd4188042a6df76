-- `corrections_epoch::raw::is_enabled` meets its contract. Assumes nothing.
use Rattle.corrections_epoch.specs.Raw.{enabled}
use Rattle.corrections_epoch.proofs.raw.is_enabled.Goals as goal

pub returns : goal.returns
unfolding enabled
returns c = rw c.min.ensures
