-- `corrections_epoch_columns::epoch::ranges_lack` meets its contract. Assumes nothing.
use mathlib.Core.Path.{refl}
use Rattle.corrections_epoch_columns.specs.Short.{ranges_short}
use Rattle.corrections_epoch_columns.proofs.epoch.ranges_lack.Goals as goal

pub returns : goal.returns
unfolding ranges_short
returns c = refl
