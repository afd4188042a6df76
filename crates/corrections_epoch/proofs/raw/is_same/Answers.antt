-- `corrections_epoch::raw::is_same` meets its contract. Assumes nothing.
use mathlib.Core.Path.{refl}
use Rattle.corrections_epoch.specs.Raw.{is_state_of}
use Rattle.corrections_epoch.proofs.raw.is_same.Goals as goal

pub returns : goal.returns
unfolding is_state_of
returns c = refl
