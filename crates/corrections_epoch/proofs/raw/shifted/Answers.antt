-- `corrections_epoch::raw::shifted` meets its contract. Assumes nothing.
use mathlib.Core.Path.{refl}
use Rattle.corrections_epoch.specs.Raw.{shifted}
use Rattle.corrections_epoch.proofs.raw.shifted.Goals as goal

pub returns : goal.returns
unfolding shifted
returns c = refl
