-- `frames::frames::turned` meets its contract. Assumes nothing.
use mathlib.Core.Path.{refl}
use lib.Ieee.{of_bits}
use Rattle.frames.specs.Frames.{axis_turned}
use Rattle.frames.proofs.frames.turned.Goals as goal

pub returns : goal.returns
unfolding axis_turned of_bits
returns c = refl
