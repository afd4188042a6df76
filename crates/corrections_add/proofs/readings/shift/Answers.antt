-- `corrections_add::readings::shift` meets its contract. Assumes nothing.
use mathlib.Core.Path.{refl}
use native.Mathlib.Omega.{arith}
use Rattle.corrections_add.proofs.FillLaws.{shifting_turn, shifting_end}
use Rattle.corrections_add.proofs.readings.shift.Goals as goal

pub loop-c-init : goal.loop-c-init
loop-c-init c = record { few = omega arith; long = refl; rest = refl }

pub loop-c-preserved : goal.loop-c-preserved
loop-c-preserved c = shifting_turn c.loop-c.invariant c.loop-c-test.true

pub returns : goal.returns
returns c = shifting_end c.loop-c.invariant (omega (arith, c.loop-c-test.false))
