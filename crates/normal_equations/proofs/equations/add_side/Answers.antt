-- `normal_equations::equations::add_side` meets its contract. Assumes nothing.
use Rattle.normal_equations.proofs.AddedLaws.{side-start, side-next, side-end}
use native.Mathlib.Omega.{arith}
use Rattle.normal_equations.proofs.equations.add_side.Goals as goal

pub loop-i-init : goal.loop-i-init
loop-i-init c = (omega arith, side-start _ _ _ c.requires.1)

pub loop-i-preserved : goal.loop-i-preserved
loop-i-preserved c = let h = c.loop-i in (omega arith, side-next _ _ _ h.i h.b (omega arith) h.invariant.1)
