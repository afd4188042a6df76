-- `normal_equations::equations::times` meets its contract. Assumes nothing.
use Rattle.normal_equations.proofs.AddedLaws.{times-start, times-next, times-end}
use native.Mathlib.Omega.{arith}
use Rattle.normal_equations.proofs.equations.times.Goals as goal

pub loop-i-init : goal.loop-i-init
loop-i-init c = times-start _ _

pub loop-i-preserved : goal.loop-i-preserved
loop-i-preserved c = let h = c.loop-i in times-next _ _ h.i h.t (omega arith) h.invariant

pub returns : goal.returns
returns c = let h = c.loop-i in times-end _ _ h.i h.t (omega arith) h.invariant
