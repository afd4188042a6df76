-- `normal_equations::equations::add_row` meets its contract. Assumes nothing.
use Rattle.normal_equations.proofs.AddedLaws.{row-start, row_next, row-end}
use native.Mathlib.Omega.{arith}
use Rattle.normal_equations.proofs.equations.add_row.Goals as goal

pub loop-j-init : goal.loop-j-init
loop-j-init c = (omega arith, row-start _ _ _ _ c.requires.2)

pub loop-j-preserved : goal.loop-j-preserved
loop-j-preserved c = let h = c.loop-j in (omega arith, row_next _ _ _ _ h.j h.a (omega arith) (omega arith) h.invariant.1)
