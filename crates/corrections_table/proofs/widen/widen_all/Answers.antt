-- `corrections_table::widen::widen_all` meets its contract. Assumes nothing.
use native.Mathlib.Omega.{arith}
use Rattle.corrections_table.proofs.WidenLaws.{widening_start, widening_next, widening_end}
use Rattle.corrections_table.proofs.widen.widen_all.Goals as goal

pub loop-i-init : goal.loop-i-init
loop-i-init c = widening_start _ _ _

pub overflow_cast-wide : goal.overflow_cast-wide
overflow_cast-wide c = omega (arith, c.shared_slice_known-1.given c.loop-i.i)

pub loop-i-preserved : goal.loop-i-preserved
loop-i-preserved c = widening_next _ _ _ c.requires.0 c.requires.1 _ _ c.loop-i.invariant c.loop-i-test.true

pub shape_of-wide : goal.shape_of-wide
shape_of-wide c = c.loop-i.invariant.long

pub returns : goal.returns
returns c = widening_end _ _ _ c.requires.0 c.requires.1 _ _ c.loop-i.invariant c.loop-i-test.false
