-- `normal_equations::equations::add_triangle` meets its contract. Assumes nothing.
use mathlib.Core.Path.{◌∙◌}
use Rattle.normal_equations.proofs.AddedLaws.{triangle-start, triangle-next, triangle-end, triangle-square}
use native.Mathlib.Omega.{arith}
use Rattle.normal_equations.proofs.equations.add_triangle.Goals as goal

pub loop-i-init : goal.loop-i-init
loop-i-init c = (omega arith, triangle-start _ _ _ c.requires.1)

pub add_row-requires : goal.add_row-requires
add_row-requires c = let h = c.loop-i in (omega arith, omega arith, triangle-square _ _ _ h.i h.a h.invariant.1)

pub loop-i-preserved : goal.loop-i-preserved
loop-i-preserved c = let h = c.loop-i in (omega arith, c.add_row.ensures ∙ triangle-next _ _ _ h.i h.a (omega arith) h.invariant.1)
