-- `normal_equations::row::wide` meets its contract. Assumes nothing.
use mathlib.Core.Path.{refl, sym}
use mathlib.Core.List.{◌∷◌}
use lib.ListN.{replicate}
use lib.Seq.{set_out}
use Rattle.exact.specs.Float.{+0, 1·0}
use Rattle.normal_equations.specs.Equations.{wide}
use native.Mathlib.Omega.{arith}
use Rattle.normal_equations.proofs.row.wide.Goals as goal

pub returns-then-c-lt9 : goal.returns-then-c-lt9
unfolding wide
returns-then-c-lt9 c = refl

pub returns-else-c-lt9 : goal.returns-else-c-lt9
unfolding wide
returns-else-c-lt9 c = let r = c.args.r in
    sym (set_out (r.unit.x ∷ r.unit.y ∷ r.unit.z ∷ replicate 6 +0) r.clock 1·0 (omega arith))
