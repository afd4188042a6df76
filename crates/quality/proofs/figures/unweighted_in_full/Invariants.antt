-- `quality::figures::unweighted_in_full` meets its contract. Assumes nothing.
use mathlib.Core.Path.{◌≡◌}
use Prim.Native.Nat.{◌-◌, ◌≤◌}
use Rattle.normal_equations.specs.Equations.{triangle_of}
use Rattle.normal_equations.specs.Steps.{lent_columns}
use Rattle.quality.proofs.QualityLaws.{plain}
use Rattle.quality.proofs.figures.unweighted_in_full.Given as goal

abbrev pub invariant-loop-k : goal.invariant-loop-k
invariant-loop-k l = (l.k ≤ l.count) × (l.a ≡ triangle_of l.n (plain (lent_columns l.rows) l.k))

abbrev pub decreases-loop-k : goal.decreases-loop-k
decreases-loop-k l = l.count - l.k
