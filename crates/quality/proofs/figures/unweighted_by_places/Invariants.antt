-- `quality::figures::unweighted_by_places` meets its contract. Assumes nothing.
use Prim.Native.Nat.{◌-◌, ◌≤◌}
use Rattle.normal_equations.specs.Steps.{lent_columns, row_in}
use Rattle.normal_equations.proofs.Places.{PlacedCells}
use Rattle.quality.proofs.QualityLaws.{bare}
use Rattle.quality.proofs.figures.unweighted_by_places.Given as goal

abbrev pub invariant-loop-k : goal.invariant-loop-k
invariant-loop-k l = (l.k ≤ l.count) × PlacedCells bare (row_in (lent_columns l.rows)) l.n l.k l.s l.a

abbrev pub decreases-loop-k : goal.decreases-loop-k
decreases-loop-k l = l.count - l.k
