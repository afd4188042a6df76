-- `robust::round::step` meets its contract. Assumes nothing.
use Prim.Native.Nat.{◌-◌, ◌≤◌}
use mathlib.Core.Path.{◌≡◌}
use lib.ListN.{drop}
use Rattle.lists.specs.Walk.{every}
use Rattle.robust.specs.Step.{counted_rows, indexed}
use Rattle.normal_equations.specs.declared.row.Row.{Row}
use Rattle.normal_equations.proofs.ColumnLaws.{Column}
use Rattle.robust.proofs.round.step.Given as goal

abbrev pub invariant-loop-k : goal.invariant-loop-k
invariant-loop-k l = (l.k ≤ l.count) × (every indexed (drop l.k (counted_rows l.rows)) ≡ every indexed (counted_rows l.rows)) × Column (λ (r : Row). r.unit.x) l.rows.row l.k l.table.x × Column (λ (r : Row). r.unit.y) l.rows.row l.k l.table.y × Column (λ (r : Row). r.unit.z) l.rows.row l.k l.table.z × Column (λ (r : Row). r.clock) l.rows.row l.k l.table.clock × Column (λ (r : Row). r.sigma) l.rows.row l.k l.table.sigma × Column (λ (r : Row). r.residual) l.rows.row l.k l.table.residual

abbrev pub decreases-loop-k : goal.decreases-loop-k
decreases-loop-k l = l.count - l.k
