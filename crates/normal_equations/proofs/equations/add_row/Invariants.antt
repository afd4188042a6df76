-- `normal_equations::equations::add_row` meets its contract. Assumes nothing.
use Prim.Native.Nat.{◌≤◌, ◌-◌}
use mathlib.Core.Path.{◌≡◌}
use Rattle.normal_equations.specs.Steps.{row_added}
use Rattle.normal_equations.proofs.equations.add_row.Given as goal

abbrev pub invariant-loop-j : goal.invariant-loop-j
invariant-loop-j l = (l.j ≤ l.m) × (l.a ≡ row_added l.i l.j l.t l.e l.initial.a)

abbrev pub decreases-loop-j : goal.decreases-loop-j
decreases-loop-j l = l.m - l.j
