-- `normal_equations::equations::add_triangle` meets its contract. Assumes nothing.
use Prim.Native.Nat.{◌≤◌, ◌-◌}
use mathlib.Core.Path.{◌≡◌}
use Rattle.normal_equations.specs.Steps.{triangle_added}
use Rattle.normal_equations.proofs.equations.add_triangle.Given as goal

abbrev pub invariant-loop-i : goal.invariant-loop-i
invariant-loop-i l = (l.i ≤ l.n) × (l.a ≡ triangle_added l.i l.t l.e l.initial.a)

abbrev pub decreases-loop-i : goal.decreases-loop-i
decreases-loop-i l = l.n - l.i
