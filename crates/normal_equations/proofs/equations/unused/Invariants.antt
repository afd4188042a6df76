-- `normal_equations::equations::unused` meets its contract. Assumes nothing.
use Prim.Native.Nat.{◌≤◌, ◌-◌}
use Rattle.normal_equations.proofs.UnusedLaws.{Marking}
use Rattle.normal_equations.proofs.equations.unused.Given as goal

abbrev pub invariant-loop-i : goal.invariant-loop-i
invariant-loop-i l = (l.n ≤ l.i) × Marking l.n l.i l.a

abbrev pub decreases-loop-i : goal.decreases-loop-i
decreases-loop-i l = 9 - l.i
