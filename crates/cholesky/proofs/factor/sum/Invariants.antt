-- `cholesky::factor::sum` meets its contract: after k turns k products are taken off. Assumes nothing.
use Rattle.cholesky.specs.Steps.{sum_of}
use mathlib.Core.Path.{◌≡◌}
use Prim.Native.Nat.{◌≤◌, ◌-◌}
use Rattle.cholesky.proofs.factor.sum.Given as goal

abbrev pub invariant-loop-k : goal.invariant-loop-k
invariant-loop-k l = (l.k ≤ l.c) × (l.s ≡ sum_of l.k l.i l.j l.a l.l)
