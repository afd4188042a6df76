-- `cholesky::factor::ahead` meets its contract: after k turns k products are taken off both sums. Assumes nothing.
use Rattle.cholesky.specs.Steps.{sum_of}
use mathlib.Core.Path.{◌≡◌}
use Prim.Native.Nat.{◌≤◌, ◌-◌}
use Rattle.cholesky.proofs.factor.ahead.Given as goal

abbrev pub invariant-loop-k : goal.invariant-loop-k
invariant-loop-k l = (l.k ≤ l.c) × (l.s ≡ sum_of l.k l.m l.j l.a l.l) × (l.q ≡ sum_of l.k l.m l.m l.a l.l)
