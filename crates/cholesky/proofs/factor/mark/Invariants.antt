-- `cholesky::factor::mark` meets its contract: before row i the diagonal is marked from row n on. Assumes nothing.
use Rattle.cholesky.specs.Steps.{ones_marked}
use mathlib.Core.Path.{◌≡◌}
use Prim.Native.Nat.{◌≤◌, ◌-◌}
use Rattle.cholesky.proofs.factor.mark.Given as goal

abbrev pub invariant-loop-i : goal.invariant-loop-i
invariant-loop-i l = (l.n ≤ l.i) × (l.i ≤ 9) × (l.l ≡ ones_marked (l.i - l.n) l.n l.initial.l)
