-- `cholesky::factor::fill` meets its contract: before row r the elements are made from row i on. Assumes nothing.
use Rattle.cholesky.specs.Steps.{filled}
use mathlib.Core.Path.{◌≡◌}
use Prim.Native.Nat.{◌≤◌, ◌-◌}
use Rattle.cholesky.proofs.factor.fill.Given as goal

abbrev pub invariant-loop-r : goal.invariant-loop-r
invariant-loop-r l = (l.i ≤ l.r) × (l.r ≤ l.n) × (l.l ≡ filled (l.r - l.i) l.j l.d l.i l.a l.initial.l)
