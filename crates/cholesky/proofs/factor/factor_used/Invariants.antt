-- `cholesky::factor::factor_used` meets its contract: before column j the rows are as `Columns` says and p is the pivot of row j. Assumes nothing.
use mathlib.Core.Path.{◌≡◌}
use Prim.Native.Nat.{◌<◌, ◌-◌}
use Rattle.cholesky.specs.Steps.{sum_of}
use Rattle.cholesky.proofs.FactorColumns.{Columns}
use Rattle.cholesky.proofs.factor.factor_used.Given as goal

abbrev pub invariant-loop-j : goal.invariant-loop-j
invariant-loop-j l = (l.j < l.n) × Columns l.n l.j l.n l.a l.l × (l.p ≡ sum_of l.j l.j l.j l.a l.l)
