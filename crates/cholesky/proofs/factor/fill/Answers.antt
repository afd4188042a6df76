-- `cholesky::factor::fill` meets its contract: before row r the elements are made from row i on. Assumes nothing.
use Rattle.cholesky.proofs.ColumnLaws.{filled-start, filled_next, filled-end}
use native.Mathlib.Omega.{arith}
use Rattle.cholesky.proofs.factor.fill.Goals as goal

pub loop-r-init : goal.loop-r-init
loop-r-init c = (omega arith, omega arith, filled-start _ _ _ _ _)

pub loop-r-preserved : goal.loop-r-preserved
loop-r-preserved c = let t = c in
    (omega arith, omega arith, rw c.sum-s.ensures (filled_next _ _ _ _ _ _ _ (omega arith) t.loop-r.invariant.2))

pub returns : goal.returns
returns c = filled-end _ _ _ _ _ _ _ _ (omega arith) c.loop-r.invariant.2
