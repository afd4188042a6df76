-- `cholesky::factor::mark` meets its contract: before row i the diagonal is marked from row n on. Assumes nothing.
use Rattle.cholesky.proofs.ColumnLaws.{marked_start, marked_next, marked-end}
use native.Mathlib.Omega.{arith}
use Rattle.cholesky.proofs.factor.mark.Goals as goal

pub loop-i-init : goal.loop-i-init
loop-i-init c = (omega arith, omega arith, marked_start _ _)

pub loop-i-preserved : goal.loop-i-preserved
loop-i-preserved c = let t = c in (omega arith, omega arith, marked_next _ _ _ _ (omega arith) t.loop-i.invariant.2)

pub returns : goal.returns
returns c = let t = c in marked-end _ _ _ _ _ (omega arith) t.loop-i.invariant.2
