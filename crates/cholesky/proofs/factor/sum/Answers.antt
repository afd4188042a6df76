-- `cholesky::factor::sum` meets its contract: after k turns k products are taken off. Assumes nothing.
use Rattle.exact.proofs.Products.{less_zero, less-next}
use native.Mathlib.Omega.{arith}
use mathlib.Core.Path.{◌≡◌}
use Rattle.cholesky.proofs.factor.sum.Goals as goal

pub loop-k-init : goal.loop-k-init
loop-k-init c = (omega arith, rw less_zero)

pub loop-k-preserved : goal.loop-k-preserved
loop-k-preserved c = (omega arith, rw (c.loop-k.invariant.1, less-next))

pub returns : goal.returns
returns c = let t = c in let e : t.loop-k.k ≡ t.args.j = omega arith in rw e at t.loop-k.invariant.1
