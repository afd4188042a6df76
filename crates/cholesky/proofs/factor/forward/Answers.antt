-- `cholesky::factor::forward` meets its contract: after i turns the first i places are solved. Assumes nothing.
use Rattle.cholesky.proofs.FactorLaws.{forward_to-zero, forward_to-next}
use Rattle.exact.proofs.Products.{less_zero, less-next}
use native.Mathlib.Omega.{arith}
use mathlib.Core.Path.{◌≡◌}
use Rattle.cholesky.proofs.factor.forward.Goals as goal

pub loop-i-init : goal.loop-i-init
loop-i-init c = (omega arith, rw forward_to-zero)

pub loop-k-init : goal.loop-k-init
loop-k-init c = (omega arith, omega arith, rw less_zero)

pub loop-k-preserved : goal.loop-k-preserved
loop-k-preserved c = (omega arith, omega arith, rw (c.loop-k.invariant.2, less-next))

pub loop-i-preserved : goal.loop-i-preserved
loop-i-preserved c = let t1 = c in
    let t2 = c in
    let e : t2.loop-k.k ≡ t1.loop-i.i = omega arith in
    (omega arith, rw (t2.loop-k.invariant.2, e, t1.loop-i.invariant.1, forward_to-next))

pub returns : goal.returns
returns c = let e : c.loop-i.i ≡ c.args.n = omega arith in rw e at c.loop-i.invariant.1
