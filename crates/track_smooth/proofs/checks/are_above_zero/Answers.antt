-- `track_smooth::checks::are_above_zero` meets its contract. Assumes nothing.
use mathlib.Core.Bool.{true}
use native.Mathlib.Omega.{arith}
use lib.ListN.{get_or}
use lib.Ieee.{nan, lt}
use Rattle.exact.specs.Float.{+0}
use Rattle.track_tridiagonal.proofs.EachBelow.{each_none, each_next, each-stop, each_all}
use Rattle.track_smooth.proofs.checks.are_above_zero.Goals as goal

pub loop-k-init : goal.loop-k-init
loop-k-init c = (omega arith, each_none _)

pub returns-then-not-v-k : goal.returns-then-not-v-k
returns-then-not-v-k c = each-stop (λ k. lt +0 (get_or c.args.v.now k nan)) c.loop-k.k c.args.count c.loop-k.invariant.1 c.loop-k-test.true c.if-not-v-k.true

pub loop-k-preserved : goal.loop-k-preserved
loop-k-preserved c = (omega arith, each_next (λ k. lt +0 (get_or c.args.v.now k nan)) c.loop-k.k true c.loop-k.invariant.1 c.if-not-v-k.false)

pub returns : goal.returns
returns c = each_all (λ k. lt +0 (get_or c.args.v.now k nan)) c.loop-k.k c.args.count c.loop-k.invariant.1 (omega (arith, c.loop-k-test.false, c.loop-k.invariant.0))
