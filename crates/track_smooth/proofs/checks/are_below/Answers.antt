-- `track_smooth::checks::are_below` meets its contract. Assumes nothing.
use borrow.Author.Tests.{lt-ltb, le-ltb}
use mathlib.Core.Bool.{true}
use native.Mathlib.Omega.{arith}
use lib.ListN.{get_or}
use lib.Dec.{ltb}
use Rattle.track_tridiagonal.proofs.EachBelow.{each_none, each_next, each-stop, each_all}
use Rattle.track_smooth.proofs.checks.are_below.Goals as goal

pub loop-k-init : goal.loop-k-init
loop-k-init c = (omega arith, each_none _)

pub returns-then-v-k : goal.returns-then-v-k
returns-then-v-k c = each-stop (λ j. ltb (get_or c.args.v.now j 0) c.args.n) c.loop-k.k c.args.count c.loop-k.invariant.1 c.loop-k-test.true (le-ltb _ _ c.if-v-k.true)

pub loop-k-preserved : goal.loop-k-preserved
loop-k-preserved c = (omega arith, each_next (λ j. ltb (get_or c.args.v.now j 0) c.args.n) c.loop-k.k true c.loop-k.invariant.1 (lt-ltb _ _ c.if-v-k.false))

pub returns : goal.returns
returns c = each_all (λ j. ltb (get_or c.args.v.now j 0) c.args.n) c.loop-k.k c.args.count c.loop-k.invariant.1 (omega (arith, c.loop-k-test.false, c.loop-k.invariant.0))
