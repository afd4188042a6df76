-- `track_smooth::checks::are_in_range` meets its contract. Assumes nothing.
use mathlib.Core.Path.{sym, ◌∙◌}
use mathlib.Core.Bool.{true}
use native.Mathlib.Omega.{arith}
use lib.ListN.{get_or}
use lib.Ieee.{nan}
use Rattle.numeric.specs.Real.{in_range}
use Rattle.track_tridiagonal.proofs.EachBelow.{each_none, each_next, each-stop, each_all}
use Rattle.track_smooth.proofs.checks.are_in_range.Goals as goal

pub loop-k-init : goal.loop-k-init
loop-k-init c = (omega arith, each_none _)

pub returns-then-not-in_range : goal.returns-then-not-in_range
returns-then-not-in_range c = each-stop (λ k. in_range (get_or c.args.v.now k nan)) c.loop-k.k c.args.count c.loop-k.invariant.1 c.loop-k-test.true (sym c.in_range.ensures ∙ c.if-not-in_range.true)

pub loop-k-preserved : goal.loop-k-preserved
loop-k-preserved c = (omega arith, each_next (λ k. in_range (get_or c.args.v.now k nan)) c.loop-k.k true c.loop-k.invariant.1 (sym c.in_range.ensures ∙ c.if-not-in_range.false))

pub returns : goal.returns
returns c = each_all (λ k. in_range (get_or c.args.v.now k nan)) c.loop-k.k c.args.count c.loop-k.invariant.1 (omega (arith, c.loop-k-test.false, c.loop-k.invariant.0))
