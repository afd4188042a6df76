-- `corrections_epoch::record::ranges_in_range` meets its contract. Assumes nothing.
use mathlib.Core.Path.{ap}
use native.Mathlib.Nat.{le_refl}
use lib.Seq.{take_all}
use Rattle.lists.specs.Walk.{every}
use Rattle.lists.proofs.Walk.{every-yes, every-no, every-end}
use Rattle.corrections_epoch.specs.Record.{range_in_range}
use Rattle.corrections_epoch.proofs.RawLaws.{blank_range}
use Rattle.corrections_epoch.proofs.record.ranges_in_range.Goals as goal

pub loop-r-init : goal.loop-r-init
loop-r-init c = ap (every range_in_range) (take_all _ c.args.ranges.now (le_refl _))

pub returns-then-not-in_range : goal.returns-then-not-in_range
returns-then-not-in_range c = let h = c.loop-r in every-no _ _ (le_refl _) h.r-index blank_range c.loop-r-test.true range_in_range h.invariant c.in_range.ensures c.if-not-in_range.true

pub loop-r-preserved : goal.loop-r-preserved
loop-r-preserved c = let h = c.loop-r in every-yes _ _ (le_refl _) h.r-index blank_range c.loop-r-test.true range_in_range h.invariant c.in_range.ensures c.if-not-in_range.false

pub returns : goal.returns
returns c = every-end _ _ (le_refl _) _ range_in_range c.loop-r.invariant c.loop-r-test.false
