-- `corrections_epoch_columns::epoch::epoch_of` meets its contract. Assumes nothing.
use mathlib.Core.Path.{refl, sym, ◌∙◌}
use native.Mathlib.Omega.{arith}
use Rattle.corrections_table.proofs.UnitLaws.{never}
use Rattle.lists.proofs.Filling.{filled, filling_start, filling_next}
use Rattle.corrections_epoch_columns.proofs.EpochLaws.{ranges-read}
use Rattle.corrections_epoch_columns.proofs.epoch.epoch_of.Goals as goal

pub loop-i-init : goal.loop-i-init
loop-i-init c = (filling_start _ _ _ refl, refl)

pub bounds-c-i : goal.bounds-c-i
bounds-c-i c = omega (arith, c.loop-i-test.true, ranges-read _ _ _ _ _ c.ranges_lack.ensures c.if-not-ranges_lack.true)

pub offset_bounds-c-i : goal.offset_bounds-c-i
offset_bounds-c-i c = omega (arith, c.loop-i-test.true, ranges-read _ _ _ _ _ c.ranges_lack.ensures c.if-not-ranges_lack.true)

pub bounds-c-i-in-loop-i : goal.bounds-c-i-in-loop-i
bounds-c-i-in-loop-i c = omega (arith, c.loop-i-test.true, ranges-read _ _ _ _ _ c.ranges_lack.ensures c.if-not-ranges_lack.true)

pub offset_bounds-c-i-in-loop-i : goal.offset_bounds-c-i-in-loop-i
offset_bounds-c-i-in-loop-i c = omega (arith, c.loop-i-test.true, ranges-read _ _ _ _ _ c.ranges_lack.ensures c.if-not-ranges_lack.true)

pub bounds-c-i-in-loop-i-2 : goal.bounds-c-i-in-loop-i-2
bounds-c-i-in-loop-i-2 c = omega (arith, c.loop-i-test.true, ranges-read _ _ _ _ _ c.ranges_lack.ensures c.if-not-ranges_lack.true)

pub offset_bounds-c-i-in-loop-i-2 : goal.offset_bounds-c-i-in-loop-i-2
offset_bounds-c-i-in-loop-i-2 c = omega (arith, c.loop-i-test.true, ranges-read _ _ _ _ _ c.ranges_lack.ensures c.if-not-ranges_lack.true)

pub bounds-c-i-in-loop-i-3 : goal.bounds-c-i-in-loop-i-3
bounds-c-i-in-loop-i-3 c = omega (arith, c.loop-i-test.true, ranges-read _ _ _ _ _ c.ranges_lack.ensures c.if-not-ranges_lack.true)

pub offset_bounds-out-i : goal.offset_bounds-out-i
offset_bounds-out-i c = omega (arith, c.loop-i-test.true, ranges-read _ _ _ _ _ c.ranges_lack.ensures c.if-not-ranges_lack.true)

pub bounds-out-i : goal.bounds-out-i
bounds-out-i c = omega (arith, c.loop-i-test.true, ranges-read _ _ _ _ _ c.ranges_lack.ensures c.if-not-ranges_lack.true)

pub loop-i-preserved : goal.loop-i-preserved
loop-i-preserved c = (filling_next _ _ _ (ranges-read _ _ _ _ _ c.ranges_lack.ensures c.if-not-ranges_lack.true).0 c.loop-i.invariant.0 c.loop-i-test.true, c.loop-i.invariant.1)

pub returns-else-not-ranges_lack : goal.returns-else-not-ranges_lack
returns-else-not-ranges_lack c = (λ h. omega arith, λ h. never (sym h ∙ sym c.ranges_lack.ensures ∙ c.if-not-ranges_lack.false))

pub returns-after-loop-i : goal.returns-after-loop-i
returns-after-loop-i c = let h = c.loop-i.invariant in
    (λ t. never (sym c.if-not-ranges_lack.true ∙ c.ranges_lack.ensures ∙ t), λ t. record { count-is = h.0.count-is; time-is = h.1; ranges = filled _ _ _ h.0 (omega (arith, c.loop-i-test.false)) })
