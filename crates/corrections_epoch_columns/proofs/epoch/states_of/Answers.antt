-- `corrections_epoch_columns::epoch::states_of` meets its contract. Assumes nothing.
use mathlib.Core.Path.{refl, sym, ◌∙◌}
use native.Mathlib.Omega.{arith}
use Rattle.corrections_table.proofs.UnitLaws.{never}
use Rattle.lists.proofs.Filling.{filled, filling_start, filling_next}
use Rattle.corrections_epoch_columns.proofs.EpochLaws.{states-read}
use Rattle.corrections_epoch_columns.proofs.epoch.states_of.Goals as goal

pub loop-i-init : goal.loop-i-init
loop-i-init c = filling_start _ _ _ refl

pub state_at-requires : goal.state_at-requires
state_at-requires c = let w = states-read _ _ _ _ _ c.states_lack.ensures c.if-not-states_lack.true in
    ((omega (arith, w, c.loop-i-test.true), omega (arith, w, c.loop-i-test.true)), (omega (arith, w, c.loop-i-test.true), omega (arith, w, c.loop-i-test.true)))

pub offset_bounds-out-i : goal.offset_bounds-out-i
offset_bounds-out-i c = omega (arith, c.loop-i-test.true, states-read _ _ _ _ _ c.states_lack.ensures c.if-not-states_lack.true)

pub bounds-out-i : goal.bounds-out-i
bounds-out-i c = omega (arith, c.loop-i-test.true, states-read _ _ _ _ _ c.states_lack.ensures c.if-not-states_lack.true)

pub loop-i-preserved : goal.loop-i-preserved
loop-i-preserved c =
    rw c.state_at.ensures (filling_next _ _ _ (states-read _ _ _ _ _ c.states_lack.ensures c.if-not-states_lack.true).0 c.loop-i.invariant c.loop-i-test.true)

pub returns-else-not-states_lack : goal.returns-else-not-states_lack
returns-else-not-states_lack c = (λ h. omega arith, λ h. never (sym h ∙ sym c.states_lack.ensures ∙ c.if-not-states_lack.false))

pub returns-after-loop-i : goal.returns-after-loop-i
returns-after-loop-i c = let h = c.loop-i.invariant in
    (λ t. never (sym c.if-not-states_lack.true ∙ c.states_lack.ensures ∙ t), λ t. record { count-is = h.count-is; states-are = filled _ _ _ h (omega (arith, c.loop-i-test.false)) })
