-- `corrections_epoch::add_epoch::records_tested` meets its contract. Assumes nothing.
use mathlib.Core.Bool.{not}
use mathlib.Core.Path.{ap, ◌∙◌}
use Rattle.lists.specs.Walk.{every}
use Rattle.corrections_epoch.specs.Record.{state_in_range}
use Rattle.corrections_epoch.proofs.TestLaws.{test-many, test-settings, test-places, test-ranges, test-states, test-passed}
use Rattle.corrections_epoch.proofs.add_epoch.records_tested.Goals as goal

pub returns-then-room-blocks : goal.returns-then-room-blocks
returns-then-room-blocks c = test-many _ _ _ _ _ _ _ _ _ c.states_count-j.ensures c.if-room-blocks.true

pub returns-then-not-in_range : goal.returns-then-not-in_range
returns-then-not-in_range c = test-settings _ _ _ _ _ _ _ _ _ c.states_count-j.ensures c.if-room-blocks.false c.in_range.ensures c.in_range-2.ensures (ap not c.if-not-in_range.true)

pub returns-then-not-is_in_range-in_range : goal.returns-then-not-is_in_range-in_range
returns-then-not-is_in_range-in_range c = test-places _ _ _ _ _ _ _ _ _ c.states_count-j.ensures c.if-room-blocks.false c.in_range.ensures c.in_range-2.ensures (ap not c.if-not-in_range.false) c.is_in_range.ensures c.is_in_range-2.ensures c.in_range-3.ensures (ap not c.if-not-is_in_range-in_range.true)

pub returns-then-not-ranges_in_range : goal.returns-then-not-ranges_in_range
returns-then-not-ranges_in_range c = test-ranges _ _ _ _ _ _ _ _ _ c.states_count-j.ensures c.if-room-blocks.false c.in_range.ensures c.in_range-2.ensures (ap not c.if-not-in_range.false) c.is_in_range.ensures c.is_in_range-2.ensures c.in_range-3.ensures (ap not c.if-not-is_in_range-in_range.false) c.ranges_in_range.ensures (ap not c.if-not-ranges_in_range.true)

pub returns-then-not-states_in_range : goal.returns-then-not-states_in_range
returns-then-not-states_in_range c = test-states _ _ _ _ _ _ _ _ _ c.states_count-j.ensures c.if-room-blocks.false c.in_range.ensures c.in_range-2.ensures (ap not c.if-not-in_range.false) c.is_in_range.ensures c.is_in_range-2.ensures c.in_range-3.ensures (ap not c.if-not-is_in_range-in_range.false) c.ranges_in_range.ensures (ap not c.if-not-ranges_in_range.false) (c.states_in_range.ensures ∙ ap (every state_in_range) c.states_of.ensures) (ap not c.if-not-states_in_range.true)

pub returns : goal.returns
returns c = test-passed _ _ _ _ _ _ _ _ _ c.states_count-j.ensures c.if-room-blocks.false c.in_range.ensures c.in_range-2.ensures (ap not c.if-not-in_range.false) c.is_in_range.ensures c.is_in_range-2.ensures c.in_range-3.ensures (ap not c.if-not-is_in_range-in_range.false) c.ranges_in_range.ensures (ap not c.if-not-ranges_in_range.false) (c.states_in_range.ensures ∙ ap (every state_in_range) c.states_of.ensures) (ap not c.if-not-states_in_range.false)
