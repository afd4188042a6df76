-- `corrections_query::query::tested` meets its contract. Assumes nothing.
use mathlib.Core.Bool.{not}
use mathlib.Core.Path.{ap}
use Rattle.corrections_query.proofs.QueryLaws.{roomy, test-2, test-3, test-4, test-none}
use Rattle.corrections_query.proofs.query.tested.Goals as goal

pub returns-then-room-table : goal.returns-then-room-table
returns-then-room-table c = test-2 _ _ _ _ _ (rw c.capacity-room.ensures at c.if-room-table.true)

pub returns-then-not-in_range : goal.returns-then-not-in_range
returns-then-not-in_range c = test-3 _ _ _ _ _ (rw c.capacity-room.ensures at c.if-room-table.false) c.in_range.ensures (ap not c.if-not-in_range.true)

pub is_sound-requires : goal.is_sound-requires
is_sound-requires c = let a = c.args in roomy a.table.blocks a.table.table_count c.capacity-room.result _ c.capacity-room.ensures c.if-room-table.false

pub returns-then-not-is_sound : goal.returns-then-not-is_sound
returns-then-not-is_sound c = test-4 _ _ _ _ _ (rw c.capacity-room.ensures at c.if-room-table.false) c.in_range.ensures (ap not c.if-not-in_range.false) c.is_sound.ensures (ap not c.if-not-is_sound.true)

pub returns : goal.returns
returns c = test-none _ _ _ _ _ (rw c.capacity-room.ensures at c.if-room-table.false) c.in_range.ensures (ap not c.if-not-in_range.false) c.is_sound.ensures (ap not c.if-not-is_sound.false)
