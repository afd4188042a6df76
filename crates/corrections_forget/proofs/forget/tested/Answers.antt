-- `corrections_forget::forget::tested` meets its contract. Assumes nothing.
use mathlib.Core.Bool.{not}
use mathlib.Core.Path.{ap}
use Rattle.corrections_query.proofs.QueryLaws.{roomy}
use Rattle.corrections_forget.proofs.CallLaws.{test-count, test-sound, test-finite, test-passed}
use Rattle.corrections_forget.proofs.forget.tested.Goals as goal

pub returns-then-room-table : goal.returns-then-room-table
returns-then-room-table c = test-count _ _ _ _ _ c.capacity-room.ensures c.if-room-table.true

pub is_sound-requires : goal.is_sound-requires
is_sound-requires c = let a = c.args in
    roomy a.table.blocks a.table.table_count c.capacity-room.result _ c.capacity-room.ensures c.if-room-table.false

pub returns-then-not-is_sound : goal.returns-then-not-is_sound
returns-then-not-is_sound c = test-sound _ _ _ _ _ c.capacity-room.ensures c.if-room-table.false c.is_sound.ensures (ap not c.if-not-is_sound.true)

pub returns-then-not-is_finite : goal.returns-then-not-is_finite
returns-then-not-is_finite c = test-finite _ _ _ _ _ c.capacity-room.ensures c.if-room-table.false c.is_sound.ensures (ap not c.if-not-is_sound.false)
    c.is_finite.ensures (ap not c.if-not-is_finite.true)

pub returns : goal.returns
returns c = test-passed _ _ _ _ _ c.capacity-room.ensures c.if-room-table.false c.is_sound.ensures (ap not c.if-not-is_sound.false)
    c.is_finite.ensures (ap not c.if-not-is_finite.false)
