-- `corrections_add::add::tested` meets its contract. Assumes nothing.
use mathlib.Core.Bool.{not}
use mathlib.Core.Path.{ap}
use Rattle.corrections_add.proofs.AddLaws.{test-count, test-sound, test-ranged, test-room, test-passed}
use Rattle.corrections_add.proofs.add.tested.Goals as goal

pub returns-then-room-table : goal.returns-then-room-table
returns-then-room-table c = test-count _ _ _ _ c.capacity-room.ensures _ _ c.if-room-table.true

pub returns-then-not-is_sound : goal.returns-then-not-is_sound
returns-then-not-is_sound c = test-sound _ _ _ _ c.capacity-room.ensures _ _ c.if-room-table.false c.is_sound.ensures (ap not c.if-not-is_sound.true)

pub returns-then-not-all_ranged : goal.returns-then-not-all_ranged
returns-then-not-all_ranged c = test-ranged _ _ _ _ c.capacity-room.ensures _ _ c.if-room-table.false c.is_sound.ensures (ap not c.if-not-is_sound.false) c.all_ranged.ensures (ap not c.if-not-all_ranged.true)

pub returns-then-room-table-2 : goal.returns-then-room-table-2
returns-then-room-table-2 c = test-room _ _ _ _ c.capacity-room.ensures _ _ c.if-room-table.false c.is_sound.ensures (ap not c.if-not-is_sound.false) c.all_ranged.ensures (ap not c.if-not-all_ranged.false) c.if-room-table-2.true

pub returns : goal.returns
returns c = test-passed _ _ _ _ c.capacity-room.ensures _ _ c.if-room-table.false c.is_sound.ensures (ap not c.if-not-is_sound.false) c.all_ranged.ensures (ap not c.if-not-all_ranged.false) c.if-room-table-2.false
