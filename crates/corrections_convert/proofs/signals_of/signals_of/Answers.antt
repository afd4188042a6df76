-- `corrections_convert::signals_of::signals_of` meets its contract. Assumes nothing.
use native.Mathlib.Omega.{arith}
use mathlib.Core.Path.{◌≡◌, sym, ap, ◌∙◌}
use mathlib.Core.Bool.{not}
use Prim.Native.Nat.{ℕ, min}
use lib.ListN.{length}
use Rattle.corrections_table.specs.Table.{lent_samples}
use Rattle.corrections_directory.specs.Directory.{lent_blocks}
use Rattle.corrections_convert.proofs.AnswerLaws.{list_done, list-fits, list-many, list-unsound}
use Rattle.corrections_add.proofs.OwnLaws.{room_of_lem}
use Rattle.corrections_convert.proofs.ListLaws.{listed, start-end}
use Rattle.corrections_convert.proofs.signals_of.signals_of.Goals as goal

-- the columns' lengths, as the code takes their minimum
long-is : (a : ℕ) {x y z : ℕ} → x ≡ min a y → y ≡ z → x ≡ min a z
long-is a e f = e ∙ ap (min a) f

pub returns-then-room-table : goal.returns-then-room-table
returns-then-room-table c = let b = c in list-many c.args.table.blocks c.args.table.table_count (min (length c.args.constellation.now) (min (length c.args.svid.now) (length c.args.band.now))) (lent_blocks c.args.table.block_constellation.now c.args.table.block_svid.now c.args.table.block_band.now c.args.table.block_first.now c.args.table.block_samples.now c.args.table.table_time.now c.args.table.table_metres.now) (lent_samples c.args.constellation.now c.args.svid.now c.args.band.now c.args.table.table_time.now c.args.table.table_metres.now) _ _ b.capacity-room.ensures (long-is _ c.min-long.ensures c.min.ensures) c.if-room-table.true

pub is_sound-requires : goal.is_sound-requires
is_sound-requires c = let f = list-fits c.args.table.blocks c.args.table.table_count (min (length c.args.constellation.now) (min (length c.args.svid.now) (length c.args.band.now))) (lent_blocks c.args.table.block_constellation.now c.args.table.block_svid.now c.args.table.block_band.now c.args.table.block_first.now c.args.table.block_samples.now c.args.table.table_time.now c.args.table.table_metres.now) (lent_samples c.args.constellation.now c.args.svid.now c.args.band.now c.args.table.table_time.now c.args.table.table_metres.now) _ _ c.capacity-room.ensures (long-is _ c.min-long.ensures c.min.ensures) c.if-room-table.false in (f.0, f.1.0)

pub returns-then-not-is_sound : goal.returns-then-not-is_sound
returns-then-not-is_sound c = let b = c in
    list-unsound c.args.table.blocks c.args.table.table_count (min (length c.args.constellation.now) (min (length c.args.svid.now) (length c.args.band.now))) (lent_blocks c.args.table.block_constellation.now c.args.table.block_svid.now c.args.table.block_band.now c.args.table.block_first.now c.args.table.block_samples.now c.args.table.table_time.now c.args.table.table_metres.now) (lent_samples c.args.constellation.now c.args.svid.now c.args.band.now c.args.table.table_time.now c.args.table.table_metres.now) _ _ b.capacity-room.ensures (long-is _ c.min-long.ensures c.min.ensures) c.if-room-table.false c.is_sound.ensures (ap not c.if-not-is_sound.true)

pub list_all-requires : goal.list_all-requires
list_all-requires c = let b = c in
    let a = c.args in
    let f = list-fits c.args.table.blocks c.args.table.table_count (min (length c.args.constellation.now) (min (length c.args.svid.now) (length c.args.band.now))) (lent_blocks c.args.table.block_constellation.now c.args.table.block_svid.now c.args.table.block_band.now c.args.table.block_first.now c.args.table.block_samples.now c.args.table.table_time.now c.args.table.table_metres.now) (lent_samples c.args.constellation.now c.args.svid.now c.args.band.now c.args.table.table_time.now c.args.table.table_metres.now) _ _ c.capacity-room.ensures (long-is _ c.min-long.ensures c.min.ensures) c.if-room-table.false in
    let sound = sym c.is_sound.ensures ∙ c.if-not-is_sound.false in
    let z = start-end a.table.block_constellation.now a.table.block_svid.now a.table.block_band.now a.table.block_first.now a.table.block_samples.now a.table.blocks a.table.table_time.now a.table.table_metres.now a.table.table_count f.0 f.1.0 sound in
    let room = room_of_lem a.table.blocks a.table.block_constellation.now a.table.block_svid.now a.table.block_band.now a.table.block_first.now a.table.block_samples.now f.0 in
    record { signals_hold = ((room.in-dc, (room.in-dv, room.in-db)), room.in_dn); signals_hold_2 = (omega (arith, z, f.1.1), (omega (arith, z, f.1.1), omega (arith, z, f.1.1))) }

pub returns : goal.returns
returns c = let d = c in
    let b = d in
    let a = c.args in
    let f = list-fits c.args.table.blocks c.args.table.table_count (min (length c.args.constellation.now) (min (length c.args.svid.now) (length c.args.band.now))) (lent_blocks c.args.table.block_constellation.now c.args.table.block_svid.now c.args.table.block_band.now c.args.table.block_first.now c.args.table.block_samples.now c.args.table.table_time.now c.args.table.table_metres.now) (lent_samples c.args.constellation.now c.args.svid.now c.args.band.now c.args.table.table_time.now c.args.table.table_metres.now) _ _ c.capacity-room.ensures (long-is _ c.min-long.ensures c.min.ensures) d.if-room-table.false in
    let w = c.list_all.ensures in
    let sound = sym d.is_sound.ensures ∙ d.if-not-is_sound.false in
    list_done a.table.blocks a.table.table_count (min (length c.args.constellation.now) (min (length c.args.svid.now) (length c.args.band.now))) (lent_blocks c.args.table.block_constellation.now c.args.table.block_svid.now c.args.table.block_band.now c.args.table.block_first.now c.args.table.block_samples.now c.args.table.table_time.now c.args.table.table_metres.now) (lent_samples c.args.constellation.now c.args.svid.now c.args.band.now c.args.table.table_time.now c.args.table.table_metres.now) _ _ b.capacity-room.ensures (long-is _ c.min-long.ensures c.min.ensures) d.if-room-table.false d.is_sound.ensures (ap not d.if-not-is_sound.false) _
    (listed a.table.block_constellation.now a.table.block_svid.now a.table.block_band.now a.table.block_first.now a.table.block_samples.now a.table.blocks a.table.table_time.now a.table.table_metres.now a.table.table_count f.0 f.1.0 sound
    (omega (arith, f.1.1)) (omega (arith, f.1.1)) (omega (arith, f.1.1)) w.0 w.1.0 w.1.1)
