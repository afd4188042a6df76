-- `corrections_convert::directory_of::directory_of` meets its contract. Assumes nothing.
use mathlib.Core.Bool.{not}
use mathlib.Core.Path.{◌≡◌, sym, ◌∙◌, ap}
use Prim.Native.Nat.{min}
use lib.ListN.{length}
use native.Mathlib.Omega.{arith}
use Rattle.corrections_table.specs.Table.{capacity, lent_samples, table_of}
use Rattle.corrections_directory.specs.Directory.{entries_from, entry_rows, lent_blocks}
use Rattle.corrections_convert.proofs.AnswerLaws.{file_done, file_fits, file_many, file_unsound}
use Rattle.corrections_convert.proofs.FileLaws.{filed-beside, rows-within-n, signals-by}
use Rattle.corrections_convert.proofs.directory_of.directory_of.Goals as goal

pub returns-then-room-table_count : goal.returns-then-room-table_count
returns-then-room-table_count c = let a = c.args in
    let e : c.min-room.result ≡ min (length (entry_rows a.block_constellation.now a.block_svid.now a.block_band.now a.block_first.now a.block_samples.now)) (capacity (lent_samples a.constellation.now a.svid.now a.band.now a.table_time.now a.table_metres.now)) = c.min-room.ensures ∙ rw (c.entry_room-entries.ensures, c.capacity_of.ensures) in
    file_many a.table_count (length (entry_rows a.block_constellation.now a.block_svid.now a.block_band.now a.block_first.now a.block_samples.now)) (lent_samples a.constellation.now a.svid.now a.band.now a.table_time.now a.table_metres.now) (lent_blocks a.block_constellation.now a.block_svid.now a.block_band.now a.block_first.now a.block_samples.now a.table_time.now a.table_metres.now) _ e c.if-room-table_count.true

pub returns-then-not-is_sound : goal.returns-then-not-is_sound
returns-then-not-is_sound c = let a = c.args in
    let e : c.min-room.result ≡ min (length (entry_rows a.block_constellation.now a.block_svid.now a.block_band.now a.block_first.now a.block_samples.now)) (capacity (lent_samples a.constellation.now a.svid.now a.band.now a.table_time.now a.table_metres.now)) = c.min-room.ensures ∙ rw (c.entry_room-entries.ensures, c.capacity_of.ensures) in
    file_unsound a.table_count (length (entry_rows a.block_constellation.now a.block_svid.now a.block_band.now a.block_first.now a.block_samples.now)) (lent_samples a.constellation.now a.svid.now a.band.now a.table_time.now a.table_metres.now) (lent_blocks a.block_constellation.now a.block_svid.now a.block_band.now a.block_first.now a.block_samples.now a.table_time.now a.table_metres.now) _ e c.if-room-table_count.false c.is_sound.ensures (ap not c.if-not-is_sound.true)

pub file_all-requires : goal.file_all-requires
file_all-requires c = let a = c.args in
    let e : c.min-room.result ≡ min (length (entry_rows a.block_constellation.now a.block_svid.now a.block_band.now a.block_first.now a.block_samples.now)) (capacity (lent_samples a.constellation.now a.svid.now a.band.now a.table_time.now a.table_metres.now)) = c.min-room.ensures ∙ rw (c.entry_room-entries.ensures, c.capacity_of.ensures) in
    let f = file_fits a.table_count (length (entry_rows a.block_constellation.now a.block_svid.now a.block_band.now a.block_first.now a.block_samples.now)) (lent_samples a.constellation.now a.svid.now a.band.now a.table_time.now a.table_metres.now) (lent_blocks a.block_constellation.now a.block_svid.now a.block_band.now a.block_first.now a.block_samples.now a.table_time.now a.table_metres.now) _ e c.if-room-table_count.false in
    record { signals_hold = rows-within-n a.constellation.now a.svid.now a.band.now a.table_time.now a.table_metres.now a.table_count f.1; table_count_in_bounds = f.0 }

pub returns : goal.returns
returns c = let a = c.args in
    let e : c.min-room.result ≡ min (length (entry_rows a.block_constellation.now a.block_svid.now a.block_band.now a.block_first.now a.block_samples.now)) (capacity (lent_samples a.constellation.now a.svid.now a.band.now a.table_time.now a.table_metres.now)) = c.min-room.ensures ∙ rw (c.entry_room-entries.ensures, c.capacity_of.ensures) in
    let f = file_fits a.table_count (length (entry_rows a.block_constellation.now a.block_svid.now a.block_band.now a.block_first.now a.block_samples.now)) (lent_samples a.constellation.now a.svid.now a.band.now a.table_time.now a.table_metres.now) (lent_blocks a.block_constellation.now a.block_svid.now a.block_band.now a.block_first.now a.block_samples.now a.table_time.now a.table_metres.now) _ e c.if-room-table_count.false in
    let q = c.file_all.ensures (table_of a.table_count (lent_samples a.constellation.now a.svid.now a.band.now a.table_time.now a.table_metres.now)) (signals-by a.constellation.now a.svid.now a.band.now a.table_time.now a.table_metres.now a.table_count f.1 (sym c.is_sound.ensures ∙ c.if-not-is_sound.false) (λ x. omega (arith, c.shared_slice_known-2-1.given x)) (λ x. omega (arith, c.shared_slice_known-3-1.given x))) in
    file_done a.table_count (length (entry_rows a.block_constellation.now a.block_svid.now a.block_band.now a.block_first.now a.block_samples.now)) (lent_samples a.constellation.now a.svid.now a.band.now a.table_time.now a.table_metres.now) (lent_blocks a.block_constellation.now a.block_svid.now a.block_band.now a.block_first.now a.block_samples.now a.table_time.now a.table_metres.now) _ e c.if-room-table_count.false c.is_sound.ensures (ap not c.if-not-is_sound.false) _ _ q.0 (filed-beside a.block_constellation.now a.block_svid.now a.block_band.now a.block_first.now a.block_samples.now (entries_from 0 (table_of a.table_count (lent_samples a.constellation.now a.svid.now a.band.now a.table_time.now a.table_metres.now))) a.table_time.now a.table_metres.now q.1)
