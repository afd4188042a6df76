-- `corrections_add::add::merge` meets its contract. Assumes nothing.
use native.Mathlib.Omega.{arith}
use mathlib.Core.Path.{ap, ◌∙◌}
use lib.ListN.{length, take}
use Rattle.corrections_table.specs.Table.{lent_samples, table_of}
use Rattle.corrections_table.proofs.ColumnLaws.{rows-length}
use Rattle.corrections_directory.specs.Directory.{floats, reading_rows}
use Rattle.corrections_add.proofs.PlaceLaws.{columns-all, count_fits, entries-all, patterns-all, signals-by, sizes, tiled-by}
use Rattle.corrections_add.proofs.add.merge.Goals as goal

pub enter-requires : goal.enter-requires
enter-requires c = let s = c in
    let a = s.args in
    let f = s.requires.fitting in
    let o = signals-by f a.new.constellation.now a.new.svid.now a.new.band.now a.new.time.now a.new.metres.now s.requires.sorted_new.0 s.requires.sorted_new.1 in
    let z = rows-length (lent_samples a.new.constellation.now a.new.svid.now a.new.band.now a.new.time.now a.new.metres.now) in
    let few = count_fits f a.new.constellation.now a.new.svid.now a.new.band.now a.new.time.now a.new.metres.now s.requires.sorted_new.0 s.requires.sorted_new.1 in (
      (tiled-by f, (omega (arith, f.few, f.room), (omega (arith, z, s.requires.sorted_new.0), (omega (arith, z, s.requires.sorted_new.0), omega (arith, z, s.requires.sorted_new.0))))),
      (
        record { samples = (table_of a.new.count (lent_samples a.new.constellation.now a.new.svid.now a.new.band.now a.new.time.now a.new.metres.now)); of = o },
        (λ r q. let e = q (take a.table_count (reading_rows (floats a.table_time.now) (floats a.table_metres.now))) (table_of a.new.count (lent_samples a.new.constellation.now a.new.svid.now a.new.band.now a.new.time.now a.new.metres.now)) (sizes f) o ∙ ap length (entries-all f a.new.constellation.now a.new.svid.now a.new.band.now a.new.time.now a.new.metres.now s.requires.sorted_new.0 s.requires.sorted_new.1) in omega (arith, e, few, f.room-entries)),
      ),
    )

pub returns : goal.returns
returns c = let s = c in
    let a = s.args in
    let f = s.requires.fitting in
    let readings = c.merge_readings.ensures a.block_samples.now (record { few = f.entries_fit; steady = f.steady }) in
    let entered = c.enter.ensures in
    let o = signals-by f a.new.constellation.now a.new.svid.now a.new.band.now a.new.time.now a.new.metres.now s.requires.sorted_new.0 s.requires.sorted_new.1 in (
      entered.0 (take a.table_count (reading_rows (floats a.table_time.now) (floats a.table_metres.now))) (table_of a.new.count (lent_samples a.new.constellation.now a.new.svid.now a.new.band.now a.new.time.now a.new.metres.now)) (sizes f) o ∙ ap length (entries-all f a.new.constellation.now a.new.svid.now a.new.band.now a.new.time.now a.new.metres.now s.requires.sorted_new.0 s.requires.sorted_new.1),
      (columns-all f a.new.constellation.now a.new.svid.now a.new.band.now a.new.time.now a.new.metres.now s.requires.sorted_new.0 s.requires.sorted_new.1 (entered.1 (take a.table_count (reading_rows (floats a.table_time.now) (floats a.table_metres.now))) (table_of a.new.count (lent_samples a.new.constellation.now a.new.svid.now a.new.band.now a.new.time.now a.new.metres.now)) (sizes f) o) readings.times-read readings.corrections-read, patterns-all _ _ readings),
    )
