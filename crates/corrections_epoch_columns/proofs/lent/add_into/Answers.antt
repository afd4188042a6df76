-- `corrections_epoch_columns::lent::add_into` meets its contract. Assumes nothing.
use mathlib.Core.Path.{◌≡◌}
use Rattle.corrections_directory.specs.Directory.{block_capacity, directory_in, floats, lent_blocks}
use Rattle.corrections_epoch.specs.AddEpoch.{epoch_placed}
use Rattle.corrections_epoch.proofs.EpochLaws.{told_same}
use Rattle.corrections_epoch_columns.specs.Columns.{columns_entry}
use Rattle.corrections_epoch_columns.proofs.EpochLaws.{placed-given}
use Rattle.corrections_epoch_columns.proofs.lent.add_into.Goals as goal

pub returns : goal.returns
returns c = let a = c.args in
    let l = lent_blocks a.block_constellation.now a.block_svid.now a.block_band.now a.block_first.now a.block_samples.now (floats a.table_time.now) (floats a.table_metres.now) in
    let placed : epoch_placed a.blocks a.table_count (block_capacity l) (directory_in a.blocks a.table_count l) c.epoch_of-epoch.result c.states_given-satellites.result c.from.result c.from-2.result c.settings_of-settings.result
    ≡ columns_entry a.blocks a.table_count l a.time a.ranges a.states (record { entry = a.base; exit = a.base }) (record { entry = a.rover; exit = a.rover }) a.max_gap a.max_correction (record { entry = a.corrected; exit = a.corrected }) =
    rw (c.from.ensures, c.from-2.ensures, c.settings_of-settings.ensures)
    (placed-given a.blocks a.table_count l a.time a.ranges (record { entry = a.base; exit = a.base }) (record { entry = a.rover; exit = a.rover }) a.max_gap a.max_correction (record { entry = a.corrected; exit = a.corrected }) c.epoch_of-epoch.ensures a.states _ c.states_given-satellites.ensures) in
    told_same a.table_time.now a.table_metres.now _ _ placed c.add_epoch.ensures
