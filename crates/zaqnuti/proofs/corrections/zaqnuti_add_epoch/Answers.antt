-- `zaqnuti::corrections::zaqnuti_add_epoch` meets its contract. Assumes nothing.
use Rattle.std.specs.Prelude.{Option}
use mathlib.Core.Path.{ap, ◌∙◌}
use Rattle.corrections_directory.specs.Directory.{floats, lent_blocks}
use Rattle.corrections_epoch.proofs.EpochLaws.{told_same}
use Rattle.corrections_epoch_columns.specs.Columns.{columns_entry}
use Rattle.corrections_epoch_columns.specs.declared.columns.RangeColumns.{RangeColumns}
use Rattle.corrections_epoch_columns.specs.declared.columns.StateColumns.{StateColumns}
use Rattle.corrections_epoch_columns.proofs.EpochLaws.{answer-written, marked-columns}
use Rattle.zaqnuti.proofs.corrections.zaqnuti_add_epoch.Goals as goal

pub returns : goal.returns
returns c = let a = c.args in
    let l = lent_blocks a.block_constellation.now a.block_svid.now a.block_band.now a.block_first.now a.block_samples.now (floats a.table_time.now) (floats a.table_metres.now) in
    let r : RangeColumns = record { count = a.ranges; constellation = a.range_constellation; svid = a.range_svid; band = a.range_band; pseudorange = a.range_pseudorange } in
    let s : StateColumns = record { count = a.states; constellation = a.state_constellation; svid = a.state_svid; band = a.state_band; floats = a.state_floats } in
    let q =
    ap (λ (x : Option StateColumns). columns_entry a.blocks.now a.table_count.now l a.time r x (record { entry = a.base; exit = a.base }) (record { entry = a.rover; exit = a.rover }) a.max_gap a.max_correction (record { entry = a.corrected; exit = a.corrected })) c.then_some.ensures
    ∙ marked-columns a.blocks.now a.table_count.now l a.time r (record { entry = a.base; exit = a.base }) (record { entry = a.rover; exit = a.rover }) a.max_gap a.max_correction (record { entry = a.corrected; exit = a.corrected }) a.states_present s in
    answer-written _ _ _ _ (told_same a.table_time.now a.table_metres.now _ _ q c.add_into-answer.ensures) c.counts_into.ensures
