-- `zaqnuti::forms::zaqnuti_directory_of` meets its contract. Assumes nothing.
use lib.ListN.{length}
use Rattle.corrections_table.specs.Table.{lent_samples}
use Rattle.corrections_directory.specs.Directory.{entries_in, lent_blocks}
use Rattle.corrections_directory.specs.Rearrange.{filed_of}
use Rattle.corrections_convert.proofs.NumberLaws.{files-number}
use Rattle.zaqnuti.proofs.forms.zaqnuti_directory_of.Goals as goal

pub returns : goal.returns
returns c = let a = c.args in
    let l = lent_blocks a.block_constellation.now a.block_svid.now a.block_band.now a.block_first.now a.block_samples.now a.table_time.now a.table_metres.now in
    files-number (filed_of a.table_count (length (entries_in l)) (lent_samples a.constellation.now a.svid.now a.band.now a.table_time.now a.table_metres.now)) l c.directory_of-answer.ensures _ c.put.ensures
