-- `zaqnuti::forms::zaqnuti_signals_of` meets its contract. Assumes nothing.
use Prim.Native.Nat.{min}
use lib.ListN.{length}
use Rattle.corrections_table.specs.Table.{lent_samples}
use Rattle.corrections_directory.specs.Directory.{lent_blocks}
use Rattle.corrections_directory.specs.Rearrange.{listed_of}
use Rattle.corrections_convert.proofs.NumberLaws.{lists-number}
use Rattle.zaqnuti.proofs.forms.zaqnuti_signals_of.Goals as goal

pub returns : goal.returns
returns c = let a = c.args in
    lists-number (listed_of a.blocks a.table_count (min (length a.constellation.now) (min (length a.svid.now) (length a.band.now))) (lent_blocks a.block_constellation.now a.block_svid.now a.block_band.now a.block_first.now a.block_samples.now a.table_time.now a.table_metres.now))
    (lent_samples a.constellation.now a.svid.now a.band.now a.table_time.now a.table_metres.now) c.signals_of.ensures c.answer_number.ensures
