-- `corrections_directory::entry::Table::capacity` meets its contract. Assumes nothing.
use Rattle.corrections_directory.proofs.ColumnLaws.{entries-length, readings-length}
use Rattle.corrections_directory.proofs.entry.Table.capacity.Goals as goal

pub returns : goal.returns
returns g c = let a = c.args.self in
    let f = g.T.Element.floats in
    cc (entries-length a.block_constellation.now a.block_svid.now a.block_band.now a.block_first.now a.block_samples.now, readings-length (f a.table_time.now) (f a.table_metres.now), g.met.T.Element.floats_length a.table_time.now, g.met.T.Element.floats_length a.table_metres.now)
