-- `corrections_convert::directory_of::entry_room` meets its contract. Assumes nothing.
use Rattle.corrections_directory.proofs.ColumnLaws.{entries-length}
use Rattle.corrections_convert.proofs.directory_of.entry_room.Goals as goal

pub returns : goal.returns
returns c = let a = c.args in cc (entries-length a.block_constellation.now a.block_svid.now a.block_band.now a.block_first.now a.block_samples.now)
