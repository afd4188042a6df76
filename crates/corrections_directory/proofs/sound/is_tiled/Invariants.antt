-- `corrections_directory::sound::is_tiled` meets its contract. Assumes nothing.
use mathlib.Core.Path.{◌≡◌}
use Prim.Native.Nat.{◌≤◌}
use lib.ListN.{take, drop}
use Rattle.corrections_directory.specs.Directory.{entry_rows}
use Rattle.corrections_directory.proofs.SoundLaws.{laid_from}
use Rattle.corrections_directory.proofs.sound.is_tiled.Given as goal

abbrev pub invariant-loop-i : goal.invariant-loop-i
invariant-loop-i g l = (l.i ≤ l.table.blocks) × ((l.place ≤ l.table.table_count) × (laid_from l.least l.place l.table.table_count (drop l.i (take l.table.blocks (entry_rows l.table.block_constellation.now l.table.block_svid.now l.table.block_band.now l.table.block_first.now l.table.block_samples.now))) ≡ laid_from 0 0 l.table.table_count (take l.table.blocks (entry_rows l.table.block_constellation.now l.table.block_svid.now l.table.block_band.now l.table.block_first.now l.table.block_samples.now))))
