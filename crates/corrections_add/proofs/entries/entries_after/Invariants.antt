-- `corrections_add::entries::entries_after` meets its contract. Assumes nothing.
use Prim.Native.Nat.{◌+◌}
use lib.ListN.{take}
use Rattle.corrections_directory.specs.Directory.{entry_rows}
use Rattle.corrections_add.proofs.CountLaws.{Counting}
use Rattle.corrections_add.proofs.entries.entries_after.Given as goal

abbrev pub invariant-loop-j : goal.invariant-loop-j
invariant-loop-j l = Counting (take l.blocks (entry_rows l.block_constellation l.block_svid l.block_band l.block_first l.block_samples)) l.new.constellation.now l.new.svid.now l.new.band.now l.blocks l.table_count l.new.count l.i l.j l.end l.count

abbrev pub decreases-loop-j : goal.decreases-loop-j
decreases-loop-j l = l.i + l.j
