-- `corrections_add::readings::merge_readings` meets its contract. Assumes nothing.
use mathlib.Core.List.{List}
use Prim.Native.Nat.{ℕ, ◌+◌}
use lib.ListN.{take}
use Rattle.corrections_table.specs.Table.{lent_samples, table_of}
use Rattle.corrections_directory.specs.Directory.{directory_in, entry_rows, flat, floats, lent_blocks}
use Rattle.corrections_add.specs.Steps.{Steady}
use Rattle.corrections_add.proofs.MergeLaws.{Merging}
use Rattle.corrections_add.proofs.readings.merge_readings.Given as goal

-- whatever the counts are
abbrev pub invariant-loop-j : goal.invariant-loop-j
invariant-loop-j l = (dn : List ℕ) → Steady l.block_constellation l.block_svid l.block_band l.block_first l.blocks l.initial.table_time l.initial.table_metres l.table_count dn
    → Merging (take l.blocks (entry_rows l.block_constellation l.block_svid l.block_band l.block_first dn)) (flat (directory_in l.blocks l.table_count (lent_blocks l.block_constellation l.block_svid l.block_band l.block_first dn (floats l.initial.table_time) (floats l.initial.table_metres)))) (table_of l.new.count (lent_samples l.new.constellation.now l.new.svid.now l.new.band.now l.new.time.now l.new.metres.now)) l.initial.table_time l.initial.table_metres l.table_count l.new.count l.table_time l.table_metres l.e l.i l.j

abbrev pub decreases-loop-j : goal.decreases-loop-j
decreases-loop-j l = l.i + l.j
