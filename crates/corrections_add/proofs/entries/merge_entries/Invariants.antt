-- `corrections_add::entries::merge_entries` meets its contract. Assumes nothing.
use Prim.Native.Nat.{◌+◌}
use Rattle.corrections_add.proofs.WriteLaws.{Placing}
use Rattle.corrections_add.proofs.entries.merge_entries.Given as goal

abbrev pub invariant-loop-j : goal.invariant-loop-j
invariant-loop-j l = Placing l.new.constellation.now l.new.svid.now l.new.band.now l.blocks l.table_count l.new.count l.count l.initial.block_constellation l.initial.block_svid l.initial.block_band l.initial.block_first l.initial.block_samples l.block_constellation l.block_svid l.block_band l.block_first l.block_samples l.i l.j l.end l.w

abbrev pub decreases-loop-j : goal.decreases-loop-j
decreases-loop-j l = l.i + l.j
