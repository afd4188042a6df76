-- `corrections_convert::directory_of::file_all` meets its contract. Assumes nothing.
use Prim.Native.Nat.{◌-◌}
use Rattle.corrections_convert.proofs.FileLaws.{FilingUp}
use Rattle.corrections_convert.proofs.directory_of.file_all.Given as goal

abbrev pub invariant-loop-i : goal.invariant-loop-i
invariant-loop-i l = FilingUp l.constellation l.svid l.band l.table_count l.initial.block_constellation l.initial.block_svid l.initial.block_band l.initial.block_first l.initial.block_samples l.block_constellation l.block_svid l.block_band l.block_first l.block_samples l.entries l.i

abbrev pub decreases-loop-i : goal.decreases-loop-i
decreases-loop-i l = l.table_count - l.i
