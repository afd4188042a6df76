-- `corrections_convert::directory_of::run_end` meets its contract. Assumes nothing.
use Prim.Native.Nat.{◌≤◌, ◌<◌}
use Rattle.corrections_convert.proofs.FileLaws.{SameUp}
use Rattle.corrections_convert.proofs.directory_of.run_end.Given as goal

abbrev pub invariant-loop-j : goal.invariant-loop-j
invariant-loop-j l = (l.i < l.j) × ((l.j ≤ l.table_count) × SameUp l.constellation l.svid l.band l.i l.j)
