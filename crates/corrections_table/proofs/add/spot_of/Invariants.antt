-- `corrections_table::add::spot_of` meets its contract. Assumes nothing.
use Rattle.corrections_table.proofs.SpotLaws.{Spotting}
use lib.ListN.{take}
use Rattle.corrections_table.specs.Table.{lent_samples, rows}
use Rattle.corrections_table.proofs.add.spot_of.Given as goal

abbrev pub invariant-loop-p : goal.invariant-loop-p
invariant-loop-p l = Spotting l.s (take l.n (rows (lent_samples l.cs l.vs l.bs l.ts l.xs))) l.n l.p
