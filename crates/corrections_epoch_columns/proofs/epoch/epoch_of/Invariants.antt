-- `corrections_epoch_columns::epoch::epoch_of` meets its contract. Assumes nothing.
use mathlib.Core.Path.{◌≡◌}
use Rattle.corrections_epoch_columns.specs.Epoch.{range_at}
use Rattle.lists.proofs.Filling.{Filling}
use Rattle.corrections_epoch_columns.proofs.epoch.epoch_of.Given as goal

abbrev pub invariant-loop-i : goal.invariant-loop-i
invariant-loop-i l = Filling (range_at l.c.constellation.now l.c.svid.now l.c.band.now l.c.pseudorange.now) l.c.count l.out.ranges l.out.count l.i × (l.out.time ≡ l.time)
