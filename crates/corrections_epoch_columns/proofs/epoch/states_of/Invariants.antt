-- `corrections_epoch_columns::epoch::states_of` meets its contract. Assumes nothing.
use Rattle.corrections_epoch_columns.specs.Columns.{state_held}
use Rattle.lists.proofs.Filling.{Filling}
use Rattle.corrections_epoch_columns.proofs.epoch.states_of.Given as goal

abbrev pub invariant-loop-i : goal.invariant-loop-i
invariant-loop-i l = Filling (state_held l.c) l.c.count l.out.states l.out.count l.i
