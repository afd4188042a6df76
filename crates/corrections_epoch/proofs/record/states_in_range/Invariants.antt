-- `corrections_epoch::record::states_in_range` meets its contract. Assumes nothing.
use mathlib.Core.Path.{◌≡◌}
use lib.ListN.{drop, length, take}
use Rattle.lists.specs.Walk.{every}
use Rattle.corrections_epoch.specs.Record.{state_in_range}
use Rattle.corrections_epoch.proofs.record.states_in_range.Given as goal

abbrev pub invariant-loop-s : goal.invariant-loop-s
invariant-loop-s l = every state_in_range (drop l.s-index (take (length l.states) l.states)) ≡ every state_in_range l.states
