-- `corrections_epoch::record::ranges_in_range` meets its contract. Assumes nothing.
use mathlib.Core.Path.{◌≡◌}
use lib.ListN.{drop, length, take}
use Rattle.lists.specs.Walk.{every}
use Rattle.corrections_epoch.specs.Record.{range_in_range}
use Rattle.corrections_epoch.proofs.record.ranges_in_range.Given as goal

abbrev pub invariant-loop-r : goal.invariant-loop-r
invariant-loop-r l = every range_in_range (drop l.r-index (take (length l.ranges) l.ranges)) ≡ every range_in_range l.ranges
