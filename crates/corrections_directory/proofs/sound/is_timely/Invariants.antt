-- `corrections_directory::sound::is_timely` meets its contract. Assumes nothing.
use mathlib.Core.Path.{◌≡◌}
use Prim.Native.Nat.{◌+◌, ◌-◌, ◌≤◌, ◌<◌}
use lib.ListN.{get_or, take, drop}
use lib.Ieee.{nan}
use Rattle.corrections_directory.specs.Directory.{timely, timely_from}
use Rattle.corrections_directory.proofs.sound.is_timely.Given as goal

abbrev pub invariant-loop-i : goal.invariant-loop-i
invariant-loop-i g l = (l.first < l.i) × ((l.i ≤ l.end) × (timely_from (get_or (g.T.Element.floats l.table_time) (l.i - 1) nan) (drop l.i (take (l.first + l.count) (g.T.Element.floats l.table_time))) ≡ timely (take l.count (drop l.first (g.T.Element.floats l.table_time)))))
