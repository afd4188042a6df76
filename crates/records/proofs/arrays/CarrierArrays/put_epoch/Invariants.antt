-- `records::arrays::CarrierArrays::put_epoch` meets its contract. Assumes nothing.
use mathlib.Core.Path.{◌≡◌}
use Prim.Native.Nat.{◌≤◌, ◌-◌}
use Rattle.records.specs.Steps.{Laid}
use Rattle.records.proofs.arrays.CarrierArrays.put_epoch.Given as goal

abbrev pub invariant-loop-i : goal.invariant-loop-i
invariant-loop-i l = (l.i ≤ l.e.count) × Laid l.e.carriers l.i l.self.signals l.self.states l.self.floats
