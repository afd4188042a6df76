-- `wire_tdcp::displacement::put_records` meets its contract: its loop stores one carrier after the other. Assumes nothing.
use Prim.Native.Nat.{◌≤◌, ◌-◌}
use Rattle.records.specs.Steps.{Laid}
use Rattle.wire_tdcp.specs.Displacement.{record_carriers}
use Rattle.wire_tdcp.proofs.displacement.put_records.Given as goal

abbrev pub invariant-loop-i : goal.invariant-loop-i
invariant-loop-i l = (l.i ≤ l.n) × Laid (record_carriers l.s l.n) l.i l.arrays.signals l.arrays.states l.arrays.floats
