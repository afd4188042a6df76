-- `records::columns::signals_into` meets its contract. Assumes nothing.
use Prim.Native.Nat.{◌≤◌}
use Rattle.records.specs.Steps.{Signalled}
use Rattle.records.proofs.columns.signals_into.Given as goal

abbrev pub invariant-loop-i : goal.invariant-loop-i
invariant-loop-i l = (l.i ≤ l.columns.count) × Signalled l.columns.constellation.now l.columns.svid.now l.columns.band.now l.i l.signals
