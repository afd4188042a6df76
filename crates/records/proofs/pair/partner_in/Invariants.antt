-- `records::pair::partner_in` meets its contract. Assumes nothing.
use mathlib.Core.Path.{◌≡◌}
use Prim.Native.Nat.{◌≤◌, ◌-◌}
use lib.ListN.{length}
use Rattle.records.proofs.CarrierLaws.{Sought}
use Rattle.records.proofs.pair.partner_in.Given as goal

abbrev pub invariant-loop-j : goal.invariant-loop-j
invariant-loop-j l = (l.j ≤ length l.previous.signals.now) × Sought l.signal l.previous.signals.now l.previous.states.now l.previous.floats.now l.j
