-- `wire::number::number_at` meets its contract. Assumes nothing.
use Prim.Native.Nat.{◌-◌}
use Rattle.wire.proofs.NumberLaws.{Reading}
use Rattle.wire.proofs.number.number_at.Given as goal

abbrev pub invariant-loop-i : goal.invariant-loop-i
invariant-loop-i l = Reading l.s l.at l.w l.i l.n
