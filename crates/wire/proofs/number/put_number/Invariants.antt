-- `wire::number::put_number` meets its contract. Assumes nothing.
use Prim.Native.Nat.{◌-◌}
use Rattle.wire.proofs.NumberLaws.{Writing}
use Rattle.wire.proofs.number.put_number.Given as goal

abbrev pub invariant-loop-i : goal.invariant-loop-i
invariant-loop-i l = Writing l.initial.out l.at l.w l.n l.out l.i l.rest
