-- `estimate_rounds::rounds::move_by` meets its contract. Assumes nothing.
use Prim.Native.Nat.{◌-◌, ◌≤◌}
use Rattle.estimate_rounds.proofs.RoundsLaws.{Moving}
use Rattle.estimate_rounds.proofs.rounds.move_by.Given as goal

abbrev pub invariant-loop-i : goal.invariant-loop-i
invariant-loop-i l = (l.i ≤ l.n) × Moving l.x l.dx l.i l.y

abbrev pub decreases-loop-i : goal.decreases-loop-i
decreases-loop-i l = l.n - l.i
