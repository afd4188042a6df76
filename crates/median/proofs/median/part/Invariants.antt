-- `median::median::part` meets its contract: those of the first j patterns that have the sign are, without it, the first w. Assumes nothing.
use Prim.Native.Nat.{◌≤◌, ◌-◌}
use lib.ListN.{length}
use Rattle.median.proofs.SelectLoops.{Parting}
use Rattle.median.proofs.median.part.Given as goal

abbrev pub invariant-loop-j : goal.invariant-loop-j
invariant-loop-j l = (l.j ≤ length l.patterns) × Parting l.negative l.patterns l.j l.w l.k
