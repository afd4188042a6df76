-- `median::median::keep_low` meets its contract: those of the first j numbers that are below p are the first w. Assumes nothing.
use Prim.Native.Nat.{ℕ, ◌≤◌, ◌-◌}
use lib.Dec.{ltb}
use Rattle.median.proofs.SelectLoops.{Keeping}
use Rattle.median.proofs.median.keep_low.Given as goal

abbrev pub invariant-loop-j : goal.invariant-loop-j
invariant-loop-j l = (l.j ≤ l.n) × Keeping (λ (x : ℕ). ltb x l.p) l.initial.k l.j l.w l.k
