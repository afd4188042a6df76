-- `median::median::count_low` meets its contract: w is how many of the first j numbers are below p. Assumes nothing.
use Prim.Native.Nat.{◌≤◌, ◌-◌}
use mathlib.Core.Path.{◌≡◌}
use lib.ListN.{take, length}
use Rattle.median.specs.Steps.{lows}
use Rattle.median.proofs.median.count_low.Given as goal

abbrev pub invariant-loop-j : goal.invariant-loop-j
invariant-loop-j l = (l.j ≤ l.n) × (l.w ≤ l.j) × (l.w ≡ length (lows l.p (take l.j l.k)))
