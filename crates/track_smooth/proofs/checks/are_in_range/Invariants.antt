-- `track_smooth::checks::are_in_range` meets its contract. Assumes nothing.
use mathlib.Core.Path.{◌≡◌}
use mathlib.Core.Bool.{true}
use Prim.Native.Nat.{◌≤◌}
use lib.ListN.{get_or}
use lib.Ieee.{nan}
use Rattle.numeric.specs.Real.{in_range}
use Rattle.track_tridiagonal.specs.Tridiagonal.{each_below}
use Rattle.track_smooth.proofs.checks.are_in_range.Given as goal

abbrev pub invariant-loop-k : goal.invariant-loop-k
invariant-loop-k l = (l.k ≤ l.count) × (each_below (λ k. in_range (get_or l.v k nan)) l.k ≡ true)
