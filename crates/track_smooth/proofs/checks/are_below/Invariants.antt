-- `track_smooth::checks::are_below` meets its contract. Assumes nothing.
use mathlib.Core.Path.{◌≡◌}
use mathlib.Core.Bool.{true}
use Prim.Native.Nat.{◌≤◌}
use lib.ListN.{get_or}
use lib.Dec.{ltb}
use Rattle.track_tridiagonal.specs.Tridiagonal.{each_below}
use Rattle.track_smooth.proofs.checks.are_below.Given as goal

abbrev pub invariant-loop-k : goal.invariant-loop-k
invariant-loop-k l = (l.k ≤ l.count) × (each_below (λ j. ltb (get_or l.v j 0) l.n) l.k ≡ true)
