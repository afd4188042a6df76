-- `wls::fix::sigmas_of` meets its contract: the first j numbers are the sigmas of the first j. Assumes nothing.
use mathlib.Core.Path.{◌≡◌}
use mathlib.Core.List.{map}
use Prim.Native.Nat.{◌≤◌, ◌-◌}
use lib.ListN.{take, length}
use Rattle.wls.specs.Fix.{sigma_of}
use Rattle.wls.proofs.fix.sigmas_of.Given as goal

abbrev pub invariant-loop-j : goal.invariant-loop-j
invariant-loop-j l = (l.j ≤ l.count) × (length l.sigma ≡ 64) × (take l.j l.sigma ≡ map (sigma_of l.settings) (take l.j l.sky.observation))

abbrev pub decreases-loop-j : goal.decreases-loop-j
decreases-loop-j l = l.count - l.j
