-- `median::centre::deviations` meets its contract: the first i numbers are the deviations of the first i residuals. Assumes nothing.
use Prim.Native.Nat.{◌≤◌, ◌-◌}
use mathlib.Core.Path.{◌≡◌}
use lib.ListN.{take, length}
use mathlib.Core.List.{map}
use Rattle.median.specs.Centre.{deviation_of}
use Rattle.median.proofs.centre.deviations.Given as goal

abbrev pub invariant-loop-i : goal.invariant-loop-i
invariant-loop-i l = (l.i ≤ length l.residuals) × (length l.k ≡ 64) × (take l.i l.k ≡ map (deviation_of l.centre) (take l.i l.residuals))
