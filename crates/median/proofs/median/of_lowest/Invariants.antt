-- `median::median::of_lowest` meets its contract: the four lowest of the numbers from j on. Assumes nothing.
use Prim.Native.Nat.{◌-◌, ◌^◌, ◌≤◌}
use lib.ListN.{take, drop}
use Rattle.median.proofs.SelectFew.{Lowest}
use Rattle.median.proofs.median.of_lowest.Given as goal

abbrev pub invariant-loop-i : goal.invariant-loop-i
invariant-loop-i l = Lowest (2 ^ 63 - 1) (drop (l.n - l.i) (take l.n l.k)) l.a l.b l.c l.d
