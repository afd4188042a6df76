-- `median::median::of_highest` meets its contract: the four highest of the numbers from j on. Assumes nothing.
use Prim.Native.Nat.{◌-◌, ◌^◌, ◌≤◌}
use lib.ListN.{take, drop}
use Rattle.median.proofs.SelectFew.{Highest}
use Rattle.median.proofs.median.of_highest.Given as goal

abbrev pub invariant-loop-i : goal.invariant-loop-i
invariant-loop-i l = Highest (2 ^ 63 - 1) (drop (l.n - l.i) (take l.n l.k)) l.a l.b l.c l.d
