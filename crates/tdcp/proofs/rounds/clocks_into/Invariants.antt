-- `tdcp::rounds::clocks_into` meets its contract. Assumes nothing.
use Prim.Native.Nat.{ℕ, ◌-◌, ◌≤◌}
use mathlib.Core.List.{List}
use lib.ListN.{get_or}
use Rattle.clocks.specs.Clocks.{slot}
use Rattle.clocks.specs.declared.clocks.Clocks.{Clocks}
use Rattle.records.proofs.KeepLaws.{Filled}
use Rattle.tdcp.proofs.rounds.clocks_into.Given as goal

-- the clock of each place
abbrev pub clock_at : Clocks → List ℕ → ℕ → ℕ
clock_at k constellation i = slot k (get_or constellation i 0)

abbrev pub invariant-loop-j : goal.invariant-loop-j
invariant-loop-j l = (l.j ≤ l.count) × Filled (clock_at l.k l.constellation) 0 l.j l.clock
