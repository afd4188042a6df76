-- `tdcp::rounds::residuals_at` meets its contract. Assumes nothing.
use Prim.Native.Nat.{ℕ, ◌-◌, ◌≤◌}
use mathlib.Core.List.{List}
use lib.ListN.{get_or}
use lib.Ieee.{Float, nan}
use Rattle.records.proofs.KeepLaws.{Filled}
use Rattle.tdcp.specs.Steps.{residual_of}
use Rattle.tdcp.proofs.rounds.residuals_at.Given as goal

-- the residual of each place at the state s
abbrev pub residual_at : List Float → List Float → List Float → List ℕ → List Float → List Float → ℕ → ℕ
residual_at x y z clock observed s i = residual_of (get_or observed i nan) (get_or x i nan) (get_or y i nan) (get_or z i nan) (get_or clock i 0) s

abbrev pub invariant-loop-j : goal.invariant-loop-j
invariant-loop-j l = (l.j ≤ l.count) × Filled (residual_at l.x l.y l.z l.clock l.observed l.at) 0 l.j l.residual
