-- `tdcp::rounds::sigmas_into` meets its contract. Assumes nothing.
use Prim.Native.Nat.{ℕ, ◌-◌, ◌≤◌}
use mathlib.Core.List.{List}
use lib.ListN.{get_or}
use lib.Ieee.{Float, nan}
use Rattle.robust.specs.Sigma.{elevation_sigma}
use Rattle.records.proofs.KeepLaws.{Filled}
use Rattle.tdcp.specs.declared.displacement.Settings.{Settings}
use Rattle.tdcp.proofs.rounds.sigmas_into.Given as goal

-- the sigma of each place
abbrev pub sigma_at : Settings → List Float → ℕ → Float
sigma_at settings elevation i = elevation_sigma (get_or elevation i nan) settings.sigma_a settings.sigma_b

abbrev pub invariant-loop-j : goal.invariant-loop-j
invariant-loop-j l = (l.j ≤ l.count) × Filled (sigma_at l.settings l.elevation) nan l.j l.sigma
