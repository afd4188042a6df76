-- `tdcp::rounds::fit_pairs` meets its contract. Assumes nothing.
use Prim.Native.Nat.{ℕ, ◌-◌, ◌≤◌}
use mathlib.Core.Path.{◌≡◌}
use mathlib.Core.List.{List}
use lib.ListN.{length}
use lib.Ieee.{Float}
use Rattle.records.specs.Steps.{pairs_in}
use Rattle.clocks.specs.declared.clocks.Clocks.{Clocks}
use Rattle.tdcp.specs.Steps.{ClocksAt, SigmasAt}
use Rattle.tdcp.specs.declared.displacement.Settings.{Settings}
use Rattle.tdcp.proofs.DisplacementLaws.{Going}
use Rattle.tdcp.proofs.rounds.fit_pairs.Given as goal

-- whichever pairs have the clocks and sigmas of the columns
abbrev pub ForPairs : Settings → Clocks → List ℕ → List Float → List Float → ((List ℕ) → (List Float) → Type 0) → Type 0
ForPairs settings k clock sigma observed P =
    (constellation : List ℕ) (elevation : List Float) → ClocksAt k constellation (length observed) clock → SigmasAt settings elevation (length observed) sigma → P constellation elevation

abbrev pub invariant-loop-i : goal.invariant-loop-i
invariant-loop-i l = (l.i ≤ l.settings.rounds) × (l.state ≡ l.initial.state) × (length l.residual ≡ 64)
    × ForPairs l.settings l.k l.clock l.sigma l.observed (λ constellation elevation. Going l.settings l.k (pairs_in l.x l.y l.z constellation elevation l.observed) l.i l.at)
