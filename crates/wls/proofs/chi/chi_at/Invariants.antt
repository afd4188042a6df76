-- `wls::chi::chi_at` meets its contract. Assumes nothing.
use mathlib.Core.Path.{◌≡◌}
use Prim.Native.Nat.{◌≤◌}
use lib.ListN.{length}
use Rattle.wls.proofs.SightLaws.{Sights}
use Rattle.wls.proofs.QualityLaws.{squares}
use Rattle.wls.proofs.chi.chi_at.Given as goal

abbrev pub invariant-loop-j : goal.invariant-loop-j
invariant-loop-j l = (l.j ≤ l.count) × Sights l.sky.observation l.count l.s l.j × (l.t ≡ squares l.k l.sky.observation l.sigma l.s l.j) × (length l.sky.observation ≡ 64)
