-- `wls::fix::fit_rounds` meets its contract. Assumes nothing.
use Prim.Native.Nat.{◌+◌, ◌≤◌}
use mathlib.Core.Path.{◌≡◌}
use lib.ListN.{take, length}
use Rattle.normal_equations.specs.Steps.{first_columns, rows_in}
use Rattle.wls.proofs.FixLaws.{Going, GoingRows}
use Rattle.wls.proofs.fix.fit_rounds.Given as goal

abbrev pub invariant-loop-i : goal.invariant-loop-i
invariant-loop-i l = (l.i ≤ l.settings.rounds) × (l.n ≡ 3 + l.k.count) × (l.used ≤ 64) × (length l.sky.observation ≡ 64) × Going l.settings l.k (take l.sky.count l.sky.observation) l.initial.state l.i l.state × GoingRows l.settings l.k (take l.sky.count l.sky.observation) l.initial.state l.i l.state (rows_in (first_columns l.used l.rows)) × (l.used ≤ length l.rows.residual) × (l.rows.sigma ≡ l.initial.rows.sigma)
