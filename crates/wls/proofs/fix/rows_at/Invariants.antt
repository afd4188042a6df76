-- `wls::fix::rows_at` meets its contract. Assumes nothing.
use Prim.Native.Nat.{◌≤◌}
use mathlib.Core.Path.{◌≡◌}
use lib.ListN.{length}
use Rattle.wls.proofs.RowLaws.{RowsTo}
use Rattle.wls.proofs.fix.rows_at.Given as goal

abbrev pub invariant-loop-j : goal.invariant-loop-j
invariant-loop-j l = (l.j ≤ l.count) × RowsTo l.k l.count l.sky.observation l.s l.j l.rows.x l.rows.y l.rows.z l.rows.clock l.rows.residual × (length l.sky.observation ≡ 64) × (l.rows.sigma ≡ l.initial.rows.sigma)
