-- `wls_columns::columns::LentRows::rows` meets its contract: its loop stores one place after the other. Assumes nothing.
use Prim.Native.Nat.{◌-◌}
use Rattle.wls_columns.specs.Columns.{row_from}
use Rattle.wls_columns.specs.Steps.{lent_row_columns}
use Rattle.lists.proofs.Filling.{Filling}
use Rattle.wls_columns.proofs.columns.LentRows.rows.Given as goal

abbrev pub invariant-loop-i : goal.invariant-loop-i
invariant-loop-i l = Filling (row_from (lent_row_columns l.self)) l.n l.out.row l.out.count l.i

abbrev pub decreases-loop-i : goal.decreases-loop-i
decreases-loop-i l = l.n - l.i
