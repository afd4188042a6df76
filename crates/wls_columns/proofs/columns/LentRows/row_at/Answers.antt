-- `wls_columns::columns::LentRows::row_at` meets its contract. Assumes nothing.
use Rattle.wls_columns.specs.Columns.{row_from}
use Rattle.wls_columns.proofs.columns.LentRows.row_at.Goals as goal

pub returns : goal.returns
unfolding row_from
returns c = rw c.vector_at.ensures
