-- `wls_columns::columns::LentObservations::observation_at` meets its contract. Assumes nothing.
use Rattle.wls_columns.specs.Columns.{observation_at}
use Rattle.wls_columns.proofs.columns.LentObservations.observation_at.Goals as goal

pub returns : goal.returns
unfolding observation_at
returns c = rw c.vector_at.ensures
