-- `wls_columns::columns::LentObservations::fit` meets its contract. Assumes nothing.
use borrow.Author.Tests.{le-leb, lt-leb}
use Rattle.wls_columns.specs.Columns.{observations_fit}
use Rattle.wls_columns.proofs.columns.LentObservations.fit.Goals as goal

pub returns-then-n-gt64 : goal.returns-then-n-gt64
unfolding observations_fit
returns-then-n-gt64 c = rw (lt-leb _ 64 c.if-n-gt64.true)

pub returns : goal.returns
unfolding observations_fit
returns c = rw (le-leb _ 64 c.if-n-gt64.false)
