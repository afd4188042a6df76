-- `wls_columns::columns::LentRows::fit` meets its contract. Assumes nothing.
use borrow.Author.Tests.{le-leb, lt-leb}
use Rattle.wls_columns.specs.Columns.{rows_fit}
use Rattle.wls_columns.proofs.columns.LentRows.fit.Goals as goal

pub returns-then-n-gt64 : goal.returns-then-n-gt64
unfolding rows_fit
returns-then-n-gt64 c = rw (lt-leb _ 64 c.if-n-gt64.true)

pub returns : goal.returns
unfolding rows_fit
returns c = rw (le-leb _ 64 c.if-n-gt64.false)
