-- `tdcp_columns::displacement::epoch_fits` meets its contract. Assumes nothing.
use borrow.Author.Tests.{le-leb, lt-leb}
use Rattle.records.specs.Carriers.{epoch_fits}
use Rattle.tdcp_columns.proofs.displacement.epoch_fits.Goals as goal

pub returns-then-n-gt64 : goal.returns-then-n-gt64
unfolding epoch_fits
returns-then-n-gt64 c = rw (lt-leb _ 64 c.if-n-gt64.true)

pub returns : goal.returns
unfolding epoch_fits
returns c = rw (le-leb _ 64 c.if-n-gt64.false)
