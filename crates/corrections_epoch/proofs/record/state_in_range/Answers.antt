-- `corrections_epoch::record::state_in_range` meets its contract. Assumes nothing.
use Rattle.corrections_epoch.specs.Record.{state_in_range}
use Rattle.corrections_epoch.proofs.record.state_in_range.Goals as goal

pub returns : goal.returns
unfolding state_in_range
returns c = rw (c.in_range-2.ensures, c.in_range.ensures, c.is_in_range-2.ensures, c.is_in_range.ensures)
