-- `corrections_table::sample::precedes` meets its contract. Assumes nothing.
use Rattle.corrections_table.specs.Table.{stands_before}
use Rattle.corrections_table.proofs.sample.precedes.Goals as goal

pub returns : goal.returns
unfolding stands_before
returns c = rw (c.is_below.ensures, c.signal_of-g.ensures, c.signal_of-h.ensures)
