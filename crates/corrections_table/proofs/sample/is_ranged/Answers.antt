-- `corrections_table::sample::is_ranged` meets its contract. Assumes nothing.
use Rattle.corrections_table.specs.Table.{ranged}
use Rattle.corrections_table.proofs.sample.is_ranged.Goals as goal

pub returns : goal.returns
unfolding ranged
returns c = rw (c.in_range-2.ensures, c.in_range.ensures)
