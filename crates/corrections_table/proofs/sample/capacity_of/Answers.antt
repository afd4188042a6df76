-- `corrections_table::sample::capacity_of` meets its contract. Assumes nothing.
use Rattle.corrections_table.specs.Table.{lent_samples}
use Rattle.corrections_table.proofs.ColumnLaws.{rows-length}
use Rattle.corrections_table.proofs.sample.capacity_of.Goals as goal

pub returns : goal.returns
returns c = let a = c.args in
    let columns = lent_samples a.cs.now a.vs.now a.bs.now a.ts.now a.xs.now in
    cc (rows-length columns)
