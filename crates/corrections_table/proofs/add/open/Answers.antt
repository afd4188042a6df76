-- `corrections_table::add::open` meets its contract. Assumes nothing.
use Rattle.corrections_table.proofs.ColumnLaws.{opening-start, opening-next, opening-end}
use Rattle.corrections_table.proofs.add.open.Goals as goal

pub loop-i-init : goal.loop-i-init
loop-i-init g c = opening-start _ _ _ c.requires.0

pub loop-i-preserved : goal.loop-i-preserved
loop-i-preserved g c = opening-next c.loop-i.invariant _ c.index-d-i.is c.loop-i-test.true

pub returns : goal.returns
returns g c = opening-end c.loop-i.invariant _ c.loop-i-test.false
