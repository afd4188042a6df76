-- `corrections_table::add::insert` meets its contract. Assumes nothing.
use Rattle.corrections_table.specs.Table.{lent_samples}
use Rattle.corrections_table.proofs.ColumnLaws.{rows-within, spot-within, inserted}
use Rattle.corrections_table.proofs.add.insert.Goals as goal

pub open-requires : goal.open-requires
open-requires c = let a = c.args in
    let columns = lent_samples a.cs.now a.vs.now a.bs.now a.ts.now a.xs.now in
    (spot-within a.n _ a.s columns c.requires.0 c.spot_of-p.ensures, (rows-within columns a.n c.requires.0).in_c)

pub open-requires-2 : goal.open-requires-2
open-requires-2 c = let a = c.args in
    let columns = lent_samples a.cs.now a.vs.now a.bs.now a.ts.now a.xs.now in
    (spot-within a.n _ a.s columns c.requires.0 c.spot_of-p.ensures, (rows-within columns a.n c.requires.0).in-v)

pub open-requires-3 : goal.open-requires-3
open-requires-3 c = let a = c.args in
    let columns = lent_samples a.cs.now a.vs.now a.bs.now a.ts.now a.xs.now in
    (spot-within a.n _ a.s columns c.requires.0 c.spot_of-p.ensures, (rows-within columns a.n c.requires.0).in_b)

pub open-requires-4 : goal.open-requires-4
open-requires-4 c = let a = c.args in
    let columns = lent_samples a.cs.now a.vs.now a.bs.now a.ts.now a.xs.now in
    (spot-within a.n _ a.s columns c.requires.0 c.spot_of-p.ensures, (rows-within columns a.n c.requires.0).in-t)

pub open-requires-5 : goal.open-requires-5
open-requires-5 c = let a = c.args in
    let columns = lent_samples a.cs.now a.vs.now a.bs.now a.ts.now a.xs.now in
    (spot-within a.n _ a.s columns c.requires.0 c.spot_of-p.ensures, (rows-within columns a.n c.requires.0).in-x)

pub returns : goal.returns
returns c = let a = c.args in
    let columns = lent_samples a.cs.now a.vs.now a.bs.now a.ts.now a.xs.now in
    rw (c.open.ensures, c.open-2.ensures, c.open-3.ensures, c.open-4.ensures, c.open-5.ensures)
    (inserted a.n c.spot_of-p.result a.s columns c.requires.0 c.spot_of-p.ensures)
