-- `corrections_table::widen::widen_bands` meets its contract. Assumes nothing.
use mathlib.Core.Path.{refl}
use Rattle.corrections_table.proofs.WidenLaws.{widening_refused, widening_passed, not_short}
use Rattle.corrections_table.proofs.widen.widen_bands.Goals as goal

pub returns-then-n-narrow : goal.returns-then-n-narrow
returns-then-n-narrow c = let a = c.args in
    (widening_refused a.n a.narrow.now a.wide.now c.if-n-narrow.true, refl)

pub widen_all-requires : goal.widen_all-requires
widen_all-requires c = let a = c.args in
    let r = not_short a.n a.narrow.now a.wide.now c.if-n-narrow.false in
    (r.in-narrow, r.in-wide)

pub returns : goal.returns
returns c = let a = c.args in
    (widening_passed a.n a.narrow.now a.wide.now c.if-n-narrow.false, c.widen_all.ensures)
