-- `corrections_table::sample::is_earlier` meets its contract: the cases (a) and (b) of the order, or the order itself. Assumes nothing.
use mathlib.Core.Path.{sym, subst}
use lib.Dec.{T}
use Rattle.corrections_table.specs.Table.{time_before}
use Rattle.corrections_table.proofs.Places.{numbers_after, numbers-before}
use Rattle.corrections_table.proofs.sample.is_earlier.Goals as goal

pub returns-then-u-t : goal.returns-then-u-t
returns-then-u-t c = let s = c in
    numbers_after s.args.t s.args.u (subst T (sym s.well_formed.0.1) tt) (subst T (sym s.well_formed.1.0.1) tt) c.if-u-t.true

pub returns-then-t-u : goal.returns-then-t-u
returns-then-t-u c = let s = c in
    numbers-before s.args.t s.args.u (subst T (sym s.well_formed.0.1) tt) (subst T (sym s.well_formed.1.0.1) tt) c.if-u-t.false c.if-t-u.true

pub returns : goal.returns
unfolding time_before
returns c = rw (c.before-2.ensures, c.pattern.ensures, c.pattern-2.ensures)
