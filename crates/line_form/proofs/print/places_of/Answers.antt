-- `line_form::print::places_of` meets its contract. Assumes nothing.
use Rattle.line_form.proofs.PrintLaws.{placing-start, placing-more, placing-end}
use borrow.Author.Rules.{rules}
use Rattle.line_form.proofs.print.places_of.Goals as goal

pub loop-rest-init : goal.loop-rest-init
loop-rest-init c = placing-start _ c.ranges.n.fits

pub loop-rest-preserved : goal.loop-rest-preserved
loop-rest-preserved c = placing-more _ _ _ c.loop-rest.invariant c.loop-rest-test.true

pub returns : goal.returns
returns c = record { value = placing-end _ _ _ c.loop-rest.invariant c.loop-rest-test.false; upper_bound = search rules }
