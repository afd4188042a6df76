-- `mileage::mileage::way_for` meets its contract. Assumes nothing.
use Rattle.numeric.specs.Vec3.{norm}
use borrow.Author.Tests.{eq-eqb, ne_eqb}
use Rattle.mileage.specs.Steps.{way_for}
use Rattle.mileage.proofs.mileage.way_for.Goals as goal

pub returns-then-refused-eq0 : goal.returns-then-refused-eq0
unfolding way_for norm
returns-then-refused-eq0 c = rw (eq-eqb _ _ c.if-refused-eq0.true) c.way_of_square.ensures

pub returns : goal.returns
unfolding way_for
returns c = rw (ne_eqb _ _ c.if-refused-eq0.false)
