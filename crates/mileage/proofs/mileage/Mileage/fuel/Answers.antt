-- `mileage::mileage::Mileage::fuel` meets its contract. Assumes nothing.
use Rattle.std.proofs.Common.{rules}
use borrow.Author.Tests.{eq-eqb, ne_eqb}
use Rattle.mileage.specs.Mileage.{fuel_over, mileage_fuelled}
use Rattle.mileage.proofs.mileage.Mileage.fuel.Goals as goal

pub returns-in_err-d : goal.returns-in_err-d
unfolding mileage_fuelled fuel_over
returns-in_err-d c = search rules

pub returns-then-d-eq0 : goal.returns-then-d-eq0
unfolding mileage_fuelled fuel_over
returns-then-d-eq0 c = rw (← c.distance.ensures, c.in_ok-d.was, eq-eqb _ _ c.if-d-eq0.true)

pub returns : goal.returns
unfolding mileage_fuelled fuel_over
returns c = rw (← c.distance.ensures, c.in_ok-d.was, ne_eqb _ _ c.if-d-eq0.false)
