-- `mileage::rated::at_least_one` meets its contract. Assumes nothing.
use Rattle.mileage.specs.Rated.{at_least_one}
use Rattle.mileage.proofs.rated.at_least_one.Goals as goal

pub returns-then-chi : goal.returns-then-chi
unfolding at_least_one
returns-then-chi c = rw c.if-chi.true

pub returns-else-chi : goal.returns-else-chi
unfolding at_least_one
returns-else-chi c = rw c.if-chi.false
