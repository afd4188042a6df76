-- `trip::trip::apart` meets its contract. Assumes nothing.
use borrow.Author.Tests.{lt-ltb, le-ltb}
use Rattle.trip.specs.Trip.{apart}
use Rattle.trip.proofs.trip.apart.Goals as goal

pub returns-then-a-b : goal.returns-then-a-b
unfolding apart
returns-then-a-b c = simp (lt-ltb _ _ c.if-a-b.true)

pub returns-else-a-b : goal.returns-else-a-b
unfolding apart
returns-else-a-b c = simp (le-ltb _ _ c.if-a-b.false)
