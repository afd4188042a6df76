-- `trip::words::TripTryFromArrayU646::try_from` meets its contract. Assumes nothing.
use Rattle.trip.specs.Words.{too_wide, held_of}
use Rattle.trip.proofs.words.TripTryFromArrayU646.try_from.Goals as goal

pub returns-then-rate-epochs : goal.returns-then-rate-epochs
unfolding held_of too_wide
returns-then-rate-epochs c = rw c.if-rate-epochs.true

pub returns : goal.returns
unfolding held_of too_wide
returns c = rw c.if-rate-epochs.false
