-- `trip::words::fuel_held` meets its contract. Assumes nothing.
use Rattle.std.proofs.Common.{rules}
use Rattle.trip.specs.Words.{fuelled_held}
use Rattle.trip.proofs.words.fuel_held.Goals as goal

pub returns-in_err-try_from : goal.returns-in_err-try_from
unfolding fuelled_held
returns-in_err-try_from c = search rules

pub returns : goal.returns
unfolding fuelled_held
returns c = search rules
