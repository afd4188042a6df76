-- `trip::words::add_held` meets its contract. Assumes nothing.
use Rattle.std.proofs.Common.{rules}
use Rattle.trip.specs.Words.{added_held}
use Rattle.trip.proofs.words.add_held.Goals as goal

pub returns-in_err-try_from : goal.returns-in_err-try_from
unfolding added_held
returns-in_err-try_from c = search rules

pub returns : goal.returns
unfolding added_held
returns c = search rules
