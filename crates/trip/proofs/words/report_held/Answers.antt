-- `trip::words::report_held` meets its contract. Assumes nothing.
use Rattle.std.proofs.Common.{rules}
use Rattle.trip.specs.Words.{reported_held}
use Rattle.trip.proofs.words.report_held.Goals as goal

pub returns-in_err-try_from : goal.returns-in_err-try_from
unfolding reported_held
returns-in_err-try_from c = search rules

pub returns : goal.returns
unfolding reported_held
returns c = search rules
