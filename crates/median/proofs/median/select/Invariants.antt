-- `median::median::select` meets its contract: the number looked for stays at place `at` of the first len. Assumes nothing.
use lib.ListN.{take}
use Rattle.median.specs.Steps.{number_at}
use Rattle.median.proofs.SelectSeek.{Seeking}
use Rattle.median.proofs.median.select.Given as goal

abbrev pub invariant-loop-len : goal.invariant-loop-len
invariant-loop-len l = Seeking (number_at l.m (take l.n l.initial.k)) l.k l.len l.at

abbrev pub decreases-loop-len : goal.decreases-loop-len
decreases-loop-len l = l.len
