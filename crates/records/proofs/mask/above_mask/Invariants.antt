-- `records::mask::above_mask` meets its contract: its loop collects the observations that it keeps. Assumes nothing.
use Rattle.lists.proofs.Walk.{Collecting}
use Rattle.records.specs.Record.{counted_observations, keep}
use Rattle.records.specs.Mask.{clears, above_mask}
use Rattle.records.proofs.mask.above_mask.Given as goal

abbrev pub invariant-loop-i : goal.invariant-loop-i
invariant-loop-i l = Collecting (keep (clears l.mask)) l.o.observation l.o.count 64 (above_mask l.mask (counted_observations l.o)) l.out.observation l.out.count l.i
