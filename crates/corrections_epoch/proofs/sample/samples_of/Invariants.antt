-- `corrections_epoch::sample::samples_of` meets its contract: its loop collects what each raw correction gives. Assumes nothing.
use lib.ListN.{length, take}
use Rattle.lists.specs.Walk.{collect}
use Rattle.lists.proofs.Walk.{Collecting}
use Rattle.corrections_epoch.specs.Sample.{sample_at}
use Rattle.corrections_epoch.proofs.sample.samples_of.Given as goal

abbrev pub invariant-loop-r : goal.invariant-loop-r
invariant-loop-r l = Collecting (sample_at l.time l.max l.raws) l.raws (length l.raws) 64 (collect (sample_at l.time l.max l.raws) (take (length l.raws) l.raws)) l.out.samples l.out.count l.r-index
