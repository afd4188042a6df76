-- `corrections_epoch::sample::clocks_of` meets its contract: its inner loop collects the patterns of a group. Assumes nothing.
use mathlib.Core.Path.{◌≡◌}
use lib.ListN.{length, take}
use Rattle.lists.specs.Walk.{collect}
use Rattle.lists.proofs.Walk.{Collecting}
use Rattle.corrections_epoch.proofs.SampleLaws.{Clocks, pattern_in}
use Rattle.corrections_epoch.proofs.sample.clocks_of.Given as goal

abbrev pub invariant-loop-r : goal.invariant-loop-r
invariant-loop-r l = Collecting (pattern_in l.c) l.raws (length l.raws) 64 (collect (pattern_in l.c) (take (length l.raws) l.raws)) l.values l.k l.r-index

abbrev pub invariant-loop-c : goal.invariant-loop-c
invariant-loop-c l = Clocks (take (length l.raws) l.raws) l.clocks l.c × (length l.values ≡ 64)
