-- `corrections_epoch::raw::raws_of` meets its contract: the outer loop collects what each range gives, and the inner one looks for the first state that is its
-- satellite's. Assumes nothing.
use mathlib.Core.Path.{◌≡◌}
use lib.ListN.{drop, length, take}
use Rattle.lists.proofs.Walk.{Collecting}
use Rattle.corrections_epoch.specs.Raw.{first_raw, raw_at, raws_of}
use Rattle.corrections_epoch.proofs.raw.raws_of.Given as goal

abbrev pub invariant-loop-s : goal.invariant-loop-s
invariant-loop-s l = (first_raw l.base l.rover (drop l.s-index (take (length l.states) l.states)) l.r ≡ first_raw l.base l.rover (take (length l.states) l.states) l.r) × (l.out ≡ l.initial.out)

abbrev pub invariant-loop-r : goal.invariant-loop-r
invariant-loop-r l = Collecting (raw_at l.settings l.base l.rover (take (length l.states) l.states)) l.ranges (length l.ranges) 64 (raws_of l.settings l.base l.rover (take (length l.states) l.states) (take (length l.ranges) l.ranges))
    l.out.raws l.out.count l.r-index
