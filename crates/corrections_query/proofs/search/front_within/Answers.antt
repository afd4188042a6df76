-- `corrections_query::search::front_within` meets its contract. Assumes nothing.
use mathlib.Core.Path.{refl}
use Prim.Native.Nat.{◌+◌}
use native.Mathlib.Omega.{arith}
use Rattle.corrections_query.proofs.HalvingLaws.{halving_start, halving_half, halving_end, halves, one_left}
use Rattle.corrections_query.proofs.search.front_within.Goals as goal

pub loop-left-init : goal.loop-left-init
loop-left-init c = let s = c in
    let some = s.requires.times_split.some in
    (halving_start _ _ _ s.requires.times_split.falling (s.args.from + s.args.size) (omega arith) refl, (omega (arith, some), s.requires.size_bound))

pub loop-left-preserved : goal.loop-left-preserved
loop-left-preserved c = let h = c.loop-left in
    (halving_half _ _ _ c.requires.times_split.falling h.lo h.len _ h.invariant.1.0 c.choose_before-lo.ensures.0 h.invariant.0, (omega arith, halves h.len h._left c.loop-left-test.true h.invariant.1.1))

pub returns : goal.returns
returns c = let h = c.loop-left in
    halving_end _ _ _ c.requires.times_split.falling h.lo h.len _ h.invariant.0 h.invariant.1.0 (one_left h.len h._left c.loop-left-test.false h.invariant.1.1) c.choose_before.ensures.0
