-- `corrections_query::search::front_of` meets its contract. Assumes nothing.
use Prim.Native.Nat.{◌+◌, ◌-◌}
use native.Mathlib.Omega.{arith}
use Rattle.corrections_query.proofs.HalvingLaws.{halving_start, halving_half, halving_inner, falling-inner}
use Rattle.corrections_query.proofs.search.front_of.Goals as goal

pub loop-len-init : goal.loop-len-init
loop-len-init c = let s = c in
    let some = s.requires.some in
    (halving_start _ _ _ s.requires.falling (s.args.first + (s.args.end - s.args.first)) (omega arith) (omega (arith, some)), omega (arith, some))

pub loop-len-preserved : goal.loop-len-preserved
loop-len-preserved c = let h = c.loop-len in
    (halving_half _ _ _ c.requires.falling h.lo h.len _ h.invariant.1 c.choose_before-lo.ensures.0 h.invariant.0, omega arith)

pub front_within-requires : goal.front_within-requires
front_within-requires c = let s = c in
    let h = c.loop-len in
    let i = h.invariant.0 in
    let some = h.invariant.1 in
    record { size_bound = c.loop-len-test.false; times_split = record { some = omega (arith, some); inside = omega (arith, i.within, s.requires.inside); falling = falling-inner h.lo (h.lo + h.len) s.requires.falling i.above i.within } }

pub returns : goal.returns
returns c = halving_inner c.loop-len.invariant.0 c.front_within.ensures
