-- `corrections_query::search::entry_of` meets its contract. Assumes nothing.
use Prim.Native.Nat.{◌+◌}
use native.Mathlib.Omega.{arith}
use Rattle.corrections_query.proofs.HalvingLaws.{halving_start, halving_next, halving_inner, falling-inner}
use Rattle.corrections_query.proofs.search.entry_of.Goals as goal

pub loop-len-init : goal.loop-len-init
loop-len-init c = let s = c in
    let some = s.requires.some in
    (halving_start _ _ _ s.requires.falling (0 + s.args.blocks) (omega (arith, some)) (omega arith), some)

pub signal_at-s-requires : goal.signal_at-s-requires
signal_at-s-requires c = (omega arith, (omega arith, omega arith))

pub loop-len-preserved : goal.loop-len-preserved
loop-len-preserved c = let h = c.loop-len in
    (halving_next _ _ _ c.requires.falling h.lo h.len _ h.invariant.1 (rw c.signal_at-s.ensures.0 at c.choose_up_to-lo.ensures.0) h.invariant.0, omega arith)

pub entry_within-requires : goal.entry_within-requires
entry_within-requires c = let s = c in
    let h = c.loop-len in
    let i = h.invariant.0 in
    let some = h.invariant.1 in
    let w = i.within in
    let p = s.requires.inside in
    record { size_bound = c.loop-len-test.false; signals_split = record { some = omega (arith, some); inside = (omega (arith, w, p, some), (omega (arith, w, p, some), omega (arith, w, p, some))); falling = falling-inner (h.lo + 1) (h.lo + h.len) s.requires.falling i.above w } }

pub returns : goal.returns
returns c = let i = c.loop-len.invariant.0 in
    let w = i.within in
    let b = c.entry_within.ensures.below in
    record { below = omega (arith, w, b); split = halving_inner i c.entry_within.ensures.split }
