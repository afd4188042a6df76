-- `corrections_query::search::entry_within` meets its contract. Assumes nothing.
use Prim.Native.Nat.{◌+◌}
use mathlib.Core.Path.{◌≡◌, refl, subst}
use native.Mathlib.Omega.{arith}
use Rattle.corrections_query.specs.Steps.{Halving, is_up_to}
use Rattle.corrections_query.proofs.HalvingLaws.{halving_start, halving_next, halves, one_left}
use Rattle.corrections_query.proofs.search.entry_within.Goals as goal

pub loop-left-init : goal.loop-left-init
loop-left-init c = let s = c in
    let some = s.requires.signals_split.some in
    (halving_start _ _ _ s.requires.signals_split.falling (s.args.from + s.args.size) (omega (arith, some)) refl, (omega (arith, some), s.requires.size_bound))

pub signal_at-s-requires : goal.signal_at-s-requires
signal_at-s-requires c = (omega arith, (omega arith, omega arith))

pub loop-left-preserved : goal.loop-left-preserved
loop-left-preserved c = let h = c.loop-left in
    (halving_next _ _ _ c.requires.signals_split.falling h.lo h.len _ h.invariant.1.0 (rw c.signal_at-s.ensures.0 at c.choose_up_to-lo.ensures.0) h.invariant.0, (omega arith, halves h.len h._left c.loop-left-test.true h.invariant.1.1))

pub returns : goal.returns
returns c = let h = c.loop-left in
    let a = c.args in
    let one = one_left h.len h._left c.loop-left-test.false h.invariant.1.1 in
    let some = h.invariant.1.0 in
    let w = h.invariant.0.within in
    let e : h.lo + h.len ≡ h.lo + 1 = omega (arith, one, some) in
    record { below = omega (arith, some, w); split = subst (Halving (is_up_to a.block_constellation.now a.block_svid.now a.block_band.now a.signal) (a.from + 1) (a.from + a.size) (h.lo + 1)) e h.invariant.0 }
