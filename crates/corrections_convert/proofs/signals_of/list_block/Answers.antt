-- `corrections_convert::signals_of::list_block` meets its contract. Assumes nothing.
use mathlib.Core.Path.{◌≡◌}
use native.Mathlib.Omega.{arith}
use Rattle.corrections_convert.proofs.ListLaws.{spread-more, spread_none}
use Rattle.corrections_convert.proofs.signals_of.list_block.Goals as goal

pub loop-i-init : goal.loop-i-init
loop-i-init c = (omega arith, (c.requires.0, (spread_none _ _ _, (spread_none _ _ _, spread_none _ _ _))))

pub bounds-constellation-i : goal.bounds-constellation-i
bounds-constellation-i c = omega (arith, c.loop-i.invariant.1.1.0.same_length, c.requires.1.0, c.loop-i-test.true)

pub offset_bounds-svid-i : goal.offset_bounds-svid-i
offset_bounds-svid-i c = omega (arith, c.loop-i.invariant.1.1.1.0.same_length, c.requires.1.1.0, c.loop-i-test.true)

pub bounds-svid-i : goal.bounds-svid-i
bounds-svid-i c = omega (arith, c.loop-i.invariant.1.1.1.0.same_length, c.requires.1.1.0, c.loop-i-test.true)

pub offset_bounds-band-i : goal.offset_bounds-band-i
offset_bounds-band-i c = omega (arith, c.loop-i.invariant.1.1.1.1.same_length, c.requires.1.1.1, c.loop-i-test.true)

pub bounds-band-i : goal.bounds-band-i
bounds-band-i c = omega (arith, c.loop-i.invariant.1.1.1.1.same_length, c.requires.1.1.1, c.loop-i-test.true)

pub loop-i-smaller : goal.loop-i-smaller
loop-i-smaller c = omega (arith, c.loop-i-test.true)

pub loop-i-preserved : goal.loop-i-preserved
loop-i-preserved c = let s = c in
    let h = c.loop-i in
    let t = c.loop-i-test.true in
    let f = h.invariant.0 in
    (omega (arith, f), (omega (arith, t), (spread-more h.invariant.1.1.0 f (omega (arith, t, s.requires.1.0)), (spread-more h.invariant.1.1.1.0 f (omega (arith, t, s.requires.1.1.0)), spread-more h.invariant.1.1.1.1 f (omega (arith, t, s.requires.1.1.1))))))

pub shape_of-constellation : goal.shape_of-constellation
shape_of-constellation c = c.loop-i.invariant.1.1.0.same_length

pub shape_of-svid : goal.shape_of-svid
shape_of-svid c = c.loop-i.invariant.1.1.1.0.same_length

pub shape_of-band : goal.shape_of-band
shape_of-band c = c.loop-i.invariant.1.1.1.1.same_length

pub returns : goal.returns
returns c = let s = c in
    let h = c.loop-i in
    let z : h.i ≡ s.args.end = omega (arith, h.invariant.1.0, c.loop-i-test.false) in
    rw (← z) h.invariant.1.1
