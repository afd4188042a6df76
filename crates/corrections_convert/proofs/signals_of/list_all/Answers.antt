-- `corrections_convert::signals_of::list_all` meets its contract. Assumes nothing.
use mathlib.Core.Path.{◌≡◌}
use native.Mathlib.Omega.{arith}
use Rattle.corrections_convert.proofs.ListLaws.{block-end, laid_more, laid_none, start_none}
use Rattle.corrections_convert.proofs.signals_of.list_all.Goals as goal

pub loop-i-init : goal.loop-i-init
loop-i-init c = (omega arith, (start_none _, (laid_none _ _ _, (laid_none _ _ _, laid_none _ _ _))))

pub offset_bounds-block_samples-i : goal.offset_bounds-block_samples-i
offset_bounds-block_samples-i c = omega (arith, c.loop-i-test.true, c.requires.signals_hold.1)

pub bounds-block_samples-i : goal.bounds-block_samples-i
bounds-block_samples-i c = omega (arith, c.loop-i-test.true, c.requires.signals_hold.1)

pub overflow_add-end : goal.overflow_add-end
overflow_add-end c = let s = c in
    let h = c.loop-i in
    let w = block-end s.args.block_samples.now h.place h.i s.args.blocks h.invariant.1.0 c.loop-i-test.true in
    omega (arith, w, s.requires.signals_hold_2.0, s.ranges)

pub bounds-block_constellation-i : goal.bounds-block_constellation-i
bounds-block_constellation-i c = omega (arith, c.loop-i-test.true, c.requires.signals_hold.0.0)

pub offset_bounds-block_svid-i : goal.offset_bounds-block_svid-i
offset_bounds-block_svid-i c = omega (arith, c.loop-i-test.true, c.requires.signals_hold.0.1.0)

pub bounds-block_svid-i : goal.bounds-block_svid-i
bounds-block_svid-i c = omega (arith, c.loop-i-test.true, c.requires.signals_hold.0.1.0)

pub offset_bounds-block_band-i : goal.offset_bounds-block_band-i
offset_bounds-block_band-i c = omega (arith, c.loop-i-test.true, c.requires.signals_hold.0.1.1)

pub bounds-block_band-i : goal.bounds-block_band-i
bounds-block_band-i c = omega (arith, c.loop-i-test.true, c.requires.signals_hold.0.1.1)

pub list_block-requires : goal.list_block-requires
list_block-requires c = let s = c in
    let h = c.loop-i in
    let w = block-end s.args.block_samples.now h.place h.i s.args.blocks h.invariant.1.0 c.loop-i-test.true in
    let l = h.invariant.1.1 in
    let p = s.requires.signals_hold_2 in
    (omega arith, (omega (arith, w, p.0, l.0.same_length), (omega (arith, w, p.1.0, l.1.0.same_length), omega (arith, w, p.1.1, l.1.1.same_length))))

pub loop-i-smaller : goal.loop-i-smaller
loop-i-smaller c = omega (arith, c.loop-i-test.true)

pub loop-i-preserved : goal.loop-i-preserved
loop-i-preserved c = let s = c in
    let h = c.loop-i in
    let t = c.loop-i-test.true in
    let at = h.invariant.1.0 in
    let e = (block-end s.args.block_samples.now h.place h.i s.args.blocks at t).0 in
    let l = h.invariant.1.1 in
    let q = c.list_block.ensures in
    (omega (arith, t), (e, (laid_more h.i at e l.0 q.0, (laid_more h.i at e l.1.0 q.1.0, laid_more h.i at e l.1.1 q.1.1))))

pub shape_of-constellation : goal.shape_of-constellation
shape_of-constellation c = c.loop-i.invariant.1.1.0.same_length

pub shape_of-svid : goal.shape_of-svid
shape_of-svid c = c.loop-i.invariant.1.1.1.0.same_length

pub shape_of-band : goal.shape_of-band
shape_of-band c = c.loop-i.invariant.1.1.1.1.same_length

pub returns : goal.returns
returns c = let h = c.loop-i in
    let z : h.i ≡ c.args.blocks = omega (arith, h.invariant.0, c.loop-i-test.false) in
    rw (← z) h.invariant.1.1
