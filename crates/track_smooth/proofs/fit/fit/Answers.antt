-- `track_smooth::fit::fit` meets its contract. Assumes nothing.
use mathlib.Core.Path.{refl, ◌∙◌}
use Prim.Native.Nat.{◌*◌}
use native.Mathlib.Omega.{arith}
use Rattle.track_pass.specs.Input.{track_in}
use Rattle.track_smooth.proofs.Rounds.{fitting-none, gone-on, first-fails, later-fails, gone-long, gone-ends, gone-numbers, gone-more, take_long, take_same}
use Rattle.track_smooth.proofs.fit.fit.Goals as goal

pub returns-then-not-pass : goal.returns-then-not-pass
returns-then-not-pass c = first-fails _ c.requires.0.valid _ _ _ _ _ _ _ _ (fitting-none _ _ _ _ _ _ c.fill.ensures c.fill.auto.w) c.if-not-pass.ensures

pub loop-done-init : goal.loop-done-init
loop-done-init c = gone-on _ _ _ _ _ _ _ _ _ _ (fitting-none _ _ _ _ _ _ c.fill.ensures c.fill.auto.w) c.if-not-pass.ensures c.pass.auto.w c.pass.auto.r

pub reweigh-requires : goal.reweigh-requires
reweigh-requires c = let l = gone-long _ c.requires.0.valid _ _ _ _ _ _ _ c.loop-done.invariant in
    let rs = take_long c.loop-done.r (c.args.track.epochs * 3) (omega (arith, c.requires.0.result, l.1)) in
    record {
      valid = c.requires.0.valid;
      work = omega (arith, c.requires.0.work, l.0);
      long = rs;
      numbers = gone-numbers _ c.requires.0.valid _ _ _ _ _ _ _ c.loop-done.invariant _ rs (take_same _ _);
    }

pub returns-then-not-pass-2 : goal.returns-then-not-pass-2
returns-then-not-pass-2 c = let v = c.requires.0.valid in
    let l = gone-long _ v _ _ _ _ _ _ _ c.loop-done.invariant in
    let rs = take_long c.loop-done.r (c.args.track.epochs * 3) (omega (arith, c.requires.0.result, l.1)) in
    later-fails _ v _ _ _ _ _ _ _ _ _ (omega (arith, c.loop-done.auto._done)) (gone-more _ v _ _ _ _ _ _ _ c.loop-done.invariant _ rs (take_same _ _) c.loop-done-test.true _ c.reweigh.ensures c.reweigh.auto.w)
    c.if-not-pass-2.ensures

pub loop-done-preserved : goal.loop-done-preserved
loop-done-preserved c = let v = c.requires.0.valid in
    let l = gone-long _ v _ _ _ _ _ _ _ c.loop-done.invariant in
    let rs = take_long c.loop-done.r (c.args.track.epochs * 3) (omega (arith, c.requires.0.result, l.1)) in
    gone-on _ _ _ _ _ _ _ _ _ _ (gone-more _ v _ _ _ _ _ _ _ c.loop-done.invariant _ rs (take_same _ _) c.loop-done-test.true _ c.reweigh.ensures c.reweigh.auto.w)
    c.if-not-pass-2.ensures c.pass-in-loop-done.auto.w c.pass-in-loop-done.auto.r

pub returns : goal.returns
returns c = gone-ends _ c.requires.0.valid _ _ _ _ _ _ _ c.loop-done.invariant (omega (arith, c.loop-done-test.false))
