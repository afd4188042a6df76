-- `median::centre::deviations` meets its contract: the first i numbers are the deviations of the first i residuals. Assumes nothing.
use Prim.Native.Nat.{◌<◌}
use native.Mathlib.Omega.{arith}
use mathlib.Core.Path.{refl, ◌∙◌}
use lib.ListN.{length, length-set}
use Rattle.median.specs.Centre.{deviation_of}
use Rattle.median.proofs.SelectLoops.{map_next, map-all}
use Rattle.median.proofs.centre.deviations.Goals as goal

pub loop-i-init : goal.loop-i-init
loop-i-init c = (omega arith, c.requires.1, refl)

pub loop-i-preserved : goal.loop-i-preserved
unfolding deviation_of
loop-i-preserved c = let t = c in
    let s = t.args in
    let b : t.loop-i.i < length s.residuals.now = omega arith in
    let g : t.loop-i.i < length t.loop-i.k = omega arith in
    (omega arith, length-set t.loop-i.k t.loop-i.i c.pattern.result ∙ t.loop-i.invariant.1, rw (c.pattern.ensures, c.abs.ensures, c.float-x.ensures) (map_next (deviation_of s.centre) t.loop-i.i s.residuals.now t.loop-i.k b g t.loop-i.invariant.2))

pub returns : goal.returns
returns c = let t = c in
    let s = t in
    record { long = t.loop-i.invariant.1; few = s.requires.0; is = map-all (deviation_of s.args.centre) t.loop-i.i s.args.residuals.now t.loop-i.k (omega arith) t.loop-i.invariant.2 }
