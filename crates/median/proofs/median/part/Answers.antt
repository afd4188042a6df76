-- `median::median::part` meets its contract: those of the first j patterns that have the sign are, without it, the first w. Assumes nothing.
use Prim.Native.Nat.{◌<◌}
use native.Mathlib.Omega.{arith}
use lib.ListN.{length}
use Rattle.exact.specs.Pattern.{sign}
use Rattle.median.proofs.SelectLoops.{parting_none, part-yes, part_no, parting_all}
use Rattle.median.proofs.median.part.Goals as goal
use Rattle.median.proofs.median.part.Goals.{then-s-negative, else-s-negative}

pub loop-j-init : goal.loop-j-init
loop-j-init c = (omega arith, parting_none c.args.negative c.args.patterns.now c.args.k.now c.requires.1)

pub loop-j-preserved : goal.loop-j-preserved
unfolding sign
loop-j-preserved c = let t = c in
    let s = t.args in
    let inside : t.loop-j.j < length s.patterns.now = omega arith in
    elim c.if-s-negative.branch [
      | then-s-negative w ↦ (omega arith, rw w.w-is (part-yes s.negative s.patterns.now t.loop-j.j t.loop-j.w t.loop-j.k inside t.requires.0 t.loop-j.invariant.1 w.if-s-negative.true))
      | else-s-negative w ↦ (omega arith, rw w.w-is (part_no s.negative s.patterns.now t.loop-j.j t.loop-j.w t.loop-j.k inside t.requires.0 t.loop-j.invariant.1 w.if-s-negative.false))
    ]

pub returns : goal.returns
returns c = let t = c in
    let s = t in
    parting_all s.args.negative s.args.patterns.now t.loop-j.j t.loop-j.w t.loop-j.k s.requires.0 (omega arith) t.loop-j.invariant.1
