-- `median::median::keep_high` meets its contract: those of the first j numbers that are above p are the first w. Assumes nothing.
use Prim.Native.Nat.{ℕ, ◌<◌}
use native.Mathlib.Omega.{arith}
use mathlib.Core.Path.{◌≡◌}
use lib.ListN.{length}
use lib.Dec.{ltb}
use borrow.Author.Tests.{lt-ltb, le-ltb}
use Rattle.median.proofs.SelectLoops.{keeping_none, keep-yes, keep-no, keeping_all}
use Rattle.median.proofs.median.keep_high.Goals as goal
use Rattle.median.proofs.median.keep_high.Goals.{then-p-y, else-p-y}

pub loop-j-init : goal.loop-j-init
loop-j-init c = (omega arith, keeping_none (λ (x : ℕ). ltb c.args.p x) c.args.k.now)

pub loop-j-preserved : goal.loop-j-preserved
loop-j-preserved c = let t = c in
    let s = t.args in
    let inside : t.loop-j.j < length s.k.now = omega arith in
    elim c.if-p-y.branch [
      | then-p-y w ↦ (omega arith, rw w.w-is (keep-yes (λ (x : ℕ). ltb s.p x) s.k.now t.loop-j.j t.loop-j.w t.loop-j.k inside t.loop-j.invariant.1 (lt-ltb _ _ w.if-p-y.true)))
      | else-p-y w ↦ (omega arith, rw w.w-is (keep-no (λ (x : ℕ). ltb s.p x) s.k.now t.loop-j.j t.loop-j.w t.loop-j.k inside t.loop-j.invariant.1 (le-ltb _ _ w.if-p-y.false)))
    ]

pub returns : goal.returns
returns c = let t = c in
    let s = t in
    let e : t.loop-j.j ≡ s.args.n = omega arith in
    keeping_all (λ (x : ℕ). ltb s.args.p x) s.args.k.now s.args.n t.loop-j.w t.loop-j.k s.requires.0 s.requires.1 (rw e at t.loop-j.invariant.1)
