-- `median::median::count_low` meets its contract: w is how many of the first j numbers are below p. Assumes nothing.
use Prim.Native.Nat.{ℕ, ◌<◌, ◌+◌}
use native.Mathlib.Omega.{arith}
use mathlib.Core.Path.{◌≡◌, sym, ap, ◌∙◌}
use lib.ListN.{length}
use lib.Dec.{ltb}
use borrow.Author.Tests.{lt-ltb, le-ltb}
use Rattle.median.proofs.SelectLoops.{passed_none, passed-yes, passed-no}
use Rattle.median.proofs.median.count_low.Goals as goal
use Rattle.median.proofs.median.count_low.Goals.{then-k-j, else-k-j}

pub loop-j-init : goal.loop-j-init
loop-j-init c = (omega arith, omega arith, passed_none (λ (x : ℕ). ltb x c.args.p) c.args.k.now)

pub loop-j-preserved : goal.loop-j-preserved
loop-j-preserved c = let t = c in
    let s = t.args in
    let inside : t.loop-j.j < length s.k.now = omega arith in
    elim c.if-k-j.branch [
      | then-k-j w ↦ (omega arith, omega arith, w.w-is ∙ ap (λ (n : ℕ). n + 1) t.loop-j.invariant.2 ∙ sym (passed-yes (λ (x : ℕ). ltb x s.p) s.k.now t.loop-j.j inside (lt-ltb _ _ w.if-k-j.true)))
      | else-k-j w ↦ (omega arith, omega arith, w.w-is ∙ t.loop-j.invariant.2 ∙ sym (passed-no (λ (x : ℕ). ltb x s.p) s.k.now t.loop-j.j inside (le-ltb _ _ w.if-k-j.false)))
    ]

pub returns : goal.returns
returns c = let e : c.loop-j.j ≡ c.args.n = omega arith in rw (← e) c.loop-j.invariant.2
