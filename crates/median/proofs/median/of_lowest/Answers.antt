-- `median::median::of_lowest` meets its contract: the four lowest of the numbers from j on. Assumes nothing.
use Prim.Native.Nat.{◌+◌, ◌-◌, ◌^◌}
use native.Mathlib.Omega.{arith}
use mathlib.Core.Path.{◌≡◌, ◌∙◌}
use lib.ListN.{take, drop, length}
use lib.Seq.{length-take-le}
use Rattle.median.proofs.SelectFew.{each_below, from_end, from-before, lowest-none, lowest-more, lowest-at}
use Rattle.median.proofs.median.of_lowest.Goals as goal

pub loop-i-init : goal.loop-i-init
loop-i-init c = let z : c.args.n - 0 ≡ c.args.n = omega arith in rw (z, from_end c.args.k.now c.args.n (omega (arith, c.requires.2, c.requires.3))) (lowest-none (2 ^ 63 - 1))

pub loop-i-preserved : goal.loop-i-preserved
loop-i-preserved c = let r = c in
    let t = r in
    let s = t in
    let k = s.args.k.now in
    let n = s.args.n in
    let j = n - t.loop-i.i in
    let z : n - (t.loop-i.i + 1) ≡ j - 1 = omega arith in
    rw (z, c.min-a.ensures, c.max-b.ensures, c.min-in-loop-i-2.ensures, c.max-c.ensures, c.min-in-loop-i.ensures, c.max-d.ensures, c.min.ensures, from-before k n (omega arith) j (omega arith) (omega arith))
    (lowest-more (2 ^ 63 - 1) (drop j (take n k)) _ (each_below k n (omega arith) s.requires.4 (j - 1) (omega arith)) t.loop-i.invariant)

pub returns : goal.returns
returns c = let t = c in
    let s = t in
    let k = s.args.k.now in
    let n = s.args.n in
    let e : n - t.loop-i.i ≡ 0 = omega arith in
    let len : length (take n k) ≡ n = length-take-le n k (omega arith) in
    c.one_of.ensures ∙ lowest-at (2 ^ 63 - 1) (take n k) s.args.m (omega arith) s.requires.1 (rw e at t.loop-i.invariant)
