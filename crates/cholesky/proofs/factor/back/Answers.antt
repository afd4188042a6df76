-- `cholesky::factor::back` meets its contract: after m turns the places n - m to n - 1 are solved, and those from n on are 0. Assumes nothing.
use Rattle.cholesky.proofs.SolveUsed.{places-kept, back_none, back-next}
use Rattle.exact.proofs.Products.{less_zero, less-next}
use Rattle.cholesky.specs.Factor.{at, cell}
use Rattle.exact.specs.Products.{less_products}
use native.Mathlib.Omega.{arith}
use mathlib.Core.Path.{◌≡◌}
use Prim.Native.Nat.{◌-◌, ◌+◌}
use Rattle.cholesky.proofs.factor.back.Goals as goal

pub loop-m-init : goal.loop-m-init
loop-m-init c = let s = c.requires in (omega arith, s.2, back_none c.args.n c.args.l.now _ s.0 s.1 s.2)

pub loop-k-init : goal.loop-k-init
loop-k-init c = (omega arith, omega arith, rw less_zero)

pub loop-k-preserved : goal.loop-k-preserved
loop-k-preserved c = (omega arith, omega arith, rw (c.loop-k.invariant.2, less-next))

pub loop-m-preserved : goal.loop-m-preserved
loop-m-preserved c = let t1 = c in
    let t2 = c in
    let s = t1 in
    let n = s.args.n in
    let l = s.args.l.now in
    let x = t1.loop-m.x in
    let m = t1.loop-m.m in
    let i = n - 1 - m in
    let e : i + 1 + m ≡ n = omega arith in
    let k : t2.loop-k.k ≡ m = omega arith in
    let q : t2.loop-k.s ≡ less_products (at x i) (λ z. cell l (i + 1 + z) i) (λ z. at x (i + 1 + z)) m = rw k at t2.loop-k.invariant.2 in
    let w = t1.loop-m.invariant.1 in
    (omega arith, places-kept n i x _ (omega arith) w, back-next n l _ s.requires.0 s.requires.1 s.requires.2 s.requires.3 m i e x w t1.loop-m.invariant.2 t2.loop-k.s q)

pub returns : goal.returns
returns c = let e : 9 - c.args.n + c.loop-m.m ≡ 9 = omega arith in rw e at c.loop-m.invariant.2
