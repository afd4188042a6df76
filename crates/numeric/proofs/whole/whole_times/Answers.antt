-- `numeric::whole::whole_times` meets its contract. Assumes nothing.
use mathlib.Core.Path.{subst, sym}
use Prim.Native.Nat.{◌*◌, ◌^◌, ◌≤◌, ◌<◌}
use native.Mathlib.Nat.{mul-le-mul_right}
use native.Mathlib.Omega.{arith}
use lib.Dec.{T}
use lib.Ieee.{binary64, fits, to_bits}
use Rattle.exact.specs.Float.{whole}
use Rattle.root.proofs.Reading.{lt-number}
use Rattle.numeric.proofs.WholeLaws.{significand, pattern_between, whole-none, whole-shifted, whole-zero}
use Rattle.numeric.proofs.whole.whole_times.Goals as goal
use Rattle.numeric.proofs.whole.whole_times.Lts as lts
use Rattle.numeric.proofs.whole.whole_times.Reads as reads

-- places on the way through the function
abbrev Start : Type 0
Start = lts.Start reads.Pre reads.Post

own-fits : (c : Start) → T (fits binary64 c.args.x)
own-fits c = subst T (sym c.well_formed.1.0.1) tt

pub float_to_bits-b : goal.float_to_bits-b
float_to_bits-b c = lt-number c.args.x (whole (2 ^ 53)) c.requires.2

pub returns-then-e-lt1012 : goal.returns-then-e-lt1012
returns-then-e-lt1012 c = let d = c in whole-none d.args.k d.args.x (own-fits d.before.before) c.if-x.true d.requires.2 d.requires.0 c.if-e-lt1012.true

pub overflow_mul-result : goal.overflow_mul-result
overflow_mul-result c = let d = c in
    let m = significand (to_bits binary64 d.args.x) in
    let h : m < 2 ^ 53 = omega arith in
    let l : d.args.k * m ≤ 2 ^ 11 * m = mul-le-mul_right m d.requires.0 in
    record { fits = omega arith }

pub overflow_sub-result : goal.overflow_sub-result
overflow_sub-result c = let d = c in omega (arith, pattern_between d.args.x (own-fits d.before.before) c.if-x.true d.requires.2)

pub returns-then-x : goal.returns-then-x
returns-then-x c = let d = c in whole-shifted d.args.k d.args.x (own-fits d.before.before) c.if-x.true d.requires.2 c.if-e-lt1012.false

pub returns : goal.returns
returns c = whole-zero c.args.k c.args.x c.requires.1 c.if-x.false
