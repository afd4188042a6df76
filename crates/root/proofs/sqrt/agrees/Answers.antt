-- `root::sqrt::agrees` meets its contract, by the square of the digits in parts. Assumes nothing.
use Rattle.std.proofs.Common.{◌+◌, ◌*◌, ◌/◌, ◌%◌, ◌^◌, refl, arith, ltb-true}
use Rattle.root.proofs.Squares.{cut, agreed}
use Rattle.root.proofs.sqrt.agrees.Goals as goal

pub overflow_mul-part-2 : goal.overflow_mul-part-2
overflow_mul-part-2 c = omega (arith, cut c.args.n)

pub overflow_mul-a : goal.overflow_mul-a
overflow_mul-a c = omega (arith, cut c.args.n)

pub returns : goal.returns
returns c = let n = c.args.n in
    let a = n / 2 ^ 21 % 2 ^ 31 + 2 ^ 31 in
    let b = n % 2 ^ 21 in
    λ e. agreed c.args.w (n % 2 ^ 52 + 2 ^ 52) a b (a * (b * 2 + 1) / 2 ^ 21) c.wrapping_sub_u64-over.result c.wrapping_add_u64-x.result (cut n)
    (omega arith) c.requires.0 c.requires.1 refl (omega arith) c.wrapping_sub_u64-over.ensures.value c.wrapping_add_u64-x.ensures.value (ltb-true _ _ e)
